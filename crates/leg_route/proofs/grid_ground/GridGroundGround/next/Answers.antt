use Rattle.std.proofs.Common.{◌≡◌, ◌<◌, [], length, get_or, refl, ◌∙◌, arith}
use Rattle.std.proofs.lemmas.List.{get_or_read}
use Rattle.leg_wire.specs.NetShapes.{AreNumbersOf}
use Rattle.leg_wire.specs.PieceMarks.{AreMarks}
use Rattle.leg_rules.specs.Joins.Touch.{piece_count, AreJoined}
use Rattle.leg_rules.specs.Joins.Violations.{IsOpenNet}
use Rattle.leg_route.specs.Steps.NetSlots.{IsPartOf}
use Rattle.leg_route.specs.Steps.JoinedPart.{part_in, AreGivenTo}
use Rattle.leg_route.specs.Steps.NetEnds.{ends_in}
use Rattle.leg_route.proofs.JoinedParts.{part_of}
use Rattle.leg_route.proofs.KeptJoins.{given_kept}
use Rattle.leg_route.proofs.PartMarks.{have_come, given_then, joins_given}
use Rattle.leg_route.proofs.grid_ground.GridGroundGround.next.Goals as goal

pub joins_of-requires-clause-numbers : goal.joins_of-requires-clause-numbers
joins_of-requires-clause-numbers g c =
    let numbers = c.requires.ready.numbers in
    let lists = c.args.self.now.numbers.items in
    let net = c.args.net in
    let list : c.as_slice-own.result.now ≡ get_or lists net [] =
    c.as_slice-own.ensures ∙ get_or_read lists net c.index.result.now (omega (arith, c.requires.in_range, numbers.one_each)) c.index.ensures [] in
    rw list (numbers.each net c.requires.in_range)

pub part_now-requires-clause-numbers : goal.part_now-requires-clause-numbers
part_now-requires-clause-numbers g c =
    let numbers = c.requires.ready.numbers in
    let lists = c.args.self.now.numbers.items in
    let net = c.args.net in
    let list : c.as_slice-own.result.now ≡ get_or lists net [] =
    c.as_slice-own.ensures ∙ get_or_read lists net c.index.result.now (omega (arith, c.requires.in_range, numbers.one_each)) c.index.ensures [] in
    rw list (numbers.each net c.requires.in_range)

pub part_now-requires-clause-told : goal.part_now-requires-clause-told
part_now-requires-clause-told g c = rw c.deref.ensures.value (c.requires.ready.told c.args.self.now.flat refl)

pub part_now-requires-clause-joins : goal.part_now-requires-clause-joins
part_now-requires-clause-joins g c =
    joins_given c.args.self.now.flat c.in_ok-joins.joins c.take_joined.new.self c.in_ok-come.come.items c.in_ok-joins.ensures.of
    c.in_ok-come.ensures.given

pub part_now-requires-clause-part : goal.part_now-requires-clause-part
part_now-requires-clause-part g c =
    c.of_net-part.ensures.is c.args.self.now.grid c.args.self.now.flat (rw c.replace-part.ensures.value c.requires.ready.part_is)

pub part_now-requires-clause-come : goal.part_now-requires-clause-come
part_now-requires-clause-come g c =
    let ground = c.args.self.now in
    let flat = ground.flat in
    let net = c.args.net in
    let joins = c.in_ok-joins.joins in
    let come = c.in_ok-come.come.items in
    let part = part_in ground.part in
    let given : AreGivenTo part joins =
    given_kept part ground.joins joins c.requires.ready.given_are (rw c.take-kept.ensures.value at c.in_ok-joins.ensures.given) in
    rw c.deref-2.ensures.value
    (have_come ground.grid flat net part joins come c.requires.ready.part_is c.in_ok-joins.ensures.net given
    (c.in_ok-come.ensures.joined flat c.in_ok-joins.ensures.of) c.of_net-part.result.joined.items
    (λ same. rw (c.of_net-part.ensures.same (rw c.replace-part.ensures.value same), c.replace-part.ensures.value) refl))

pub next_wires-requires-clause-numbers : goal.next_wires-requires-clause-numbers
next_wires-requires-clause-numbers g c =
    let numbers = c.requires.ready.numbers in
    let lists = c.args.self.now.numbers.items in
    let net = c.args.net in
    let list : c.as_slice-own.result.now ≡ get_or lists net [] =
    c.as_slice-own.ensures ∙ get_or_read lists net c.index.result.now (omega (arith, c.requires.in_range, numbers.one_each)) c.index.ensures [] in
    rw list (numbers.each net c.requires.in_range)

pub next_wires-requires-clause-told : goal.next_wires-requires-clause-told
next_wires-requires-clause-told g c = rw c.deref-3.ensures.value (c.requires.ready.told c.args.self.now.flat refl)

pub returns-then-not-is_one_apart-clause-ready : goal.returns-then-not-is_one_apart-clause-ready
returns-then-not-is_one_apart-clause-ready g c =
    let ground = c.args.self.now in
    let ready = c.requires.ready in
    let given = rw c.take-kept.ensures.value at c.in_ok-joins.ensures.given in
    record {
      of_design = ready.of_design;
      told = ready.told;
      within = ready.within;
      numbers = ready.numbers;
      count = ready.count;
      part_is = ready.part_is;
      joins_are = c.in_ok-joins.ensures.of;
      given_are = given_kept (part_in ground.part) ground.joins c.in_ok-joins.joins ready.given_are given;
    }

pub returns-clause-ready : goal.returns-clause-ready
returns-clause-ready g c =
    let ground = c.args.self.now in
    let ready = c.requires.ready in
    let flat = ground.flat in
    let net = c.args.net in
    let lists = ground.numbers.items in
    let part = c.next_wires.new.part in
    let joined = part.joined.items in
    let boxes = part.slots.boxes.items in
    let slots = part.slots.slots.items in
    let hulls = part.hulls.items in
    let ends = ends_in part.ends in
    let list : c.as_slice-own.result.now ≡ get_or lists net [] =
    c.as_slice-own.ensures ∙ get_or_read lists net c.index.result.now (omega (arith, c.requires.in_range, ready.numbers.one_each)) c.index.ensures [] in
    let numbers : AreNumbersOf flat.shapes net (get_or lists net []) = ready.numbers.each net c.requires.in_range in
    let of_net : part.net ≡ net = c.next_wires.ensures.same_net ∙ c.in_ok-part.ensures.net in
    let marks : AreMarks (AreJoined flat net 0) (piece_count flat net) joined = rw c.next_wires.ensures.same_joined c.in_ok-part.ensures.joined in
    let count = marks.count in
    let had : IsPartOf ground.grid flat net joined (get_or lists net []) boxes slots hulls ends = rw list at c.in_ok-wires.ensures.part in
    let joins = c.in_ok-joins.joins in
    let come = c.in_ok-come.come.items in
    let before = part_in ground.part in
    let given : AreGivenTo before joins =
    given_kept before ground.joins joins ready.given_are (rw c.take-kept.ensures.value at c.in_ok-joins.ensures.given) in
    record {
      of_design = ready.of_design;
      told = ready.told;
      within = ready.within;
      numbers = ready.numbers;
      count = c.next_wires.ensures.count ∙ ready.count;
      part_is = rw of_net (part_of flat net (get_or lists net []) numbers joined (omega (arith, count)) ground.grid boxes slots hulls ends marks had);
      joins_are = joins_given flat joins c.take_joined.new.self come c.in_ok-joins.ensures.of c.in_ok-come.ensures.given;
      given_are = given_then ground.grid flat net before joins come ready.part_is c.in_ok-joins.ensures.net given
          (c.in_ok-come.ensures.joined flat c.in_ok-joins.ensures.of) joined c.take_joined.new.self (part_in part) marks of_net refl
          c.in_ok-come.ensures.given;
    }

pub returns-clause-step : goal.returns-clause-step
returns-clause-step g c =
    let design = c.args.self.now.design.now in
    let flat = c.args.self.now.flat in
    let net = c.args.net in
    let in_range : c.in_ok-joins.joins.net < length design.nets = rw c.in_ok-joins.ensures.net c.requires.in_range in
    let is_open : IsOpenNet design flat net =
    rw c.in_ok-joins.ensures.net at ((c.is_one_apart.ensures design flat in_range c.in_ok-joins.ensures.of).0 c.if-not-is_one_apart.false) in
    c.step_by.ensures design flat net is_open c.in_ok-wires.ensures.answer
