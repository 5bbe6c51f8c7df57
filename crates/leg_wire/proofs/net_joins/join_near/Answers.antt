-- One near rectangle more is met, or it isn't.
use Rattle.std.proofs.Common.{◌≡◌, ◌<◌, ◌++◌, ◌∷◌, [], ◌∙◌, length, get_or, sym, ap, refl, append_assoc, arith}
use Rattle.std.proofs.lemmas.Bool.{false≢true}
use Rattle.std.proofs.lemmas.List.{append-nil}
use Rattle.leg_sweep.specs.Near.{AreNear}
use Rattle.leg_wire.specs.Steps.Joins.{first_rects}
use Rattle.leg_wire.proofs.MergedLists.{HasGrown-same, HasGrown-onward}
use Rattle.leg_wire.proofs.NewPairs.{near_low, among_none, among_met, among_apart, near_taken}
use Rattle.leg_wire.proofs.net_joins.join_near.Goals as goal

pub loop-near-init : goal.loop-near-init
loop-near-init g c = record {
  can = tt;
  ends = tt;
  so_far = refl;
  taken = among_none c.args.metal.now c.args.number c.args.groups.now.sets c.args.corners.now;
  listed = c.requires.listed;
  grown = HasGrown-same (get_or c.args.groups.now.members.items 0 []);
}

pub bounds-metal-near : goal.bounds-metal-near
bounds-metal-near g c =
    let new = c.requires.new in
    let within = c.requires.within in
    let low : c.in-Some.near < length c.args.index.now =
    near_low c.args.metal.now c.args.index.now c.index-metal-number.result.rect c.near-near-items.result c.loop-near.yielded c.loop-near.near-iterator
    c.next.new.self c.in-Some.near
    (omega (arith, new, within)) c.requires.first c.near-near-items.ensures
    (sym c.into_iter-near-iterator.ensures.into_iter_gives ∙ c.loop-near.invariant.so_far) c.in-Some.ensures.steps in
    omega (arith, low, new, within)

pub join-requires-clause-a : goal.join-requires-clause-a
join-requires-clause-a g c =
    let metal = c.args.metal.now in
    let few = length c.args.index.now in
    let rect = c.index-metal-number.result.rect in
    let new = c.requires.new in
    let within = c.requires.within in
    let low : c.in-Some.near < few =
    near_low metal c.args.index.now rect c.near-near-items.result c.loop-near.yielded c.loop-near.near-iterator c.next.new.self c.in-Some.near
    (omega (arith, new, within)) c.requires.first
    c.near-near-items.ensures (sym c.into_iter-near-iterator.ensures.into_iter_gives ∙ c.loop-near.invariant.so_far) c.in-Some.ensures.steps in
    let place : c.index-metal-near.result.piece < length c.args.groups.now.sets =
    rw c.index-metal-near.is (c.requires.places c.in-Some.near c.index-metal-near.result (omega (arith, low, new, within))) in
    rw c.loop-near.invariant.taken.count place

pub join-requires-clause-b : goal.join-requires-clause-b
join-requires-clause-b g c =
    let place : c.index-metal-number.result.piece < length c.args.groups.now.sets =
    rw c.index-metal-number.is (c.requires.places c.args.number c.index-metal-number.result c.requires.within) in
    rw c.loop-near.invariant.taken.count place

pub loop-near-preserved-in-Continue-1 : goal.loop-near-preserved-in-Continue-1
loop-near-preserved-in-Continue-1 g c =
    let new = c.requires.new in
    let within = c.requires.within in
    let low : c.in-Some.near < length c.args.index.now =
    near_low c.args.metal.now c.args.index.now c.index-metal-number.result.rect c.near-near-items.result c.loop-near.yielded c.loop-near.near-iterator
    c.next.new.self c.in-Some.near
    (omega (arith, new, within)) c.requires.first c.near-near-items.ensures
    (sym c.into_iter-near-iterator.ensures.into_iter_gives ∙ c.loop-near.invariant.so_far) c.in-Some.ensures.steps in
    record {
      can = tt;
      ends = tt;
      so_far =
          c.loop-near.invariant.so_far ∙ ap (λ xs. c.loop-near.yielded ++ xs) c.in-Some.ensures.steps
          ∙ sym (append_assoc c.loop-near.yielded (c.in-Some.near ∷ []) c.next.new.self);
      taken =
          among_met c.args.metal.now c.args.number c.loop-near.yielded c.args.groups.now.sets c.loop-near.groups.sets c.args.corners.now c.loop-near.corners
          c.loop-near.invariant.taken
          c.in-Some.near c.index-metal-near.result c.index-metal-number.result c.index-metal-near.is c.index-metal-number.is (omega (arith, low, new)) within
          (c.if-do_meet.ensures.0 refl) c.join.new.self.sets c.join.new.corners c.in_ok-join.ensures.step c.in_ok-join.ensures.count;
      listed = c.in_ok-join.ensures.listed;
      grown =
          HasGrown-onward (get_or c.args.groups.now.members.items 0 []) (get_or c.loop-near.groups.members.items 0 [])
          (get_or c.join.new.self.members.items 0 []) c.loop-near.invariant.grown
          c.in_ok-join.ensures.grown;
    }

pub returns-in_err-join-clause-count : goal.returns-in_err-join-clause-count
returns-in_err-join-clause-count g c = c.in_err-join.ensures.count ∙ c.loop-near.invariant.taken.count

pub loop-near-preserved : goal.loop-near-preserved
loop-near-preserved g c =
    let new = c.requires.new in
    let within = c.requires.within in
    let low : c.in-Some.near < length c.args.index.now =
    near_low c.args.metal.now c.args.index.now c.index-metal-number.result.rect c.near-near-items.result c.loop-near.yielded c.loop-near.near-iterator
    c.next.new.self c.in-Some.near
    (omega (arith, new, within)) c.requires.first c.near-near-items.ensures
    (sym c.into_iter-near-iterator.ensures.into_iter_gives ∙ c.loop-near.invariant.so_far) c.in-Some.ensures.steps in
    record {
      can = tt;
      ends = tt;
      so_far =
          c.loop-near.invariant.so_far ∙ ap (λ xs. c.loop-near.yielded ++ xs) c.in-Some.ensures.steps
          ∙ sym (append_assoc c.loop-near.yielded (c.in-Some.near ∷ []) c.next.new.self);
      taken =
          among_apart c.args.metal.now c.args.number c.loop-near.yielded c.args.groups.now.sets c.loop-near.groups.sets c.args.corners.now c.loop-near.corners
          c.loop-near.invariant.taken
          c.in-Some.near c.index-metal-near.result c.index-metal-number.result c.index-metal-near.is c.index-metal-number.is (omega (arith, low, new)) within
          (λ meet. false≢true (c.if-do_meet.ensures.1 meet));
      listed = c.loop-near.invariant.listed;
      grown = c.loop-near.invariant.grown;
    }

pub returns-clause-takes : goal.returns-clause-takes
returns-clause-takes g c =
    let metal = c.args.metal.now in
    let few = length c.args.index.now in
    let new = c.requires.new in
    let within = c.requires.within in
    let all = c.near-near-items.result in
    let done : all ≡ c.loop-near.yielded =
    sym c.into_iter-near-iterator.ensures.into_iter_gives ∙ c.loop-near.invariant.so_far ∙ ap (λ xs. c.loop-near.yielded ++ xs) c.in-None.ensures.steps.0
    ∙ append-nil c.loop-near.yielded in
    let near : AreNear (first_rects few metal) c.index-metal-number.result.rect 0 c.loop-near.yielded =
    rw (← done) (rw (← c.requires.first) c.near-near-items.ensures) in
    near_taken metal few c.args.number c.loop-near.yielded c.args.groups.now.sets c.loop-near.groups.sets c.args.corners.now c.loop-near.corners
    c.index-metal-number.result (omega (arith, new, within)) within c.index-metal-number.is near c.loop-near.invariant.taken

pub returns-clause-count : goal.returns-clause-count
returns-clause-count g c = c.loop-near.invariant.taken.count

pub join-requires-clause-listed : goal.join-requires-clause-listed
join-requires-clause-listed g c = c.loop-near.invariant.listed

pub returns-clause-listed : goal.returns-clause-listed
returns-clause-listed g c = c.loop-near.invariant.listed

pub returns-clause-grown : goal.returns-clause-grown
returns-clause-grown g c = c.loop-near.invariant.grown
