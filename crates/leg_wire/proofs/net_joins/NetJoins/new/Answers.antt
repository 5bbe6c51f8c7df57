-- The sets are those of the net's metal, and nothing is in the index.
use Rattle.std.proofs.Common.{◌≡◌, length, [], refl, ap, ◌∙◌, sym, arith}
use Rattle.std.proofs.lemmas.Bool.Decides.{nat_tests}
use Rattle.std.proofs.lemmas.List.Sorted.{length_permutation}
use Rattle.leg_rules.specs.Joins.Touch.{piece_count}
use Rattle.leg_wire.specs.Joins.{ArePieceShapes}
use Rattle.leg_wire.specs.Steps.JoinSteps.{AreJoinedSets}
use Rattle.leg_wire.proofs.Touches.{piece_count-is, sets_of_metal, places_below}
use Rattle.leg_wire.proofs.PieceOrder.{pieces_in_order}
use Rattle.leg_wire.proofs.net_joins.NetJoins.new.Goals as goal

pub joined_sets-requires-clause-metal : goal.joined_sets-requires-clause-metal
joined_sets-requires-clause-metal g c =
    rw c.deref.ensures.value
    (pieces_in_order c.args.flat.now c.args.net c.in_ok-metal.metal.items c.sort_by_piece.new.metal.items c.sort_by_piece.ensures.same
    c.in_ok-metal.ensures.shapes)

pub joined_sets-requires-clause-few : goal.joined_sets-requires-clause-few
joined_sets-requires-clause-few g c =
    let size = length_permutation c.in_ok-metal.metal.items c.sort_by_piece.new.metal.items c.sort_by_piece.ensures.same in
    let few = c.in_ok-metal.ensures.few in
    rw c.deref.ensures.value (omega (arith, size, few))

pub new-requires : goal.new-requires
new-requires g c =
    let joined : AreJoinedSets c.args.flat.now c.args.net c.in_ok-sets.sets = c.in_ok-sets.ensures in
    sym (joined.count ∙ piece_count-is c.args.flat.now c.args.net c.pieces_of_net.result c.pieces_of_net.ensures.is)

pub invariant_of-result : goal.invariant_of-result
invariant_of-result g c =
    let flat = c.args.flat.now in
    let net = c.args.net in
    let metal = c.sort_by_piece.new.metal.items in
    let sets = c.in_ok-sets.sets in
    let are : ArePieceShapes flat net metal =
    pieces_in_order flat net c.in_ok-metal.metal.items metal c.sort_by_piece.ensures.same c.in_ok-metal.ensures.shapes in
    let joined : AreJoinedSets flat net sets = c.in_ok-sets.ensures in
    let empty : c.in_ok-build.field-0 ≡ [] = c.in_ok-build.ensures in
    record {
      sets_are = rw c.in_ok-new.ensures.same (sets_of_metal flat net metal are sets joined);
      places = rw (c.in_ok-new.ensures.same, joined.count) (places_below flat net metal are (piece_count flat net) refl);
      within = rw empty (omega arith);
      first = rw empty refl;
      in_order = c.sort_by_piece.ensures.in_order;
      listed = c.in_ok-new.ensures.listed;
      few = omega arith;
    }

pub returns-clause-of : goal.returns-clause-of
returns-clause-of g c =
    let flat = c.args.flat.now in
    let net = c.args.net in
    let metal = c.sort_by_piece.new.metal.items in
    let joined : AreJoinedSets flat net c.in_ok-sets.sets = c.in_ok-sets.ensures in
    let is = c.len.ensures in
    let many : c.len.result ≡ length c.in_ok-metal.metal.items = omega (arith, is) in
    record {
      count = ap length c.in_ok-new.ensures.same ∙ joined.count;
      metal = pieces_in_order flat net c.in_ok-metal.metal.items metal c.sort_by_piece.ensures.same c.in_ok-metal.ensures.shapes;
      whole = λ told.
          let same : c.len.result ≡ length c.args.numbers.now = grind (arith, nat_tests, told) in
          c.in_ok-metal.ensures.whole (omega (arith, many, same));
    }
