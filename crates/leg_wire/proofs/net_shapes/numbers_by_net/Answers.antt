-- One more shape stands in the list of its net, or in none.
use Rattle.std.proofs.Common.{◌≡◌, ◌++◌, ◌∷◌, [], ℕ, Some, slice_get, slice_set, length, get_or, refl, sym, ◌∙◌, arith}
use Rattle.std.proofs.lemmas.Grind.{common_steps}
use Rattle.std.proofs.lemmas.List.{length-set}
use Rattle.std.proofs.lemmas.Option.{slice_get_read, none-some}
use Rattle.leg_wire.proofs.NetNumbers.{below_all, lists_more, lists_skip, lists_written}
use Rattle.leg_wire.proofs.net_shapes.numbers_by_net.Goals as goal
use Rattle.leg_wire.proofs.net_shapes.numbers_by_net.Goals.{in-Some+in_ok-add_number, in_default}

pub add_number-requires : goal.add_number-requires
add_number-requires g c =
    let low = (c.net_below.ensures c.in-Some.net).0 c.in-Some.is in
    rw c.deref_mut.ensures.value (omega (arith, low.1, c.loop-number.invariant.long))

pub loop-number-preserved : goal.loop-number-preserved
loop-number-preserved g c =
    let shapes = c.args.shapes.now in
    let nets = c.args.nets in
    let i : ℕ = c.loop-number.number in
    let lists = c.loop-number.lists.items in
    let long : length lists ≡ nets = c.loop-number.invariant.long in
    let shape = c.index-shapes-number.result in
    let at : slice_get shapes i ≡ Some shape = slice_get_read shapes _ i shape refl (omega arith) c.index-shapes-number.is in
    elim c.match-net_below.branch [
      | in-Some+in_ok-add_number w ↦
          let net = w.in-Some.net in
          let owner = (c.net_below.ensures net).0 w.in-Some.is in
          let longer = get_or lists net [] ++ i ∷ [] in
          let size : c.loop-number.lists.len ≡ length lists = grind (arith, common_steps) in
          let put : w.add_number.new.lists ≡ slice_set lists net longer = rw w.deref_mut.ensures.value at w.in_ok-add_number.ensures in
          let whole = lists_written lists net longer w.add_number.new.lists c.loop-number.lists.len put size in
          rw (w.lists-is, whole) (record {
            long = length-set lists net longer ∙ long;
            each = lists_more shapes i shape at nets lists long c.loop-number.invariant.each net owner.0 owner.1;
          })
      | in_default w ↦
          rw w.lists-is (record {
            long = long;
            each =
                lists_skip shapes i shape at nets lists c.loop-number.invariant.each
                (λ net owner low. none-some net (sym w.in_default.is ∙ (c.net_below.ensures net).1 (owner, low)));
          })
    ]

pub returns-clause-each : goal.returns-clause-each
returns-clause-each g c = λ net low.
    below_all c.args.shapes.now net c.loop-number.number (get_or c.loop-number.lists.items net []) (omega arith) (c.loop-number.invariant.each net low)
