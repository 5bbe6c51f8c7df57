use Rattle.std.proofs.Common.{◌<◌, ◌+◌, length, arith}
use Rattle.std.proofs.lemmas.List.Elements.{All-push, All-weaker}
use Rattle.std.proofs.lemmas.List.Quantifiers.{all_pairs_push}
use Rattle.leg_lemmas.proofs.Places.{all_read}
use Rattle.leg_finish_search.specs.Steps.NetWalks.{IsLaidIn}
use Rattle.leg_finish_search.proofs.negotiation.left_of.Goals as goal
use Rattle.leg_finish_search.proofs.negotiation.left_of.Goals.{then-is_left+in_ok-push, else-is_left}

pub is_left-requires-clause-laid : goal.is_left-requires-clause-laid
is_left-requires-clause-laid g c =
    all_read (IsLaidIn (g.L.Lattice.size_of c.args.board.now.ground.lattice.now)) c.args.laid.now c.loop-place.place c.index-laid-place.result c.requires.laid
    c.loop-place-test.true c.index-laid-place.is

pub loop-place-preserved : goal.loop-place-preserved
loop-place-preserved g c =
    let n = length c.args.board.now.nets.now in
    let left = c.loop-place.left.items in
    let place = c.loop-place.place in
    let it = c.loop-place.invariant in
    elim c.if-is_left.branch [
      | then-is_left+in_ok-push w ↦ rw (w.left-is, w.in_ok-push.ensures.items) (record {
        within = All-push (λ p. p < n) left place it.within (rw c.requires.count at c.loop-place-test.true);
        below = All-push (λ p. p < place + 1) left place (All-weaker (λ p. p < place) (λ p. p < place + 1) (λ p less. omega (arith, less)) left it.below)
            (omega arith);
        increasing = all_pairs_push (λ a b. a < b) left place it.increasing it.below;
      })
      | else-is_left w ↦ rw w.left-is (record {
        within = it.within;
        below = All-weaker (λ p. p < place) (λ p. p < place + 1) (λ p less. omega (arith, less)) left it.below;
        increasing = it.increasing;
      })
    ]
