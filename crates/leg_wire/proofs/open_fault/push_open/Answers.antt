-- A piece without a mark is one more violation, and one with a mark none.
use Rattle.std.proofs.Common.{◌≡◌, ◌+◌, ◌++◌, ◌∷◌, [], true, false, length, take, get_or, arith, rules}
use Rattle.std.proofs.lemmas.List.{take_more, take_all, length-take-le}
use Rattle.leg_wire.proofs.OpenPieces.{added_none, added_skip, added_more}
use Rattle.leg_wire.proofs.open_fault.push_open.Goals as goal
use Rattle.leg_wire.proofs.open_fault.push_open.Goals.{then-not-joined+in_ok-push, else-not-joined}

pub loop-piece-init : goal.loop-piece-init
loop-piece-init g c = added_none c.args.net c.args.found.now.items

pub loop-piece-preserved : goal.loop-piece-preserved
loop-piece-preserved g c =
    let net = c.args.net in
    let marks = c.args.marks.now in
    let i = c.loop-piece.piece in
    let before = c.args.found.now.items in
    let after = c.loop-piece.found.items in
    let grown : take (i + 1) marks ≡ take i marks ++ get_or marks i false ∷ [] = take_more marks i false (omega arith) in
    let many : length (take i marks) ≡ i = length-take-le i marks (omega arith) in
    elim c.if-not-joined.branch [
      | then-not-joined+in_ok-push w ↦
          let unmarked : get_or marks i false ≡ false = search rules in
          rw (w.found-is, w.in_ok-push.ensures.items, grown, unmarked) (rw many at (added_more net (take i marks) before after c.loop-piece.invariant))
      | else-not-joined w ↦
          let marked : get_or marks i false ≡ true = search rules in
          rw (w.found-is, grown, marked) (added_skip net (take i marks) before after c.loop-piece.invariant)
    ]

pub returns : goal.returns
returns g c =
    let all = take_all c.loop-piece.piece c.args.marks.now (omega arith) in
    rw all at c.loop-piece.invariant
