-- A pair of the kind is told, and another one isn't.
use Rattle.std.proofs.Common.{◌≡◌, refl, sym, ◌∙◌, Some, slice_get, get_or}
use Rattle.std.proofs.lemmas.Bool.{false≢true}
use Rattle.std.proofs.lemmas.Option.{slice_get_read}
use Rattle.leg_wire.proofs.PairLists.{told_more, told_skip}
use Rattle.leg_wire.proofs.spacing.push_pairs.Goals as goal
use Rattle.leg_wire.proofs.spacing.push_pairs.Goals.{then-holds+in_ok-push, else-holds}

pub loop-i-preserved : goal.loop-i-preserved
loop-i-preserved g c =
    let kind = c.args.kind in
    let shapes = c.args.shapes.now in
    let close = c.args.close.now in
    let k = c.loop-i.i-index in
    let a = c.index-shapes-i.result in
    let b = c.index-shapes-j.result in
    let p = get_or close k (0, 0) in
    let a_at : slice_get shapes p.0 ≡ Some a = slice_get_read shapes _ p.0 a refl (c.requires.first k (0, 0) c.loop-i-test.true) c.index-shapes-i.is in
    let b_at : slice_get shapes p.1 ≡ Some b = slice_get_read shapes _ p.1 b refl (c.requires.second k (0, 0) c.loop-i-test.true) c.index-shapes-j.is in
    elim c.if-holds.branch [
      | then-holds+in_ok-push w ↦
          rw (w.found-is, w.in_ok-push.ensures.items, w.fault.ensures)
          (told_more kind shapes close c.requires.increasing k c.loop-i-test.true a b a_at b_at c.args.found.now.items c.loop-i.found.items
          (c.holds.ensures.0 w.if-holds.true) c.loop-i.invariant)
      | else-holds w ↦
          rw w.found-is
          (told_skip kind shapes close c.requires.increasing k c.loop-i-test.true a b a_at b_at c.args.found.now.items c.loop-i.found.items
          (λ of. false≢true (sym w.if-holds.false ∙ c.holds.ensures.1 of)) c.loop-i.invariant)
    ]
