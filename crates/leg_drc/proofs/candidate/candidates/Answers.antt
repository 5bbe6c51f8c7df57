-- One more shape is a candidate, or isn't.
use Rattle.std.proofs.Common.{◌≡◌, Some, slice_get, refl, sym, ◌∙◌}
use Rattle.std.proofs.lemmas.Bool.{false≢true}
use Rattle.std.proofs.lemmas.Option.{slice_get_read}
use Rattle.leg_drc.proofs.CandidateList.{candidate_more, candidate_skip}
use Rattle.leg_drc.proofs.candidate.candidates.Goals as goal
use Rattle.leg_drc.proofs.candidate.candidates.Goals.{then-is_candidate+in_ok-push, else-is_candidate}

pub loop-k-preserved : goal.loop-k-preserved
loop-k-preserved g c =
    let shapes = c.args.shapes.now in
    let k = c.loop-k.k in
    let shape = c.index-shapes-k.result in
    let there : slice_get shapes k ≡ Some shape = slice_get_read shapes _ k shape refl c.loop-k-test.true c.index-shapes-k.is in
    elim c.if-is_candidate.branch [
      | then-is_candidate+in_ok-push w ↦
          rw (w.found-is, w.in_ok-push.ensures.items)
          (candidate_more c.args.owners c.args.reaches.now shapes k shape c.loop-k.found.items there c.loop-k.invariant)
      | else-is_candidate w ↦
          rw w.found-is
          (candidate_skip c.args.owners c.args.reaches.now shapes k shape c.loop-k.found.items there c.loop-k.invariant
          (λ is. false≢true (sym w.if-is_candidate.false ∙ c.is_candidate.ensures.1 is)))
    ]
