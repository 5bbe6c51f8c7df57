use Rattle.std.proofs.Common.{◌≡◌, slice_get, Some, true≢false, refl, sym, ◌∙◌}
use Rattle.leg_route_grid.proofs.OtherTracks.{layer_read, runs_not, serves, none_more, serves_none}
use Rattle.leg_route_grid.proofs.lines.serve.Goals.{else-runs-via-then-runs+else-are_for, else-runs-via-else-runs}
use Rattle.leg_route_grid.proofs.lines.serve.Goals as goal

pub returns-then-are_for : goal.returns-then-are_for
returns-then-are_for g c =
    let there : slice_get c.args.library.now.layers c.loop-number.number ≡ Some c.layer-item.result =
    rw (← c.layers-layer-items.ensures.is) (layer_read _ _ _ c.loop-number-test.true c.layer-item.is) in (
      λ is. serves c.args.library.now c.args.direction c.args.track.now _ _ there (c.runs.ensures.0 c.if-runs.true) (c.are_for.ensures.0 c.if-are_for.true),
      λ serve. refl,
    )

pub loop-number-preserved : goal.loop-number-preserved
loop-number-preserved g c =
    let there : slice_get c.args.library.now.layers c.loop-number.number ≡ Some c.layer-item.result =
    rw (← c.layers-layer-items.ensures.is) (layer_read _ _ _ c.loop-number-test.true c.layer-item.is) in
    none_more c.args.library.now c.args.direction c.args.track.now _ c.loop-number.invariant (elim c.else-runs.branch [
      | else-runs-via-then-runs+else-are_for w ↦ λ width runs are_for. true≢false (sym (w.are_for.ensures.1 are_for) ∙ w.if-are_for.false)
      | else-runs-via-else-runs w ↦
          λ width runs are_for. runs_not c.args.library.now c.args.direction _ _ there
          (λ kind. true≢false (sym (c.runs.ensures.1 kind) ∙ w.if-runs.false)) width runs
    ])

pub returns : goal.returns
returns g c = (
  λ is. absurd (true≢false (sym is)),
  λ serve. absurd
      (serves_none c.args.library.now c.args.direction c.args.track.now _
      (rw c.layers-layer-items.ensures.is at c.loop-number-test.false) c.loop-number.invariant serve),
)
