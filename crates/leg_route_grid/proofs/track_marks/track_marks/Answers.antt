use Rattle.std.proofs.Common.{◌≡◌, ◌++◌, List, Bool, length, take, drop, sym, ap, subst, ◌∙◌, arith}
use Rattle.std.proofs.lemmas.List.{take_all, take-append-le}
use Rattle.leg_design_records.specs.Records.{TrackModel}
use Rattle.leg_route_grid.specs.Steps.Lines.{IsTrackAt, HaveMarked}
use Rattle.leg_route_grid.proofs.ValueMarks.{IsTrackAmong, unset, one_track_marked, marks_are}
use Rattle.leg_route_grid.proofs.track_marks.track_marks.Goals as goal

pub loop-track-preserved : goal.loop-track-preserved
loop-track-preserved g c =
    let values = c.args.values.now in
    let number = c.args.number in
    let axis = c.args.axis in
    let new = c.mark_lines_for.new.marks in
    let items = c.loop-track.marks.items in
    let len : length new ≡ length items = c.mark_lines_for.ensures.count ∙ ap length c.deref_mut.ensures.value in
    let whole : c.loop-track.marks.len ≡ length items = c.loop-track.marks.ok.0 in
    let same : take c.loop-track.marks.len (new ++ drop (length new) items) ≡ new =
    take-append-le c.loop-track.marks.len new (drop (length new) items) (omega (arith, len, whole))
    ∙ take_all c.loop-track.marks.len new (omega (arith, len, whole)) in
    let P : List Bool → Type 0 = λ marks. HaveMarked values (λ z. IsTrackAt number axis z c.track-item.result) marks new in
    let more : HaveMarked values (λ z. IsTrackAt number axis z c.track-item.result) items new = subst P c.deref_mut.ensures.value c.mark_lines_for.ensures in
    rw same (one_track_marked values number axis c.tracks-track-items.result.now c.loop-track.track-index c.track-item.result items new c.loop-track-test.true
    (sym c.track-item.is) c.loop-track.invariant more)

pub returns : goal.returns
returns g c =
    let values = c.args.values.now in
    let number = c.args.number in
    let axis = c.args.axis in
    let P : List TrackModel → Type 0 =
    λ tracks. HaveMarked values (IsTrackAmong values number axis tracks) (unset values number axis) c.loop-track.marks.items in
    marks_are values number axis c.args.design.now c.loop-track.marks.items
    (subst P (take_all c.loop-track.track-index c.tracks-track-items.result.now c.loop-track-test.false ∙ c.tracks-track-items.ensures.is)
    c.loop-track.invariant)
