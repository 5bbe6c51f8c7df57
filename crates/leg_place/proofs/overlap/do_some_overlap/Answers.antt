-- No pair at all is no overlap, and a pair is one.
use Rattle.std.proofs.Common.{length, true, replicate, refl}
use Rattle.std.proofs.lemmas.Bool.{false≢true}
use Rattle.leg_place.specs.Steps.ListPrefix.{AreBoxesBelow, HasPair}
use Rattle.leg_place.proofs.Overlaps.{overlap_from_took, overlap_of_pair}
use Rattle.leg_place.proofs.overlap.do_some_overlap.Goals as goal

pub returns-in-Ok : goal.returns-in-Ok
returns-in-Ok g c =
    let design = c.args.design.now in
    let boxes = c.in_ok-boxes.boxes.items in
    let are : AreBoxesBelow design (replicate (length design.components) true) (length design.components) boxes =
    rw (c.deref.ensures.value, c.in_ok-marks.ensures) at c.in_ok-boxes.ensures.boxes in
    (λ t. absurd (false≢true t), λ overlap. absurd (overlap_from_took design boxes are _ _ (rw c.deref-2.ensures.value at c.in-Ok.ensures.pairs) overlap))

pub returns-then-has_pair : goal.returns-then-has_pair
returns-then-has_pair g c =
    let design = c.args.design.now in
    let boxes = c.in_ok-boxes.boxes.items in
    let are : AreBoxesBelow design (replicate (length design.components) true) (length design.components) boxes =
    rw (c.deref.ensures.value, c.in_ok-marks.ensures) at c.in_ok-boxes.ensures.boxes in
    let pair : HasPair boxes = rw c.deref-in-Err.ensures.value at (c.if-has_pair.ensures refl) in
    (λ t. overlap_of_pair design boxes are pair, λ overlap. refl)
