-- One more part, and all of them.
use Rattle.std.proofs.Common.{◌≡◌, ap, ◌∙◌}
use Rattle.std.proofs.lemmas.List.{take_all}
use Rattle.leg_legal_sites.specs.Steps.Parts.{all_of, AreInRow, AreGroups}
use Rattle.leg_legal_sites.proofs.RowPlaces.{one_more_taken}
use Rattle.leg_legal_sites.proofs.row_parts.RowParts.copied.Goals as goal

pub loop-part-preserved : goal.loop-part-preserved
loop-part-preserved g c =
    c.in_ok-push.ensures.items ∙ one_more_taken c.deref-part-items.result.now c.loop-part.parts.items c.loop-part.part-index c.in_ok-copy.copy
    c.part-item.result c.loop-part-test.true c.loop-part.invariant c.in_ok-copy.ensures c.part-item.is

pub invariant_of-result : goal.invariant_of-result
invariant_of-result g c =
    let items = c.deref-part-items.result.now in
    let all : c.loop-part.parts.items ≡ items = c.loop-part.invariant ∙ take_all c.loop-part.part-index items c.loop-part-test.false in
    let in_row : AreInRow items = rw c.deref-part-items.ensures.value c.self.invariant.in_row in
    let grouped : AreGroups c.loop-part.parts.items c.in_ok-groups.groups.items = rw c.as_slice.ensures.value at c.in_ok-groups.ensures in
    record { in_row = rw all in_row; grouped = grouped }

pub returns : goal.returns
returns g c =
    let items = c.deref-part-items.result.now in
    let all : c.loop-part.parts.items ≡ items = c.loop-part.invariant ∙ take_all c.loop-part.part-index items c.loop-part-test.false in
    ap all_of (all ∙ c.deref-part-items.ensures.value) ∙ c.self.view_is
