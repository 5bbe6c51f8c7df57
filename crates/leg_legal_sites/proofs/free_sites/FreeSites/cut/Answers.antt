-- Both parts are as long as the whole together, and each is measured anew.
use Rattle.std.proofs.Common.{◌≡◌, ◌/◌, ◌*◌, ◌++◌, take, drop}
use Rattle.std.proofs.lemmas.List.{take-append-drop}
use Rattle.leg_legal_sites.specs.Steps.Stretches.{AreFreeStretches}
use Rattle.leg_legal_sites.specs.Steps.Parts.{AreMeasured, AreNoMoreThan}
use Rattle.leg_legal_sites.proofs.Parts.{left_measured, right_measured}
use Rattle.leg_legal_sites.proofs.free_sites.FreeSites.cut.Goals as goal

pub longest_of-self-inside-requires : goal.longest_of-self-inside-requires
longest_of-self-inside-requires g c =
    let items = c.self.inside.stretches.items in
    let at = c.len.result / 4 * 3 in
    let both : take at items ++ drop at items ≡ items = take-append-drop at items in
    let whole : AreMeasured c.self.inside.longest (take at items ++ drop at items) = rw both c.self.invariant in
    let are : AreFreeStretches (take at items) = (left_measured c.self.inside.longest (take at items) (drop at items) whole).are in
    rw (c.as_slice.ensures.value, c.in_ok-stretches.ensures.items) are

pub longest_of-longest-requires : goal.longest_of-longest-requires
longest_of-longest-requires g c =
    let items = c.self.inside.stretches.items in
    let at = c.len.result / 4 * 3 in
    let both : take at items ++ drop at items ≡ items = take-append-drop at items in
    let whole : AreMeasured c.self.inside.longest (take at items ++ drop at items) = rw both c.self.invariant in
    let are : AreFreeStretches (drop at items) = (right_measured c.self.inside.longest (take at items) (drop at items) whole).are in
    rw (c.as_slice-2.ensures.value, c.in_ok-stretches.ensures.tail) are

pub invariant_of-result : goal.invariant_of-result
invariant_of-result g c =
    let items = c.self.inside.stretches.items in
    let at = c.len.result / 4 * 3 in
    let both : take at items ++ drop at items ≡ items = take-append-drop at items in
    let whole : AreMeasured c.self.inside.longest (take at items ++ drop at items) = rw both c.self.invariant in
    let longest : AreNoMoreThan c.longest_of-longest.result (drop at items) =
    rw (c.as_slice-2.ensures.value, c.in_ok-stretches.ensures.tail) at c.longest_of-longest.ensures in
    rw c.in_ok-stretches.ensures.tail (record { are = (right_measured c.self.inside.longest (take at items) (drop at items) whole).are; longest = longest })

pub invariant_of-self-2 : goal.invariant_of-self-2
invariant_of-self-2 g c =
    let items = c.self.inside.stretches.items in
    let at = c.len.result / 4 * 3 in
    let both : take at items ++ drop at items ≡ items = take-append-drop at items in
    let whole : AreMeasured c.self.inside.longest (take at items ++ drop at items) = rw both c.self.invariant in
    let longest : AreNoMoreThan c.longest_of-self-inside.result (take at items) =
    rw (c.as_slice.ensures.value, c.in_ok-stretches.ensures.items) at c.longest_of-self-inside.ensures in
    rw c.in_ok-stretches.ensures.items (record { are = (left_measured c.self.inside.longest (take at items) (drop at items) whole).are; longest = longest })
