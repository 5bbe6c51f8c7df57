-- Each has one part, and both parts are the same.
use Rattle.std.proofs.Common.{◌≡◌, length, sym, ◌∙◌, rules}
use Rattle.leg_legal_sites.proofs.RowPlaces.{same_parts}
use Rattle.leg_legal_sites.proofs.row_parts.RowParts.is_same.Goals as goal

pub returns : goal.returns
returns g c test =
    let a = c.self.inside.parts.items in
    let b = c.other.inside.parts.items in
    let one_a : length a ≡ 1 = search rules in
    let one_b : length b ≡ 1 = search rules in
    sym c.self.view_is ∙ same_parts a b c.index.result.now c.index-2.result.now c.eq.result one_a one_b c.index.ensures c.index-2.ensures
    (rw (c.stretches.ensures.is, c.stretches-2.ensures.is) at c.eq.ensures) test ∙ c.other.view_is
