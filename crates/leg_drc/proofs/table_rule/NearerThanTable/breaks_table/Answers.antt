-- Closer than the table asks for, and not than the spacing.
use Rattle.std.proofs.Common.{◌≡◌, Bool, true, false, not, Some, refl, sym}
use Rattle.leg_rules.specs.Spacing.Closer.{AreCloserThan}
use Rattle.leg_rules.specs.Spacing.RequiredSpacing.{required_spacing}
use Rattle.leg_drc.specs.Table.{table_spacing, layer_table}
use Rattle.leg_drc.proofs.TableShapes.{nearer_from_closer, far_from_nearer}
use Rattle.leg_drc.proofs.table_rule.NearerThanTable.breaks_table.Goals as goal

not_from : (answer : Bool) → ¬ (answer ≡ true) → not answer ≡ true
not_from true other = absurd (other refl)
not_from false other = refl

not_to : (answer : Bool) → not answer ≡ true → ¬ (answer ≡ true)
not_to true other is = absurd (cc)
not_to false other is = absurd (cc)

pub returns-then-are_closer_than : goal.returns-then-are_closer_than
returns-then-are_closer_than g c =
    let library = c.args.self.now.library.now in
    let deck = c.args.self.now.deck.now in
    let a = c.args.a.now in
    let b = c.args.b.now in
    let table = c.in-Some.table.now in
    let answer = c.are_closer_than-then-are_closer_than.result in
    let has : layer_table deck a.layer ≡ Some table = sym c.in-Some.ensures.is in
    let closer : AreCloserThan (table_spacing table a.rect b.rect) a b = rw c.table_spacing.ensures.is at (c.are_closer_than.ensures.0
    c.if-are_closer_than.true) in
    let into : answer ≡ true → AreCloserThan (required_spacing library a b) a b =
    rw c.required_spacing.ensures.is at c.are_closer_than-then-are_closer_than.ensures.0 in
    let back : AreCloserThan (required_spacing library a b) a b → answer ≡ true =
    rw c.required_spacing.ensures.is at c.are_closer_than-then-are_closer_than.ensures.1 in (
      λ other. nearer_from_closer library deck a b table has closer (λ near. not_to answer other (back near)),
      λ h. not_from answer (λ is. far_from_nearer library deck a b table has h (into is)),
    )
