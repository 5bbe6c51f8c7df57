-- Shapes that are narrower than the least width of their layer.
use Rattle.std.proofs.Common.{◌≡◌, ◌↔◌, ℤ, ◌<ℤ◌, false, IsTrue, None, Some, slice_get, sym, ◌∙◌, arith}
use Rattle.std.specs.Prelude.{int_lt}
use Rattle.std.proofs.lemmas.Bool.{false≢true}
use Rattle.std.proofs.lemmas.Int.{ints}
use Rattle.std.proofs.lemmas.Option.{none-some, same_Some}
use Rattle.leg_rules.specs.declared.shape.Shape.{Shape}
use Rattle.leg_drc_rules.specs.Records.{LayerRulesModel, DeckModel}
use Rattle.leg_drc.specs.Sides.{lesser_side}
use Rattle.leg_drc.specs.Steps.ShapeParts.{IsNarrow}

int_lt-told : (a b : ℤ) → IsTrue (int_lt a b) ↔ (a <ℤ b)
int_lt-told a b = (λ test. grind (arith, ints), λ less. grind (arith, ints))

module _ (deck : DeckModel) (shape : Shape) where
  -- the layer has these rules
  pub narrow_told : (rules : LayerRulesModel) → slice_get deck.layers shape.layer ≡ Some rules → (side width : ℤ) → side ≡ lesser_side shape.rect
      → width ≡ rules.width → IsTrue (int_lt side width) ↔ IsNarrow deck shape
  narrow_told rules there side width side_is width_is = (
    λ test.
        let less : side <ℤ width = (int_lt-told side width).0 test in
        record { rules = rules; has_rules = there; narrow = rw (side_is, width_is) at less },
    λ narrow.
        let same : narrow.rules ≡ rules = same_Some narrow.rules rules (sym narrow.has_rules ∙ there) in
        (int_lt-told side width).1 (rw (side_is, width_is) (rw same at narrow.narrow)),
  )

  -- or none
  pub no_rules_told : slice_get deck.layers shape.layer ≡ None → IsTrue false ↔ IsNarrow deck shape
  no_rules_told none = (λ test. absurd (false≢true test), λ narrow. absurd (none-some narrow.rules (sym none ∙ narrow.has_rules)))
