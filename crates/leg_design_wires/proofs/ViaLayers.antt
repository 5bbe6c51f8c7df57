-- The layers of a via.
use Rattle.std.proofs.Common.{◌≡◌, ℕ, ◌+◌, ◌<◌, ◌≤◌, ◌==◌, Bool, true, false, not, ◌&&◌, List, length, get_or, drop, None, Some, refl}
use Rattle.std.specs.List.{list_any}
use Rattle.std.proofs.lemmas.List.{drop_all}
use Rattle.leg_lex.proofs.EachElement.{at_front}
use Rattle.leg_lib_records.specs.declared.records.Shape.{Shape}
use Rattle.leg_lib_records.specs.Records.{LibraryModel, ViaModel}
use Rattle.leg_design_records.specs.Layers.{is_routing}
use Rattle.leg_grammar.specs.Def.NetScope.{NetScopeModel, via_numbered}
use Rattle.leg_grammar.specs.Def.Path.{other_layer, across}

-- The shape lies on another routing layer.
pub other_here : (library : LibraryModel) (layer : ℕ) (shapes : List Shape) (i : ℕ) (shape : Shape) → i < length shapes → shape ≡ get_or shapes i shape
    → is_routing library shape.layer ≡ true → (shape.layer == layer) ≡ false → other_layer library layer (drop i shapes) ≡ Some shape.layer
other_here library layer shapes i shape less is routes apart = rw (at_front shapes i shape less is, routes, apart) refl

-- The shape doesn't.
pub other_later : (library : LibraryModel) (layer : ℕ) (shapes : List Shape) (i : ℕ) (shape : Shape) → i < length shapes → shape ≡ get_or shapes i shape
    → (is_routing library shape.layer && not (shape.layer == layer)) ≡ false
    → other_layer library layer (drop i shapes) ≡ other_layer library layer (drop (i + 1) shapes)
other_later library layer shapes i shape less is other = rw (at_front shapes i shape less is, other) refl

-- No shape is left.
pub other_nowhere : (library : LibraryModel) (layer : ℕ) (shapes : List Shape) (i : ℕ) → length shapes ≤ i → other_layer library layer (drop i shapes) ≡ None
other_nowhere library layer shapes i past = rw (drop_all i shapes past) refl

-- a good via without a shape on the layer
pub across_lacks : (scope : NetScopeModel) (number layer : ℕ) (via : ViaModel) → via_numbered scope number ≡ Some via
    → list_any (λ shape. shape.layer == layer) via.shapes ≡ false → across scope number layer ≡ None
unfolding across
across_lacks scope number layer via is lacks = by via.good refl where
  by : (good : Bool) → via.good ≡ good → across scope number layer ≡ None
  by true good = rw (is, good, lacks) refl
  by false good = rw (is, good) refl

-- a good via with one
pub across_is : (scope : NetScopeModel) (number layer : ℕ) (via : ViaModel) → via_numbered scope number ≡ Some via → via.good ≡ true
    → list_any (λ shape. shape.layer == layer) via.shapes ≡ true → across scope number layer ≡ other_layer scope.library layer via.shapes
unfolding across
across_is scope number layer via is good has = rw (is, good, has) refl
