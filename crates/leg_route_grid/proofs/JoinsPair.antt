-- A good via joins the two routing layers on which it has shapes.
use Rattle.std.proofs.Common.{◌≡◌, ℕ, ◌<◌, ◌⊎◌, ◌↔◌, inl, inr, Bool, true, false, not, ◌&&◌, true≢false, IsTrue, List, [], ◌∷◌, length, get_or, Option, None, Some, slice_get, refl, sym, ap, ◌∙◌, arith}
use Rattle.std.specs.List.{Any}
use Rattle.std.proofs.lemmas.List.{get_or-map, get_or_default, length-map}
use Rattle.leg_lib_records.specs.declared.joins.LayerUse.{LayerUse}
use Rattle.leg_lib_records.specs.declared.joins.LayerUse.TheVariants.{Wires, Cuts, Neither}
use Rattle.leg_lib_records.specs.declared.joins.ViaPart.{ViaPart}
use Rattle.leg_lib_records.specs.declared.records.Shape.{Shape}
use Rattle.leg_lib_records.specs.Joins.{is_routing, is_cut, has_wires, has_cuts, is_use_of, join_layers, is_wiring_word}
use Rattle.leg_lib_records.specs.JoinLaw.{IsUsed, IsPart, Joins}
use Rattle.leg_lib_records.specs.GoodVia.{uses_of, parts_of, holds_origin, is_good_via}
use Rattle.leg_lib_records.specs.References.{IsViaOf}
use Rattle.leg_lib_records.specs.Records.{LibraryModel, ViaModel}
use Rattle.leg_rules.specs.Route.Between.{JoinsLayers}
use Rattle.leg_route_grid.specs.Steps.Joining.{AreRouting}

-- no layer is for wires and for cuts
pub not_both : (layers : List LayerUse) (k : ℕ) → is_routing layers k ≡ true → is_cut layers k ≡ true → ⊥
not_both layers k routes cuts = by (slice_get layers k) routes cuts where
  by : (layer : Option LayerUse) → is_use_of has_wires layer ≡ true → is_use_of has_cuts layer ≡ true → ⊥
  by None routes cuts = true≢false (sym routes)
  by (Some Wires) routes cuts = true≢false (sym cuts)
  by (Some Cuts) routes cuts = true≢false (sym routes)
  by (Some Neither) routes cuts = true≢false (sym routes)

-- shapes as parts of a via
abbrev pub part_of : Shape → ViaPart
part_of shape = record { layer = shape.layer; holds_origin = holds_origin shape.rect }

pub used_by_shapes : (shapes : List Shape) (n : ℕ) → Any (λ shape. shape.layer ≡ n) shapes ↔ IsUsed (parts_of shapes) n
used_by_shapes shapes n = (into, back) where
  into : Any (λ shape. shape.layer ≡ n) shapes → IsUsed (parts_of shapes) n
  into (k, shape, within, is, on) =
      (k, part_of shape, rw (length-map shapes part_of) within, get_or-map part_of shapes k shape (part_of shape) within ∙ ap part_of is, on)

  back : IsUsed (parts_of shapes) n → Any (λ shape. shape.layer ≡ n) shapes
  back (k, part, within, is, on) =
      let within : k < length shapes = rw (length-map shapes part_of) at within in
      let shape : Shape = get_or shapes k (first shapes within) in
      let same : part_of shape ≡ part = sym (get_or-map part_of shapes k (first shapes within) part within) ∙ is in
      (k, shape, within, get_or_default shapes k shape (first shapes within) within, ap (λ (p : ViaPart). p.layer) same ∙ on) where
        first : (shapes : List Shape) → k < length shapes → Shape
        first [] within = absurd (omega (arith, within))
        first (shape ∷ shapes) within = shape

-- a layer of wires that is used is the lower or the higher of the two
outer : (layers : List LayerUse) (parts : List ViaPart) (low cut high n : ℕ) → Joins layers parts low cut high → is_routing layers n ≡ true → IsUsed parts n
    → (n ≡ low) ⊎ (n ≡ high)
outer layers parts low cut high n joins routes (k, part, within, is, on) =
    by on (let p : IsPart low cut high part = rw is at (joins.each k part within) in p) where
      by : part.layer ≡ n → IsPart low cut high part → (n ≡ low) ⊎ (n ≡ high)
      by on (inl at_cut) = absurd (not_both layers n routes (rw (sym on ∙ at_cut) joins.cut_cuts))
      by on (inr (inl at_low, holds)) = inl (sym on ∙ at_low)
      by on (inr (inr at_high, holds)) = inr (sym on ∙ at_high)

-- the parts of a good via join three layers
abbrev pub Law : Type 0
Law = (layers : List LayerUse) (parts : List ViaPart)
    → IsTrue (join_layers layers parts) ↔ ((low : ℕ) × (cut : ℕ) × (high : ℕ) × Joins layers parts low cut high)

-- two such layers, one below the other, are the two that a good via joins
pub joins_used : Law → (layers : List LayerUse) (parts : List ViaPart) (low high : ℕ) → IsTrue (join_layers layers parts) → is_routing layers low ≡ true
    → is_routing layers high ≡ true → low < high
    → IsUsed parts low → IsUsed parts high → (cut : ℕ) × Joins layers parts low cut high
joins_used law layers parts low high joined low_routes high_routes less low_used high_used =
    let three = (law layers parts).0 joined in
    by three.0 three.1 three.2 three.3 (outer layers parts three.0 three.1 three.2 low three.3 low_routes low_used)
    (outer layers parts three.0 three.1 three.2 high three.3 high_routes high_used) where
      by : (l c h : ℕ) → Joins layers parts l c h → (low ≡ l) ⊎ (low ≡ h) → (high ≡ l) ⊎ (high ≡ h) → (cut : ℕ) × Joins layers parts low cut high
      by l c h joins (inl is_l) (inr is_h) = (c, rw (is_l, is_h) joins)
      by l c h joins (inl is_l) (inl also) = absurd (omega (arith, less, is_l, also))
      by l c h joins (inr is_h) (inr also) = absurd (omega (arith, less, is_h, also))
      by l c h joins (inr is_h) (inl is_l) = absurd (omega (arith, less, is_h, is_l, joins.above, joins.below))

-- a via that is marked good has shapes that join layers
good_shapes : (library : LibraryModel) (via : ViaModel) → IsViaOf library via → via.good ≡ true
    → IsTrue (join_layers (uses_of library.layers) (parts_of via.shapes))
unfolding is_good_via
good_shapes library via of good =
    let both : not (is_wiring_word via.name) && join_layers (uses_of library.layers) (parts_of via.shapes) ≡ true = sym of.good ∙ good in
    (and_parts (not (is_wiring_word via.name)) (join_layers (uses_of library.layers) (parts_of via.shapes)) both) where
      and_parts : (a b : Bool) → a && b ≡ true → b ≡ true
      and_parts true true is = refl
      and_parts true false is = is
      and_parts false true is = refl
      and_parts false false is = is

module _ (library : LibraryModel) (low high : ℕ) (via : ViaModel) (of : IsViaOf library via) (routing : AreRouting library low high) where
  pub joins_by_shapes : Law → via.good ≡ true → Any (λ shape. shape.layer ≡ low) via.shapes → Any (λ shape. shape.layer ≡ high) via.shapes
      → JoinsLayers library low high via
  joins_by_shapes law good on_low on_high =
      let cut =
      joins_used law (uses_of library.layers) (parts_of via.shapes) low high
      (good_shapes library via of good) routing.low_routes routing.high_routes routing.less
      ((used_by_shapes via.shapes low).0 on_low) ((used_by_shapes via.shapes high).0 on_high) in
      record { good = good; cut = cut.0; joins = cut.1 }

  pub low_shape : JoinsLayers library low high via → Any (λ shape. shape.layer ≡ low) via.shapes
  low_shape joins = (used_by_shapes via.shapes low).1 joins.joins.low_used

  pub high_shape : JoinsLayers library low high via → Any (λ shape. shape.layer ≡ high) via.shapes
  high_shape joins = (used_by_shapes via.shapes high).1 joins.joins.high_used
