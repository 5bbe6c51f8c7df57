-- Vias that are open, by their shapes.
use Rattle.std.proofs.Common.{◌≡◌, ℕ, suc, zero, ◌+◌, ◌<◌, ◌↔◌, List, [], ◌∷◌, ◌++◌, All, Contains, length, take, get_or, map, Option, Some, slice_get, refl, sym, ap, subst, ◌∙◌, arith}
use Rattle.std.proofs.lemmas.List.{take_more}
use Rattle.std.proofs.lemmas.List.Elements.{All-nil, All-cons, All-head, All-tail, All-push, All-contains, Contains-get_or}
use Rattle.leg_lemmas.proofs.Places.{get_first}
use Rattle.leg_lemmas.proofs.Contents.{Contains-map}
use Rattle.leg_geom.specs.Plane.{PointModel, RectModel, HasPoint}
use Rattle.leg_lib_records.specs.declared.records.Shape.{Shape}
use Rattle.leg_lib_records.specs.Records.{ViaModel}
use Rattle.leg_design_records.specs.declared.records.Wire.TheVariants.{Patch, ViaAt}
use Rattle.leg_design_records.specs.Records.{DesignModel}
use Rattle.leg_rules.specs.Metal.Outline.{HasPointOf}
use Rattle.leg_rules.specs.Metal.Outline.Outline.{Shifted}
use Rattle.leg_rules.specs.Metal.Metal.{OnLayer, via_outlines}
use Rattle.leg_rules.specs.Metal.Flat.{FlatModel}
use Rattle.leg_rules.specs.Spacing.Clean.{IsClean}
use Rattle.leg_rules.specs.Route.OpenMetal.{IsOpenWire}

module _ {X : Type 0} (P : X → Type 0) where
  all_before : (xs ys : List X) → All P (xs ++ ys) → All P xs
  all_before [] ys all = All-nil P
  all_before (x ∷ xs) ys all = All-cons P x xs (All-head P x (xs ++ ys) all) (all_before xs ys (All-tail P x (xs ++ ys) all))

  last_holds : (xs : List X) (x : X) → All P (xs ++ x ∷ []) → P x
  last_holds [] x all = All-head P x [] all
  last_holds (y ∷ xs) x all = last_holds xs x (All-tail P y (xs ++ x ∷ []) all)

  -- it holds of the first ones and one more just where it holds of those and of that one
  pub all_and_more : (xs : List X) (i : ℕ) (x : X) → i < length xs → get_or xs i x ≡ x → All P (take (i + 1) xs) ↔ (All P (take i xs) × P x)
  all_and_more xs i x within is = (
    λ all. let all' = subst (λ (ys : List X). All P ys) longer all in (all_before (take i xs) (x ∷ []) all', last_holds (take i xs) x all'),
    λ both. rw longer (All-push P (take i xs) x both.0 both.1),
  ) where
    longer : take (i + 1) xs ≡ take i xs ++ x ∷ []
    longer = take_more xs i x within ∙ rw is refl

-- a mapped list has only images of what the list has
pub record IsImageOf {X Y : Type 0} (f : X → Y) (xs : List X) (y : Y) : Type 0 where
  pub x : X
  pub there : Contains xs x
  pub is : f x ≡ y

pub image_at : {X Y : Type 0} (f : X → Y) (xs : List X) (y : Y) (k : ℕ) → k < length (map f xs) → get_or (map f xs) k y ≡ y → IsImageOf f xs y
image_at f [] y k within is = absurd (omega (arith, within))
image_at f (x ∷ xs) y zero within is = record { x = x; there = (0, omega arith, refl); is = is }
image_at f (x ∷ xs) y (suc k) within is =
    let rest = image_at f xs y k (omega (arith, within)) is in
    record { x = rest.x; there = (suc rest.there.0, (let below = rest.there.1 in omega (arith, below)), rest.there.2); is = rest.is }

-- the shapes of a via as metal, given from a point
abbrev pub metal_at : PointModel → Shape → OnLayer
metal_at at s = record { layer = s.layer; outline = Shifted at s.rect }

module _ (design : DesignModel) (flat : FlatModel) (net : ℕ) (at : PointModel) where
  abbrev pub IsOpenShape : Shape → Type 0
  IsOpenShape s = IsOpenWire design flat net (Patch s.layer at s.rect)

  abbrev AllClean : List OnLayer → Type 0
  AllClean outlines =
      (metal : OnLayer) (rect : RectModel) → Contains outlines metal → ((p : PointModel) → HasPoint rect p ↔ HasPointOf metal.outline p)
      → IsClean design.library flat net metal.layer rect

  alone : (m n : OnLayer) → Contains (m ∷ []) n → m ≡ n
  alone m n there = by there.0 there.1 there.2 where
    by : (k : ℕ) → k < 1 → get_or (m ∷ []) k n ≡ n → m ≡ n
    by zero below is = is
    by (suc k) below is = absurd (omega (arith, below))

  all_clean : (shapes : List Shape) → All IsOpenShape shapes → AllClean (map (metal_at at) shapes)
  all_clean shapes all metal rect there points =
      let image = image_at (metal_at at) shapes metal there.0 there.1 there.2 in
      All-contains IsOpenShape shapes image.x all image.there metal rect (0, omega arith, image.is) points

  each_open : (shapes : List Shape) → AllClean (map (metal_at at) shapes) → All IsOpenShape shapes
  each_open shapes all k d within metal rect there points =
      let s : Shape = get_or shapes k d in
      let image = Contains-map (metal_at at) shapes s (Contains-get_or shapes k d within) in
      let same : metal_at at s ≡ metal = alone (metal_at at s) metal there in
      all metal rect (subst (λ (m : OnLayer). Contains (map (metal_at at) shapes) m) same image) points

  pub via_is_open : (via : ℕ) (said : ViaModel) → slice_get design.library.vias via ≡ Some said
      → All IsOpenShape said.shapes ↔ IsOpenWire design flat net (ViaAt via at)
  via_is_open via said there =
      let outlines : via_outlines (slice_get (design.library.vias ++ design.vias) via) (ViaAt via at) ≡ map (metal_at at) said.shapes =
      ap (λ (v : Option ViaModel). via_outlines v (ViaAt via at)) (get_first design.library.vias design.vias via said there) in (
        λ all. subst AllClean (sym outlines) (all_clean said.shapes all),
        λ is_open. each_open said.shapes (subst AllClean outlines is_open),
      )
