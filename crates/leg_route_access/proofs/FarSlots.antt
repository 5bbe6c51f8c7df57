-- The metal of slots, and what lies far from it.
use Rattle.std.proofs.Common.{◌≡◌, ℕ, ◌+◌, ◌≤◌, ◌⊎◌, inl, inr, ℤ, pos, ◌+ℤ◌, ◌-ℤ◌, ◌≤ℤ◌, ◌<ℤ◌, Bool, List, ◌++◌, All, Contains, map, Option, None, Some, slice_get, refl, ap, subst, ◌∙◌, arith}
use Rattle.std.proofs.lemmas.Int.{ints}
use Rattle.std.proofs.lemmas.List.Elements.{All-contains}
use Rattle.leg_lemmas.proofs.Places.{get_first, the_only}
use Rattle.leg_geom.specs.Plane.{PointModel, RectModel, HasPoint}
use Rattle.leg_geom.specs.Orientation.{moved, ComesFrom}
use Rattle.leg_lib_records.specs.Sound.{IsWidth}
use Rattle.leg_lib_records.specs.Records.{ViaModel}
use Rattle.leg_design_records.specs.declared.records.Wire.{Wire}
use Rattle.leg_design_records.specs.declared.records.Wire.TheVariants.{Segment, ViaAt, Patch}
use Rattle.leg_design_records.specs.Records.{DesignModel}
use Rattle.leg_rules.specs.declared.shape.Shape.{Shape}
use Rattle.leg_rules.specs.Metal.Outline.{HasPointOf}
use Rattle.leg_rules.specs.Metal.Outline.Outline.{Line, Shifted}
use Rattle.leg_rules.specs.Metal.Metal.{OnLayer, via_outlines, wire_outlines}
use Rattle.leg_wire_spacing.specs.Access.{alone}
use Rattle.leg_rules.specs.Route.StepWires.{half, square}
use Rattle.leg_rules.specs.Route.OpenMetal.{IsOpenWire}
use Rattle.leg_route_grid.specs.Steps.Grid.{GridModel}
use Rattle.leg_route_access.specs.Steps.Stretches.{IsStretch}
use Rattle.leg_route_access.specs.Steps.Reaches.{Reaches, ReachesAll, ReachesShape, clear_at, one_if}
use Rattle.leg_route_access.proofs.FarMetal.{IsBeyond, AreBeyond, far_is_clean}
use Rattle.leg_route_access.proofs.OpenVias.{metal_at, image_at}
use Rattle.leg_route_access.proofs.Strips.{strip_of, points_forth}

-- the point lies between these two, or not farther than this from there
pub record IsAround (reach : ℤ) (low high p : PointModel) : Type 0 where
  pub left : (low.x -ℤ reach) ≤ℤ p.x
  pub right : p.x ≤ℤ (high.x +ℤ reach)
  pub bottom : (low.y -ℤ reach) ≤ℤ p.y
  pub top : p.y ≤ℤ (high.y +ℤ reach)

-- each point of which this holds does, where there is a reach
abbrev pub AreAround : Option ℤ → PointModel → PointModel → (PointModel → Type 0) → Type 0
AreAround None low high Holds = ⊥
AreAround (Some reach) low high Holds = (p : PointModel) → Holds p → IsAround reach low high p

-- each point of the wire's metal on the layer does
abbrev pub IsWireAround : DesignModel → ℕ → Option ℤ → PointModel → PointModel → Wire → Type 0
IsWireAround design layer reach low high wire =
    (metal : OnLayer) → Contains (wire_outlines design wire) metal → metal.layer ≡ layer → AreAround reach low high (λ p. HasPointOf metal.outline p)

-- a rectangle about a point
rect_around : (reach : ℤ) (at : PointModel) (rect : RectModel) → ReachesAll (Some reach) rect → (p : PointModel) → ComesFrom (moved at) rect p
    → IsAround reach at at p
rect_around reach at rect all p comes =
    let left = comes.in_r.left in
    let right = comes.in_r.right in
    let bottom = comes.in_r.bottom in
    let top = comes.in_r.top in
    let x1 = all.x1 in
    let x2 = all.x2 in
    let y1 = all.y1 in
    let y2 = all.y2 in
    let x : (at.x +ℤ comes.from.x) ≡ p.x = ap (λ (q : PointModel). q.x) comes.is in
    let y : (at.y +ℤ comes.from.y) ≡ p.y = ap (λ (q : PointModel). q.y) comes.is in
    record { left = omega (arith, ints); right = omega (arith, ints); bottom = omega (arith, ints); top = omega (arith, ints) }

shifted_around : (reach : Option ℤ) (at : PointModel) (rect : RectModel) → ReachesAll reach rect → AreAround reach at at (λ p. HasPointOf (Shifted at rect) p)
shifted_around None at rect all = absurd all.x2
shifted_around (Some reach) at rect all = rect_around reach at rect all

square_reach : (reach : Option ℤ) (width : ℤ) → Reaches reach (half width) → ReachesAll reach (square (half width))
square_reach None width reaches = absurd reaches
square_reach (Some reach) width reaches = by (half width) reaches where
  by : (h : ℤ) → h ≤ℤ reach → ReachesAll (Some reach) (record { x1 = pos 0 -ℤ h; y1 = pos 0 -ℤ h; x2 = h; y2 = h })
  by h long = record { x1 = omega (arith, ints); y1 = omega (arith, ints); x2 = omega (arith, ints); y2 = omega (arith, ints) }

strip_around : (reach h : ℤ) (low high p : PointModel) → h ≤ℤ reach
    → HasPoint (record { x1 = low.x -ℤ h; y1 = low.y -ℤ h; x2 = high.x +ℤ h; y2 = high.y +ℤ h }) p → IsAround reach low high p
strip_around reach h low high p long inside =
    let left = inside.left in
    let right = inside.right in
    let bottom = inside.bottom in
    let top = inside.top in
    record { left = omega (arith, ints); right = omega (arith, ints); bottom = omega (arith, ints); top = omega (arith, ints) }

line_around : (reach : Option ℤ) (low high : PointModel) (width : ℤ) → IsWidth width → IsStretch low high → Reaches reach (half width)
    → AreAround reach low high (λ p. HasPointOf (Line low high width (half width) (half width)) p)
line_around None low high width wide stretch reaches = absurd reaches
line_around (Some reach) low high width wide stretch reaches = λ p there.
    strip_around reach (half width) low high p reaches ((points_forth low high width wide (strip_of low high width) refl stretch p).1 there)

module _ (design : DesignModel) (layer : ℕ) (reach : Option ℤ) where
  pub patch_around : (on : ℕ) (at : PointModel) (width : ℤ) → (on ≡ layer → Reaches reach (half width))
      → IsWireAround design layer reach at at (Patch on at (square (half width)))
  patch_around on at width reaches metal there here =
      let the : OnLayer = record { layer = on; outline = Shifted at (square (half width)) } in
      let same : the ≡ metal = the_only the metal there in
      let P : OnLayer → Type 0 = λ m. AreAround reach at at (λ p. HasPointOf m.outline p) in
      subst P same (shifted_around reach at (square (half width)) (square_reach reach width (reaches (ap (λ (m : OnLayer). m.layer) same ∙ here))))

  pub segment_around : (on : ℕ) (low high : PointModel) (width : ℤ) → IsWidth width → IsStretch low high → (on ≡ layer → Reaches reach (half width))
      → IsWireAround design layer reach low high (Segment on low high width (half width) (half width))
  segment_around on low high width wide stretch reaches metal there here =
      let the : OnLayer = record { layer = on; outline = Line low high width (half width) (half width) } in
      let same : the ≡ metal = the_only the metal there in
      let P : OnLayer → Type 0 = λ m. AreAround reach low high (λ p. HasPointOf m.outline p) in
      subst P same (line_around reach low high width wide stretch (reaches (ap (λ (m : OnLayer). m.layer) same ∙ here)))

  pub via_around : (via : ℕ) (at : PointModel) (said : ViaModel) → slice_get design.library.vias via ≡ Some said → All (ReachesShape reach layer) said.shapes
      → IsWireAround design layer reach at at (ViaAt via at)
  via_around via at said is all metal there here =
      let outlines : via_outlines (slice_get (design.library.vias ++ design.vias) via) (ViaAt via at) ≡ map (metal_at at) said.shapes =
      ap (λ (v : Option ViaModel). via_outlines v (ViaAt via at)) (get_first design.library.vias design.vias via said is) in
      let in_map : Contains (map (metal_at at) said.shapes) metal = subst (λ (ms : List OnLayer). Contains ms metal) outlines there in
      let image = image_at (metal_at at) said.shapes metal in_map.0 in_map.1 in_map.2 in
      let on : image.x.layer ≡ layer = ap (λ (m : OnLayer). m.layer) image.is ∙ here in
      let P : OnLayer → Type 0 = λ m. AreAround reach at at (λ p. HasPointOf m.outline p) in
      subst P image.is (shifted_around reach at image.x.rect (All-contains (ReachesShape reach layer) said.shapes image.x all image.there on))

-- all values at this place, and at the next one if steps lead there, lie before low, or the one at this place behind high
abbrev pub IsPast : List ℤ → Bool → ℕ → ℤ → ℤ → Type 0
IsPast values along i low high =
    ((m : ℕ) (z : ℤ) → m ≤ i + one_if along → slice_get values m ≡ Some z → z <ℤ low) ⊎ ((z : ℤ) → slice_get values i ≡ Some z → high <ℤ z)

-- the slot of this row and column lies beyond the reach and the spacing of the rectangle
abbrev pub IsSlotPast : GridModel → Bool → Bool → ℕ → ℕ → RectModel → Option ℤ → ℕ → Type 0
IsSlotPast grid along_x along_y j i rect None apart = Unit {0}
IsSlotPast grid along_x along_y j i rect (Some reach) apart =
    IsPast grid.xs along_x i (rect.x1 -ℤ (reach +ℤ pos apart)) (rect.x2 +ℤ (reach +ℤ pos apart))
    ⊎ IsPast grid.ys along_y j (rect.y1 -ℤ (reach +ℤ pos apart)) (rect.y2 +ℤ (reach +ℤ pos apart))

-- this is the value at the place, or at the next one if steps lead there
pub record IsHere (values : List ℤ) (along : Bool) (i : ℕ) (z : ℤ) : Type 0 where
  pub m : ℕ
  pub upto : m ≤ i + one_if along
  pub there : slice_get values m ≡ Some z

-- the points are that of the slot, and its own or the next one's along an axis
pub record AreEnds (grid : GridModel) (along_x along_y : Bool) (j i : ℕ) (low high : PointModel) : Type 0 where
  pub x : slice_get grid.xs i ≡ Some low.x
  pub y : slice_get grid.ys j ≡ Some low.y
  pub x_end : IsHere grid.xs along_x i high.x
  pub y_end : IsHere grid.ys along_y j high.y

-- a number from one to another
record IsFromTo (low high z : ℤ) : Type 0 where
  from : low ≤ℤ z
  to : z ≤ℤ high

past_beyond : (values : List ℤ) (along : Bool) (i : ℕ) (z1 z2 reach : ℤ) (distance : ℕ) (low high p q : ℤ)
    → IsPast values along i (z1 -ℤ (reach +ℤ pos distance)) (z2 +ℤ (reach +ℤ pos distance)) → slice_get values i ≡ Some low → IsHere values along i high
    → IsFromTo (low -ℤ reach) (high +ℤ reach) p → IsFromTo z1 z2 q → IsBeyond distance p q
past_beyond values along i z1 z2 reach distance low high p q (inl before) there end around inside =
    inl (let less = before end.m high end.upto end.there in omega (arith, ints, less, around.from, around.to, inside.from, inside.to))
past_beyond values along i z1 z2 reach distance low high p q (inr behind) there end around inside =
    inr (let more = behind low there in omega (arith, ints, more, around.from, around.to, inside.from, inside.to))

module _ (grid : GridModel) (along_x along_y : Bool) (j i : ℕ) (shape : Shape) (low high : PointModel)
    (are_ends : AreEnds grid along_x along_y j i low high) where
  abbrev distance : ℕ
  distance = clear_at grid.design.library shape.layer

  points_beyond : (reach : Option ℤ) → IsSlotPast grid along_x along_y j i shape.rect reach distance → (Holds : PointModel → Type 0)
      → AreAround reach low high Holds → (p q : PointModel) → Holds p → HasPoint shape.rect q → AreBeyond distance p q
  points_beyond None past Holds around p q holds inside = absurd around
  points_beyond (Some reach) (inl column) Holds around p q holds inside =
      let here = around p holds in
      inl (past_beyond grid.xs along_x i shape.rect.x1 shape.rect.x2 reach distance low.x high.x p.x q.x column are_ends.x are_ends.x_end
      (record { from = here.left; to = here.right }) (record { from = inside.left; to = inside.right }))
  points_beyond (Some reach) (inr row) Holds around p q holds inside =
      let here = around p holds in
      inr (past_beyond grid.ys along_y j shape.rect.y1 shape.rect.y2 reach distance low.y high.y p.y q.y row are_ends.y are_ends.y_end
      (record { from = here.bottom; to = here.top }) (record { from = inside.bottom; to = inside.top }))

  -- a wire whose metal lies around a slot's points is open where the shape lies far from there
  pub far_wire : (reach : Option ℤ) → IsSlotPast grid along_x along_y j i shape.rect reach distance → (wire : Wire)
      → IsWireAround grid.design shape.layer reach low high wire → (net : ℕ) → IsOpenWire grid.design (alone shape) net wire
  far_wire reach past wire around net metal rect there points =
      far_is_clean grid.design.library shape net metal.layer rect
      (λ same p q in_p in_q. points_beyond reach past (λ p. HasPointOf metal.outline p) (around metal there same) p q ((points p).0 in_p) in_q)
