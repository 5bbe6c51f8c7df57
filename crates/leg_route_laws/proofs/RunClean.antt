-- A line over several points is clean where the lines between them are, and so are the squares at its ends.
use Rattle.std.proofs.Common.{◌≡◌, ◌≢◌, ◌⊎◌, inl, inr, ℕ, ℤ, pos, ◌+ℤ◌, ◌-ℤ◌, ◌≤ℤ◌, ◌<ℤ◌, List, [], ◌∷◌, subst, sym, ap, refl, arith}
use Rattle.std.proofs.lemmas.Int.{ints}
use Rattle.leg_lemmas.proofs.Integers.{cases_lt_z}
use Rattle.leg_lemmas.proofs.Places.{the_only, contains_only}
use Rattle.leg_geom.specs.Plane.{PointModel, RectModel}
use Rattle.leg_geom.specs.Orientation.{moved, ComesFrom}
use Rattle.leg_geom.proofs.Points.{same_point}
use Rattle.leg_lib_records.specs.Scale.{IsEven}
use Rattle.leg_design_records.specs.Records.{DesignModel}
use Rattle.leg_design_records.specs.declared.records.Wire.TheVariants.{Segment, Patch}
use Rattle.leg_rules.specs.Metal.Outline.{IsAlong, IsAcross, HasPointOf}
use Rattle.leg_rules.specs.Metal.Outline.Outline.{Shifted}
use Rattle.leg_rules.specs.Metal.Metal.{OnLayer}
use Rattle.leg_rules.specs.Metal.Flat.{FlatModel}
use Rattle.leg_rules.specs.Spacing.Clean.{IsClean}
use Rattle.leg_route_laws.specs.CleanWire.{IsRectOf, IsCleanWire, HasCleanRect, LiesInClean}
use Rattle.leg_rules.specs.Route.StepWires.{square}
use Rattle.leg_route_laws.specs.Lines.{EachStep, last_spot, AreInLine, line_outline}
use Rattle.leg_route_laws.proofs.CleanCover.{covered, clean_wire}
use Rattle.leg_route_laws.proofs.LinePoints.{SomeStep, some_step}
use Rattle.leg_route_laws.proofs.LineRects.{line_rect}

-- what lies about an end of a line lies along it
along_first : (reach a b z : ℤ) → a ≢ b → (a -ℤ reach) ≤ℤ z → z ≤ℤ (a +ℤ reach) → IsAlong a b reach reach z
along_first reach a b z differ above below = by (cases_lt_z a b) (cases_lt_z b a) where
  by : (a <ℤ b) ⊎ (b ≤ℤ a) → (b <ℤ a) ⊎ (a ≤ℤ b) → IsAlong a b reach reach z
  by (inl less) other = record { from = grind (arith, ints); to = grind (arith, ints) }
  by (inr more) (inl less) = record { from = grind (arith, ints); to = grind (arith, ints) }
  by (inr more) (inr same) = absurd (differ (grind (arith, ints)))

along_last : (reach a b z : ℤ) → a ≢ b → (b -ℤ reach) ≤ℤ z → z ≤ℤ (b +ℤ reach) → IsAlong a b reach reach z
along_last reach a b z differ above below = by (cases_lt_z a b) (cases_lt_z b a) where
  by : (a <ℤ b) ⊎ (b ≤ℤ a) → (b <ℤ a) ⊎ (a ≤ℤ b) → IsAlong a b reach reach z
  by (inl less) other = record { from = grind (arith, ints); to = grind (arith, ints) }
  by (inr more) (inl less) = record { from = grind (arith, ints); to = grind (arith, ints) }
  by (inr more) (inr same) = absurd (differ (grind (arith, ints)))

across_middle : (reach middle z : ℤ) → (middle -ℤ reach) ≤ℤ z → z ≤ℤ (middle +ℤ reach) → IsAcross middle (reach +ℤ reach) z
across_middle reach middle z above below = grind (arith, ints)

-- a point of a square about a point is no farther from it
record IsAbout (reach : ℤ) (a p : PointModel) : Type 0 where
  pub left : (a.x -ℤ reach) ≤ℤ p.x
  pub right : p.x ≤ℤ (a.x +ℤ reach)
  pub bottom : (a.y -ℤ reach) ≤ℤ p.y
  pub top : p.y ≤ℤ (a.y +ℤ reach)

moved_about : (reach : ℤ) (a p : PointModel) → ComesFrom (moved a) (square reach) p → IsAbout reach a p
moved_about reach a p q =
    let x : (a.x +ℤ q.from.x) ≡ p.x = ap (λ (s : PointModel). s.x) q.is in
    let y : (a.y +ℤ q.from.y) ≡ p.y = ap (λ (s : PointModel). s.y) q.is in
    let left = q.in_r.left in
    let right = q.in_r.right in
    let bottom = q.in_r.bottom in
    let top = q.in_r.top in
    record { left = omega (arith, ints); right = omega (arith, ints); bottom = omega (arith, ints); top = omega (arith, ints) }

module _ (design : DesignModel) (flat : FlatModel) (net layer : ℕ) (width reach : ℤ) where
  abbrev HasCleanLine : PointModel → PointModel → Type 0
  HasCleanLine a b = HasCleanRect design.library flat net layer (line_outline width reach a b)

  lies : (p : PointModel) (from : PointModel) (spots : List PointModel) → EachStep HasCleanLine from spots
      → SomeStep (λ a b. HasPointOf (line_outline width reach a b) p) from spots → LiesInClean design.library flat net layer p
  lies p from [] each some = absurd some
  lies p from (to ∷ spots) each (inl here) = record { rect = each.0.rect; clean = each.0.clean; inside = each.0.covers p here }
  lies p from (to ∷ spots) each (inr later) = lies p to spots each.1 later

  pub run_rect : (from : PointModel) (spots : List PointModel) (rect : RectModel) → pos 0 ≤ℤ reach → AreInLine from spots → from ≢ last_spot from spots
      → EachStep HasCleanLine from spots → IsRectOf (line_outline width reach from (last_spot from spots)) rect → IsClean design.library flat net layer rect
  run_rect from spots rect some in_line differ each is =
      covered design.library flat net layer rect
      (λ p inside. lies p from spots each (some_step width reach some p from spots in_line differ ((is p).0 inside)))

  pub run_wire : (from : PointModel) (spots : List PointModel) → pos 0 ≤ℤ reach → AreInLine from spots → from ≢ last_spot from spots
      → EachStep HasCleanLine from spots → IsCleanWire design flat net (Segment layer from (last_spot from spots) width reach reach)
  run_wire from spots some in_line differ each metal rect there is =
      let whole : OnLayer = record { layer = layer; outline = line_outline width reach from (last_spot from spots) } in
      let same : whole ≡ metal = the_only whole metal there in
      let points : IsRectOf whole.outline rect = subst (λ (m : OnLayer). IsRectOf m.outline rect) (sym same) is in
      subst (λ (m : OnLayer). IsClean design.library flat net m.layer rect) same (run_rect from spots rect some in_line differ each points)

  -- a wire between two points has a rectangle
  line_clean : IsEven width → (a b : PointModel) → a ≢ b → (a.y ≡ b.y) ⊎ (a.x ≡ b.x) → IsCleanWire design flat net (Segment layer a b width reach reach)
      → HasCleanLine a b
  line_clean even a b differ in_line clean =
      let it = line_rect width reach even a b differ in_line in
      record {
        rect = it.0;
        covers = λ p has. (it.1 p).1 has;
        clean = clean (record { layer = layer; outline = line_outline width reach a b }) it.0 (contains_only _) it.1;
      }

  abbrev IsCleanStep : PointModel → PointModel → Type 0
  IsCleanStep a b = IsCleanWire design flat net (Segment layer a b width reach reach)

  level_clean : IsEven width → (from : PointModel) (spots : List PointModel) → EachStep (λ a b. a.y ≡ b.y) from spots → EachStep (λ a b. a ≢ b) from spots
      → EachStep IsCleanStep from spots → EachStep HasCleanLine from spots
  level_clean even from [] level apart each = tt
  level_clean even from (to ∷ spots) level apart each =
      (line_clean even from to apart.0 (inl level.0) each.0, level_clean even to spots level.1 apart.1 each.1)

  upright_clean : IsEven width → (from : PointModel) (spots : List PointModel) → EachStep (λ a b. a.x ≡ b.x) from spots → EachStep (λ a b. a ≢ b) from spots
      → EachStep IsCleanStep from spots → EachStep HasCleanLine from spots
  upright_clean even from [] upright apart each = tt
  upright_clean even from (to ∷ spots) upright apart each =
      (line_clean even from to apart.0 (inr upright.0) each.0, upright_clean even to spots upright.1 apart.1 each.1)

  pub run_of_wires : (from : PointModel) (spots : List PointModel) → IsEven width → pos 0 ≤ℤ reach → AreInLine from spots → from ≢ last_spot from spots
      → EachStep (λ a b. a ≢ b) from spots → EachStep IsCleanStep from spots → IsCleanStep from (last_spot from spots)
  run_of_wires from spots even some (inl level) differ apart each = run_wire from spots some (inl level) differ (level_clean even from spots level apart each)
  run_of_wires from spots even some (inr upright) differ apart each =
      run_wire from spots some (inr upright) differ (upright_clean even from spots upright apart each)

-- the points about an end of a line are the line's, where it reaches as far as it is wide to each side
module _ (reach : ℤ) (a b : PointModel) (differ : a ≢ b) (p : PointModel) where
  abbrev IsOfLine : Type 0
  IsOfLine = HasPointOf (line_outline (reach +ℤ reach) reach a b) p

  from_first : (a.y ≡ b.y) ⊎ (a.x ≡ b.x) → HasPointOf (Shifted a (square reach)) p → IsOfLine
  from_first (inl level) q =
      let m = moved_about reach a p q in
      inl (record {
        level = level;
        along = along_first reach a.x b.x p.x (λ same. differ (same_point a b same level)) m.left m.right;
        across = across_middle reach a.y p.y m.bottom m.top;
      })
  from_first (inr upright) q =
      let m = moved_about reach a p q in
      inr (record {
        upright = upright;
        along = along_first reach a.y b.y p.y (λ same. differ (same_point a b upright same)) m.bottom m.top;
        across = across_middle reach a.x p.x m.left m.right;
      })

  from_last : (a.y ≡ b.y) ⊎ (a.x ≡ b.x) → HasPointOf (Shifted b (square reach)) p → IsOfLine
  from_last (inl level) q =
      let m = moved_about reach b p q in
      inl (record {
        level = level;
        along = along_last reach a.x b.x p.x (λ same. differ (same_point a b same level)) m.left m.right;
        across = subst (λ y. IsAcross y (reach +ℤ reach) p.y) (sym level) (across_middle reach b.y p.y m.bottom m.top);
      })
  from_last (inr upright) q =
      let m = moved_about reach b p q in
      inr (record {
        upright = upright;
        along = along_last reach a.y b.y p.y (λ same. differ (same_point a b upright same)) m.bottom m.top;
        across = subst (λ x. IsAcross x (reach +ℤ reach) p.x) (sym upright) (across_middle reach b.x p.x m.left m.right);
      })

-- the squares at both ends of a clean line are clean
pub ends_clean : (design : DesignModel) (flat : FlatModel) (net layer : ℕ) (reach : ℤ) (a b : PointModel) → a ≢ b → (a.y ≡ b.y) ⊎ (a.x ≡ b.x)
    → IsCleanWire design flat net (Segment layer a b (reach +ℤ reach) reach reach)
    → IsCleanWire design flat net (Patch layer a (square reach)) × IsCleanWire design flat net (Patch layer b (square reach))
ends_clean design flat net layer reach a b differ in_line clean =
    (end_clean a (λ p has. from_first reach a b differ p in_line has), end_clean b (λ p has. from_last reach a b differ p in_line has))
  where
    end_clean : (c : PointModel) → ((p : PointModel) → HasPointOf (Shifted c (square reach)) p → HasPointOf (line_outline (reach +ℤ reach) reach a b) p)
        → IsCleanWire design flat net (Patch layer c (square reach))
    end_clean c inside =
        let has = line_clean design flat net layer (reach +ℤ reach) reach (reach, refl) a b differ in_line clean in
        let square_has : HasCleanRect design.library flat net layer (Shifted c (square reach)) =
        record { rect = has.rect; covers = λ p of. has.covers p (inside p of); clean = has.clean } in
        clean_wire design flat net (Patch layer c (square reach)) (λ metal there.
        subst (λ (m : OnLayer). HasCleanRect design.library flat net m.layer m.outline)
        (the_only (record { layer = layer; outline = Shifted c (square reach) }) metal there) square_has)
