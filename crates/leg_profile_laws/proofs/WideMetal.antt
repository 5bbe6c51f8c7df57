-- A segment of a width of its own, which is kept as a rectangle: the rectangle's points are those of the segment.
use Rattle.std.proofs.Common.{◌≡◌, ◌≢◌, ◌↔◌, ℕ, ℤ, pos, ◌+ℤ◌, ◌-ℤ◌, ◌≤ℤ◌, ◌<ℤ◌, ◌⊎◌, inl, inr, ⊎_elim, int_lt, Bool, true, false, ◌||◌, ◌&&◌, Option, refl, arith}
use Rattle.std.specs.Ordering.{int_eq}
use Rattle.std.proofs.lemmas.Int.{ints}
use Rattle.leg_lex.proofs.Gives.{Gives, gives_none, gives_some, gives_bind, gives_skip, gives_choice}
use Rattle.leg_geom.specs.Plane.{PointModel, RectModel, HasPoint, halfway}
use Rattle.leg_geom.specs.Orientation.{moved}
use Rattle.leg_geom.proofs.Points.{same_point}
use Rattle.leg_design_records.specs.declared.records.Wire.TheVariants.{Patch}
use Rattle.leg_design_records.specs.Wires.{is_straight, is_even}
use Rattle.leg_rules.specs.Metal.Outline.{beyond, IsAlong, IsAcross, HasPointOf}
use Rattle.leg_rules.specs.Metal.Outline.Outline.{Line, Shifted}
use Rattle.leg_profile_laws.specs.SegmentMetal.{IsOfPatch}
use Rattle.leg_grammar.specs.Def.Guard.{when, is_within}
use Rattle.leg_grammar.specs.Def.CutArray.{is_area, area_of}
use Rattle.leg_grammar.specs.Def.Path.{line_start, line_end, line_sides, reach, wide_area, wide_segment}

-- along a line, from its first point
along_up : (a b e f q : ℤ) → a <ℤ b → line_start a b e f ≤ℤ q → q ≤ℤ line_end a b e f → IsAlong a b e f (a +ℤ q)
along_up a b e f q less low high = record { from = grind (arith, ints); to = grind (arith, ints) }

along_down : (a b e f q : ℤ) → b <ℤ a → line_start a b e f ≤ℤ q → q ≤ℤ line_end a b e f → IsAlong a b e f (a +ℤ q)
along_down a b e f q more low high = record { from = grind (arith, ints); to = grind (arith, ints) }

start_up : (a b e f z : ℤ) → a <ℤ b → beyond a b z ≤ℤ e → line_start a b e f ≤ℤ (z -ℤ a)
start_up a b e f z less from = grind (arith, ints)

end_up : (a b e f z : ℤ) → a <ℤ b → beyond b a z ≤ℤ f → (z -ℤ a) ≤ℤ line_end a b e f
end_up a b e f z less to = grind (arith, ints)

start_down : (a b e f z : ℤ) → b <ℤ a → beyond b a z ≤ℤ f → line_start a b e f ≤ℤ (z -ℤ a)
start_down a b e f z more to = grind (arith, ints)

end_down : (a b e f z : ℤ) → b <ℤ a → beyond a b z ≤ℤ e → (z -ℤ a) ≤ℤ line_end a b e f
end_down a b e f z more from = grind (arith, ints)

ordered : (a b : ℤ) → a ≢ b → (a <ℤ b) ⊎ (b <ℤ a)
ordered a b apart = by (int_lt a b) refl where
  by : (less : Bool) → int_lt a b ≡ less → (a <ℤ b) ⊎ (b <ℤ a)
  by true is = inl (grind (arith, ints))
  by false is = inr (grind (arith, ints))

module _ (a b e f : ℤ) (apart : a ≢ b) where
  along : (q : ℤ) → line_start a b e f ≤ℤ q → q ≤ℤ line_end a b e f → IsAlong a b e f (a +ℤ q)
  along q low high = ⊎_elim (λ less. along_up a b e f q less low high) (λ more. along_down a b e f q more low high) (ordered a b apart)

  start : (z : ℤ) → IsAlong a b e f z → line_start a b e f ≤ℤ (z -ℤ a)
  start z is = ⊎_elim (λ less. start_up a b e f z less is.from) (λ more. start_down a b e f z more is.to) (ordered a b apart)

  end : (z : ℤ) → IsAlong a b e f z → (z -ℤ a) ≤ℤ line_end a b e f
  end z is = ⊎_elim (λ less. end_up a b e f z less is.to) (λ more. end_down a b e f z more is.from) (ordered a b apart)

-- across a line, from it
doubled : (width : ℤ) → is_even width ≡ true → (halfway (pos 0) width +ℤ halfway (pos 0) width) ≡ width
doubled width even = grind (arith, ints)

across : (half width m q : ℤ) → (half +ℤ half) ≡ width → (pos 0 -ℤ half) ≤ℤ q → q ≤ℤ half → IsAcross m width (m +ℤ q)
across half width m q twice low high = omega (arith, ints)

across_low : (half width m z : ℤ) → (half +ℤ half) ≡ width → IsAcross m width z → (pos 0 -ℤ half) ≤ℤ (z -ℤ m)
across_low half width m z twice is = omega (arith, ints)

across_high : (half width m z : ℤ) → (half +ℤ half) ≡ width → IsAcross m width z → (z -ℤ m) ≤ℤ half
across_high half width m z twice is = omega (arith, ints)

-- a point, from another and back
from_other : (a z : ℤ) → (a +ℤ (z -ℤ a)) ≡ z
from_other a z = omega (arith, ints)

back : (at p : PointModel) → moved at (record { x = p.x -ℤ at.x; y = p.y -ℤ at.y }) ≡ p
back at p = same_point (moved at (record { x = p.x -ℤ at.x; y = p.y -ℤ at.y })) p (from_other at.x p.x) (from_other at.y p.y)

equal : (a b : ℤ) → int_eq a b ≡ true → a ≡ b
equal a b is = grind (arith, ints)

other : (a b : ℤ) → int_eq a b ≡ false → a ≢ b
other a b is = λ same. let e : int_eq a b ≡ true = grind (arith, ints) in let none : ⊥ = cc in none

only_first : (test : Bool) → (test || false) ≡ true → test ≡ true
only_first true is = refl
only_first false is = is

module _ (at to : PointModel) (width e f : ℤ) (even : is_even width ≡ true) (p : PointModel) where
  abbrev half : ℤ
  half = halfway (pos 0) width

  abbrev level_sides : RectModel
  level_sides = record { x1 = line_start at.x to.x e f; y1 = pos 0 -ℤ half; x2 = line_end at.x to.x e f; y2 = half }

  abbrev upright_sides : RectModel
  upright_sides = record { x1 = pos 0 -ℤ half; y1 = line_start at.y to.y e f; x2 = half; y2 = line_end at.y to.y e f }

  level : at.y ≡ to.y → at.x ≢ to.x → HasPointOf (Shifted at level_sides) p ↔ HasPointOf (Line at to width e f) p
  level same apart = (there, here) where
    at_point : (q : PointModel) → HasPoint level_sides q → HasPointOf (Line at to width e f) (moved at q)
    at_point q has = inl (record {
      level = same;
      along = along at.x to.x e f apart q.x has.left has.right;
      across = across half width at.y q.y (doubled width even) has.bottom has.top;
    })

    there : HasPointOf (Shifted at level_sides) p → HasPointOf (Line at to width e f) p
    there has = rw (← has.is) (at_point has.from has.in_r)

    here : HasPointOf (Line at to width e f) p → HasPointOf (Shifted at level_sides) p
    here (inl of) = record {
      from = record { x = p.x -ℤ at.x; y = p.y -ℤ at.y };
      in_r = record {
        left = start at.x to.x e f apart p.x of.along;
        right = end at.x to.x e f apart p.x of.along;
        bottom = across_low half width at.y p.y (doubled width even) of.across;
        top = across_high half width at.y p.y (doubled width even) of.across;
      };
      is = back at p;
    }
    here (inr of) = absurd (apart of.upright)

  upright : at.x ≡ to.x → at.y ≢ to.y → HasPointOf (Shifted at upright_sides) p ↔ HasPointOf (Line at to width e f) p
  upright same apart = (there, here) where
    at_point : (q : PointModel) → HasPoint upright_sides q → HasPointOf (Line at to width e f) (moved at q)
    at_point q has = inr (record {
      upright = same;
      along = along at.y to.y e f apart q.y has.bottom has.top;
      across = across half width at.x q.x (doubled width even) has.left has.right;
    })

    there : HasPointOf (Shifted at upright_sides) p → HasPointOf (Line at to width e f) p
    there has = rw (← has.is) (at_point has.from has.in_r)

    here : HasPointOf (Line at to width e f) p → HasPointOf (Shifted at upright_sides) p
    here (inl of) = absurd (apart of.level)
    here (inr of) = record {
      from = record { x = p.x -ℤ at.x; y = p.y -ℤ at.y };
      in_r = record {
        left = across_low half width at.x p.x (doubled width even) of.across;
        right = across_high half width at.x p.x (doubled width even) of.across;
        bottom = start at.y to.y e f apart p.y of.along;
        top = end at.y to.y e f apart p.y of.along;
      };
      is = back at p;
    }

  line_metal : at ≢ to → is_straight at to ≡ true → HasPointOf (Shifted at (line_sides at to half e f)) p ↔ HasPointOf (Line at to width e f) p
  line_metal long straight = by (int_eq at.y to.y) refl where
    by : (same : Bool) → int_eq at.y to.y ≡ same → HasPointOf (Shifted at (line_sides at to half e f)) p ↔ HasPointOf (Line at to width e f) p
    by true is = rw is (level (equal at.y to.y is) (λ x. long (same_point at to x (equal at.y to.y is))))
    by false is =
        let x_too : int_eq at.x to.x ≡ true = only_first (int_eq at.x to.x) (rw is at straight) in
        rw is (upright (equal at.x to.x x_too) (other at.y to.y is))

when_met : (test : Bool) → Gives (λ _. test ≡ true) (when test)
when_met true = gives_some tt refl
when_met false = gives_none

area_itself : (r : RectModel) → Gives (λ s. s ≡ r) (area_of r)
unfolding area_of
area_itself r = gives_choice (is_area r) (λ area. gives_some r refl) (λ none. gives_none)

-- The metal of the rectangle is that of the segment.
pub wide_metal : (width : ℤ) (layer : ℕ) (at to : PointModel) (extension extension_there : Option ℤ) → at ≢ to
    → Gives (λ wire. (p : PointModel) → IsOfPatch wire p ↔ HasPointOf (Line at to width (reach width extension) (reach width extension_there)) p)
    (wide_segment width layer at extension to extension_there)
unfolding wide_segment wide_area
wide_metal width layer at to extension extension_there long =
    gives_bind (when_met (is_straight at to)) (λ s straight.
    gives_bind (when_met (is_even width)) (λ v even.
    gives_bind
    (gives_skip (when (is_within width && is_within (reach width extension) && is_within (reach width extension_there))) (λ within.
    area_itself (line_sides at to (halfway (pos 0) width) (reach width extension) (reach width extension_there)))) (λ rect is.
    gives_some (Patch layer at rect) (λ p. rw is (line_metal at to width (reach width extension) (reach width extension_there) even p long straight)))))
