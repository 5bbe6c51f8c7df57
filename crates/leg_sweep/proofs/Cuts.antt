-- Rectangles cut at a line, right of which none begins: the gaps of two of them stay.
use Rattle.std.proofs.Common.{◌≡◌, ℤ, pos, ◌+ℤ◌, ◌-ℤ◌, ◌≤ℤ◌, ◌<ℤ◌, unsigned_abs, FitsSigned, w64, to_z, of_z, Option, Some, ◌∙◌, arith}
use Rattle.std.specs.Option.{SomeIff, IsSome}
use Rattle.std.specs.Int.{int_max, int_min}
use Rattle.std.proofs.lemmas.Int.{ints, int_max_is, int_min_is, to_z-of_z, by_lt_z}
use Rattle.leg_lemmas.proofs.Options.{there_where, value_there}
use Rattle.leg_geom.specs.Plane.{RectModel, IsCoordinate, IsRect}
use Rattle.leg_geom.specs.Gap.{gap_between, x_gap}
use Rattle.leg_geom.proofs.Points.{sides}
use Rattle.leg_sweep.specs.Steps.Cut.{cut_at}

-- a gap from what begins at the line tells where it ends
pub cut_told : (line other low high : ℤ) → low <ℤ high → low ≤ℤ line → line <ℤ other
    → int_max (line -ℤ pos (gap_between low high line other)) (low +ℤ pos 1) ≡ int_max (int_min high line) (low +ℤ pos 1)
cut_told line other low high wide left right = grind (arith, ints)

-- the gap of two intervals is how far the one begins behind the other's end
gap_before : (a b c d : ℤ) → b <ℤ c → gap_between a b c d ≡ unsigned_abs (c -ℤ b)
gap_before a b c d before = grind (arith, ints)

gap_none : (a b c d : ℤ) → c ≤ℤ b → a ≤ℤ d → gap_between a b c d ≡ 0
gap_none a b c d first second = grind (arith, ints)

-- it is no longer than the way to the line
gap_small : (a b c d : ℤ) → a <ℤ b → c <ℤ d → a ≤ℤ c → pos (gap_between a b c d) ≤ℤ (c -ℤ a)
gap_small a b c d wide other order =
    by_lt_z b c
    (λ before. let is = gap_before a b c d before in omega (arith, ints, is))
    (λ behind. let is = gap_none a b c d behind (omega (arith, ints)) in omega (arith, ints, is))

-- where one ends left of another one, which begins left of the line, it does so when it is cut
end_kept : (line low high other : ℤ) → low <ℤ high → low ≤ℤ line → other ≤ℤ line → high <ℤ other → int_max (int_min high line) (low +ℤ pos 1) ≡ high
end_kept line low high other wide left right before = omega (arith, ints, int_max_is (int_min high line) (low +ℤ pos 1), int_min_is high line)

end_behind : (line low high other : ℤ) → low <ℤ high → low ≤ℤ line → other ≤ℤ line → other ≤ℤ high → other ≤ℤ int_max (int_min high line) (low +ℤ pos 1)
end_behind line low high other wide left right behind = omega (arith, ints, int_max_is (int_min high line) (low +ℤ pos 1), int_min_is high line)

end_within : (line low high : ℤ) → IsCoordinate low → IsCoordinate high → IsCoordinate line → low <ℤ high
    → IsCoordinate (int_max (int_min high line) (low +ℤ pos 1))
end_within line low high low_is high_is line_is wide = omega (arith, ints, int_max_is (int_min high line) (low +ℤ pos 1), int_min_is high line)

end_wide : (line low high : ℤ) → low <ℤ int_max (int_min high line) (low +ℤ pos 1)
end_wide line low high = omega (arith, ints, int_max_is (int_min high line) (low +ℤ pos 1), int_min_is high line)

gaps_kept : (line a b c d : ℤ) → a <ℤ b → c <ℤ d → a ≤ℤ line → c ≤ℤ line
    → gap_between a (int_max (int_min b line) (a +ℤ pos 1)) c (int_max (int_min d line) (c +ℤ pos 1)) ≡ gap_between a b c d
gaps_kept line a b c d wide other left right =
    by_lt_z b c
    (λ before. let same = end_kept line a b c wide left right before in rw same (grind (arith, ints)))
    (λ behind. by_lt_z d a
    (λ before. let same = end_kept line c d a other right left before in rw same (grind (arith, ints)))
    (λ over.
    let first = end_behind line a b c wide left right behind in
    let second = end_behind line c d a other right left over in
    meet_both a b c d (int_max (int_min b line) (a +ℤ pos 1)) (int_max (int_min d line) (c +ℤ pos 1)) behind over first second)) where
      meet_both : (a b c d e f : ℤ) → c ≤ℤ b → a ≤ℤ d → c ≤ℤ e → a ≤ℤ f → gap_between a e c f ≡ gap_between a b c d
      meet_both a b c d e f first second third fourth = grind (arith, ints)

pub x_gap_kept : (line : ℤ) (a b : RectModel) → IsRect a → IsRect b → a.x1 ≤ℤ line → b.x1 ≤ℤ line → x_gap (cut_at line a) (cut_at line b) ≡ x_gap a b
x_gap_kept line a b a_is b_is left right = gaps_kept line a.x1 a.x2 b.x1 b.x2 a_is.wide b_is.wide left right

-- what is cut is a rectangle
pub cut_proper : (line : ℤ) (a : RectModel) → IsRect a → a.x1 ≤ℤ line → IsCoordinate line → IsRect (cut_at line a)
cut_proper line a is left limit =
    let wide = is.wide in
    let x1 = is.x1 in
    let x2 = is.x2 in
    record { x1 = is.x1; y1 = is.y1; x2 = end_within line a.x1 a.x2 x1 x2 limit wide; y2 = is.y2; wide = end_wide line a.x1 a.x2; high = is.high }

same_sides : (x1 y1 x2 y2 : ℤ) (v : RectModel) → x1 ≡ v.x1 → y1 ≡ v.y1 → x2 ≡ v.x2 → y2 ≡ v.y2 → sides x1 y1 x2 y2 ≡ v
same_sides x1 y1 x2 y2 v a b c d = λ i. record { x1 = a i; y1 = b i; x2 = c i; y2 = d i }

-- a rectangle of these sides is made
pub sides_made : (o : Option RectModel) (x1 y1 x2 y2 : ℤ) (v : RectModel) → x1 ≡ v.x1 → y1 ≡ v.y1 → x2 ≡ v.x2 → y2 ≡ v.y2 → IsRect v
    → SomeIff o (IsRect (sides x1 y1 x2 y2)) (sides x1 y1 x2 y2) → IsSome o
sides_made o x1 y1 x2 y2 v a b c d proper made =
    let same = same_sides x1 y1 x2 y2 v a b c d in
    there_where o (IsRect (sides x1 y1 x2 y2)) (sides x1 y1 x2 y2) made (rw same proper)

pub sides_are : (o : Option RectModel) (x1 y1 x2 y2 : ℤ) (v x : RectModel) → x1 ≡ v.x1 → y1 ≡ v.y1 → x2 ≡ v.x2 → y2 ≡ v.y2
    → SomeIff o (IsRect (sides x1 y1 x2 y2)) (sides x1 y1 x2 y2) → o ≡ Some x → x ≡ v
sides_are o x1 y1 x2 y2 v x a b c d made is = value_there o (IsRect (sides x1 y1 x2 y2)) (sides x1 y1 x2 y2) x made is ∙ same_sides x1 y1 x2 y2 v a b c d

-- the left edges of two rectangles, of which the second is no further left, and the gap between them
pub record AreEdgesApart (left edge gap : ℤ) (rect other : RectModel) : Type 0 where
  pub left_is : left ≡ rect.x1
  pub edge_is : edge ≡ other.x1
  pub gap_is : gap ≡ pos (x_gap rect other)
  pub proper : IsRect rect
  pub other_proper : IsRect other
  pub order : rect.x1 ≤ℤ other.x1

-- the right edge that a gap tells
pub edge_told : (right left edge gap : ℤ) (rect other : RectModel) → AreEdgesApart left edge gap rect other
    → right ≡ int_max (to_z w64 (of_z w64 (to_z w64 (of_z w64 edge) -ℤ to_z w64 (of_z w64 gap)))) (to_z w64 (of_z w64 (to_z w64 (of_z w64 left) +ℤ pos 1)))
    → right ≡ (cut_at other.x1 rect).x2
edge_told right left edge gap rect other apart is =
    let x1 = apart.proper.x1 in
    let line = apart.other_proper.x1 in
    let small = gap_small rect.x1 rect.x2 other.x1 other.x2 apart.proper.wide apart.other_proper.wide apart.order in
    let told = rw (apart.left_is, apart.edge_is, apart.gap_is) at is in
    let left_fits : FitsSigned w64 rect.x1 = omega (arith, ints) in
    let edge_fits : FitsSigned w64 other.x1 = omega (arith, ints) in
    let gap_fits : FitsSigned w64 (pos (x_gap rect other)) = omega (arith, ints, small) in
    let end_fits : FitsSigned w64 (other.x1 -ℤ pos (x_gap rect other)) = omega (arith, ints, small) in
    let next_fits : FitsSigned w64 (rect.x1 +ℤ pos 1) = omega (arith, ints) in
    (rw (
      to_z-of_z w64 rect.x1 left_fits,
      to_z-of_z w64 other.x1 edge_fits,
      to_z-of_z w64 (pos (x_gap rect other)) gap_fits,
      to_z-of_z w64 (other.x1 -ℤ pos (x_gap rect other)) end_fits,
      to_z-of_z w64 (rect.x1 +ℤ pos 1) next_fits,
    ) at told)
    ∙ cut_told other.x1 other.x2 rect.x1 rect.x2 apart.proper.wide apart.order apart.other_proper.wide
