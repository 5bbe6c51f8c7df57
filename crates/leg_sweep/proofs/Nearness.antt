-- Gaps of rectangles, and tests of them by number.
use Rattle.std.proofs.Common.{◌≡◌, ℕ, ◌≤◌, true, leb, ℤ, ◌≤ℤ◌, ◌<ℤ◌, List, length, get_or, All, inl, inr, ap, arith, rules}
use Rattle.std.proofs.lemmas.Bool.{cases_lt, leb-true, le-leb}
use Rattle.std.proofs.lemmas.Int.{ints}
use Rattle.std.proofs.lemmas.List.{get_or_past}
use Rattle.leg_geom.specs.Plane.{RectModel, IsRect}
use Rattle.leg_geom.specs.Gap.{gap_between, x_gap, y_gap}
use Rattle.leg_sweep.specs.Counts.{near_along_x, near_along_both}
use Rattle.leg_sweep.specs.Steps.Sweep.{unit_square, rect_numbered, test_at}

gap_symmetric : (a b c d : ℤ) → a <ℤ b → c <ℤ d → gap_between a b c d ≡ gap_between c d a b
gap_symmetric a b c d long_a long_c = grind (arith, ints)

-- the gap from an interval on the left grows to the right
gap_grows : (a b c d e f : ℤ) → c <ℤ d → a ≤ℤ c → c ≤ℤ e → gap_between a b c d ≤ gap_between a b e f
gap_grows a b c d e f long first second = grind (arith, ints)

pub x_gap_symmetric : (a b : RectModel) → IsRect a → IsRect b → x_gap a b ≡ x_gap b a
x_gap_symmetric a b is_a is_b = gap_symmetric a.x1 a.x2 b.x1 b.x2 is_a.wide is_b.wide

pub y_gap_symmetric : (a b : RectModel) → IsRect a → IsRect b → y_gap a b ≡ y_gap b a
y_gap_symmetric a b is_a is_b = gap_symmetric a.y1 a.y2 b.y1 b.y2 is_a.high is_b.high

module _ (rects : List RectModel) (proper : All IsRect rects) where
  rect_at_proper : (i : ℕ) → IsRect (rect_numbered rects i)
  rect_at_proper i =
      elim (cases_lt i (length rects)) [
        | inl within ↦ proper i unit_square within
        | inr past ↦
            let is : get_or rects i unit_square ≡ unit_square = get_or_past rects i unit_square past in
            rw is (record { x1 = omega arith; y1 = omega arith; x2 = omega arith; y2 = omega arith; wide = search rules; high = search rules })
      ]

  pub near_along_x_symmetric : (reach i j : ℕ) → test_at (near_along_x reach) rects i j ≡ test_at (near_along_x reach) rects j i
  near_along_x_symmetric reach i j = ap (λ n. leb n reach) (x_gap_symmetric _ _ (rect_at_proper i) (rect_at_proper j))

  pub near_along_both_symmetric : (reach i j : ℕ) → test_at (near_along_both reach) rects i j ≡ test_at (near_along_both reach) rects j i
  near_along_both_symmetric reach i j =
      let x : x_gap (rect_numbered rects i) (rect_numbered rects j) ≡ x_gap (rect_numbered rects j) (rect_numbered rects i) =
      x_gap_symmetric _ _ (rect_at_proper i) (rect_at_proper j) in
      let y : y_gap (rect_numbered rects i) (rect_numbered rects j) ≡ y_gap (rect_numbered rects j) (rect_numbered rects i) =
      y_gap_symmetric _ _ (rect_at_proper i) (rect_at_proper j) in
      cc

  -- what is near the last of three from the left is near the middle one
  pub near_between : (reach i j k : ℕ) → (rect_numbered rects i).x1 ≤ℤ (rect_numbered rects j).x1 → (rect_numbered rects j).x1 ≤ℤ (rect_numbered rects k).x1
      → test_at (near_along_x reach) rects i k ≡ true → test_at (near_along_x reach) rects i j ≡ true
  near_between reach i j k first second near =
      let a = rect_numbered rects i in
      let b = rect_numbered rects j in
      let c = rect_numbered rects k in
      let grows = gap_grows a.x1 a.x2 b.x1 b.x2 c.x1 c.x2 (rect_at_proper j).wide first second in
      le-leb (x_gap a b) reach (let far = leb-true (x_gap a c) reach near in omega (arith, grows, far))
