-- What the order from left to right says of places in it.
use Rattle.std.proofs.Common.{◌≡◌, ℕ, ◌+◌, ◌-◌, ◌<◌, ◌≤◌, ◌≤ℤ◌, ◌*◌, ◌^◌, Bool, true, List, length, get_or, map, All, IsPermutation, refl, ap, arith}
use Rattle.std.specs.List.{range_with_len}
use Rattle.std.proofs.lemmas.List.Elements.{All-from_get_or}
use Rattle.std.proofs.lemmas.List.FromFn.{length-range_with_len, get_or-range_with_len, fill_by_all}
use Rattle.std.proofs.lemmas.List.Sorted.{All-permutation, length_permutation}
use Rattle.std.proofs.lemmas.Nat.{mul-le}
use Rattle.leg_geom.specs.Plane.{RectModel}
use Rattle.leg_sweep.specs.Counts.{near_along_x, near_along_both, count_pairs}
use Rattle.leg_sweep.specs.Steps.Sweep.{unit_square, rect_numbered, test_at, IsLeftToRight}
use Rattle.leg_sweep.proofs.Apart.{numbers_apart}
use Rattle.leg_sweep.proofs.Counts.{count_pairs-map, count_pairs-IsPermutation}
use Rattle.leg_sweep.proofs.Nearness.{near_between, near_along_x_symmetric, near_along_both_symmetric}
use Rattle.leg_sweep.proofs.Progress.{place_of, numbers_contain}

-- numbers up to n in another order are below n
numbers_below : (n : ℕ) (order : List ℕ) → IsPermutation (range_with_len 0 n) order → All (λ x. x < n) order
numbers_below n order moved =
    All-permutation (λ x. x < n) (range_with_len 0 n) order moved
    (All-from_get_or (λ x. x < n) (range_with_len 0 n) 0 (λ i within.
    let below : i < n = omega (arith, length-range_with_len 0 n, within) in
    rw (get_or-range_with_len 0 n i 0 below) (omega arith)))

module _ (rects : List RectModel) (order : List ℕ) (sorted : IsLeftToRight rects order) where
  pub order_below : (a : ℕ) → a < length order → get_or order a 0 < length rects
  order_below a within = numbers_below (length rects) order sorted.numbers a 0 within

  pub order_differs : (a b : ℕ) → a < b → b < length order → get_or order a 0 ≡ get_or order b 0 → ⊥
  order_differs a b below within = numbers_apart (length rects) order sorted.numbers a b below within

  -- what is near the last of three is near the middle one
  pub order_between : (reach a b c : ℕ) → a ≤ b → b ≤ c → c < length order → test_at (near_along_x reach) rects (get_or order a 0) (get_or order c 0) ≡ true
      → test_at (near_along_x reach) rects (get_or order a 0) (get_or order b 0) ≡ true
  order_between reach a b c first second within near =
      near_between rects sorted.proper reach (get_or order a 0) (get_or order b 0) (get_or order c 0) (sorted.rising a b first (omega arith))
      (sorted.rising b c second within) near

  -- a count over the order is one over the rectangles
  count_in_order : (test : RectModel → RectModel → Bool) → ((i j : ℕ) → test_at test rects i j ≡ test_at test rects j i)
      → count_pairs (test_at test rects) order ≡ count_pairs test rects
  count_in_order test symmetric =
      let numbers = range_with_len 0 (length rects) in
      let filled : rects ≡ map (rect_numbered rects) numbers = fill_by_all (rect_numbered rects) rects (length rects) unit_square refl (λ k below. refl) in
      let moved = count_pairs-IsPermutation (test_at test rects) symmetric numbers order sorted.numbers in
      let mapped = count_pairs-map test (rect_numbered rects) numbers in
      let whole = ap (λ list. count_pairs test list) filled in
      omega (arith, moved, mapped, whole)

  pub near_in_order : (reach : ℕ) → count_pairs (test_at (near_along_x reach) rects) order ≡ count_pairs (near_along_x reach) rects
  near_in_order reach = count_in_order (near_along_x reach) (near_along_x_symmetric rects sorted.proper reach)

  pub both_in_order : (reach : ℕ) → count_pairs (test_at (near_along_both reach) rects) order ≡ count_pairs (near_along_both reach) rects
  both_in_order reach = count_in_order (near_along_both reach) (near_along_both_symmetric rects sorted.proper reach)

  pub length_order : length order ≡ length rects
  length_order = omega (arith, length_permutation (range_with_len 0 (length rects)) order sorted.numbers, length-range_with_len 0 (length rects))

-- the looks at all items fit into a count
pub looks_fit : (n start entries pairs met looks : ℕ) → n < 2 ^ 32 → start ≤ n → entries < 2 ^ 62 → pairs + pairs ≤ n * n → met ≤ n
    → looks ≤ start + entries + pairs → looks + met < 2 ^ 64
looks_fit n start entries pairs met looks few seen short half at_most so_far = omega (arith, half, mul-le n n 4294967295 4294967295 (omega arith) (omega arith))

-- the last of the order begins furthest right
pub last_furthest : (rects : List RectModel) (order : List ℕ) → IsLeftToRight rects order → (x : ℕ) → x < length rects
    → (rect_numbered rects x).x1 ≤ℤ (rect_numbered rects (get_or order (length order - 1) 0)).x1
last_furthest rects order sorted x within =
    let place = place_of order x (numbers_contain order (length rects) x sorted.numbers within) in
    rw place.2 at (sorted.rising place.0 (length order - 1) (omega (arith, place.1)) (omega (arith, place.1)))

-- what is looked at beside the pairs of n items fits into a count
pub pairs_fit : (n pairs looks start more : ℕ) → n < 2 ^ 32 → pairs + pairs ≤ n * n → start ≤ 2 * n → looks ≤ start + pairs → more < n → looks + more < 2 ^ 64
pairs_fit n pairs looks start more few half seen so_far below = omega (arith, half, mul-le n n 4294967295 4294967295 (omega arith) (omega arith))
