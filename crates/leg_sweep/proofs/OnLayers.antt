-- Counts of pairs that stand in a common band, and of pairs on one layer.
use Rattle.std.proofs.Common.{◌≡◌, ℕ, ◌<◌, ◌≤◌, ◌==◌, Bool, true, ◌&&◌, zero, suc, List, [], ◌∷◌, length, get_or, map, Contains, refl, sym, ap, ◌∙◌, arith}
use Rattle.std.specs.Cmp.{both_ways}
use Rattle.std.specs.Cmp.Derive.{both_true}
use Rattle.std.specs.List.{range_with_len}
use Rattle.std.proofs.lemmas.Bool.{eqb-true, eq-eqb, and_parts}
use Rattle.std.proofs.lemmas.List.{length-map}
use Rattle.std.proofs.lemmas.List.FromFn.{fill_by_all}
use Rattle.leg_geom.specs.Plane.{RectModel}
use Rattle.leg_sweep.specs.declared.band.BandRange.{BandRange}
use Rattle.leg_sweep.specs.Counts.{count_pairs}
use Rattle.leg_sweep.specs.Steps.Bands.{Waiting, share_band, reach_at, AreByLayer}
use Rattle.leg_sweep.specs.Steps.Sweep.{unit_square, rect_numbered, test_at, IsLeftToRight}
use Rattle.leg_sweep.proofs.Counts.{count_pairs-le, count_pairs-map, count_pairs-IsPermutation}
use Rattle.leg_sweep.proofs.Places.{order_below}
use Rattle.leg_sweep.proofs.Progress.{place_of}

-- two things of an element, by its place
read_both : {X Y Z : Type 0} (f : X → Y) (h : X → Z) (xs : List X) (k : ℕ) (d : Y) (e : Z)
    → ◌≡◌ {A = Y × Z} (get_or (map (λ x. (f x, h x)) xs) k (d, e)) (get_or (map f xs) k d, get_or (map h xs) k e)
read_both f h [] k d e = refl
read_both f h (x ∷ xs) zero d e = refl
read_both f h (x ∷ xs) (suc k) d e = read_both f h xs k d e

-- a rectangle on a layer, and another one on it
abbrev on_one_layer : (ℕ → RectModel → RectModel → Bool) → (ℕ → ℕ) → RectModel × ℕ → RectModel × ℕ → Bool
on_one_layer test reach_of p q = (p.1 == q.1) && test (reach_of p.1) p.0 q.0

module _ (test : ℕ → RectModel → RectModel → Bool) (reach_of : ℕ → ℕ) (rects : List RectModel) (layers : List ℕ)
    (symmetric : (reach i j : ℕ) → test_at (test reach) rects i j ≡ test_at (test reach) rects j i) where
  one_way : (i j : ℕ) → on_one_layer test reach_of (rect_numbered rects i, get_or layers i 0) (rect_numbered rects j, get_or layers j 0) ≡ true
      → on_one_layer test reach_of (rect_numbered rects j, get_or layers j 0) (rect_numbered rects i, get_or layers i 0) ≡ true
  one_way i j passes =
      let split = and_parts (get_or layers i 0 == get_or layers j 0) (test_at (test (reach_of (get_or layers i 0))) rects i j) passes in
      let same : get_or layers i 0 ≡ get_or layers j 0 = eqb-true _ _ split.0 in
      let turned : test_at (test (reach_of (get_or layers i 0))) rects j i ≡ true = sym (symmetric (reach_of (get_or layers i 0)) i j) ∙ split.1 in
      both_true (eq-eqb _ _ (sym same)) (rw same at turned)

  layer_symmetric : (i j : ℕ) → on_one_layer test reach_of (rect_numbered rects i, get_or layers i 0) (rect_numbered rects j, get_or layers j 0)
      ≡ on_one_layer test reach_of (rect_numbered rects j, get_or layers j 0) (rect_numbered rects i, get_or layers i 0)
  layer_symmetric i j = both_ways _ _ (one_way i j) (one_way j i)

-- pairs that stand in a common band are no more than those on one layer
pub on_layers : {Item : Type 0} (test : ℕ → RectModel → RectModel → Bool) (reach_of : ℕ → ℕ) (rect_of : Item → RectModel) (layer_of : Item → ℕ)
    (items : List Item)
    → ((reach i j : ℕ) → test_at (test reach) (map rect_of items) i j ≡ test_at (test reach) (map rect_of items) j i)
    → (ranges : List BandRange) (bands : List Waiting) (order : List ℕ) → IsLeftToRight (map rect_of items) order
    → AreByLayer (map layer_of items) reach_of ranges bands
    → count_pairs (λ x y. share_band ranges x y && test_at (test (reach_at ranges bands x)) (map rect_of items) x y) order
    ≤ count_pairs (λ a b. (layer_of a == layer_of b) && test (reach_of (layer_of a)) (rect_of a) (rect_of b)) items
on_layers {Item} test reach_of rect_of layer_of items symmetric ranges bands order sorted by_layer =
    let rects = map rect_of items in
    let layers = map layer_of items in
    let numbers = range_with_len 0 (length rects) in
    let at : ℕ → RectModel × ℕ = λ i. (rect_numbered rects i, get_or layers i 0) in
    let by_number = λ (i j : ℕ). on_one_layer test reach_of (at i) (at j) in
    let both : Item → RectModel × ℕ = λ a. (rect_of a, layer_of a) in
    let below : (x : ℕ) → Contains order x → x < length layers = λ x c.
    let place = place_of order x c in
    let inside : get_or order place.0 0 < length layers =
    omega (arith, order_below rects order sorted place.0 place.1, length-map items rect_of, length-map items layer_of) in
    rw place.2 at inside in
    let fewer = count_pairs-le (λ x y. share_band ranges x y && test_at (test (reach_at ranges bands x)) rects x y) by_number order
    (λ x y in_x in_y passes.
    let split = and_parts (share_band ranges x y) (test_at (test (reach_at ranges bands x)) rects x y) passes in
    let same = by_layer.apart x y (below x in_x) (below y in_y) split.0 in
    both_true (eq-eqb _ _ same) (rw (by_layer.reach x (below x in_x)) at split.1)) in
    let moved = count_pairs-IsPermutation by_number (layer_symmetric test reach_of rects layers symmetric) numbers order sorted.numbers in
    let listed : map both items ≡ map at numbers =
    fill_by_all at (map both items) (length rects) (unit_square, 0) (length-map items both ∙ sym (length-map items rect_of))
    (λ k within. read_both rect_of layer_of items k unit_square 0) in
    let of_numbers = count_pairs-map (on_one_layer test reach_of) at numbers in
    let of_items = count_pairs-map (on_one_layer test reach_of) both items in
    let whole = ap (λ list. count_pairs (on_one_layer test reach_of) list) listed in
    omega (arith, fewer, moved, of_numbers, of_items, whole)
