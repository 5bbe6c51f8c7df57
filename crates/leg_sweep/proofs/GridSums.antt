-- Sums over items, layer by layer.
use Rattle.std.proofs.Common.{◌≡◌, ℕ, zero, suc, ◌+◌, ◌*◌, ◌<◌, ◌≤◌, Bool, true, false, cond, eqb, ltb, List, [], ◌∷◌, length, get_or, map, count_by, sum_by, All, refl, ap, sym, ◌∙◌, arith}
use Rattle.std.specs.List.{range_with_len}
use Rattle.std.proofs.lemmas.Bool.{eqb-true, lt-ltb, le-ltb}
use Rattle.std.proofs.lemmas.Bool.Decides.{nat_tests}
use Rattle.std.proofs.lemmas.List.Elements.{All-head, All-tail}
use Rattle.std.proofs.lemmas.List.FromFn.{fill_by_all}
use Rattle.std.proofs.lemmas.List.Sums.{sum_by-cons, count_by-le-length}
use Rattle.std.proofs.Math.Nat.{le_of_mul-le-mul_left}

module _ {X Y : Type 0} (f : Y → ℕ) (g : X → Y) where
  -- a sum over a mapped list
  pub sum_by-map : (xs : List X) → sum_by f (map g xs) ≡ sum_by (λ x. f (g x)) xs
  sum_by-map [] = refl
  sum_by-map (x ∷ xs) = omega (arith, sum_by-cons f (g x) (map g xs), sum_by-cons (λ y. f (g y)) x xs, sum_by-map xs)

-- a sum over the places of a list
pub sum_by_places : {X : Type 0} (f : X → ℕ) (xs : List X) (d : X) → sum_by (λ k. f (get_or xs k d)) (range_with_len 0 (length xs)) ≡ sum_by f xs
sum_by_places {X} f xs d =
    let read : ℕ → X = λ (k : ℕ). get_or xs k d in
    let is : xs ≡ map read (range_with_len 0 (length xs)) = fill_by_all read xs (length xs) d refl (λ k within. refl) in
    sym (sum_by-map f read (range_with_len 0 (length xs))) ∙ ap (λ ys. sum_by f ys) (sym is)

-- one layer more
one_more_layer : (layer above n : ℕ) → cond (ltb layer (suc above)) n 0 ≡ cond (ltb layer above) n 0 + cond (eqb layer above) n 0
one_more_layer layer above n = grind (arith, nat_tests)

module _ {Item : Type 0} (layer_of : Item → ℕ) where
  -- what a function is on a layer, and 0 elsewhere
  abbrev pub on_layer : (Item → ℕ) → ℕ → Item → ℕ
  on_layer f layer a = cond (eqb (layer_of a) layer) (f a) 0

  -- what it is on the layers below one
  abbrev pub on_layers_below : (Item → ℕ) → ℕ → Item → ℕ
  on_layers_below f layer a = cond (ltb (layer_of a) layer) (f a) 0

  below_none : (f : Item → ℕ) (items : List Item) → sum_by (on_layers_below f 0) items ≡ 0
  below_none f [] = refl
  below_none f (a ∷ items) =
      let nothing : on_layers_below f 0 a ≡ 0 = ap (λ below. cond below (f a) 0) (le-ltb (layer_of a) 0 (omega arith)) in
      omega (arith, sum_by-cons (on_layers_below f 0) a items, nothing, below_none f items)

  below_more : (f : Item → ℕ) (layer : ℕ) (items : List Item)
      → sum_by (on_layers_below f (suc layer)) items ≡ sum_by (on_layers_below f layer) items + sum_by (on_layer f layer) items
  below_more f layer [] = refl
  below_more f layer (a ∷ items) =
      omega (
        arith,
        sum_by-cons (on_layers_below f (suc layer)) a items,
        sum_by-cons (on_layers_below f layer) a items,
        sum_by-cons (on_layer f layer) a items,
        one_more_layer (layer_of a) layer (f a),
        below_more f layer items,
      )

  below_all : (f : Item → ℕ) (layers : ℕ) (items : List Item) → All (λ a. layer_of a < layers) items → sum_by (on_layers_below f layers) items ≡ sum_by f items
  below_all f layers [] all = refl
  below_all f layers (a ∷ items) all =
      let whole : on_layers_below f layers a ≡ f a =
      ap (λ below. cond below (f a) 0) (lt-ltb (layer_of a) layers (All-head (λ b. layer_of b < layers) a items all)) in
      omega (
        arith,
        sum_by-cons (on_layers_below f layers) a items,
        whole,
        sum_by-cons f a items,
        below_all f layers items (All-tail (λ b. layer_of b < layers) a items all),
      )

  -- a function that comes to three an item on each of the layers below
  below_thrice : (f : Item → ℕ) (items : List Item) (layers : ℕ)
      → ((layer : ℕ) → layer < layers → sum_by (on_layer f layer) items ≤ 3 * sum_by (on_layer (λ _. 1) layer) items)
      → sum_by (on_layers_below f layers) items ≤ 3 * sum_by (on_layers_below (λ _. 1) layers) items
  below_thrice f items zero each = omega (arith, below_none f items)
  below_thrice f items (suc layers) each =
      omega (
        arith,
        below_more f layers items,
        below_more (λ _. 1) layers items,
        below_thrice f items layers (λ layer below. each layer (omega arith)),
        each layers (omega arith),
      )

  -- comes to three an item in all
  pub sum_thrice : (f : Item → ℕ) (items : List Item) (layers : ℕ) → All (λ a. layer_of a < layers) items
      → ((layer : ℕ) → layer < layers → sum_by (on_layer f layer) items ≤ 3 * count_by (λ a. eqb (layer_of a) layer) items) → sum_by f items ≤ 3 * length items
  sum_thrice f items layers all each =
      omega (
        arith,
        below_all f layers items all,
        below_thrice f items layers each,
        count_by-le-length (λ a. ltb (layer_of a) layers) items,
      )

-- one item more, on the layer or not
sums_more : (height reach e c t es cs ts es' cs' ts' : ℕ) → es' ≡ e + es → cs' ≡ c + cs → ts' ≡ t + ts → height * e ≤ (2 * height + reach) * c + t
    → height * es ≤ (2 * height + reach) * cs + ts → height * es' ≤ (2 * height + reach) * cs' + ts'
sums_more height reach e c t es cs ts es' cs' ts' es_is cs_is ts_is here so_far = rw (es_is, cs_is, ts_is) (omega (arith, here, so_far))

taken_here : (here : Bool) (height reach e t : ℕ) → (here ≡ true → height * e ≤ 2 * height + (t + reach))
    → height * cond here e 0 ≤ (2 * height + reach) * cond here 1 0 + cond here t 0
taken_here true height reach e t taken = omega (arith, taken refl)
taken_here false height reach e t taken = omega arith

module _ {Item : Type 0} (layer_of : Item → ℕ) (layer height reach : ℕ) (entries tall : Item → ℕ) where
  abbrev Takes : Item → Type 0
  Takes a = layer_of a ≡ layer → height * entries a ≤ 2 * height + (tall a + reach)

  -- what the items of a layer take of its bands
  layer_taken : (items : List Item) → All Takes items
      → height * sum_by (on_layer layer_of entries layer) items ≤ (2 * height + reach) * count_by (λ a. eqb (layer_of a) layer) items + sum_by
      (on_layer layer_of tall layer) items
  layer_taken [] each = omega arith
  layer_taken (a ∷ items) each =
      let here : Takes a = All-head Takes a items each in
      let rest = layer_taken items (All-tail Takes a items each) in
      sums_more height reach _ _ _ _ _ _ _ _ _
      (sum_by-cons (on_layer layer_of entries layer) a items)
      (sum_by-cons (λ b. cond (eqb (layer_of b) layer) 1 0) a items)
      (sum_by-cons (on_layer layer_of tall layer) a items)
      (taken_here (eqb (layer_of a) layer) height reach (entries a) (tall a) (λ same. here (eqb-true (layer_of a) layer same)))
      rest

  -- three bands an item where the bands have room for all items with the reach
  pub layer_thrice : (items : List Item) (count total : ℕ) → All Takes items → 0 < height → count ≡ count_by (λ a. eqb (layer_of a) layer) items
      → total ≡ sum_by (on_layer layer_of tall layer) items → total + count * reach ≤ count * height
      → sum_by (on_layer layer_of entries layer) items ≤ 3 * count_by (λ a. eqb (layer_of a) layer) items
  layer_thrice items count total each some count_is total_is room =
      let taken = rw (← count_is, ← total_is) at (layer_taken items each) in
      rw (← count_is) (le_of_mul-le-mul_left {k = height} (omega (arith, taken, room)) some)
