-- Lists whose elements are alike one by one.
use Rattle.std.proofs.Common.{◌≡◌, ℕ, zero, suc, ◌<◌, ◌≤◌, List, [], ◌∷◌, length, get_or, take, map, refl, arith}

module _ {X Y Z : Type 0} (f : X → Z) (g : Y → Z) where
  -- the first list is the front of the second, where its elements are those of the second one by one
  pub front_alike : (xs : List X) (ys : List Y) → length xs ≤ length ys
      → ((k : ℕ) (d : X) (e : Y) → k < length xs → f (get_or xs k d) ≡ g (get_or ys k e)) → map f xs ≡ take (length xs) (map g ys)
  front_alike [] ys less alike = refl
  front_alike (x ∷ xs) [] less alike = absurd (omega arith)
  front_alike (x ∷ xs) (y ∷ ys) less alike =
      let head : f x ≡ g y = alike 0 x y (omega arith) in
      let tail : map f xs ≡ take (length xs) (map g ys) = front_alike xs ys (omega arith) (λ k d e within. alike (suc k) d e (omega arith)) in
      λ i. head i ∷ tail i

  -- the same of two lists of one length
  pub all_alike : (xs : List X) (ys : List Y) → length xs ≡ length ys
      → ((k : ℕ) (d : X) (e : Y) → k < length xs → f (get_or xs k d) ≡ g (get_or ys k e)) → map f xs ≡ map g ys
  all_alike [] [] same alike = refl
  all_alike [] (y ∷ ys) same alike = absurd (omega arith)
  all_alike (x ∷ xs) [] same alike = absurd (omega arith)
  all_alike (x ∷ xs) (y ∷ ys) same alike =
      let head : f x ≡ g y = alike 0 x y (omega arith) in
      let tail : map f xs ≡ map g ys = all_alike xs ys (omega arith) (λ k d e within. alike (suc k) d e (omega arith)) in
      λ i. head i ∷ tail i

  pub alike_at : (xs : List X) (ys : List Y) (k : ℕ) (d : X) (e : Y) → map f xs ≡ map g ys → k < length xs → f (get_or xs k d) ≡ g (get_or ys k e)
  alike_at [] ys k d e same within = absurd (omega arith)
  alike_at (x ∷ xs) [] k d e same within = absurd (let no : ⊥ = cc in no)
  alike_at (x ∷ xs) (y ∷ ys) zero d e same within = let head : f x ≡ g y = cc in head
  alike_at (x ∷ xs) (y ∷ ys) (suc k) d e same within =
      let tail : map f xs ≡ map g ys = cc in
      alike_at xs ys k d e tail (omega arith)

-- lists are the same that have the same elements
pub same_elements : {X : Type 0} (xs ys : List X) → length xs ≡ length ys → ((k : ℕ) (d e : X) → k < length xs → get_or xs k d ≡ get_or ys k e) → xs ≡ ys
same_elements [] [] same alike = refl
same_elements [] (y ∷ ys) same alike = absurd (omega arith)
same_elements (x ∷ xs) [] same alike = absurd (omega arith)
same_elements (x ∷ xs) (y ∷ ys) same alike =
    let head : x ≡ y = alike 0 x y (omega arith) in
    let tail : xs ≡ ys = same_elements xs ys (omega arith) (λ k d e within. alike (suc k) d e (omega arith)) in
    λ i. head i ∷ tail i

-- the same, where what stands beyond them is one value
pub same_at_each : {X : Type 0} (xs ys : List X) (beyond : X) → length xs ≡ length ys
    → ((k : ℕ) → k < length xs → get_or xs k beyond ≡ get_or ys k beyond) → xs ≡ ys
same_at_each [] [] beyond same alike = refl
same_at_each [] (y ∷ ys) beyond same alike = absurd (omega arith)
same_at_each (x ∷ xs) [] beyond same alike = absurd (omega arith)
same_at_each (x ∷ xs) (y ∷ ys) beyond same alike =
    let head : x ≡ y = alike 0 (omega arith) in
    let tail : xs ≡ ys = same_at_each xs ys beyond (omega arith) (λ k within. alike (suc k) (omega arith)) in
    λ i. head i ∷ tail i
