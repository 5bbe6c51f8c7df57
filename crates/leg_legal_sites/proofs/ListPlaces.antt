-- Elements of a list by their numbers, in a list in which one is another.
use Rattle.std.proofs.Common.{◌≡◌, ◌≢◌, ℕ, ◌<◌, List, Some, slice_get, length, set, sym, ap, ◌∙◌, arith, length-set, get_or-set_other}
use Rattle.std.proofs.lemmas.Grind.{get_or-set_at}
use Rattle.std.proofs.lemmas.Option.{slice_get-get_or, slice_get_within, get_or_from_slice_get}

module _ {X : Type 0} where
  pub slice_get-set_same : (xs : List X) (i j : ℕ) (y b : X) → j ≡ i → slice_get (set xs i y) j ≡ Some b → b ≡ y
  slice_get-set_same xs i j y b same at =
      let all : length (set xs i y) ≡ length xs = length-set xs i y in
      let below : j < length (set xs i y) = slice_get_within (set xs i y) j b at in
      let within : i < length xs = omega (arith, below, all, same) in
      sym (get_or_from_slice_get (set xs i y) j b b at) ∙ get_or-set_at xs i j y b same within

  pub slice_get-set_other : (xs : List X) (i j : ℕ) (y b : X) → j ≢ i → slice_get (set xs i y) j ≡ Some b → slice_get xs j ≡ Some b
  slice_get-set_other xs i j y b differ at =
      let all : length (set xs i y) ≡ length xs = length-set xs i y in
      let below : j < length (set xs i y) = slice_get_within (set xs i y) j b at in
      let within : j < length xs = omega (arith, below, all) in
      slice_get-get_or xs j b within ∙ ap Some (sym (get_or-set_other xs i j y b differ) ∙ get_or_from_slice_get (set xs i y) j b b at)

  -- the new one stands where the other one stood
  pub set_there : (xs : List X) (i j : ℕ) (x y : X) → j ≡ i → slice_get xs j ≡ Some x → slice_get (set xs i y) j ≡ Some y
  set_there xs i j x y same at =
      let within : j < length xs = slice_get_within xs j x at in
      slice_get-get_or (set xs i y) j y (omega (arith, within, length-set xs i y)) ∙ ap Some (get_or-set_at xs i j y y same (omega (arith, within, same)))
