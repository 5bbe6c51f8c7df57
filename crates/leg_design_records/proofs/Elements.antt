-- What a slice's get answers, is the element of that place.
use Rattle.std.proofs.Common.{◌≡◌, ℕ, ◌<◌, ◌≤◌, ◌-◌, ◌++◌, List, length, get_or, slice_get, Option, nat_lt, option_map, Bor, sym, ◌∙◌, arith}
use Rattle.std.specs.Option.{is_some, IfSome}
use Rattle.leg_lemmas.proofs.Places.{in_first, get_behind, got_is}

-- an element of the first of two lists
pub got_first : {X : Type 0} (xs ys : List X) (i : ℕ) (got : Option (Bor X)) → i < length xs → is_some got ≡ nat_lt i (length xs)
    → IfSome got (λ x. x.now ≡ get_or xs i x.now) → option_map (λ x. x.now) got ≡ slice_get (xs ++ ys) i
got_first xs ys i got less found is = got_is xs i got found is ∙ sym (in_first xs ys i less)

-- an element of the second
pub got_second : {X : Type 0} (xs ys : List X) (i : ℕ) (got : Option (Bor X)) → length xs ≤ i → is_some got ≡ nat_lt (i - length xs) (length ys)
    → IfSome got (λ x. x.now ≡ get_or ys (i - length xs) x.now) → option_map (λ x. x.now) got ≡ slice_get (xs ++ ys) i
got_second xs ys i got past found is =
    got_is ys (i - length xs) got found is ∙ sym (get_behind xs ys i (i - length xs) (omega arith))
