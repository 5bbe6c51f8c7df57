-- The first of some elements: what a loop that seeks it needs.
use Rattle.std.proofs.Common.{◌≡◌, ℕ, ◌+◌, ◌<◌, ◌≤◌, Bool, true, false, List, length, get_or, drop, Option, None, Some}
use Rattle.std.specs.List.{find}
use Rattle.std.proofs.lemmas.List.{drop_all}
use Rattle.leg_lex.proofs.EachElement.{at_front}

module _ {X : Type 0} (test : X → Bool) where
  -- the element that is sought
  pub found_here : (xs : List X) (i : ℕ) (x : X) (found : Option X) → i < length xs → x ≡ get_or xs i x → test x ≡ true → find test (drop i xs) ≡ found
      → Some x ≡ found
  found_here xs i x found less is this same = rw (at_front xs i x less is, this) at same

  -- another
  pub found_later : (xs : List X) (i : ℕ) (x : X) (found : Option X) → i < length xs → x ≡ get_or xs i x → test x ≡ false → find test (drop i xs) ≡ found
      → find test (drop (i + 1) xs) ≡ found
  found_later xs i x found less is other same = rw (at_front xs i x less is, other) at same

  -- no element is left
  pub found_nowhere : (xs : List X) (i : ℕ) (found : Option X) → length xs ≤ i → find test (drop i xs) ≡ found → None ≡ found
  found_nowhere xs i found past same = rw (drop_all i xs past) at same
