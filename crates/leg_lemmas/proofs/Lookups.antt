-- Look-ups in a list of entries.
use Rattle.std.proofs.Common.{◌≡◌, Bool, List, [], ◌∷◌, refl}
use Rattle.std.specs.Map.{lookup}

-- tests that agree find the same
pub lookup_agrees : {K X : Type 0} (p q : K → Bool) → ((k : K) → p k ≡ q k) → (es : List (K × X)) → lookup p es ≡ lookup q es
lookup_agrees p q agree [] = refl
lookup_agrees p q agree (e ∷ es) = rw (agree e.0, lookup_agrees p q agree es) refl
