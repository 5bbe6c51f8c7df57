-- Names that are apart stay so when a new one is added.
use Rattle.std.proofs.Common.{◌≡◌, ℕ, List, [], ◌∷◌, ◌++◌, map, IsTrue, None, subst, sym, arith}
use Rattle.std.proofs.lemmas.List.{map-append}
use Rattle.std.proofs.lemmas.List.Elements.{All-nil, All-push}
use Rattle.leg_lex.specs.Words.{is_name}
use Rattle.leg_lex.specs.NameLookup.{place_of}
use Rattle.leg_lex.proofs.NameLookup.{apart_push}
use Rattle.leg_lib_records.specs.LibraryNames.{AreNames}

-- no names at all
pub no_names : AreNames []
no_names = record { each = All-nil (λ name. IsTrue (is_name name)); apart = λ i less. absurd (let e : ⊥ = omega (arith, less) in e) }

-- Names stay apart when a new one is added.
pub names_push : {X : Type 0} (name_of : X → List ℕ) (xs : List X) (x : X) → AreNames (map name_of xs) → IsTrue (is_name (name_of x))
    → place_of (name_of x) (map name_of xs) ≡ None → AreNames (map name_of (xs ++ x ∷ []))
names_push name_of xs x names named new =
    let all : AreNames (map name_of xs ++ name_of x ∷ []) = record {
      each = All-push (λ name. IsTrue (is_name name)) (map name_of xs) (name_of x) names.each named;
      apart = apart_push (name_of x) (map name_of xs) new names.apart;
    } in
    subst AreNames (sym (map-append name_of xs (x ∷ []))) all
