-- The vias of the library count before those of the design.
use Rattle.std.proofs.Common.{◌≡◌, ℕ, ◌+◌, ◌<◌, ◌≤◌, ◌-◌, ◌++◌, List, length, get_or, slice_get, Option, None, Some, nat_lt, option_map, Bor, refl, sym, arith}
use Rattle.leg_lex.specs.NameLookup.{place_of}
use Rattle.leg_lex.proofs.NameLookup.{place_stands}
use Rattle.leg_lib_records.specs.Records.{LibraryModel, ViaModel, via_names}
use Rattle.leg_design_records.specs.Records.{design_via_names}
use Rattle.std.specs.Option.{is_some, IfSome, option_or, option_copied}
use Rattle.std.proofs.lemmas.List.{length-map}
use Rattle.std.proofs.lemmas.Bool.Decides.{nat_tests}
use Rattle.std.proofs.lemmas.Option.{slice_get_past, slice_get_read}
use Rattle.leg_lemmas.proofs.Places.{get_behind}

-- an element of the second
pub in_second : {X : Type 0} (xs ys : List X) (i : ℕ) → length xs ≤ i → slice_get (xs ++ ys) i ≡ slice_get ys (i - length xs)
in_second xs ys i past = get_behind xs ys i (i - length xs) (omega arith)

-- what a slice's get answers, is the element of that place
pub got_is : {X : Type 0} (xs : List X) (i : ℕ) (got : Option (Bor X)) → is_some got ≡ nat_lt i (length xs) → IfSome got (λ x. x.now ≡ get_or xs i x.now)
    → option_copied got ≡ slice_get xs i
got_is xs i None found is = sym (slice_get_past xs i (grind (arith, nat_tests)))
got_is xs i (Some x) found is = sym (slice_get_read xs (length xs) i x.now refl (grind (arith, nat_tests)) is)

-- a via that has a name stands among the vias
pub place_within : (name : List ℕ) (vias : List ViaModel) (number : ℕ) → Some number ≡ place_of name (design_via_names vias) → number < length vias
place_within name vias number is =
    let stands = place_stands name (design_via_names vias) number (sym is) in
    let within = stands.within in
    rw (length-map vias (λ v. v.name)) at within

-- a via that the library hasn't, counts behind those of the library
pub named_second : (library : LibraryModel) (vias : List ViaModel) (name : List ℕ) (number : ℕ) → None ≡ place_of name (via_names library)
    → Some number ≡ place_of name (design_via_names vias)
    → Some (length library.vias + number) ≡ option_or (place_of name (via_names library))
    (option_map (λ k. length library.vias + k) (place_of name (design_via_names vias)))
named_second library vias name number none found = rw (← none, ← found) refl
