-- Whether an entry of one design has one of its name in the other.
use Rattle.std.proofs.Common.{◌≡◌, ◌≢◌, ℕ, ◌<◌, Bool, true, false, not, List, [], length, get_or, Option, None, Some, refl, sym, ap, ◌∙◌}
use Rattle.std.specs.Prelude.{is_some}
use Rattle.leg_lex.specs.NameLookup.{place_of}
use Rattle.leg_design_records.specs.Records.{DesignModel}
use Rattle.leg_rules.specs.declared.difference.Section.{Section}
use Rattle.leg_rules.specs.Compare.Sections.{names_of, IsMissing}

module _ (section : Section) (first second : DesignModel) (i : ℕ) (name : List ℕ) (others : List (List ℕ)) (found : Option ℕ) where
  -- its name is looked up among those of the other design
  abbrev pub IsLookedUp : Type 0
  IsLookedUp = (others ≡ names_of section second) × (name ≡ get_or (names_of section first) i []) × (found ≡ place_of name others)

  looked_up : IsLookedUp → place_of (get_or (names_of section first) i []) (names_of section second) ≡ found
  looked_up h = sym (h.2 ∙ ap (λ n. place_of n others) h.1 ∙ ap (place_of (get_or (names_of section first) i [])) h.0)

  pub is_missing : IsLookedUp → i < length (names_of section first) → found ≡ None → IsMissing section first second i
  is_missing h less none = record { there = less; gone = looked_up h ∙ none }

  pub not_missing : IsLookedUp → found ≢ None → ¬ IsMissing section first second i
  not_missing h some missing = some (sym (looked_up h) ∙ missing.gone)

-- the test of what is found
pub is_nothing : (o : Option ℕ) (r : Bool) → is_some o ≡ not r → r ≡ true → o ≡ None
is_nothing None r is there = refl
is_nothing (Some n) r is there = absurd (let e : true ≡ not true = is ∙ ap not there in let never : ⊥ = cc in never)

pub is_something : (o : Option ℕ) (r : Bool) → is_some o ≡ not r → r ≡ false → o ≢ None
is_something None r is there same = let e : false ≡ not false = is ∙ ap not there in let never : ⊥ = cc in never
is_something (Some n) r is there same = let never : ⊥ = cc in never
