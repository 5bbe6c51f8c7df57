-- The lines that `compare` prints of a DEF and of what another command has printed (lefdef's own rules).
use Rattle.std.specs.Prelude.{◌≢◌, ℕ, List, ◌⊎◌, All}
use Rattle.leg_design_records.specs.Records.{DesignModel}
use Rattle.leg_rules.specs.declared.difference.Difference.{Difference}
use Rattle.leg_rules.specs.declared.difference.Verdict.{Verdict}
use Rattle.leg_rules.specs.declared.difference.Verdict.TheVariants.{Same, Places, Wires, PlacesAndWires, Differs}
use Rattle.leg_rules.specs.Compare.Verdicts.{IsMove, IsGrowth}
use Rattle.leg_app.specs.declared.status.Status.{Status}
use Rattle.leg_app.specs.declared.status.Status.TheVariants.{Memory}
use Rattle.leg_grammar.specs.declared.profile.Profile.{Profile}
use Rattle.leg_app.specs.Comparison.{Compares, IsComparison}

-- nothing differs, or places of movable components alone do: `same` or `places N`
abbrev pub IsOfPlaces : Verdict → Type 0
IsOfPlaces Same = Unit {0}
IsOfPlaces (Places moves) = Unit {0}
IsOfPlaces (Wires growths) = ⊥
IsOfPlaces (PlacesAndWires moves growths) = ⊥
IsOfPlaces (Differs count) = ⊥

-- nothing differs, or wires are added to entries of NETS and that is all: `same` or `wires N`
abbrev pub IsOfWires : Verdict → Type 0
IsOfWires Same = Unit {0}
IsOfWires (Places moves) = ⊥
IsOfWires (Wires growths) = Unit {0}
IsOfWires (PlacesAndWires moves growths) = ⊥
IsOfWires (Differs count) = ⊥

-- nothing else differs than places of movable components and wires that are added to entries of NETS: all but `differs N`
abbrev pub IsOfPlacesAndWires : Verdict → Type 0
IsOfPlacesAndWires Same = Unit {0}
IsOfPlacesAndWires (Places moves) = Unit {0}
IsOfPlacesAndWires (Wires growths) = Unit {0}
IsOfPlacesAndWires (PlacesAndWires moves growths) = Unit {0}
IsOfPlacesAndWires (Differs count) = ⊥

-- All that differs between the DEFs is printed, a line for each difference and a last one. Each difference is such a one, counted from the
-- first design, and the verdict of the last line is such a one.
pub record ComparesAs (IsOne : DesignModel → Difference → Type 0) (IsLast : Verdict → Type 0) (profile : Profile) (lefs : List (List ℕ)) (before after : List ℕ)
    (status : Status) (text : List ℕ) : Type 0 where
  pub compares : Compares profile lefs before after status text
  pub each : All (IsOne compares.first) compares.list
  pub last : IsLast compares.verdict

-- Unless memory runs out, `compare` answers nothing to these DEFs but such lines.
abbrev pub AnswersAs : (DesignModel → Difference → Type 0) → (Verdict → Type 0) → Profile → List (List ℕ) → List ℕ → List ℕ → Type 0
AnswersAs IsOne IsLast profile lefs before after =
    (status : Status) (text : List ℕ) → IsComparison profile lefs before after status text → status ≢ Memory → ComparesAs IsOne IsLast profile lefs before
    after status text

-- a line for each movable component that has another place, and `same` or `places N`
abbrev pub AnswersPlaces : Profile → List (List ℕ) → List ℕ → List ℕ → Type 0
AnswersPlaces profile lefs before after = AnswersAs IsMove IsOfPlaces profile lefs before after

-- a line for each entry of NETS that has more wires, and `same` or `wires N`
abbrev pub AnswersWires : Profile → List (List ℕ) → List ℕ → List ℕ → Type 0
AnswersWires profile lefs before after = AnswersAs (λ first difference. IsGrowth difference) IsOfWires profile lefs before after

-- lines of these two kinds, and a last line on no others
abbrev pub AnswersPlacesAndWires : Profile → List (List ℕ) → List ℕ → List ℕ → Type 0
AnswersPlacesAndWires profile lefs before after =
    AnswersAs (λ first difference. IsMove first difference ⊎ IsGrowth difference) IsOfPlacesAndWires profile lefs before after
