-- The shapes of which a rule of pairs can hold.
use Rattle.std.specs.Prelude.{◌≡◌, ℕ, ◌<◌, ◌≤◌, List, length, Option, None, Some, get_or, slice_get, All, AllPairs, Contains}
use Rattle.leg_rules.specs.declared.owner.Owner.{Owner}
use Rattle.leg_rules.specs.declared.owner.Owner.TheVariants.{Net}
use Rattle.leg_rules.specs.declared.shape.Shape.{Shape}
use Rattle.leg_drc.specs.declared.candidate.Candidate.{Candidate}
use Rattle.leg_drc.specs.declared.candidate.Owners.{Owners}
use Rattle.leg_drc.specs.declared.candidate.Owners.TheVariants.{Each, Nets}

abbrev pub IsNet : Owner → Type 0
IsNet (Net n) = Unit {0}
IsNet other = ⊥

-- the owner is among these
abbrev pub IsOneOf : Owners → Owner → Type 0
IsOneOf Each owner = Unit {0}
IsOneOf Nets owner = IsNet owner

-- the shape has such an owner, and lies on a layer with a reach
pub record IsCandidate (owners : Owners) (reaches : List ℕ) (shape : Shape) : Type 0 where
  pub owner : IsOneOf owners shape.owner
  pub reach : 0 < get_or reaches shape.layer 0

abbrev pub HasLowerNumber : Candidate → Candidate → Type 0
HasLowerNumber a b = a.number < b.number

-- the candidates among the first shapes: all of them, each once, in order
pub record AreCandidates (owners : Owners) (reaches : List ℕ) (shapes : List Shape) (end : ℕ) (found : List Candidate) : Type 0 where
  pub increasing : AllPairs HasLowerNumber found
  pub below : All (λ candidate. candidate.number < end) found
  pub few : length found ≤ end
  pub each : All (λ candidate. slice_get shapes candidate.number ≡ Some candidate.shape) found
  pub all : (k : ℕ) (shape : Shape) → k < end → slice_get shapes k ≡ Some shape → IsCandidate owners reaches shape
      → Contains found (record { number = k; shape = shape })

-- the number of the candidate at a place
abbrev number_of : Option Candidate → ℕ
number_of None = 0
number_of (Some candidate) = candidate.number

-- the numbers of the shapes of a pair of candidates
abbrev pub numbers_in : List Candidate → ℕ × ℕ → ℕ × ℕ
numbers_in candidates p = (number_of (slice_get candidates p.0), number_of (slice_get candidates p.1))
