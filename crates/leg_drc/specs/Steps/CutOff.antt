-- Pieces of nets that are cut off, by their numbers.
use Rattle.std.specs.Prelude.{◌≡◌, ◌≢◌, ◌≤◌, ◌<◌, ℕ, Bool, true, List, All, AllPairs, Contains, Some, slice_get}
use Rattle.leg_design_records.specs.Records.{DesignModel}
use Rattle.leg_rules.specs.Metal.Flat.{FlatModel}
use Rattle.leg_rules.specs.Joins.Touch.{AreJoined}
use Rattle.leg_sweep.specs.Pairs.{Before}
use Rattle.leg_drc.specs.Supply.{HasSomePoint, IsFirstWithPoint, IsCutOffSupply}

-- a net of SPECIALNETS alone, and a piece of it that is cut off, by their numbers
abbrev pub IsCutOffPair : DesignModel → FlatModel → ℕ × ℕ → Type 0
IsCutOffPair design flat p = IsCutOffSupply design flat p.0 p.1

-- exactly these, in increasing order
pub record AreCutOff (design : DesignModel) (flat : FlatModel) (pairs : List (ℕ × ℕ)) : Type 0 where
  pub increasing : AllPairs Before pairs
  pub each : All (IsCutOffPair design flat) pairs
  pub all : (p : ℕ × ℕ) → IsCutOffPair design flat p → Contains pairs p

-- piece k of the net has points and isn't joined to the first piece that has
pub record IsCutOff (flat : FlatModel) (n k : ℕ) : Type 0 where
  pub first : ℕ
  pub is_first : IsFirstWithPoint flat n first
  pub has : HasSomePoint flat n k
  pub cut_off : ¬ AreJoined flat n first k

-- exactly these pieces of the net, in increasing order
pub record ArePiecesCutOff (flat : FlatModel) (n : ℕ) (pieces : List ℕ) : Type 0 where
  pub increasing : AllPairs (λ j k. j < k) pieces
  pub each : All (IsCutOff flat n) pieces
  pub all : (k : ℕ) → IsCutOff flat n k → Contains pieces k

-- the first mark that is set
pub record IsFirstMark (marks : List Bool) (first : ℕ) : Type 0 where
  pub set : slice_get marks first ≡ Some true
  pub least : (k : ℕ) → slice_get marks k ≡ Some true → first ≤ k

-- the mark is set, and stands in another group than the first that is
pub record IsApart (marks : List Bool) (groups : List ℕ) (k : ℕ) : Type 0 where
  pub first : ℕ
  pub is_first : IsFirstMark marks first
  pub set : slice_get marks k ≡ Some true
  pub other : slice_get groups k ≢ slice_get groups first

-- exactly these, in increasing order
pub record AreApart (marks : List Bool) (groups : List ℕ) (numbers : List ℕ) : Type 0 where
  pub increasing : AllPairs (λ j k. j < k) numbers
  pub each : All (IsApart marks groups) numbers
  pub all : (k : ℕ) → IsApart marks groups k → Contains numbers k
