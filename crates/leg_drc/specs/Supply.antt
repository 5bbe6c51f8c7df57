-- Nets of SPECIALNETS alone whose pieces aren't joined (lefdef's own rule).
use Rattle.std.specs.Prelude.{ℕ, ◌≤◌, length}
use Rattle.leg_geom.specs.Plane.{PointModel}
use Rattle.leg_design_records.specs.Records.{DesignModel}
use Rattle.leg_rules.specs.Metal.Flat.{FlatModel}
use Rattle.leg_rules.specs.Joins.Touch.{LiesIn, AreJoined}

-- piece k of net n has a point
pub record HasSomePoint (flat : FlatModel) (n k : ℕ) : Type 0 where
  pub layer : ℕ
  pub point : PointModel
  pub lies_in : LiesIn flat n k layer point

-- piece k is the first one of net n that has a point
pub record IsFirstWithPoint (flat : FlatModel) (n k : ℕ) : Type 0 where
  pub has : HasSomePoint flat n k
  pub first : (j : ℕ) → HasSomePoint flat n j → k ≤ j

-- Net n is of SPECIALNETS alone, and its piece k has points and isn't joined to the first piece that has.
pub record IsCutOffSupply (design : DesignModel) (flat : FlatModel) (n k : ℕ) : Type 0 where
  pub first : ℕ
  pub alone : length design.nets ≤ n
  pub is_first : IsFirstWithPoint flat n first
  pub has : HasSomePoint flat n k
  pub cut_off : ¬ AreJoined flat n first k
