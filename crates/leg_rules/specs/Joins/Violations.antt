-- Nets that are open (lefdef's own rule).
use Rattle.std.specs.Prelude.{◌<◌, ℕ, length}
use Rattle.leg_design_records.specs.Records.{DesignModel}
use Rattle.leg_design_records.specs.declared.fault.Fault.{Fault}
use Rattle.leg_design_records.specs.declared.fault.Fault.TheVariants.{OpenNet}
use Rattle.leg_rules.specs.Metal.Flat.{FlatModel}
use Rattle.leg_rules.specs.Joins.Touch.{piece_count, AreJoined}

-- net n is an entry of NETS, and its piece k isn't joined to its first piece
pub record IsOpen (design : DesignModel) (flat : FlatModel) (n k : ℕ) : Type 0 where
  pub net : n < length design.nets
  pub piece : k < piece_count flat n
  pub open_piece : ¬ AreJoined flat n 0 k

-- some piece of net n isn't joined to its first one
abbrev pub IsOpenNet : DesignModel → FlatModel → ℕ → Type 0
IsOpenNet design flat n = (k : ℕ) × IsOpen design flat n k

-- A violation holds that speaks of the pieces of a net.
pub data IsOpenViolation (design : DesignModel) (flat : FlatModel) : Fault → Type 0 where
  open_net : {n k : ℕ} → IsOpen design flat n k → IsOpenViolation design flat (OpenNet n k)
