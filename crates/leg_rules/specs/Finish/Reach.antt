-- Pieces of a net that cannot be reached, whatever other nets do (lefdef's own rules). A node meets a piece if its point is one of a
-- rectangle of the piece on the node's layer.
use Rattle.std.specs.Prelude.{◌≡◌, ◌<◌, ℕ, ◌⊎◌, Option, None, Some}
use Rattle.leg_design_records.specs.Records.{DesignModel}
use Rattle.leg_rules.specs.Metal.Flat.{FlatModel}
use Rattle.leg_rules.specs.Route.Walk.{NoWalk}
use Rattle.leg_rules.specs.Joins.Violations.{IsOpenNet}
use Rattle.leg_rules.specs.Joins.Touch.{piece_count, LiesIn, AreJoined}
use Rattle.leg_rules.specs.declared.node.Node.{Node}
use Rattle.leg_rules.specs.Route.OpenMetal.{IsOpenNode, IsOpenStep}

-- the node meets a piece that is joined to this one
pub record MeetsJoinedTo (flat : FlatModel) (net piece : ℕ) (node : Node) : Type 0 where
  pub other : ℕ
  pub joined : AreJoined flat net piece other
  pub meets : LiesIn flat net other node.layer node.at

-- the node meets a piece that is not
pub record MeetsOthers (flat : FlatModel) (net piece : ℕ) (node : Node) : Type 0 where
  pub other : ℕ
  pub apart : ¬ AreJoined flat net piece other
  pub meets : LiesIn flat net other node.layer node.at

-- The piece cannot be reached: its net is open, and no open walk leads from what is joined to it to another piece. That wires of other
-- nets are laid opens none.
pub record IsUnreachable (design : DesignModel) (flat : FlatModel) (net piece : ℕ) : Type 0 where
  pub is_open : IsOpenNet design flat net
  pub there : piece < piece_count flat net
  pub none : NoWalk (IsOpenNode design flat net) (IsOpenStep design flat net) (MeetsJoinedTo flat net piece) (MeetsOthers flat net piece)

-- it is the first piece of the net that cannot be reached
pub record IsFirstOfNet (design : DesignModel) (flat : FlatModel) (net piece : ℕ) : Type 0 where
  pub unreachable : IsUnreachable design flat net piece
  pub first : (k : ℕ) → k < piece → ¬ IsUnreachable design flat net k

-- the first piece of the net that cannot be reached, or none where each can
abbrev pub IsFirstOfNetIfAny : DesignModel → FlatModel → ℕ → Option ℕ → Type 0
IsFirstOfNetIfAny design flat net None = (k : ℕ) → ¬ IsUnreachable design flat net k
IsFirstOfNetIfAny design flat net (Some piece) = IsFirstOfNet design flat net piece

-- the one piece comes before the other: its net does, or it does among the pieces of the same net
abbrev pub IsEarlierPiece : ℕ → ℕ → ℕ → ℕ → Type 0
IsEarlierPiece net piece other k = (net < other) ⊎ ((net ≡ other) × (piece < k))

-- it is the first that cannot be reached
pub record IsFirstUnreachable (design : DesignModel) (flat : FlatModel) (net piece : ℕ) : Type 0 where
  pub unreachable : IsUnreachable design flat net piece
  pub first : (other k : ℕ) → IsEarlierPiece other k net piece → ¬ IsUnreachable design flat other k

-- each piece can be reached
abbrev pub AreReachable : DesignModel → FlatModel → Type 0
AreReachable design flat = (net piece : ℕ) → ¬ IsUnreachable design flat net piece
