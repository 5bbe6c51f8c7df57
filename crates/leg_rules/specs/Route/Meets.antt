-- Where walks of a net begin and end (lefdef's own rules). A node meets a piece if its point is one of a rectangle of the piece on the
-- node's layer.
use Rattle.std.specs.Prelude.{ℕ}
use Rattle.leg_rules.specs.Metal.Flat.{FlatModel}
use Rattle.leg_rules.specs.Joins.Touch.{LiesIn, AreJoined}
use Rattle.leg_rules.specs.declared.node.Node.{Node}

-- the node meets a piece that is joined to the net's first one
pub record MeetsJoined (flat : FlatModel) (net : ℕ) (node : Node) : Type 0 where
  pub piece : ℕ
  pub joined : AreJoined flat net 0 piece
  pub meets : LiesIn flat net piece node.layer node.at

-- the node meets a piece that isn't
pub record MeetsRest (flat : FlatModel) (net : ℕ) (node : Node) : Type 0 where
  pub piece : ℕ
  pub rest : ¬ AreJoined flat net 0 piece
  pub meets : LiesIn flat net piece node.layer node.at
