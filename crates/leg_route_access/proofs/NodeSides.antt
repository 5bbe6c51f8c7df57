-- Nodes beside one another, and where they lie.
use Rattle.std.proofs.Common.{◌≡◌, ℕ, ◌<◌, inl, inr, refl, sym, ◌∙◌, arith}
use Rattle.std.proofs.lemmas.Int.{ints}
use Rattle.leg_lemmas.proofs.Integers.{lt_trans_z}
use Rattle.leg_lib_records.specs.Records.{LibraryModel}
use Rattle.leg_design_records.specs.Records.{DesignModel}
use Rattle.leg_rules.specs.declared.side.Side.{Side}
use Rattle.leg_rules.specs.declared.side.Side.TheVariants.{West, East, South, North, Below, Above}
use Rattle.leg_rules.specs.declared.node.Node.{Node}
use Rattle.leg_rules.specs.Route.Between.{IsVia}
use Rattle.leg_rules.specs.Route.Neighbours.{IsNeighbour}
use Rattle.leg_route_access.specs.Steps.Towards.{LiesTowards, LiesDue}

-- a via leads up
pub via_rises : (library : LibraryModel) (low high k : ℕ) → IsVia library low high k → low < high
via_rises library low high k (inl first) = let joins = first.holds.joins.joins in omega (arith, joins.above, joins.below)
via_rises library low high k (inr other) = let joins = other.first.holds.joins in omega (arith, joins.above, joins.below)

pub due : (design : DesignModel) (side : Side) (a b : Node) → IsNeighbour design side a b → LiesDue side a b
due design West a b is = (sym is.layer, sym is.level, is.next.less)
due design East a b is = (is.layer, is.level, is.next.less)
due design South a b is = (sym is.layer, sym is.upright, is.next.less)
due design North a b is = (is.layer, is.upright, is.next.less)
due design Below a b is = via_rises design.library b.layer a.layer is.0 is.1.via_is
due design Above a b is = via_rises design.library a.layer b.layer is.0 is.1.via_is

-- what lies straight to a side lies further to no other
pub one_side : (side other : Side) (a b : Node) → LiesDue other a b → LiesTowards side a b → other ≡ side
one_side West West a b is to = refl
one_side East East a b is to = refl
one_side South South a b is to = refl
one_side North North a b is to = refl
one_side Below Below a b is to = refl
one_side Above Above a b is to = refl
one_side side other a b is to = absurd (omega (arith, ints))

pub due_towards : (side : Side) (a b : Node) → LiesDue side a b → LiesTowards side a b
due_towards West a b is = (is.0, is.2)
due_towards East a b is = (is.0, is.2)
due_towards South a b is = (is.0, is.2)
due_towards North a b is = (is.0, is.2)
due_towards Below a b is = is
due_towards Above a b is = is

pub due_on : (side : Side) (a b c : Node) → LiesDue side a b → LiesDue side b c → LiesDue side a c
due_on West a b c p q = (q.0 ∙ p.0, q.1 ∙ p.1, lt_trans_z c.at.x b.at.x a.at.x q.2 p.2)
due_on East a b c p q = (q.0 ∙ p.0, q.1 ∙ p.1, lt_trans_z a.at.x b.at.x c.at.x p.2 q.2)
due_on South a b c p q = (q.0 ∙ p.0, q.1 ∙ p.1, lt_trans_z c.at.y b.at.y a.at.y q.2 p.2)
due_on North a b c p q = (q.0 ∙ p.0, q.1 ∙ p.1, lt_trans_z a.at.y b.at.y c.at.y p.2 q.2)
due_on Below a b c p q = omega (arith, p, q)
due_on Above a b c p q = omega (arith, p, q)
