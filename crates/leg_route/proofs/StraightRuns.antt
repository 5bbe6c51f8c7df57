-- Straight runs of steps: what their points are, one after another.
use Rattle.std.proofs.Common.{◌≡◌, ◌≢◌, ℤ, ◌<ℤ◌, List, map, inl, inr, refl, sym, ap, arith}
use Rattle.std.proofs.lemmas.Int.{ints}
use Rattle.leg_geom.specs.Plane.{PointModel}
use Rattle.leg_design_records.specs.Records.{DesignModel}
use Rattle.leg_rules.specs.declared.side.Side.{Side}
use Rattle.leg_rules.specs.declared.side.Side.TheVariants.{West, East, South, North, Below, Above}
use Rattle.leg_rules.specs.declared.node.Node.{Node}
use Rattle.leg_rules.specs.Route.Neighbours.{IsNeighbour}
use Rattle.leg_rules.specs.Route.Spelling.{IsOnLayer, IsStraight}
use Rattle.leg_rules.specs.Route.Spelling.IsStraight.{one, more}
use Rattle.leg_lemmas.proofs.Integers.{lt_trans_z}
use Rattle.leg_route_laws.specs.Lines.{EachStep, last_spot, AreInLine}

-- the second point lies to this side of the first
abbrev pub Ahead : Side → PointModel → PointModel → Type 0
Ahead West p q = q.x <ℤ p.x
Ahead East p q = p.x <ℤ q.x
Ahead South p q = q.y <ℤ p.y
Ahead North p q = p.y <ℤ q.y
Ahead Below p q = ⊥
Ahead Above p q = ⊥

-- what steps to this side leave as it is
abbrev pub Keeps : Side → PointModel → PointModel → Type 0
Keeps West p q = p.y ≡ q.y
Keeps East p q = p.y ≡ q.y
Keeps South p q = p.x ≡ q.x
Keeps North p q = p.x ≡ q.x
Keeps Below p q = ⊥
Keeps Above p q = ⊥

abbrev pub points : List Node → List PointModel
points nodes = map (λ (node : Node). node.at) nodes

module _ (design : DesignModel) where
  pub beside_layer : (side : Side) (a b : Node) → IsOnLayer side → IsNeighbour design side a b → b.layer ≡ a.layer
  beside_layer West a b on h = sym h.layer
  beside_layer East a b on h = h.layer
  beside_layer South a b on h = sym h.layer
  beside_layer North a b on h = h.layer
  beside_layer Below a b on h = absurd on
  beside_layer Above a b on h = absurd on

  pub beside_keeps : (side : Side) (a b : Node) → IsOnLayer side → IsNeighbour design side a b → Keeps side a.at b.at
  beside_keeps West a b on h = h.level
  beside_keeps East a b on h = sym h.level
  beside_keeps South a b on h = h.upright
  beside_keeps North a b on h = sym h.upright
  beside_keeps Below a b on h = absurd on
  beside_keeps Above a b on h = absurd on

  pub beside_ahead : (side : Side) (a b : Node) → IsOnLayer side → IsNeighbour design side a b → Ahead side a.at b.at
  beside_ahead West a b on h = h.next.less
  beside_ahead East a b on h = h.next.less
  beside_ahead South a b on h = h.next.less
  beside_ahead North a b on h = h.next.less
  beside_ahead Below a b on h = absurd on
  beside_ahead Above a b on h = absurd on

not_less : (a b : ℤ) → a <ℤ b → a ≡ b → ⊥
not_less a b p same = omega (arith, ints, p, same)

ahead_more : (side : Side) (p q r : PointModel) → Ahead side p q → Ahead side q r → Ahead side p r
ahead_more West p q r first second = lt_trans_z r.x q.x p.x second first
ahead_more East p q r first second = lt_trans_z p.x q.x r.x first second
ahead_more South p q r first second = lt_trans_z r.y q.y p.y second first
ahead_more North p q r first second = lt_trans_z p.y q.y r.y first second
ahead_more Below p q r first second = first
ahead_more Above p q r first second = first

pub ahead_apart : (side : Side) (p q : PointModel) → Ahead side p q → p ≢ q
ahead_apart West p q less same = not_less q.x p.x less (ap (λ (s : PointModel). s.x) (sym same))
ahead_apart East p q less same = not_less p.x q.x less (ap (λ (s : PointModel). s.x) same)
ahead_apart South p q less same = not_less q.y p.y less (ap (λ (s : PointModel). s.y) (sym same))
ahead_apart North p q less same = not_less p.y q.y less (ap (λ (s : PointModel). s.y) same)
ahead_apart Below p q less same = less
ahead_apart Above p q less same = less

module _ (design : DesignModel) (side : Side) (on : IsOnLayer side) where
  pub straight_last : (a b : Node) (run : List Node) → IsStraight design side a run b → last_spot a.at (points run) ≡ b.at
  straight_last a b run (one beside) = refl
  straight_last a b run (more {b = mid} {nodes = nodes} beside rest) = straight_last mid b nodes rest

  pub straight_ahead : (a b : Node) (run : List Node) → IsStraight design side a run b → Ahead side a.at b.at
  straight_ahead a b run (one beside) = beside_ahead design side a b on beside
  straight_ahead a b run (more {b = mid} {nodes = nodes} beside rest) =
      ahead_more side a.at mid.at b.at (beside_ahead design side a mid on beside) (straight_ahead mid b nodes rest)

  pub straight_apart : (a b : Node) (run : List Node) → IsStraight design side a run b → EachStep (λ p q. p ≢ q) a.at (points run)
  straight_apart a b run (one beside) = (ahead_apart side a.at b.at (beside_ahead design side a b on beside), tt)
  straight_apart a b run (more {b = mid} {nodes = nodes} beside rest) =
      (ahead_apart side a.at mid.at (beside_ahead design side a mid on beside), straight_apart mid b nodes rest)

  pub straight_keeps : (a b : Node) (run : List Node) → IsStraight design side a run b → EachStep (Keeps side) a.at (points run)
  straight_keeps a b run (one beside) = (beside_keeps design side a b on beside, tt)
  straight_keeps a b run (more {b = mid} {nodes = nodes} beside rest) = (beside_keeps design side a mid on beside, straight_keeps mid b nodes rest)

pub in_line : (side : Side) (from : PointModel) (spots : List PointModel) → IsOnLayer side → EachStep (Keeps side) from spots → AreInLine from spots
in_line West from spots on each = inl each
in_line East from spots on each = inl each
in_line South from spots on each = inr each
in_line North from spots on each = inr each
in_line Below from spots on each = absurd on
in_line Above from spots on each = absurd on
