-- Cuts of one net that are near one another, as the search asks for them. Its rule needs the laws after the definition.
use Rattle.std.proofs.Common.{◌≡◌, ◌≢◌, ℕ, min, List, length, get_or, sym, arith}
use Rattle.leg_rules.specs.declared.owner.Owner.{Owner}
use Rattle.leg_rules.specs.declared.owner.Owner.TheVariants.{Net}
use Rattle.leg_rules.specs.declared.shape.Shape.{Shape}
use Rattle.leg_rules.specs.Spacing.Violations.{AreNearer}
use Rattle.leg_wire_spacing.proofs.CloserShapes.{nearer_back}
use Rattle.leg_drc.specs.declared.candidate.Owners.TheVariants.{Nets}
use Rattle.leg_drc.specs.Steps.Candidates.{IsCandidate}
use Rattle.leg_drc.specs.Steps.NearRule.{greatest, AreGapsWithin, nearer_gaps, nearer_above, reach_at, reach_within}

-- both owners are one net
pub record AreOneNet (a b : Owner) : Type 0 where
  pub net : ℕ
  pub is_a : a ≡ Net net
  pub is_b : b ≡ Net net

-- two shapes of one net and one layer are different rectangles, and nearer than the layer's reach
pub record AreCutsWithin (reaches : List ℕ) (a b : Shape) : Type 0 where
  pub one : AreOneNet a.owner b.owner
  pub layer : a.layer ≡ b.layer
  pub differ : a.rect ≢ b.rect
  pub near : AreNearer (get_or reaches a.layer 0) a.rect b.rect

module _ (reaches : List ℕ) (a b : Shape) (h : AreCutsWithin reaches a b) where
  -- they are so in either order
  pub cuts_back : AreCutsWithin reaches b a
  cuts_back = record {
    one = record { net = h.one.net; is_a = h.one.is_b; is_b = h.one.is_a };
    layer = sym h.layer;
    differ = λ same. h.differ (sym same);
    near = rw (← h.layer) (nearer_back (get_or reaches a.layer 0) a.rect b.rect h.near);
  }

  pub cuts_near : AreGapsWithin (greatest reaches) a.rect b.rect
  cuts_near = nearer_gaps (get_or reaches a.layer 0) (greatest reaches) a.rect b.rect (reach_within reaches a.layer) h.near

  pub cuts_near_on_layer : AreGapsWithin (get_or reaches (min a.layer (length reaches)) 0) a.rect b.rect
  cuts_near_on_layer = rw (reach_at reaches a.layer) (nearer_gaps (get_or reaches a.layer 0) (get_or reaches a.layer 0) a.rect b.rect (omega arith) h.near)

  -- the first one is a candidate
  pub cuts_candidate : IsCandidate Nets reaches a
  cuts_candidate = record { owner = rw h.one.is_a tt; reach = nearer_above (get_or reaches a.layer 0) a.rect b.rect h.near }
