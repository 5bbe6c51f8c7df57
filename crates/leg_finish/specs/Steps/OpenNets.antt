-- The nets that are open, with what is known of their pieces.
use Rattle.std.specs.Prelude.{◌≡◌, ◌<◌, ◌+◌, ℕ, List, [], All, AllPairs, length, get_or, Any}
use Rattle.leg_design_records.specs.Records.{DesignModel}
use Rattle.leg_rules.specs.Metal.Flat.{FlatModel}
use Rattle.leg_wire.specs.NetShapes.{AreNumbersOf}
use Rattle.leg_rules.specs.Joins.Violations.{IsOpenNet}
use Rattle.leg_wire.specs.PieceMarks.{AreFirsts}
use Rattle.leg_rules.specs.Joins.Touch.{piece_count, AreJoined}
use Rattle.leg_finish.specs.declared.groups.OpenNet.{OpenNet}

-- the net is open, with the numbers of its shapes, and for each of its pieces the least one that it is joined to
pub record IsOpenWith {A : Type 0} (design : DesignModel) (flat : FlatModel) (net : OpenNet A) : Type 0 where
  pub is_open : IsOpenNet design flat net.net
  pub shapes : AreNumbersOf flat.shapes net.net net.shapes
  pub firsts : AreFirsts (AreJoined flat net.net) (piece_count flat net.net) net.firsts

-- exactly the nets that are open, in increasing order
pub record AreOpenNets {A : Type 0} (design : DesignModel) (flat : FlatModel) (nets : List (OpenNet A)) : Type 0 where
  pub increasing : AllPairs (λ (a b : OpenNet A). a.net < b.net) nets
  pub each : All (IsOpenWith design flat) nets
  pub all : (n : ℕ) → IsOpenNet design flat n → Any (λ (net : OpenNet A). net.net ≡ n) nets

-- exactly those of them whose numbers are below this one
pub record AreOpenNetsBelow {A : Type 0} (limit : ℕ) (design : DesignModel) (flat : FlatModel) (nets : List (OpenNet A)) : Type 0 where
  pub increasing : AllPairs (λ (a b : OpenNet A). a.net < b.net) nets
  pub below : All (λ (net : OpenNet A). net.net < limit) nets
  pub each : All (IsOpenWith design flat) nets
  pub all : (n : ℕ) → n < limit → IsOpenNet design flat n → Any (λ (net : OpenNet A). net.net ≡ n) nets

-- the lists from here on are the numbers of the shapes of the nets from this one on, one for each up to the last of so many
pub record AreListsFrom (flat : FlatModel) (net count : ℕ) (lists : List (List ℕ)) : Type 0 where
  pub count_is : net + length lists ≡ count
  pub each : (k : ℕ) → k < length lists → AreNumbersOf flat.shapes (net + k) (get_or lists k [])
