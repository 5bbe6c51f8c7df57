-- A flat that grows by wires of a net, one after another.
use Rattle.std.specs.Prelude.{ℕ, List, [], ◌∷◌}
use Rattle.leg_design_records.specs.declared.records.Wire.{Wire}
use Rattle.leg_design_records.specs.Records.{DesignModel}
use Rattle.leg_rules.specs.Metal.Flat.{FlatModel}
use Rattle.leg_rules.specs.Metal.MoreWires.{HasOneMoreWire}

-- the second flat is the first one with these wires more of the net
pub data HasMoreWires (design : DesignModel) (net : ℕ) : List Wire → FlatModel → FlatModel → Type 0 where
  none : {flat : FlatModel} → HasMoreWires design net [] flat flat
  one_more : {before mid after : FlatModel} {wire : Wire} {wires : List Wire} → HasOneMoreWire design net wire before mid
      → HasMoreWires design net wires mid after → HasMoreWires design net (wire ∷ wires) before after
