-- The sides of a node (lefdef's own rule).
use Rattle.leg_rules.specs.declared.side.Side.{Side}
use Rattle.leg_rules.specs.declared.side.Side.TheVariants.{West, East, South, North, Below, Above}

-- the side across from this one
abbrev pub opposite : Side → Side
opposite West = East
opposite East = West
opposite South = North
opposite North = South
opposite Below = Above
opposite Above = Below

-- What holds of a side holds of the side across from that across from it. Each graph needs this for its law "both ways".
pub across_twice : (P : Side → Type 0) (side : Side) → P side → P (opposite (opposite side))
across_twice P West holds = holds
across_twice P East holds = holds
across_twice P South holds = holds
across_twice P North holds = holds
across_twice P Below holds = holds
across_twice P Above holds = holds
