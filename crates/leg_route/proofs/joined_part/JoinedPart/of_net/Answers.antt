use Rattle.leg_route.proofs.JoinedParts.{part_none}
use Rattle.leg_route.proofs.joined_part.JoinedPart.of_net.Goals as goal

pub returns-clause-is : goal.returns-clause-is
returns-clause-is g c grid flat had =
    part_none grid flat c.new.result.net _ _ _ _ _ c.new.ensures.joined c.new.ensures.boxes c.new.ensures.slots c.new.ensures.hulls c.new.ensures.ends
