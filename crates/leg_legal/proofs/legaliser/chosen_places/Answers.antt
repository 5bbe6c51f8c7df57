-- A design without violations stays as it is.
use Rattle.leg_rules.specs.Placement.Violations.{IsLegallyPlaced}
use Rattle.leg_legal.proofs.Choices.{chosen_none}
use Rattle.leg_legal.proofs.legaliser.chosen_places.Goals as goal

pub returns-then-placed-clause-chosen : goal.returns-then-placed-clause-chosen
returns-then-placed-clause-chosen g c =
    let legal : IsLegallyPlaced c.args.design.now = c.in_ok-placed.ensures.0 c.if-placed.true in
    chosen_none c.args.design.now c.new.result.items c.new.ensures.items c.design_is_sound.ensures.proper legal
