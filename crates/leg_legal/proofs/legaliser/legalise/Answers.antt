-- The design gets the places that were chosen.
use Rattle.leg_legal.proofs.legaliser.legalise.Goals as goal

pub returns-in-Ok-moves_of-clause-run : goal.returns-in-Ok-moves_of-clause-run
returns-in-Ok-moves_of-clause-run g c =
    rw (c.with_places.ensures, c.as_slice-in-Ok-moves_of.ensures.value) c.in-Ok.ensures.chosen.legalised

pub returns-in-Ok-moves_of-clause-legal : goal.returns-in-Ok-moves_of-clause-legal
returns-in-Ok-moves_of-clause-legal g c =
    rw (c.with_places.ensures, c.as_slice-in-Ok-moves_of.ensures.value) c.in-Ok.ensures.chosen.legal
