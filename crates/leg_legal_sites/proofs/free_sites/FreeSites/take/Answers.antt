-- What is left is no longer than what there was.
use Rattle.leg_legal_sites.proofs.Parts.{measured_less}
use Rattle.leg_legal_sites.proofs.free_sites.FreeSites.take.Goals as goal

pub invariant_of-self-then-is_kept : goal.invariant_of-self-then-is_kept
invariant_of-self-then-is_kept g c =
    measured_less c.self.inside.longest c.args.from c.args.end c.self.inside.stretches.items c.take_sites.new.stretches.items c.self.invariant
    c.in_ok-take_sites.ensures.ok
