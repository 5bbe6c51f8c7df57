use Rattle.leg_finish.proofs.RemainingNets.{are_unfinished}
use Rattle.leg_finish.proofs.unfinished.cause_of.Goals as goal

pub returns-clause-cause : goal.returns-clause-cause
returns-clause-cause g c =
    let design = c.args.design.now in
    let flat = c.in_ok-flat.flat in
    let clean = c.in_ok-flat.ensures.clean in
    let are = c.requires.nets flat clean.judged.is_flat in
    let reachable = rw c.in_default.is at c.in_ok-unreachable.ensures in (
      flat,
      record { clean = clean; fits = c.requires.fits },
      are_unfinished design flat c.args.nets.now are c.args.left.now c.in_ok-numbers.numbers c.requires.left c.in_ok-numbers.ensures reachable,
    )
