use Rattle.std.proofs.Common.{sym, subst}
use Rattle.std.proofs.lemmas.List.{take_all}
use Rattle.std.proofs.lemmas.List.Elements.{All-more, All-same}
use Rattle.leg_flat.specs.ProperLibrary.{IsProperMaster}
use Rattle.leg_flat.proofs.proper.masters_are_proper.Goals as goal

pub loop-master-preserved : goal.loop-master-preserved
loop-master-preserved g c =
    All-more IsProperMaster c.args.masters.now c.loop-master.master-index c.master-item.result c.loop-master-test.true c.loop-master.invariant
    (subst IsProperMaster c.master-item.is c.master_is_proper.ensures)

pub returns : goal.returns
returns g c = All-same IsProperMaster _ _ (sym (take_all c.loop-master.master-index c.args.masters.now c.loop-master-test.false)) c.loop-master.invariant
