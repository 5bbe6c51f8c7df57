use Rattle.std.proofs.Common.{sym, subst}
use Rattle.std.proofs.lemmas.List.{take_all}
use Rattle.std.proofs.lemmas.List.Elements.{All-more, All-same}
use Rattle.leg_lib_records.specs.Measure.{IsExtent}
use Rattle.leg_lib_records.specs.Records.{MasterModel}
use Rattle.leg_legal.proofs.sizes.macros_have_sizes.Goals as goal

pub loop-master-preserved : goal.loop-master-preserved
loop-master-preserved g c =
    let Sized = λ (master : MasterModel). IsExtent master.size in
    All-more Sized c.args.masters.now c.loop-master.master-index c.master-item.result c.loop-master-test.true c.loop-master.invariant
    (subst Sized c.master-item.is (subst Sized c.master.view_is c.width-width.ensures.proper))

pub returns : goal.returns
returns g c =
    All-same (λ (master : MasterModel). IsExtent master.size) _ _
    (sym (take_all c.loop-master.master-index c.args.masters.now c.loop-master-test.false)) c.loop-master.invariant
