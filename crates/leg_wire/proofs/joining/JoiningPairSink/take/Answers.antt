-- The pieces of the pair have their places in the sets.
use Rattle.std.proofs.Common.{arith}
use Rattle.std.proofs.lemmas.Result.{on_ok_weaker}
use Rattle.leg_wire.proofs.SetsOfPairs.{take_step}
use Rattle.leg_wire.proofs.joining.JoiningPairSink.take.Goals as goal

pub returns-clause-taken : goal.returns-clause-taken
returns-clause-taken g c =
    let this = c.args.self.now in
    on_ok_weaker c.join.result
    (take_step this.shapes.now this.sets c.join.new.sets this.corners c.join.new.corners c.args.pair c.index-shapes-pair.result c.index-shapes-pair-2.result
    c.index-shapes-pair.is c.index-shapes-pair-2.is (omega arith) (omega arith))
    c.join.ensures.step
