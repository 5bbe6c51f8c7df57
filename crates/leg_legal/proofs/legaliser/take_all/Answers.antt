-- All components of the keys are all movable ones, in order.
use Rattle.std.proofs.lemmas.Result.{IfOk-weaker, IfErr-weaker}
use Rattle.leg_legal.specs.Steps.TurnKeys.{AreInOrder}
use Rattle.leg_legal.proofs.Choices.{run_of_keys, run_fault_of}
use Rattle.leg_legal.proofs.legaliser.take_all.Goals as goal

pub returns-clause-run : goal.returns-clause-run
returns-clause-run g c =
    let order : AreInOrder c.args.design.now c.as_slice.result.now = rw c.as_slice.ensures.value c.in_ok-keys.ensures in
    IfOk-weaker c.take_in_turn.result _ _ (λ taken all. run_of_keys c.args.design.now c.as_slice.result.now taken.items order all) c.take_in_turn.ensures.taken

pub returns-clause-refused : goal.returns-clause-refused
returns-clause-refused g c =
    let order : AreInOrder c.args.design.now c.as_slice.result.now = rw c.as_slice.ensures.value c.in_ok-keys.ensures in
    IfErr-weaker c.take_in_turn.result _ _ (λ fault f. run_fault_of c.args.design.now c.as_slice.result.now fault order f) c.take_in_turn.ensures.refused
