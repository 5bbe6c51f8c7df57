-- Where the text could not be made, `give` gave that memory ran out.
use Rattle.leg_c_call.proofs.OutOfMemory.{out_of_memory}
use Rattle.leg_c_call.proofs.lent_call.call.Goals as goal

pub returns-clause-answer : goal.returns-clause-answer
returns-clause-answer c =
    out_of_memory _ _ _ _ _ _ _ c.give-in-Err-Write.ensures.status c.give-in-Err-Write.ensures.count c.give-in-Err-Write.ensures.front
