use Rattle.leg_sweep.proofs.waiting.meet_waiting.Goals as goal

pub returns-clause-found : goal.returns-clause-found
returns-clause-found g c = rw c.deref.ensures.value at c.in_ok-turn.ensures.found

pub returns-clause-looks : goal.returns-clause-looks
returns-clause-looks g c = rw c.deref.ensures.value at c.in_ok-turn.ensures.looks

pub returns-clause-tests : goal.returns-clause-tests
returns-clause-tests g c = rw c.deref.ensures.value at c.in_ok-turn.ensures.tests

pub returns-clause-same : goal.returns-clause-same
returns-clause-same g c = c.turn.ensures.same

pub returns-clause-same_room : goal.returns-clause-same_room
returns-clause-same_room g c = c.turn.ensures.same_room

pub returns-in_err-turn-clause-same : goal.returns-in_err-turn-clause-same
returns-in_err-turn-clause-same g c = c.turn.ensures.same

pub returns-in_err-turn-clause-same_room : goal.returns-in_err-turn-clause-same_room
returns-in_err-turn-clause-same_room g c = c.turn.ensures.same_room

pub turn-requires-clause-can : goal.turn-requires-clause-can
turn-requires-clause-can g c = rw c.deref.ensures.value c.requires.can
