-- One more component has its place, or none is free for it.
use Rattle.std.proofs.Common.{◌≡◌, ◌<◌, pos, length, get_or, arith}
use Rattle.std.proofs.lemmas.List.{get_or_default}
use Rattle.leg_legal.specs.declared.turns.TurnKey.{TurnKey}
use Rattle.leg_legal.proofs.RunBoxes.{begin_taking, next_taken, taking_fault_of, all_taken}
use Rattle.leg_legal.proofs.taking.take_in_turn.Goals as goal

pub seat-requires-clause-suited : goal.seat-requires-clause-suited
seat-requires-clause-suited g c = c.requires.suited _

pub seat-requires-clause-known : goal.seat-requires-clause-known
seat-requires-clause-known g c = (c.loop-i.invariant.known.boxes, c.loop-i.invariant.known.known)

pub loop-i-init : goal.loop-i-init
loop-i-init g c = rw c.in_ok-taken.ensures.items (begin_taking c.args.design.now c.args.keys.now c.requires.order c.args.free.now c.requires.known)

pub returns-in-Err-clause-refused : goal.returns-in-Err-clause-refused
returns-in-Err-clause-refused g c =
    let keys = c.args.keys.now in
    let i = c.loop-i.i in
    let within : i < length keys = omega arith in
    let key : TurnKey = get_or keys i (record { narrow = pos 0; x = pos 0; number = 0 }) in
    let is : key ≡ get_or keys i key = get_or_default keys i (record { narrow = pos 0; x = pos 0; number = 0 }) key within in
    let u = c.loop-i.invariant in
    taking_fault_of c.args.design.now keys c.requires.order i key within is c.loop-i.taken.items c.loop-i.free u c.in-Err.fault
    (c.in-Err.ensures.refused u.known.boxes u.known.known)

pub loop-i-preserved : goal.loop-i-preserved
loop-i-preserved g c =
    let keys = c.args.keys.now in
    let i = c.loop-i.i in
    let within : i < length keys = omega arith in
    let key : TurnKey = get_or keys i (record { narrow = pos 0; x = pos 0; number = 0 }) in
    let is : key ≡ get_or keys i key = get_or_default keys i (record { narrow = pos 0; x = pos 0; number = 0 }) key within in
    let u = c.loop-i.invariant in
    rw c.in_ok-push.ensures.items
    (next_taken c.args.design.now keys c.requires.order i key within is c.loop-i.taken.items c.loop-i.free u c.in-Ok.place c.seat.new.free
    c.in-Ok.ensures.position
    (c.in-Ok.ensures.seated u.known.boxes u.known.known))

pub returns-clause-taken : goal.returns-clause-taken
returns-clause-taken g c =
    all_taken c.args.design.now c.args.keys.now c.requires.order c.loop-i.i c.loop-i.taken.items c.loop-i.free (omega arith) c.loop-i.invariant
