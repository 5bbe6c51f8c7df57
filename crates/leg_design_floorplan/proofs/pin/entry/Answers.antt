use Rattle.std.proofs.Common.{ℕ, ◌≡◌, ◌+◌, ◌<◌, ◌≤◌, true, nat_le, length, refl, arith}
use Rattle.std.proofs.lemmas.Bool.Decides.{nat_tests}
use Rattle.leg_design_records.specs.declared.limits.TheConstants.{ENTRY_LIMIT}
use Rattle.leg_grammar.specs.Def.Pin.{pin_entry}
use Rattle.leg_design_floorplan.proofs.pin.entry.Goals as goal

is_full : (number many limit : ℕ) → number ≡ many → limit ≤ number → nat_le limit many ≡ true
is_full number many limit is full = grind (arith, nat_tests)

room_left : (number many limit : ℕ) → number ≡ many → number < limit → many + 1 ≤ limit
room_left number many limit is room = omega arith

pub returns-then-len-ge-ENTRY_LIMIT : goal.returns-then-len-ge-ENTRY_LIMIT
unfolding pin_entry
returns-then-len-ge-ENTRY_LIMIT g c =
    rw (is_full c.len.result (length c.args.pins.now) ENTRY_LIMIT c.len.ensures.is c.if-len-ge-ENTRY_LIMIT.true) (λ not_memory. refl)

pub push-requires-clause-room : goal.push-requires-clause-room
push-requires-clause-room g c = room_left c.len.result (length c.args.pins.now) ENTRY_LIMIT c.len.ensures.is c.if-len-ge-ENTRY_LIMIT.false
