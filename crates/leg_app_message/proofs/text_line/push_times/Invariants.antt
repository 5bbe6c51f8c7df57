use Rattle.std.proofs.Common.{◌≡◌, ◌++◌, replicate}
use Rattle.leg_app_message.proofs.text_line.push_times.Given as goal

-- the bytes so far
abbrev pub invariant-loop : goal.invariant-loop
invariant-loop g l = l.message.items ≡ l.fn.message.items ++ replicate l.counter l.byte
