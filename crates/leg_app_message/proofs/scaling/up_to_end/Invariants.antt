use Rattle.std.proofs.Common.{◌≡◌, ◌++◌, drop, take}
use Rattle.leg_app_message.specs.Form.{up_to_end}
use Rattle.leg_app_message.proofs.scaling.up_to_end.Given as goal

abbrev pub invariant-loop-end : goal.invariant-loop-end
invariant-loop-end l = take l.end l.words ++ up_to_end l.name (drop l.end l.words) ≡ up_to_end l.name l.words
