use Rattle.std.proofs.Common.{◌≡◌, true, take}
use Rattle.leg_app_message.specs.Conversion.{begins_lengths}
use Rattle.leg_app_message.proofs.Statements.{Opens}
use Rattle.leg_app_message.proofs.scaling.length_in.Given as goal

-- where lengths are converted, the words so far end behind a word that begins them
abbrev pub invariant-loop-word : goal.invariant-loop-word
invariant-loop-word g l = l.is_converted ≡ true → Opens (begins_lengths l.fault.kind l.form) (take l.word-index l.words)
