use Rattle.std.proofs.Common.{◌≡◌, drop}
use Rattle.leg_app_message.specs.Form.{from_form}
use Rattle.leg_app_message.proofs.scaling.from_form.Given as goal

abbrev pub invariant-loop-start : goal.invariant-loop-start
invariant-loop-start l = from_form l.name (drop l.start l.words) ≡ from_form l.name l.words
