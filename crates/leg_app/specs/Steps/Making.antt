-- What is known of an answer that makes a design, before it is known which texts denote the design that it is made of.
use Rattle.std.specs.Prelude.{ℕ, List}
use Rattle.leg_design_records.specs.Records.{DesignModel}
use Rattle.leg_app_input.specs.declared.command.Command.{Command}
use Rattle.leg_app.specs.declared.status.Status.{Status}
use Rattle.leg_app.specs.declared.status.Status.TheVariants.{Success, Violations, Refused, Unsolved, Memory}
use Rattle.leg_app.specs.Results.{IsTextMade, IsReason}

-- what the command makes of the design is printed, or the reason for which it makes nothing of it
abbrev pub IsMaking : Command → DesignModel → Status → List ℕ → Type 0
IsMaking command design Success text = IsTextMade command design text
IsMaking command design Violations text = ⊥
IsMaking command design Refused text = ⊥
IsMaking command design Unsolved text = IsReason command design text
IsMaking command design Memory text = ⊥
