use Rattle.std.proofs.Common.{arith}
use Rattle.leg_app.specs.declared.limits.TheConstants.{FILE_LIMIT}
use Rattle.leg_app.proofs.CutTexts.{cut_answers}
use Rattle.leg_app.proofs.laws.cut_files_are_answered_alike.Goals as goal

pub returns : goal.returns
returns c = λ command profile lefs def. cut_answers FILE_LIMIT (omega arith) profile lefs def command
