use Rattle.std.proofs.Common.{arith}
use Rattle.leg_app.specs.declared.limits.TheConstants.{STREAM_LIMIT}
use Rattle.leg_app.proofs.CutStreams.{cut_stream_answered}
use Rattle.leg_app.proofs.laws.cut_stream_is_answered_alike.Goals as goal

pub returns : goal.returns
returns c = cut_stream_answered STREAM_LIMIT (omega arith)
