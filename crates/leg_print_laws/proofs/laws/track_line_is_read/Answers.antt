use Rattle.leg_print_laws.proofs.Tracks.{track_line}
use Rattle.leg_print_laws.proofs.laws.track_line_is_read.Goals as goal

pub returns : goal.returns
returns c = λ design track sound is one. track_line design sound track is one
