-- How the program ends where no run answers (lefdef's own rules; 64 is the exit status of a usage error in sysexits.h).
use Rattle.std.specs.Prelude.{ℕ}
use Rattle.leg_app.specs.declared.end.Halt.{Halt}
use Rattle.leg_app.specs.declared.end.Halt.TheVariants.{NotRead, NotWritten, Usage}

-- the exit status of an end without an answer
abbrev pub halt_code : Halt → ℕ
halt_code (NotRead path) = 5
halt_code NotWritten = 5
halt_code Usage = 64
