use Rattle.leg_lib_records.proofs.SoundRaw.{empty_sound}
use Rattle.leg_lib_records.proofs.raw_library.RawLibrary.new.Goals as goal

pub invariant_of-result : goal.invariant_of-result
invariant_of-result g c = rw (c.new.ensures, c.new-2.ensures, c.new-3.ensures, c.new-4.ensures, c.new-5.ensures) empty_sound
