use Rattle.leg_profile_laws.proofs.SameLibrary.{library_same}
use Rattle.leg_profile_laws.proofs.laws.narrow_lefs_are_read_the_same.Goals as goal

pub returns : goal.returns
returns c = λ profile lefs library plain said. library_same profile lefs library plain said
