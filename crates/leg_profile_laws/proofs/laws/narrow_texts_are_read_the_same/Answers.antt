use Rattle.leg_profile_laws.proofs.SameDesign.{texts_same, library_for_same}
use Rattle.leg_profile_laws.proofs.laws.narrow_texts_are_read_the_same.Goals as goal

pub returns-clause-under : goal.returns-clause-under
returns-clause-under c = λ profile lefs def library design say under. texts_same profile lefs def library design say under

pub returns-clause-design : goal.returns-clause-design
returns-clause-design c = λ profile lefs def library design plain say.
    texts_same profile lefs def library design say (library_for_same profile lefs def library plain say.under)
