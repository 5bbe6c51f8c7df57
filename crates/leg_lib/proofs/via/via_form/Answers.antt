use Rattle.leg_lib.proofs.SoundNames.{via_is_named}
use Rattle.leg_lib.proofs.SoundReferences.{via_refers}
use Rattle.leg_lib.proofs.via.via_form.Goals as goal

pub push_via-requires-clause-named : goal.push_via-requires-clause-named
push_via-requires-clause-named g c = via_is_named c.args.profile c.args.library.now c.args.words.now _ c.in_ok-via.via c.in_ok-via.ensures

pub push_via-requires-clause-refers : goal.push_via-requires-clause-refers
push_via-requires-clause-refers g c = via_refers c.args.profile c.args.library.now c.args.words.now _ c.in_ok-via.via c.in_ok-via.ensures
