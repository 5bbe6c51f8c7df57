use Rattle.leg_lib.proofs.SoundNames.{macro_is_named}
use Rattle.leg_lib.proofs.SoundReferences.{macro_refers}
use Rattle.leg_lib.proofs.macros.master_form.Goals as goal

pub push_master-requires-clause-named : goal.push_master-requires-clause-named
push_master-requires-clause-named g c = macro_is_named c.args.profile c.args.library.now c.args.words.now _ c.in_ok-master.master c.in_ok-master.ensures

pub push_master-requires-clause-refers : goal.push_master-requires-clause-refers
push_master-requires-clause-refers g c =
    macro_refers c.args.profile c.args.library.now c.layers-sound.ensures.proper.references.vias c.args.words.now _ c.in_ok-master.master c.in_ok-master.ensures
