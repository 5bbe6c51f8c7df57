use Rattle.leg_lib.proofs.SoundNames.{layer_is_named}
use Rattle.leg_lib.proofs.layer.layer_form.Goals as goal

pub push_layer-requires-clause-named : goal.push_layer-requires-clause-named
push_layer-requires-clause-named g c = layer_is_named c.args.words.now _ c.in_ok-layer.layer c.in_ok-layer.ensures
