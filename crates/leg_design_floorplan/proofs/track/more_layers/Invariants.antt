use Rattle.std.proofs.Common.{◌≡◌, length}
use Rattle.leg_lex.specs.Until.{until}
use Rattle.leg_grammar.specs.Def.Guard.{is_over}
use Rattle.leg_grammar.specs.Def.Track.{one_layer}
use Rattle.leg_design_floorplan.proofs.track.more_layers.Given as goal

abbrev pub invariant-layers : goal.invariant-layers
invariant-layers g l = until is_over (one_layer l.library) l.numbers.items l.words ≡ until is_over (one_layer l.library) l.initial.numbers.items l.initial.words

abbrev pub decreases-layers : goal.decreases-layers
decreases-layers g l = length l.words
