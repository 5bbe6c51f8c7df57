use Rattle.std.proofs.Common.{◌≡◌, length}
use Rattle.std.specs.List.{list_all}
use Rattle.leg_grammar.specs.Lef.Geometry.{says_nothing}
use Rattle.leg_lib.proofs.geometry_layer.nothing_said.Given as goal

abbrev pub invariant-words : goal.invariant-words
invariant-words l = list_all (says_nothing l.fn.profile) l.words ≡ list_all (says_nothing l.fn.profile) l.initial.words

abbrev pub decreases-words : goal.decreases-words
decreases-words l = length l.words
