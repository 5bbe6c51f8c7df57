use Rattle.std.proofs.Common.{◌≡◌, length}
use Rattle.leg_lex.specs.Until.{until}
use Rattle.leg_grammar.specs.Def.PathItem.{at_path_end, one_item}
use Rattle.leg_design_wires.proofs.path_item.add_items.Given as goal

abbrev pub invariant-items : goal.invariant-items
invariant-items g l =
    until at_path_end (one_item l.scope l.special) l.items.items l.words ≡ until at_path_end (one_item l.scope l.special) l.initial.items.items l.initial.words

abbrev pub decreases-items : goal.decreases-items
decreases-items g l = length l.words
