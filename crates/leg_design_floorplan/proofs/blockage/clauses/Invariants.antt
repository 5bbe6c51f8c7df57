use Rattle.std.proofs.Common.{◌≡◌, true, length}
use Rattle.leg_lex.specs.Until.{until}
use Rattle.leg_grammar.specs.Def.Blockage.{at_no_plus}
use Rattle.leg_grammar.specs.Def.BlockageClause.{blockage_clause}
use Rattle.leg_design_floorplan.proofs.blockage.clauses.Given as goal

abbrev pub invariant-clauses : goal.invariant-clauses
invariant-clauses l =
    until at_no_plus (blockage_clause l.fn.profile l.fn.layer) l.kept l.words ≡ until at_no_plus (blockage_clause l.fn.profile l.fn.layer) true l.initial.words

abbrev pub decreases-clauses : goal.decreases-clauses
decreases-clauses l = length l.words
