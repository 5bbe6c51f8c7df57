use Rattle.std.proofs.Common.{◌≡◌, length}
use Rattle.leg_lex.specs.Until.{until}
use Rattle.leg_grammar.specs.Def.Guard.{is_over}
use Rattle.leg_grammar.specs.Def.Net.{no_net_parts, net_clause}
use Rattle.leg_design_nets.proofs.net.all_clauses.Given as goal

abbrev pub invariant-clauses : goal.invariant-clauses
invariant-clauses g l =
    until is_over (net_clause l.scope l.special) l.parts l.words ≡ until is_over (net_clause l.scope l.special) no_net_parts l.initial.words

abbrev pub decreases-clauses : goal.decreases-clauses
decreases-clauses g l = length l.words
