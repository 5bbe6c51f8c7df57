use Rattle.std.proofs.Common.{◌≡◌, [], length}
use Rattle.leg_lex.specs.Until.{until}
use Rattle.leg_lex.specs.Statements.{at_end}
use Rattle.leg_grammar.specs.Def.Net.{net_entry}
use Rattle.leg_design_nets.proofs.net.entries.Given as goal

abbrev pub invariant-entries : goal.invariant-entries
invariant-entries g l = record {
  said : until at_end (net_entry l.scope l.special l.others) l.table.nets l.words ≡ until at_end (net_entry l.scope l.special l.others) [] l.initial.words;
  closed : l.table.terminals ≡ [];
}

abbrev pub decreases-entries : goal.decreases-entries
decreases-entries g l = length l.words
