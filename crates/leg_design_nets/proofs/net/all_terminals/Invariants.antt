use Rattle.std.proofs.Common.{◌≡◌, ◌++◌, length}
use Rattle.leg_lex.specs.Until.{until}
use Rattle.leg_grammar.specs.Def.Terminal.{terminal_form, at_no_terminal}
use Rattle.leg_design_nets.proofs.net.all_terminals.Given as goal

abbrev pub invariant-terminals : goal.invariant-terminals
invariant-terminals g l = record {
  said : until at_no_terminal (terminal_form l.scope l.special l.name (l.initial.table.nets ++ l.others)) l.table.terminals l.words ≡ until at_no_terminal
      (terminal_form l.scope l.special l.name (l.initial.table.nets ++ l.others)) l.initial.table.terminals l.initial.words;
  kept : l.table.nets ≡ l.initial.table.nets;
}

abbrev pub decreases-terminals : goal.decreases-terminals
decreases-terminals g l = length l.words
