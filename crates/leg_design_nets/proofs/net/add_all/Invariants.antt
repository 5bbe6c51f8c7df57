use Rattle.std.proofs.Common.{◌≡◌, ◌++◌, drop}
use Rattle.leg_lex.specs.Until.{over}
use Rattle.leg_grammar.specs.Def.Terminal.{add_terminal}
use Rattle.leg_design_nets.proofs.net.add_all.Given as goal

abbrev pub invariant-loop-terminal : goal.invariant-loop-terminal
invariant-loop-terminal g l = record {
  said : over (add_terminal l.name (l.initial.table.nets ++ l.others)) l.table.terminals (drop l.terminal-index l.terminals) ≡ over
      (add_terminal l.name (l.initial.table.nets ++ l.others)) l.initial.table.terminals l.terminals;
  kept : l.table.nets ≡ l.initial.table.nets;
}
