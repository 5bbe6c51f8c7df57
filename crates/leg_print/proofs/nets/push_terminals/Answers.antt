use Rattle.leg_output.specs.Text.Nets.{terminal_words}
use Rattle.leg_print.proofs.Appends.{next_run}
use Rattle.leg_print.proofs.nets.push_terminals.Goals as goal

pub loop-terminal-preserved : goal.loop-terminal-preserved
loop-terminal-preserved g c =
    next_run (terminal_words c.args.design.now) c.args.terminals.now c.loop-terminal.terminal-index _ _ c.loop-terminal.text.items _
    c.loop-terminal-test.true c.loop-terminal.invariant
    (rw (c.terminal_names.ensures.first, c.terminal_names.ensures.second) at c.in_ok-push_words.ensures)
