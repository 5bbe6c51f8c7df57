use Rattle.leg_design_records.specs.declared.records.Terminal.{Terminal}
use Rattle.leg_rules.specs.Wirelength.{IsTerminalCentre}
use Rattle.leg_print.proofs.PointsOfSome.{next_one, all_taken}
use Rattle.leg_print.proofs.TerminalCentres.{centres_among}
use Rattle.leg_print.proofs.wirelength.centres_box.Goals as goal

pub loop-terminal-preserved : goal.loop-terminal-preserved
loop-terminal-preserved g c =
    rw c.joined-bounds.ensures
    (next_one Terminal (IsTerminalCentre c.args.design.now) c.args.terminals.now c.loop-terminal.terminal-index _ c.loop-terminal.bounds
    c.terminal_centre.result c.loop-terminal-test.true c.loop-terminal.invariant c.terminal_centre.ensures)

pub returns : goal.returns
returns g c =
    centres_among c.args.design.now c.args.terminals.now c.loop-terminal.bounds
    (all_taken Terminal (IsTerminalCentre c.args.design.now) c.args.terminals.now c.loop-terminal.terminal-index c.loop-terminal.bounds
    c.loop-terminal-test.false c.loop-terminal.invariant)
