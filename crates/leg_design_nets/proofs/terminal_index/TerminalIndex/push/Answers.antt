use Rattle.leg_design_nets.proofs.TerminalLists.{pushed_by}
use Rattle.leg_design_records.proofs.SameTerminal.{terminal_eq_is}
use Rattle.leg_design_nets.proofs.terminal_index.TerminalIndex.push.Goals as goal

pub returns : goal.returns
returns g c = λ other.
    let updates = rw c.unwrap.ensures at c.insert-inserted.ensures.updates in
    pushed_by _ terminal_eq_is c.args.self.now.numbers c.insert-inserted.new.self c.args.terminal c.args.number updates.0 other
