use Rattle.leg_design_nets.proofs.TerminalLists.{kept_by}
use Rattle.leg_design_records.proofs.SameTerminal.{terminal_eq_is}
use Rattle.leg_design_nets.proofs.terminal_index.TerminalIndex.reserve.Goals as goal

pub returns-clause-same : goal.returns-clause-same
returns-clause-same g c = λ terminal. kept_by _ terminal_eq_is c.args.self.now.numbers c.reserve.new.self c.reserve.ensures.entries.2 terminal
