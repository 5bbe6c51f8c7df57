use Rattle.std.proofs.Common.{sym, ◌∙◌}
use Rattle.leg_design_nets.proofs.NetEntries.{added_on}
use Rattle.leg_design_nets.proofs.net.add_all.Goals as goal

pub loop-terminal-preserved : goal.loop-terminal-preserved
loop-terminal-preserved g c =
    let earlier = c.loop-terminal.invariant.kept in
    record {
      said =
          sym (added_on c.args.name.now c.args.table.now.nets c.loop-terminal.table.nets c.args.others.now c.loop-terminal.table.terminals
          c.add.new.self.terminals c.args.terminals.now c.loop-terminal.terminal-index c.loop-terminal-test.true earlier c.in_ok-add.ensures.said)
          ∙ c.loop-terminal.invariant.said;
      kept = c.in_ok-add.ensures.kept ∙ earlier;
    }
