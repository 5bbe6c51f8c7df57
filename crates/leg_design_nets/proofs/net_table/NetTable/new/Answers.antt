use Rattle.std.proofs.Common.{[], refl}
use Rattle.leg_design_nets.specs.Steps.Index.{number_of}
use Rattle.leg_design_nets.proofs.TerminalLists.{no_index}
use Rattle.leg_design_nets.proofs.net_table.NetTable.new.Goals as goal

pub invariant_of-result : goal.invariant_of-result
invariant_of-result g c =
    rw c.new.ensures.items (record {
      named = c.new-2.ensures;
      indexed = no_index (number_of c.new-3.result.numbers) [] c.new-3.ensures (λ k. refl);
      listed = refl;
      wired = refl;
    })
