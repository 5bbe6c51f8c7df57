-- The lists are those of a design, so their wires are spelled.
use Rattle.std.proofs.Common.{false, arith}
use Rattle.std.proofs.lemmas.Grind.{common_steps}
use Rattle.leg_design_records.specs.WellFormedNets.{IsWire}
use Rattle.test_memory_design.proofs.MoreWires.{all_listed}
use Rattle.test_memory_design.proofs.tests.two_nets.lists_of_wires.Goals as goal

pub returns-clause-are : goal.returns-clause-are
returns-clause-are g c = grind (arith, common_steps)

pub returns-clause-spelled : goal.returns-clause-spelled
returns-clause-spelled g c =
    let design = c.args.design.now in
    all_listed (λ wires. wires.items) (IsWire design.library design.vias false) c.loop-net.lists.items design.nets (returns-clause-are g c)
    (λ k net some. (c.nets-net-items.ensures.proper.nets.nets.each k net some).wires)
