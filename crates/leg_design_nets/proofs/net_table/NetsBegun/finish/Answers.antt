use Rattle.std.proofs.Common.{◌≡◌, [], ap, ◌∙◌}
use Rattle.leg_design_nets.specs.Steps.Index.{BegunNets, number_of}
use Rattle.leg_design_nets.proofs.ListedNets.{kept_finished}
use Rattle.leg_design_nets.proofs.net_table.NetsBegun.finish.Goals as goal

pub invariant_of-result : goal.invariant_of-result
invariant_of-result g c =
    let nothing : c.self.inside.begun.items ≡ [] = ap (λ (s : BegunNets). s.terminals) c.self.view_is ∙ c.requires in
    kept_finished c.self.inside.items.items c.self.inside.begun.items c.self.inside.names
    (number_of c.self.inside.index.numbers) c.self.inside.terminals c.self.inside.wires c.self.invariant nothing
