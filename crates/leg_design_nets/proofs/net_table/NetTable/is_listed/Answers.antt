use Rattle.std.proofs.Common.{◌≡◌, is_some, sym, ap, ◌∙◌}
use Rattle.leg_design_nets.specs.Steps.Index.{number_of}
use Rattle.leg_design_nets.proofs.ListedNets.{listed_in}
use Rattle.leg_design_nets.proofs.net_table.NetTable.is_listed.Goals as goal

pub returns : goal.returns
returns g c =
    let told : c.is_some.result ≡ is_some (number_of c.self.inside.index.numbers c.args.terminal.now) = c.is_some.ensures ∙ ap is_some c.number_of.ensures in
    rw (← c.self.view_is) (told
    ∙ sym (listed_in (number_of c.self.inside.index.numbers) c.self.inside.items.items c.self.invariant.indexed c.args.terminal.now))
