use Rattle.std.proofs.Common.{◌≡◌, length, sym, ◌∙◌, arith}
use Rattle.std.proofs.lemmas.Grind.{common_steps}
use Rattle.leg_design_nets.specs.Steps.Index.{number_of}
use Rattle.leg_design_nets.proofs.ListedNets.{listed_before, none_before}
use Rattle.leg_design_nets.proofs.net_table.NetsBegun.is_listed.Goals as goal

pub returns-in-Some : goal.returns-in-Some
returns-in-Some g c =
    let found = sym c.number_of.ensures ∙ c.in-Some.is in
    let size : c.len.result ≡ length c.self.inside.items.items = grind (arith, common_steps) in
    rw (← c.self.view_is, size) (sym (listed_before (number_of c.self.inside.index.numbers) c.self.inside.items.items c.self.inside.begun.items
    c.self.invariant.indexed c.args.terminal.now c.in-Some.number found))

pub returns-in-None : goal.returns-in-None
returns-in-None g c =
    let none = sym c.number_of.ensures ∙ c.in-None.is in
    rw (← c.self.view_is) (sym (none_before (number_of c.self.inside.index.numbers) c.self.inside.items.items c.self.inside.begun.items c.self.invariant.indexed
    c.args.terminal.now none))
