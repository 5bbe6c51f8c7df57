use Rattle.std.proofs.Common.{◌≡◌, ◌<◌, false, List, length, ap, ◌∙◌, arith}
use Rattle.std.proofs.lemmas.Grind.{common_steps}
use Rattle.leg_grammar.specs.Def.LonePins.{is_listed, with_terminal}
use Rattle.leg_design_records.specs.Records.{NetModel}
use Rattle.leg_design_nets.specs.Steps.Index.{number_of}
use Rattle.leg_design_nets.proofs.LonePins.{kept_reserved, kept_listed, kept_unlisted}
use Rattle.leg_design_nets.proofs.net_table.NetTable.push_terminal.Goals as goal

pub invariant_of-self : goal.invariant_of-self
invariant_of-self g c =
    kept_reserved c.self.inside.items.items c.self.inside.names (number_of c.self.inside.index.numbers)
    (number_of c.reserve.new.self.numbers) c.self.inside.terminals c.self.inside.wires c.self.invariant c.reserve.ensures.same

pub invariant_of-self-in_err-list_terminal : goal.invariant_of-self-in_err-list_terminal
invariant_of-self-in_err-list_terminal g c =
    let whole : c.self.inside.items.len ≡ length c.self.inside.items.items = grind (arith, common_steps) in
    let is : c.list_terminal.new.nets ≡ c.self.inside.items.items = c.in_err-list_terminal.ensures.unchanged ∙ c.deref_mut.ensures.value in
    kept_unlisted c.self.inside.items.items c.list_terminal.new.nets c.self.inside.items.len c.self.inside.names (number_of c.self.inside.index.numbers)
    (number_of c.reserve.new.self.numbers) c.self.inside.terminals c.self.inside.wires c.self.invariant whole is c.reserve.ensures.same

pub invariant_of-self-2 : goal.invariant_of-self-2
invariant_of-self-2 g c =
    let nets = c.self.inside.items.items in
    let whole : c.self.inside.items.len ≡ length nets = grind (arith, common_steps) in
    let less : c.args.number < length nets = grind (arith, common_steps) in
    let put : c.list_terminal.new.nets ≡ with_terminal c.args.terminal c.args.number nets =
    c.in_ok-list_terminal.ensures.listed ∙ ap (λ (xs : List NetModel). with_terminal c.args.terminal c.args.number xs) c.deref_mut.ensures.value in
    let not : is_listed c.args.terminal nets ≡ false = ap (λ (xs : List NetModel). is_listed c.args.terminal xs) c.self.view_is ∙ c.requires.unlisted in
    kept_listed nets c.list_terminal.new.nets c.self.inside.items.len c.args.number c.args.terminal c.self.inside.names (number_of c.self.inside.index.numbers)
    (number_of c.reserve.new.self.numbers) (number_of c.push.new.self.numbers) c.self.inside.terminals
    c.self.inside.wires c.self.invariant whole less put not (record { same = c.reserve.ensures.same; updates = c.push.ensures })
