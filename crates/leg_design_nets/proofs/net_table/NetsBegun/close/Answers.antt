use Rattle.std.proofs.Common.{◌≡◌, ◌++◌, ◌∷◌, [], length, refl, arith}
use Rattle.std.proofs.lemmas.Grind.{common_steps}
use Rattle.leg_design_records.specs.Records.{NetModel}
use Rattle.leg_design_nets.specs.Steps.Index.{number_of}
use Rattle.leg_design_nets.proofs.ListedNets.{kept_closed}
use Rattle.leg_design_nets.proofs.net_table.NetsBegun.close.Goals as goal

pub invariant_of-self-2 : goal.invariant_of-self-2
invariant_of-self-2 g c =
    let nets = c.self.inside.items.items in
    let begun = c.self.inside.begun.items in
    let net : NetModel = record { name = c.args.name.now; usage = c.args.usage; terminals = begun; wires = c.args.wires.items } in
    let pushed : c.push-2.new.self.items ≡ nets ++ net ∷ [] = grind (arith, common_steps) in
    let nothing : c.replace-terminals.new.dest.items ≡ [] = grind (arith, common_steps) in
    let named : c.push.new.self ≡ c.self.inside.names ++ c.args.name.now ∷ [] = grind (arith, common_steps) in
    let so_many : c.len.result ≡ length begun = grind (arith, common_steps) in
    let so_many_wires : c.len-2.result ≡ length c.args.wires.items = grind (arith, common_steps) in
    kept_closed nets c.push-2.new.self.items begun c.replace-terminals.new.dest.items net c.self.inside.names c.push.new.self
    (number_of c.self.inside.index.numbers) c.self.inside.terminals c.self.inside.wires c.len.result c.len-2.result c.self.invariant
    (record { pushed = pushed; whole = refl; so_many = so_many; so_many_wires = so_many_wires }) nothing named
