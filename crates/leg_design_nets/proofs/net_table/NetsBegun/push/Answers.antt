use Rattle.std.proofs.Common.{◌≡◌, ◌++◌, ◌∷◌, [], false, length, ap, ◌∙◌, arith}
use Rattle.std.proofs.lemmas.Grind.{common_steps}
use Rattle.leg_design_records.specs.Terminals.{is_among}
use Rattle.leg_grammar.specs.Def.LonePins.{is_listed}
use Rattle.leg_design_nets.specs.Steps.Index.{number_of, BegunNets}
use Rattle.leg_design_nets.proofs.ListedNets.{index_begun}
use Rattle.leg_design_nets.proofs.net_table.NetsBegun.push.Goals as goal

pub invariant_of-self-2 : goal.invariant_of-self-2
invariant_of-self-2 g c =
    let nets = c.self.inside.items.items in
    let begun = c.self.inside.begun.items in
    let before : is_listed c.args.terminal nets ≡ false = ap (λ (s : BegunNets). is_listed c.args.terminal s.nets) c.self.view_is ∙ c.requires.before in
    let here : is_among c.args.terminal begun ≡ false = ap (λ (s : BegunNets). is_among c.args.terminal s.terminals) c.self.view_is ∙ c.requires.here in
    let last : c.len.result ≡ length nets = grind (arith, common_steps) in
    let more : c.push-2.new.self.items ≡ begun ++ c.args.terminal ∷ [] = grind (arith, common_steps) in
    record {
      named = c.self.invariant.named;
      indexed = index_begun (number_of c.self.inside.index.numbers) (number_of c.reserve-2.new.self.numbers)
          (number_of c.push.new.self.numbers) nets begun c.push-2.new.self.items c.args.terminal c.len.result c.self.invariant.indexed
          (record { same = c.reserve-2.ensures.same; updates = c.push.ensures }) last more before here;
      listed = c.self.invariant.listed;
      wired = c.self.invariant.wired;
    }
