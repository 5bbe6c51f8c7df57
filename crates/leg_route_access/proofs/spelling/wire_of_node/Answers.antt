use Rattle.std.proofs.Common.{◌≡◌, [], ◌∷◌, ◌++◌, All, false, ap, ◌∙◌, arith}
use Rattle.std.proofs.lemmas.List.Elements.{All-push}
use Rattle.leg_design_records.specs.WellFormedNets.{IsWire}
use Rattle.leg_rules.specs.Route.Spelling.{stays}
use Rattle.leg_route_access.proofs.GridWires.{node_position, patch_is_wire}
use Rattle.leg_route_access.proofs.spelling.wire_of_node.Goals as goal

pub returns-clause-wires : goal.returns-clause-wires
returns-clause-wires g c =
    let items : c.push.new.self.items ≡ c.patch.result ∷ [] = c.in_ok-push.ensures.items ∙ ap (λ l. l ++ c.patch.result ∷ []) c.new-wires.ensures.items in
    rw items (stays c.patch.ensures.adds)

pub returns-clause-spelled : goal.returns-clause-spelled
returns-clause-spelled g c =
    let items : c.push.new.self.items ≡ c.patch.result ∷ [] = c.in_ok-push.ensures.items ∙ ap (λ l. l ++ c.patch.result ∷ []) c.new-wires.ensures.items in
    let none : All (IsWire c.args.design.now.library c.args.design.now.vias false) [] = λ k d below. absurd (omega (arith, below)) in
    rw items (All-push (IsWire c.args.design.now.library c.args.design.now.vias false) [] c.patch.result none
    (patch_is_wire c.args.design.now c.args.node.now c.patch.result
    (node_position c.args.design.now c.args.node.now c.is_proper.ensures c.requires) c.patch.ensures.proper c.patch.ensures.adds))
