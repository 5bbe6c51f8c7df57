use Rattle.std.proofs.Common.{◌≡◌, ◌↔◌, FitsSigned, w64, true≢false, sym, subst, ap, ◌∙◌, arith}
use Rattle.std.proofs.lemmas.Int.{ints, to_z-of_z}
use Rattle.leg_geom.specs.Plane.{RectModel}
use Rattle.leg_design_records.specs.declared.records.Wire.TheVariants.{Patch}
use Rattle.leg_design_records.specs.Records.{DesignModel}
use Rattle.leg_wire_spacing.specs.Access.{Admits, alone}
use Rattle.leg_rules.specs.Route.Tracks.{Runs}
use Rattle.leg_rules.specs.Route.Nodes.{IsNode}
use Rattle.leg_rules.specs.Route.StepWires.{half, square}
use Rattle.leg_rules.specs.Route.OpenMetal.{IsOpenWire}
use Rattle.leg_route_grid.proofs.OpenNodes.{open_by_patch, patch_of_open}
use Rattle.leg_route_access.proofs.open_node.node_beside.Goals as goal

pub returns-then-holds_node : goal.returns-then-holds_node
returns-then-holds_node g c net =
    let flat = alone c.args.shape.now in
    let number = c.node-node.ensures.is in
    let fits : FitsSigned w64 c.width_at-width.result = let within = c.width_at-width.ensures.proper.within in omega (arith, ints, within) in
    let runs = c.width_at-width.ensures.is c.node-node.result number in
    let runs' : Runs c.args.design.now.library c.node-node.result.layer runs.0 c.width_at-width.result =
    rw (ap (λ (d : DesignModel). d.library) c.requires.of_design) at runs.1 in
    let is_node : IsNode c.args.design.now c.node-node.result =
    rw c.requires.of_design at ((c.holds_node.ensures c.node-node.result number).0 c.if-holds_node.true) in
    let square_is : c.square.result ≡ square (half c.width_at-width.result) = simp to_z-of_z at c.square.ensures.is in
    let Denotes : RectModel → Type 0 =
    λ s. Admits c.patch_beside.result net ↔ IsOpenWire c.args.design.now flat net (Patch c.node-node.result.layer c.node-node.result.at s) in
    let patch = subst Denotes square_is (c.patch_beside.ensures net) in (
      λ admits. open_by_patch c.args.grid.now c.args.design.now flat net c.args.number c.node-node.result number runs.0 c.width_at-width.result runs' is_node
          (patch.0 admits),
      λ one. patch.1 (patch_of_open c.args.grid.now c.args.design.now flat net c.args.number c.node-node.result number runs.0 c.width_at-width.result
          runs' one),
    )

pub returns-else-holds_node : goal.returns-else-holds_node
returns-else-holds_node g c net = (
  λ none. absurd none,
  λ one. absurd (true≢false (sym ((c.holds_node.ensures one.node one.is).1 (rw c.requires.of_design one.holds.is_node)) ∙ c.if-holds_node.false)),
)
