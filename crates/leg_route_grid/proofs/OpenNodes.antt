-- Nodes that are open, by the patches that they add.
use Rattle.std.proofs.Common.{◌≡◌, ℕ, ℤ, Some, slice_get, refl, sym, ap, ◌∙◌}
use Rattle.std.proofs.lemmas.Option.{same_Some, slice_get_within, get_or_from_slice_get}
use Rattle.leg_lib_records.specs.declared.records.Direction.{Direction}
use Rattle.leg_lib_records.specs.declared.records.LayerKind.TheVariants.{Routing}
use Rattle.leg_lib_records.specs.declared.records.Layer.{Layer}
use Rattle.leg_lib_records.specs.Sound.{IsSound, IsSoundLayer, IsWidth, HasWidth}
use Rattle.leg_lib_records.specs.Records.{LibraryModel}
use Rattle.leg_design_records.specs.declared.records.Wire.TheVariants.{Patch}
use Rattle.leg_design_records.specs.Records.{DesignModel}
use Rattle.leg_rules.specs.Metal.Flat.{FlatModel}
use Rattle.leg_route_grid.specs.declared.layers.RoutingLayer.{RoutingLayer}
use Rattle.leg_rules.specs.declared.node.Node.{Node}
use Rattle.leg_rules.specs.Route.Tracks.{Runs}
use Rattle.leg_rules.specs.Route.Nodes.{IsNode}
use Rattle.leg_rules.specs.Route.StepWires.{half, square}
use Rattle.leg_rules.specs.Route.OpenMetal.{IsOpenWire, IsOpenNode}
use Rattle.leg_route_grid.specs.Steps.Grid.{GridModel, LiesAt, IsNumberOf}
use Rattle.leg_route_grid.specs.Steps.NodeNumbers.{IsOneOf}
use Rattle.leg_route_grid.proofs.GridSlots.{the_node}

-- a routing layer's width
pub width_is : (library : LibraryModel) (n : ℕ) (direction : Direction) (width : ℤ) → IsSound library → Runs library n direction width → IsWidth width
width_is library n direction width sound runs =
    let of_layer : IsSoundLayer runs.layer =
    rw (get_or_from_slice_get library.layers n runs.layer runs.layer runs.there) at
    (sound.layers n runs.layer (slice_get_within library.layers n runs.layer runs.there)) in
    let wide : HasWidth (Routing direction width) = rw runs.routes at of_layer.width in
    wide

same_width : (d e : Direction) (v w : ℤ) → Routing d v ≡ Routing e w → v ≡ w
same_width d e v w is = cc

pub one_width : (library : LibraryModel) (n : ℕ) (d e : Direction) (v w : ℤ) → Runs library n d v → Runs library n e w → v ≡ w
one_width library n d e v w runs also =
    let same : runs.layer ≡ also.layer = same_Some runs.layer also.layer (sym runs.there ∙ also.there) in
    same_width d e v w (sym runs.routes ∙ ap (λ (l : Layer). l.kind) same ∙ also.routes)

-- the layer of a node's slot is the node's
pub runs_at_node : (grid : GridModel) (k j i : ℕ) (node : Node) (layer : RoutingLayer) → slice_get grid.layers k ≡ Some layer → LiesAt grid k j i node
    → Runs grid.design.library layer.number layer.direction layer.width → Runs grid.design.library node.layer layer.direction layer.width
runs_at_node grid k j i node layer there lies runs =
    let on : node.layer ≡ layer.number = lies.on ∙ ap (λ (l : RoutingLayer). l.number) (same_Some lies.layer layer (sym lies.there ∙ there)) in
    rw on runs

module _ (grid : GridModel) (design : DesignModel) (flat : FlatModel) (net n : ℕ) (node : Node) (number : IsNumberOf grid n node) where
  pub open_by_patch : (direction : Direction) (width : ℤ) → Runs design.library node.layer direction width → IsNode design node
      → IsOpenWire design flat net (Patch node.layer node.at (square (half width))) → IsOneOf (IsNumberOf grid) (IsOpenNode design flat net) n
  open_by_patch direction width runs is_node is_open = record {
    node = node;
    is = number;
    holds = record {
      is_node = is_node;
      wire = Patch node.layer node.at (square (half width));
      adds = record { direction = direction; width = width; runs = runs; is = refl };
      clean = is_open;
    };
  }

  pub patch_of_open : (direction : Direction) (width : ℤ) → Runs design.library node.layer direction width
      → IsOneOf (IsNumberOf grid) (IsOpenNode design flat net) n
      → IsOpenWire design flat net (Patch node.layer node.at (square (half width)))
  patch_of_open direction width runs one =
      let same : one.node ≡ node = the_node grid n one.node node one.is number in
      let is_open : IsOpenNode design flat net node = rw same at one.holds in
      let adds = is_open.adds in
      let wide : adds.width ≡ width = one_width design.library node.layer adds.direction direction adds.width width adds.runs runs in
      let wire : is_open.wire ≡ Patch node.layer node.at (square (half width)) = adds.is ∙ ap (λ (w : ℤ). Patch node.layer node.at (square (half w))) wide in
      rw wire at is_open.clean
