-- The wires of nodes and steps of the grid are such as a DEF can spell.
use Rattle.std.proofs.Common.{◌≡◌, ◌≢◌, ℕ, suc, zero, ◌⊎◌, inl, inr, ℤ, pos, ◌-ℤ◌, ◌≤ℤ◌, ◌<ℤ◌, false, true, IsTrue, List, [], ◌∷◌, ◌++◌, Option, None, Some, slice_get, refl, sym, ap, ◌∙◌, arith}
use Rattle.std.specs.Ordering.{int_eq}
use Rattle.std.proofs.lemmas.Int.{ints}
use Rattle.std.proofs.lemmas.Option.{same_Some}
use Rattle.std.proofs.lemmas.List.Elements.{All-contains}
use Rattle.std.proofs.lemmas.Bool.{or_right, or_left}
use Rattle.leg_lex.specs.Number.{IsNumber}
use Rattle.leg_lex.specs.Words.{◌>>=◌}
use Rattle.leg_geom.specs.Plane.{PointModel}
use Rattle.leg_lib_records.specs.declared.records.Direction.{Direction}
use Rattle.leg_lib_records.specs.declared.records.Direction.TheVariants.{Horizontal, Vertical}
use Rattle.leg_lib_records.specs.declared.records.LayerKind.{LayerKind}
use Rattle.leg_lib_records.specs.declared.records.LayerKind.TheVariants.{Routing, Cut, Other}
use Rattle.leg_lib_records.specs.declared.records.Layer.{Layer}
use Rattle.leg_lib_records.specs.Sound.{IsSound}
use Rattle.leg_lib_records.specs.Records.{LibraryModel, ViaModel}
use Rattle.leg_design_records.specs.declared.records.Axis.{Axis}
use Rattle.leg_design_records.specs.declared.records.Wire.{Wire}
use Rattle.leg_design_records.specs.Layers.{wire_width, width_of_layer, is_routing}
use Rattle.leg_design_records.specs.Wires.{is_straight, default_extension}
use Rattle.leg_design_records.specs.WellFormedParts.{IsPosition, IsArea, IsTrack}
use Rattle.leg_design_records.specs.WellFormedNets.{IsWire}
use Rattle.leg_design_records.specs.WellFormed.{IsWellFormed}
use Rattle.leg_design_records.specs.Records.{DesignModel}
use Rattle.leg_rules.specs.declared.side.Side.{Side}
use Rattle.leg_rules.specs.declared.side.Side.TheVariants.{West, East, South, North, Below, Above}
use Rattle.leg_rules.specs.declared.node.Node.{Node}
use Rattle.leg_rules.specs.Route.Tracks.{Runs, HasTrack}
use Rattle.leg_rules.specs.Route.Nodes.{IsNode}
use Rattle.leg_rules.specs.Route.Between.{IsVia}
use Rattle.leg_rules.specs.Route.Neighbours.{IsOver}
use Rattle.leg_rules.specs.Route.StepWires.{half, NodeAdds, IsLine, IsViaStep}
use Rattle.leg_rules.specs.Route.Spelling.{IsOnLayer}
use Rattle.leg_route_access.specs.Steps.Towards.{LiesDue}
use Rattle.leg_route_grid.proofs.GridValues.{line_is_number}
use Rattle.leg_route_access.proofs.Squares.{half_is}
use Rattle.leg_route_grid.proofs.OpenNodes.{width_is}

number_at : (design : DesignModel) (n : ℕ) (axis : Axis) (z : ℤ) → IsWellFormed design → HasTrack design n axis z → IsNumber z
number_at design n axis z proper has =
    line_is_number design.library has.track z (All-contains (IsTrack design.library) design.tracks has.track proper.tracks has.given) has.line

-- both coordinates of a node are numbers that a DEF may have
pub node_position : (design : DesignModel) (node : Node) → IsWellFormed design → IsNode design node → IsPosition node.at
node_position design node proper (inl upright) = record { x = number_at design _ _ _ proper upright.track; y = number_at design _ _ _ proper upright.y.track }
node_position design node proper (inr level) = record { x = number_at design _ _ _ proper level.x.track; y = number_at design _ _ _ proper level.track }

-- the layer's width
pub runs_width : (library : LibraryModel) (n : ℕ) (direction : Direction) (width : ℤ) → Runs library n direction width → width_of_layer library n ≡ Some width
runs_width library n direction width runs = rw (runs.there, runs.routes) refl

pub width_runs : (library : LibraryModel) (n : ℕ) (width : ℤ) → width_of_layer library n ≡ Some width → (direction : Direction) × Runs library n direction width
width_runs library n width is = by (slice_get library.layers n) refl is where
  by_kind : (layer : Layer) (kind : LayerKind) → slice_get library.layers n ≡ Some layer → layer.kind ≡ kind → wire_width kind ≡ Some width
      → (direction : Direction) × Runs library n direction width
  by_kind layer (Routing direction w) there kind is =
      (direction, record { layer = layer; there = there; routes = kind ∙ ap (Routing direction) (same_Some w width is) })
  by_kind layer Cut there kind is = absurd (let e : ⊥ = cc is in e)
  by_kind layer Other there kind is = absurd (let e : ⊥ = cc is in e)

  by : (layer : Option Layer) → slice_get library.layers n ≡ layer → (layer >>= λ l. wire_width l.kind) ≡ Some width
      → (direction : Direction) × Runs library n direction width
  by None there is = absurd (let e : ⊥ = cc is in e)
  by (Some layer) there is = by_kind layer layer.kind there refl is

pub node_routes : (design : DesignModel) (node : Node) → IsNode design node → IsTrue (is_routing design.library node.layer)
node_routes design node (inl upright) = rw (runs_width design.library node.layer Vertical upright.width upright.vertical) refl
node_routes design node (inr level) = rw (runs_width design.library node.layer Horizontal level.width level.horizontal) refl

same_z : (a b : ℤ) → a ≡ b → int_eq b a ≡ true
same_z a b is = grind (arith, ints)

-- a straight run is no point, and goes along an axis
straight : (side : Side) (a b : Node) → IsOnLayer side → LiesDue side a b → IsTrue (is_straight a.at b.at)
straight West a b on is = or_right (int_eq a.at.x b.at.x) (int_eq a.at.y b.at.y) (same_z b.at.y a.at.y is.1)
straight East a b on is = or_right (int_eq a.at.x b.at.x) (int_eq a.at.y b.at.y) (same_z b.at.y a.at.y is.1)
straight South a b on is = or_left (int_eq a.at.x b.at.x) (int_eq a.at.y b.at.y) (same_z b.at.x a.at.x is.1)
straight North a b on is = or_left (int_eq a.at.x b.at.x) (int_eq a.at.y b.at.y) (same_z b.at.x a.at.x is.1)
straight Below a b on is = absurd on
straight Above a b on is = absurd on

not_same : (x y : ℤ) → x <ℤ y → x ≢ y
not_same x y less same = omega (arith, ints)

long : (side : Side) (a b : Node) → IsOnLayer side → LiesDue side a b → a.at ≢ b.at
long West a b on is = λ same. not_same b.at.x a.at.x is.2 (sym (ap (λ (p : PointModel). p.x) same))
long East a b on is = λ same. not_same a.at.x b.at.x is.2 (ap (λ (p : PointModel). p.x) same)
long South a b on is = λ same. not_same b.at.y a.at.y is.2 (sym (ap (λ (p : PointModel). p.y) same))
long North a b on is = λ same. not_same a.at.y b.at.y is.2 (ap (λ (p : PointModel). p.y) same)
long Below a b on is = absurd on
long Above a b on is = absurd on

half_is_default : (library : LibraryModel) (n : ℕ) (width : ℤ) → width_of_layer library n ≡ Some width → half width ≡ default_extension library None n
unfolding default_extension
half_is_default library n width is = rw is refl

module _ (design : DesignModel) (a : Node) (wire : Wire) (a_at : IsPosition a.at) where
  pub line_is_wire : (side : Side) (b : Node) → IsPosition b.at → IsOnLayer side → LiesDue side a b → IsLine design a b wire
      → IsWire design.library design.vias false wire
  line_is_wire side b b_at on is line =
      let wide = runs_width design.library a.layer line.direction line.width line.runs in
      let extension = half_is_default design.library a.layer line.width wide in
      rw line.is (record {
        routes = rw wide refl;
        from_ = a_at;
        to_ = b_at;
        straight = straight side a b on is;
        long = long side a b on is;
        width_ = wide;
        from_extension = inr extension;
        to_extension = inr extension;
      })

  pub patch_is_wire : IsSound design.library → NodeAdds design a wire → IsWire design.library design.vias false wire
  patch_is_wire sound adds =
      let wide = runs_width design.library a.layer adds.direction adds.width adds.runs in
      let h = half_is adds.width (width_is design.library a.layer adds.direction adds.width sound adds.runs) in
      let some = h.some in
      let within = h.within in
      rw adds.is (refl, rw wide refl, a_at, area (half adds.width) some within) where
        area : (z : ℤ) → pos 1 ≤ℤ z → IsNumber z → IsArea (record { x1 = pos 0 -ℤ z; y1 = pos 0 -ℤ z; x2 = z; y2 = z })
        area z some within =
            record {
              x1 = omega (arith, ints);
              y1 = omega (arith, ints);
              x2 = omega (arith, ints);
              y2 = omega (arith, ints);
              proper = record { wide = omega (arith, ints); high = omega (arith, ints) };
            }

  get_left : (xs ys : List ViaModel) (k : ℕ) (via : ViaModel) → slice_get xs k ≡ Some via → slice_get (xs ++ ys) k ≡ Some via
  get_left [] ys k via is = absurd (let e : ⊥ = cc is in e)
  get_left (x ∷ xs) ys zero via is = is
  get_left (x ∷ xs) ys (suc k) via is = get_left xs ys k via is

  via_there : (low high k : ℕ) → IsVia design.library low high k
      → (via : ViaModel) × (slice_get (design.library.vias ++ design.vias) k ≡ Some via) × IsTrue via.good
  via_there low high k (inl first) = (first.via, get_left design.library.vias design.vias k first.via first.there, first.holds.joins.good)
  via_there low high k (inr other) = (other.first.via, get_left design.library.vias design.vias k other.first.via other.first.there, other.first.holds.good)

  pub via_is_wire : (b : Node) → IsViaStep design a b wire → IsWire design.library design.vias false wire
  via_is_wire b step = rw step.is (by step.over) where
    by : IsOver design step.via a b ⊎ IsOver design step.via b a
        → IsPosition a.at × ((via : ViaModel) × (slice_get (design.library.vias ++ design.vias) step.via ≡ Some via) × IsTrue via.good)
    by (inl up) = (a_at, via_there a.layer b.layer step.via up.via_is)
    by (inr down) = (a_at, via_there b.layer a.layer step.via down.via_is)
