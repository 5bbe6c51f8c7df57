-- Slots beside one another hold nodes beside one another.
use Rattle.std.proofs.Common.{◌≡◌, ℕ, ◌+◌, ◌<◌, ◌⊎◌, ◌↔◌, inl, inr, true≢false, ◌<ℤ◌, List, AllPairs, length, get_or, Option, None, Some, slice_get, sym, ap, ◌∙◌, arith}
use Rattle.std.proofs.lemmas.Int.{ints}
use Rattle.std.proofs.lemmas.Option.{same_Some, slice_get-get_or, slice_get_within, get_or_from_slice_get}
use Rattle.std.proofs.lemmas.List.Elements.{All-contains}
use Rattle.std.proofs.lemmas.Bool.{cases_order}
use Rattle.leg_geom.specs.Plane.{PointModel}
use Rattle.leg_lib_records.specs.declared.records.Direction.TheVariants.{Horizontal, Vertical}
use Rattle.leg_lib_records.specs.declared.joins.ViaPart.{ViaPart}
use Rattle.leg_lib_records.specs.JoinLaw.{Joins}
use Rattle.leg_lib_records.specs.GoodVia.{uses_of}
use Rattle.leg_lib_records.specs.Records.{LibraryModel}
use Rattle.leg_rules.specs.declared.side.Side.{Side}
use Rattle.leg_rules.specs.declared.side.Side.TheVariants.{West, East, South, North, Below, Above}
use Rattle.leg_route_grid.specs.declared.layers.RoutingLayer.{RoutingLayer}
use Rattle.leg_rules.specs.declared.node.Node.{Node}
use Rattle.leg_route_grid.specs.declared.slot.Slot.{Slot}
use Rattle.leg_rules.specs.Route.Tracks.{Runs, IsGridX, IsGridY}
use Rattle.leg_rules.specs.Route.Nodes.{IsNode}
use Rattle.leg_rules.specs.Route.Between.{IsVia}
use Rattle.leg_rules.specs.Route.Neighbours.{IsEast, IsNorth, IsOver, IsNeighbour}
use Rattle.leg_route_grid.specs.Steps.Grid.{GridModel, IsDesignGrid, LiesAt}
use Rattle.leg_route_grid.specs.Steps.SlotNeighbours.{IsEastOf, IsNorthOf, IsAboveOf, IsSlotNeighbour}
use Rattle.leg_route_grid.proofs.NextValues.{later_is_more, none_between, next_is_behind}
use Rattle.leg_route_grid.proofs.GridSlots.{one_place, one_direction, runs_there, x_is, y_is}
use Rattle.leg_route_grid.proofs.OpenNodes.{runs_at_node}
use Rattle.leg_route_grid.proofs.FirstVia.{one_via}
use Rattle.leg_route_grid.proofs.ViaSteps.{runs_is_routing}

abbrev Rises : List RoutingLayer → Type 0
Rises layers = AllPairs (λ a b. a.number < b.number) layers

-- a layer of a higher number stands behind
later : (layers : List RoutingLayer) (i j : ℕ) (a b : RoutingLayer) → Rises layers → slice_get layers i ≡ Some a → slice_get layers j ≡ Some b → i < j
    → a.number < b.number
later layers i j a b rising at_i at_j less =
    let both : (get_or layers i b).number < (get_or layers j b).number = rising i j b less (slice_get_within layers j b at_j) in
    rw (get_or_from_slice_get layers i a b at_i) at (rw (get_or_from_slice_get layers j b b at_j) at both)

behind : (layers : List RoutingLayer) (i j : ℕ) (a b : RoutingLayer) → Rises layers → slice_get layers i ≡ Some a → slice_get layers j ≡ Some b
    → a.number < b.number → i < j
behind layers i j a b rising at_i at_j less = by (cases_order i j) where
  by : (i ≡ j) ⊎ ((i < j) ⊎ (j < i)) → i < j
  by (inl same) =
      absurd (let e : a ≡ b = same_Some a b (sym at_i ∙ ap (slice_get layers) same ∙ at_j) in
      let n : a.number ≡ b.number = ap (λ (l : RoutingLayer). l.number) e in omega (arith, n, less))
  by (inr (inl before)) = before
  by (inr (inr after)) = absurd (let more = later layers j i b a rising at_j at_i after in omega (arith, more, less))

-- what the parts of the via between two layers join
pub record HasJoins (library : LibraryModel) (low high : ℕ) : Type 0 where
  pub parts : List ViaPart
  pub cut : ℕ
  pub joins : Joins (uses_of library.layers) parts low cut high

pub via_joins : (library : LibraryModel) (low high via : ℕ) → IsVia library low high via → HasJoins library low high
via_joins library low high via (inl first) = record { parts = _; cut = first.holds.joins.cut; joins = first.holds.joins.joins }
via_joins library low high via (inr first) = record { parts = _; cut = first.first.holds.cut; joins = first.first.holds.joins }

module _ (grid : GridModel) (is_grid : IsDesignGrid grid) (s t : Slot) (a b : Node) (at_s : LiesAt grid s.layer s.row s.column a)
    (at_t : LiesAt grid t.layer t.row t.column b) (a_is : IsNode grid.design a) (b_is : IsNode grid.design b) where
  runs_a : Runs grid.design.library a.layer at_s.layer.direction at_s.layer.width
  runs_a = runs_at_node grid s.layer s.row s.column a at_s.layer at_s.there at_s (runs_there grid is_grid s.layer at_s.layer at_s.there)

  layer_here : (layer : RoutingLayer) → slice_get grid.layers s.layer ≡ Some layer → at_s.layer ≡ layer
  layer_here layer there = same_Some at_s.layer layer (sym at_s.there ∙ there)

  same_layers : t.layer ≡ s.layer → b.layer ≡ a.layer
  same_layers same =
      at_t.on ∙ ap (λ (l : RoutingLayer). l.number) (same_Some at_t.layer at_s.layer (sym at_t.there ∙ ap (slice_get grid.layers) same ∙ at_s.there))
      ∙ sym at_s.on

  same_places : b.layer ≡ a.layer → t.layer ≡ s.layer
  same_places same =
      let number : at_t.layer.number ≡ at_s.layer.number = sym at_t.on ∙ same ∙ at_s.on in
      one_place (λ a b. a.number < b.number) grid.layers t.layer s.layer at_t.layer at_s.layer is_grid.layers_are.increasing at_t.there at_s.there
      (λ less. omega (arith, less, number)) (λ more. omega (arith, more, number))

  same_x : t.column ≡ s.column → b.at.x ≡ a.at.x
  same_x same = same_Some _ _ (sym at_t.x ∙ ap (slice_get grid.xs) same ∙ at_s.x)

  same_y : t.row ≡ s.row → b.at.y ≡ a.at.y
  same_y same = same_Some _ _ (sym at_t.y ∙ ap (slice_get grid.ys) same ∙ at_s.y)

  same_column : b.at.x ≡ a.at.x → t.column ≡ s.column
  same_column same =
      one_place (λ a b. a <ℤ b) grid.xs t.column s.column b.at.x a.at.x is_grid.xs_are.increasing at_t.x at_s.x (λ less. omega (arith, ints, less, same))
      (λ more. omega (arith, ints, more, same))

  same_row : b.at.y ≡ a.at.y → t.row ≡ s.row
  same_row same =
      one_place (λ a b. a <ℤ b) grid.ys t.row s.row b.at.y a.at.y is_grid.ys_are.increasing at_t.y at_s.y (λ less. omega (arith, ints, less, same))
      (λ more. omega (arith, ints, more, same))

  pub east : IsEastOf grid s t ↔ IsEast grid.design a b
  east = (
    λ e.
        let way : at_s.layer.direction ≡ Horizontal = ap (λ (l : RoutingLayer). l.direction) (layer_here e.layer e.there) ∙ e.horizontal in
        let beyond : slice_get grid.xs (s.column + 1) ≡ Some b.at.x = rw e.next at at_t.x in
        let before : s.column < t.column = let next = e.next in omega (arith, next) in
        record {
          a_is = a_is;
          b_is = b_is;
          width = at_s.layer.width;
          horizontal = rw way at runs_a;
          layer = same_layers e.same_layer;
          level = same_y e.same_row;
          next = record {
            a_is = x_is grid is_grid s.column a.at.x at_s.x;
            b_is = x_is grid is_grid t.column b.at.x at_t.x;
            less = later_is_more grid.xs is_grid.xs_are.increasing s.column t.column a.at.x b.at.x at_s.x at_t.x before;
            none_between = λ c value. none_between grid.xs is_grid.xs_are.increasing s.column a.at.x b.at.x c at_s.x beyond (is_grid.xs_are.all c value);
          };
        },
    λ e. record {
      layer = at_s.layer;
      there = at_s.there;
      horizontal = one_direction grid.design.library a.layer at_s.layer.direction Horizontal at_s.layer.width e.width runs_a e.horizontal;
      same_layer = same_places e.layer;
      same_row = same_row e.level;
      next = next_is_behind grid.xs is_grid.xs_are.increasing s.column t.column a.at.x b.at.x at_s.x at_t.x e.next.less
          (λ c there. e.next.none_between c (All-contains (IsGridX grid.design) grid.xs c is_grid.xs_are.each there));
    },
  )

  pub north : IsNorthOf grid s t ↔ IsNorth grid.design a b
  north = (
    λ e.
        let way : at_s.layer.direction ≡ Vertical = ap (λ (l : RoutingLayer). l.direction) (layer_here e.layer e.there) ∙ e.vertical in
        let beyond : slice_get grid.ys (s.row + 1) ≡ Some b.at.y = rw e.next at at_t.y in
        let before : s.row < t.row = let next = e.next in omega (arith, next) in
        record {
          a_is = a_is;
          b_is = b_is;
          width = at_s.layer.width;
          vertical = rw way at runs_a;
          layer = same_layers e.same_layer;
          upright = same_x e.same_column;
          next = record {
            a_is = y_is grid is_grid s.row a.at.y at_s.y;
            b_is = y_is grid is_grid t.row b.at.y at_t.y;
            less = later_is_more grid.ys is_grid.ys_are.increasing s.row t.row a.at.y b.at.y at_s.y at_t.y before;
            none_between = λ c value. none_between grid.ys is_grid.ys_are.increasing s.row a.at.y b.at.y c at_s.y beyond (is_grid.ys_are.all c value);
          };
        },
    λ e. record {
      layer = at_s.layer;
      there = at_s.there;
      vertical = one_direction grid.design.library a.layer at_s.layer.direction Vertical at_s.layer.width e.width runs_a e.vertical;
      same_layer = same_places e.layer;
      same_column = same_column e.upright;
      next = next_is_behind grid.ys is_grid.ys_are.increasing s.row t.row a.at.y b.at.y at_s.y at_t.y e.next.less
          (λ c there. e.next.none_between c (All-contains (IsGridY grid.design) grid.ys c is_grid.ys_are.each there));
    },
  )

  -- the layer above is the next one, since no routing layer lies between
  next_layer : HasJoins grid.design.library a.layer b.layer → t.layer ≡ s.layer + 1
  next_layer joined = by (cases_order t.layer (s.layer + 1)) where
    above_it : s.layer < t.layer
    above_it =
        let joins = joined.joins in
        behind grid.layers s.layer t.layer at_s.layer at_t.layer is_grid.layers_are.increasing at_s.there at_t.there
        (omega (arith, joins.above, joins.below, at_s.on, at_t.on))

    between : s.layer + 1 < t.layer → ⊥
    between more =
        let joins = joined.joins in
        let within : s.layer + 1 < length grid.layers = let high = slice_get_within grid.layers t.layer at_t.layer at_t.there in omega (arith, more, high) in
        let mid : RoutingLayer = get_or grid.layers (s.layer + 1) at_s.layer in
        let there : slice_get grid.layers (s.layer + 1) ≡ Some mid = slice_get-get_or grid.layers (s.layer + 1) at_s.layer within in
        let low : at_s.layer.number < mid.number =
        later grid.layers s.layer (s.layer + 1) at_s.layer mid is_grid.layers_are.increasing at_s.there there (omega arith) in
        let high : mid.number < at_t.layer.number =
        later grid.layers (s.layer + 1) t.layer mid at_t.layer is_grid.layers_are.increasing there at_t.there more in
        let routes = runs_is_routing grid.design.library mid.number mid.direction mid.width (runs_there grid is_grid (s.layer + 1) mid there) in
        let none = joins.none_between mid.number (omega (arith, low, at_s.on)) (omega (arith, high, at_t.on)) in
        true≢false (sym routes ∙ none)

    by : (t.layer ≡ s.layer + 1) ⊎ ((t.layer < s.layer + 1) ⊎ (s.layer + 1 < t.layer)) → t.layer ≡ s.layer + 1
    by (inl same) = same
    by (inr (inl less)) = absurd (omega (arith, less, above_it))
    by (inr (inr more)) = absurd (between more)

  pub above : IsAboveOf grid s t ↔ ((via : ℕ) × IsOver grid.design via a b)
  above = (
    λ e.
        let high : slice_get grid.layers (s.layer + 1) ≡ Some at_t.layer = rw e.next at at_t.there in
        let leads : IsVia grid.design.library at_s.layer.number at_t.layer.number e.via =
        is_grid.vias_are.each s.layer at_s.layer at_t.layer (Some e.via) at_s.there high e.there in
        let x = same_x e.same_column in
        let y = same_y e.same_row in
        (e.via, record { a_is = a_is; b_is = b_is; at = λ i. record { x = x i; y = y i }; via_is = rw (at_s.on, at_t.on) leads }),
    λ over.
        let next = next_layer (via_joins grid.design.library a.layer b.layer over.0 over.1.via_is) in
        record {
          via = over.0;
          there = via_there over.0 next over.1.via_is;
          same_row = same_row (ap (λ (p : PointModel). p.y) over.1.at);
          same_column = same_column (ap (λ (p : PointModel). p.x) over.1.at);
          next = next;
        },
  ) where
    via_there : (via : ℕ) → t.layer ≡ s.layer + 1 → IsVia grid.design.library a.layer b.layer via → slice_get grid.vias s.layer ≡ Some (Some via)
    via_there via next leads =
        let within : s.layer < length grid.vias = let count = is_grid.vias_are.count in let low =
        slice_get_within grid.layers s.layer at_s.layer at_s.there in omega (arith, count, low) in
        let high : slice_get grid.layers (s.layer + 1) ≡ Some at_t.layer = rw next at at_t.there in
        by (get_or grid.vias s.layer None) (slice_get-get_or grid.vias s.layer None within) high where
          by : (v : Option ℕ) → slice_get grid.vias s.layer ≡ Some v → slice_get grid.layers (s.layer + 1) ≡ Some at_t.layer
              → slice_get grid.vias s.layer ≡ Some (Some via)
          by None is high =
              let none : (k : ℕ) → ¬ IsVia grid.design.library at_s.layer.number at_t.layer.number k =
              is_grid.vias_are.each s.layer at_s.layer at_t.layer None at_s.there high is in
              absurd (none via (rw (← at_s.on, ← at_t.on) leads))
          by (Some k) is high =
              let other : IsVia grid.design.library at_s.layer.number at_t.layer.number k =
              is_grid.vias_are.each s.layer at_s.layer at_t.layer (Some k) at_s.there high is in
              let same : k ≡ via = one_via grid.design.library a.layer b.layer k via (rw (at_s.on, at_t.on) other) leads in
              is ∙ ap (λ (n : ℕ). Some (Some n)) same

-- on each side, slots step as the nodes in them
pub beside_is : (grid : GridModel) (side : Side) (s t : Slot) (a b : Node) → IsDesignGrid grid → LiesAt grid s.layer s.row s.column a
    → LiesAt grid t.layer t.row t.column b → IsNode grid.design a → IsNode grid.design b
    → IsSlotNeighbour grid side s t ↔ IsNeighbour grid.design side a b
beside_is grid West s t a b is_grid at_s at_t a_is b_is = east grid is_grid t s b a at_t at_s b_is a_is
beside_is grid East s t a b is_grid at_s at_t a_is b_is = east grid is_grid s t a b at_s at_t a_is b_is
beside_is grid South s t a b is_grid at_s at_t a_is b_is = north grid is_grid t s b a at_t at_s b_is a_is
beside_is grid North s t a b is_grid at_s at_t a_is b_is = north grid is_grid s t a b at_s at_t a_is b_is
beside_is grid Below s t a b is_grid at_s at_t a_is b_is = above grid is_grid t s b a at_t at_s b_is a_is
beside_is grid Above s t a b is_grid at_s at_t a_is b_is = above grid is_grid s t a b at_s at_t a_is b_is
