-- Nodes and the numbers of their slots.
use Rattle.std.proofs.Common.{◌≡◌, ℕ, ◌+◌, ◌*◌, ◌<◌, ◌⊎◌, ◌↔◌, inl, inr, ℤ, ◌<ℤ◌, Bool, true, List, AllPairs, Contains, length, get_or, Some, slice_get, refl, sym, ap, ◌∙◌, arith}
use Rattle.std.proofs.lemmas.Int.{ints}
use Rattle.std.proofs.lemmas.Nat.{same_from_place}
use Rattle.std.proofs.lemmas.Option.{same_Some, slice_get-get_or, slice_get_within, get_or_from_slice_get}
use Rattle.std.proofs.lemmas.Bool.{cases_order}
use Rattle.leg_lib_records.specs.declared.records.Direction.{Direction}
use Rattle.leg_lib_records.specs.declared.records.Direction.TheVariants.{Horizontal, Vertical}
use Rattle.leg_lib_records.specs.declared.records.LayerKind.TheVariants.{Routing}
use Rattle.leg_lib_records.specs.declared.records.Layer.{Layer}
use Rattle.leg_lib_records.specs.Records.{LibraryModel}
use Rattle.leg_design_records.specs.declared.records.Axis.TheVariants.{X, Y}
use Rattle.leg_route_grid.specs.declared.layers.RoutingLayer.{RoutingLayer}
use Rattle.leg_rules.specs.declared.node.Node.{Node}
use Rattle.leg_rules.specs.Route.Tracks.{Runs, HasTrack, IsGridX, IsGridY}
use Rattle.leg_rules.specs.Route.Nodes.{IsNode}
use Rattle.leg_route_grid.specs.Steps.Grid.{GridModel, IsDesignGrid, IsSlot, LiesAt, IsNumberOf, axis_of, values_of}
use Rattle.leg_route_grid.specs.Steps.TrackMarks.{AreTrackMarks}

same_node : (a b : Node) → a.layer ≡ b.layer → a.at.x ≡ b.at.x → a.at.y ≡ b.at.y → a ≡ b
same_node a b layer x y = λ i. record { layer = layer i; at = record { x = x i; y = y i } }

-- an element stands in one place of a list that is in order
pub one_place : {T : Type 0} (R : T → T → Type 0) (list : List T) (i j : ℕ) (a b : T) → AllPairs R list → slice_get list i ≡ Some a
    → slice_get list j ≡ Some b → ¬ R a b → ¬ R b a → i ≡ j
one_place {T} R list i j a b rising at_i at_j not_less not_more = by (cases_order i j) where
  read : (k : ℕ) (c d : T) → slice_get list k ≡ Some c → get_or list k d ≡ c
  read k c d is = get_or_from_slice_get list k c d is

  by : (i ≡ j) ⊎ ((i < j) ⊎ (j < i)) → i ≡ j
  by (inl same) = same
  by (inr (inl less)) = absurd (not_less (rw (read i a a at_i) at (rw (read j b a at_j) at (rising i j a less (slice_get_within list j b at_j)))))
  by (inr (inr more)) = absurd (not_more (rw (read i a a at_i) at (rw (read j b a at_j) at (rising j i a more (slice_get_within list i a at_i)))))

-- wires of a layer run in one direction
same_routing : (d e : Direction) (v w : ℤ) → Routing d v ≡ Routing e w → d ≡ e
same_routing d e v w is = cc

pub one_direction : (library : LibraryModel) (n : ℕ) (d e : Direction) (v w : ℤ) → Runs library n d v → Runs library n e w → d ≡ e
one_direction library n d e v w runs also =
    let same : runs.layer ≡ also.layer = same_Some runs.layer also.layer (sym runs.there ∙ also.there) in
    same_routing d e v w (sym runs.routes ∙ ap (λ (l : Layer). l.kind) same ∙ also.routes)

-- the node of a slot lies there
pub lies_at : (grid : GridModel) (n k j i : ℕ) (node : Node) → IsSlot grid n k j i → IsNumberOf grid n node → LiesAt grid k j i node
lies_at grid n k j i node slot number =
    let lines =
    same_from_place (k * length grid.ys + j) i (number.k * length grid.ys + number.j) number.i (length grid.xs) slot.column number.slot.column
    (sym slot.is ∙ number.slot.is) in
    let rows = same_from_place k j number.k number.j (length grid.ys) slot.row number.slot.row lines.0 in
    rw (rows.0, rows.1, lines.1) number.lies

-- in a slot lies one node
pub the_node : (grid : GridModel) (n : ℕ) (a b : Node) → IsNumberOf grid n a → IsNumberOf grid n b → a ≡ b
the_node grid n a b at_a at_b =
    let lies = lies_at grid n at_a.k at_a.j at_a.i b at_a.slot at_b in
    let layers : at_a.lies.layer ≡ lies.layer = same_Some _ _ (sym at_a.lies.there ∙ lies.there) in
    same_node a b
    (at_a.lies.on ∙ ap (λ (l : RoutingLayer). l.number) layers ∙ sym lies.on)
    (same_Some _ _ (sym at_a.lies.x ∙ lies.x))
    (same_Some _ _ (sym at_a.lies.y ∙ lies.y))

module _ (grid : GridModel) (is_grid : IsDesignGrid grid) where
  pub one_node : (n : ℕ) (a b : Node) → IsNumberOf grid n a → IsNumberOf grid n b → a ≡ b
  one_node = the_node grid

  -- a node lies in one slot
  pub one_number : (m n : ℕ) (a : Node) → IsNumberOf grid m a → IsNumberOf grid n a → m ≡ n
  one_number m n a first other =
      let on : first.lies.layer.number ≡ other.lies.layer.number = sym first.lies.on ∙ other.lies.on in
      let k : first.k ≡ other.k =
      one_place (λ a b. a.number < b.number) grid.layers first.k other.k first.lies.layer other.lies.layer is_grid.layers_are.increasing first.lies.there
      other.lies.there
      (λ less. omega (arith, less, on)) (λ more. omega (arith, more, on)) in
      let j : first.j ≡ other.j =
      one_place (λ a b. a <ℤ b) grid.ys first.j other.j a.at.y a.at.y is_grid.ys_are.increasing first.lies.y other.lies.y (λ less. omega (arith, ints, less))
      (λ more. omega (arith, ints, more)) in
      let i : first.i ≡ other.i =
      one_place (λ a b. a <ℤ b) grid.xs first.i other.i a.at.x a.at.x is_grid.xs_are.increasing first.lies.x other.lies.x (λ less. omega (arith, ints, less))
      (λ more. omega (arith, ints, more)) in
      let same : (first.k * length grid.ys + first.j) * length grid.xs + first.i ≡ (other.k * length grid.ys + other.j) * length grid.xs + other.i =
      rw (k, j, i) refl in
      first.slot.is ∙ same ∙ sym other.slot.is

  read_there : {T : Type 0} (list : List T) (x : T) → (there : Contains list x) → slice_get list there.0 ≡ Some x
  read_there list x there = slice_get-get_or list there.0 x there.1 ∙ ap Some there.2

  slot_of : (a : Node) (direction : Direction) (width : ℤ) → Runs grid.design.library a.layer direction width → IsGridX grid.design a.at.x
      → IsGridY grid.design a.at.y → (n : ℕ) × IsNumberOf grid n a
  slot_of a direction width runs x y =
      let layer : RoutingLayer = record { number = a.layer; direction = direction; width = width } in
      let k = is_grid.layers_are.all a.layer direction width runs in
      let j = is_grid.ys_are.all a.at.y y in
      let i = is_grid.xs_are.all a.at.x x in (
        (k.0 * length grid.ys + j.0) * length grid.xs + i.0,
        record {
          k = k.0;
          j = j.0;
          i = i.0;
          slot = record { layer = k.1; row = j.1; column = i.1; is = refl };
          lies = record { layer = layer; there = read_there grid.layers layer k; on = refl; y = read_there grid.ys a.at.y j; x = read_there grid.xs a.at.x i };
        },
      )

  -- each node of the grid lies in a slot
  pub numbered : (a : Node) → IsNode grid.design a → (n : ℕ) × IsNumberOf grid n a
  numbered a (inl upright) =
      slot_of a Vertical upright.width upright.vertical
      (record { number = a.layer; width = upright.width; vertical = upright.vertical; track = upright.track }) upright.y
  numbered a (inr level) =
      slot_of a Horizontal level.width level.horizontal level.x
      (record { number = a.layer; width = level.width; horizontal = level.horizontal; track = level.track })

  -- the layer of such a slot
  pub runs_there : (k : ℕ) (layer : RoutingLayer) → slice_get grid.layers k ≡ Some layer → Runs grid.design.library layer.number layer.direction layer.width
  runs_there k layer there =
      rw (get_or_from_slice_get grid.layers k layer layer there) at (is_grid.layers_are.each k layer (slice_get_within grid.layers k layer there))

  pub x_is : (i : ℕ) (x : ℤ) → slice_get grid.xs i ≡ Some x → IsGridX grid.design x
  x_is i x there = rw (get_or_from_slice_get grid.xs i x x there) at (is_grid.xs_are.each i x (slice_get_within grid.xs i x there))

  pub y_is : (j : ℕ) (y : ℤ) → slice_get grid.ys j ≡ Some y → IsGridY grid.design y
  y_is j y there = rw (get_or_from_slice_get grid.ys j y y there) at (is_grid.ys_are.each j y (slice_get_within grid.ys j y there))

  -- the marks of a layer's tracks, along the axis of its direction
  marks_there : (k : ℕ) (layer : RoutingLayer) (marks : List Bool) (direction : Direction) → slice_get grid.layers k ≡ Some layer
      → slice_get grid.tracks k ≡ Some marks → layer.direction ≡ direction
      → AreTrackMarks grid.design layer.number (axis_of direction) (values_of grid.xs grid.ys direction) marks
  marks_there k layer marks direction there at_k way = rw way at (is_grid.tracks_are.each k layer marks there at_k)

  pub column_within : (k i : ℕ) (layer : RoutingLayer) (marks : List Bool) → slice_get grid.layers k ≡ Some layer → slice_get grid.tracks k ≡ Some marks
      → layer.direction ≡ Vertical → i < length grid.xs → i < length marks
  column_within k i layer marks there at_k way within = let count = (marks_there k layer marks Vertical there at_k way).count in omega (arith, count, within)

  pub row_within : (k j : ℕ) (layer : RoutingLayer) (marks : List Bool) → slice_get grid.layers k ≡ Some layer → slice_get grid.tracks k ≡ Some marks
      → layer.direction ≡ Horizontal → j < length grid.ys → j < length marks
  row_within k j layer marks there at_k way within = let count = (marks_there k layer marks Horizontal there at_k way).count in omega (arith, count, within)

  module _ (k j i : ℕ) (layer : RoutingLayer) (marks : List Bool) (mark : Bool) (node : Node) (there : slice_get grid.layers k ≡ Some layer)
      (at_k : slice_get grid.tracks k ≡ Some marks) (lies : LiesAt grid k j i node) where
    on : node.layer ≡ layer.number
    on = lies.on ∙ ap (λ (l : RoutingLayer). l.number) (same_Some lies.layer layer (sym lies.there ∙ there))

    runs_at : Runs grid.design.library node.layer layer.direction layer.width
    runs_at = rw on (runs_there k layer there)

    -- on a vertical layer, by its column
    pub upright_by_mark : layer.direction ≡ Vertical → slice_get marks i ≡ Some mark → (mark ≡ true) ↔ IsNode grid.design node
    upright_by_mark way is = (
      λ set. inl (record {
        width = layer.width;
        vertical = rw way at runs_at;
        track = rw on (tracks.0 (is ∙ ap Some set));
        y = y_is j node.at.y lies.y;
      }),
      elim [
        | inl upright ↦ same_Some mark true (sym is ∙ tracks.1 (rw on at upright.track))
        | inr level ↦
            absurd (other (one_direction grid.design.library node.layer Horizontal layer.direction level.width layer.width level.horizontal runs_at ∙ way))
      ],
    ) where
      tracks : (slice_get marks i ≡ Some true) ↔ HasTrack grid.design layer.number X node.at.x
      tracks = (marks_there k layer marks Vertical there at_k way).each i node.at.x lies.x

      other : Horizontal ≡ Vertical → ⊥
      other same = cc

    -- on a horizontal one, by its row
    pub level_by_mark : layer.direction ≡ Horizontal → slice_get marks j ≡ Some mark → (mark ≡ true) ↔ IsNode grid.design node
    level_by_mark way is = (
      λ set. inr (record {
        width = layer.width;
        horizontal = rw way at runs_at;
        track = rw on (tracks.0 (is ∙ ap Some set));
        x = x_is i node.at.x lies.x;
      }),
      elim [
        | inl upright ↦
            absurd (other (one_direction grid.design.library node.layer Vertical layer.direction upright.width layer.width upright.vertical runs_at ∙ way))
        | inr level ↦ same_Some mark true (sym is ∙ tracks.1 (rw on at level.track))
      ],
    ) where
      tracks : (slice_get marks j ≡ Some true) ↔ HasTrack grid.design layer.number Y node.at.y
      tracks = (marks_there k layer marks Horizontal there at_k way).each j node.at.y lies.y

      other : Vertical ≡ Horizontal → ⊥
      other same = cc
