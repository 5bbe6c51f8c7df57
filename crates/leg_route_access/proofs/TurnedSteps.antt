-- Steps along a layer and up, told from either end.
use Rattle.std.proofs.Common.{◌≡◌, ℕ, ◌+◌, ◌*◌, ◌↔◌, ◌⊎◌, inl, inr, ℤ, length, refl, sym, subst, arith}
use Rattle.leg_geom.specs.Plane.{PointModel}
use Rattle.leg_lib_records.specs.Sound.{IsSound, IsWidth}
use Rattle.leg_design_records.specs.declared.records.Wire.{Wire}
use Rattle.leg_design_records.specs.declared.records.Wire.TheVariants.{Segment, ViaAt}
use Rattle.leg_design_records.specs.Records.{DesignModel}
use Rattle.leg_rules.specs.Metal.Outline.Outline.{Line}
use Rattle.leg_rules.specs.Metal.Flat.{FlatModel}
use Rattle.leg_rules.specs.declared.side.Side.{Side}
use Rattle.leg_rules.specs.declared.side.Side.TheVariants.{West, South, Below}
use Rattle.leg_route_search.specs.Steps.Side.{opposite}
use Rattle.leg_rules.specs.declared.node.Node.{Node}
use Rattle.leg_route_grid.specs.declared.slot.Slot.{Slot}
use Rattle.leg_rules.specs.Route.Tracks.{Runs}
use Rattle.leg_rules.specs.Route.Neighbours.{IsOver, IsInLine}
use Rattle.leg_rules.specs.Route.StepWires.{half, StepAdds}
use Rattle.leg_rules.specs.Route.OpenMetal.{IsOpenWire, IsOpenStep}
use Rattle.leg_route_grid.specs.Steps.Grid.{GridModel, IsDesignGrid}
use Rattle.leg_route_grid.specs.Steps.SlotNeighbours.{IsSlotNeighbour}
use Rattle.leg_route_grid.specs.Steps.NodeNumbers.{IsNeighbourAt, IsOpenStepAt}
use Rattle.leg_route_access.specs.Steps.AccessTable.{IsOpenAlong}
use Rattle.leg_route_access.specs.Steps.Stretches.{IsStretch}
use Rattle.leg_route_access.proofs.Squares.{open_is_clean, clean_is_open}
use Rattle.leg_route_access.proofs.Strips.{strip_of, points_forth, points_back}
use Rattle.leg_route_grid.proofs.OpenNodes.{width_is}
use Rattle.leg_route_grid.proofs.SlotSides.{beside_is}
use Rattle.leg_route_grid.proofs.StepsAt.{ends_are_nodes}
use Rattle.leg_route_access.proofs.OpenSteps.{one_layer, open_at, stretch_east, stretch_north}
use Rattle.leg_route_access.proofs.StepsAlong.{along_east, along_north}
use Rattle.leg_route_access.proofs.TurnedNeighbours.{turned_beside}

-- how far the numbers of two slots are apart that lie beside one another
south_apart : (k rows j i columns : ℕ) → (k * rows + (j + 1)) * columns + i ≡ (k * rows + j) * columns + i + columns
south_apart k rows j i columns = grind arith

below_apart : (k rows j i columns : ℕ) → ((k + 1) * rows + j) * columns + i ≡ (k * rows + j) * columns + i + rows * columns
below_apart k rows j i columns = grind arith

module _ (grid : GridModel) (is_grid : IsDesignGrid grid) (n m : ℕ) where
  module _ (side : Side) (step : IsNeighbourAt grid side n m) where
    abbrev s : Slot
    s = record { layer = step.a_is.k; row = step.a_is.j; column = step.a_is.i }

    abbrev t : Slot
    t = record { layer = step.b_is.k; row = step.b_is.j; column = step.b_is.i }

    slots_beside : IsSlotNeighbour grid side s t
    slots_beside =
        let ends = ends_are_nodes grid.design side step.a step.b step.step in
        (beside_is grid side s t step.a step.b is_grid step.a_is.lies step.b_is.lies ends.0 ends.1).1 step.step

  pub west_apart : IsNeighbourAt grid West n m → n ≡ m + 1
  west_apart step =
      let east = slots_beside West step in
      let line : (step.a_is.k * length grid.ys + step.a_is.j) * length grid.xs ≡ (step.b_is.k * length grid.ys + step.b_is.j) * length grid.xs =
      rw (east.same_layer, east.same_row) refl in
      omega (arith, step.a_is.slot.is, step.b_is.slot.is, line, east.next)

  pub south_apart_at : IsNeighbourAt grid South n m → n ≡ m + length grid.xs
  south_apart_at step =
      let north = slots_beside South step in
      let here : n ≡ (step.b_is.k * length grid.ys + (step.b_is.j + 1)) * length grid.xs + step.b_is.i =
      rw (← north.same_layer, ← north.next, ← north.same_column) step.a_is.slot.is in
      let apart = south_apart step.b_is.k (length grid.ys) step.b_is.j step.b_is.i (length grid.xs) in
      omega (arith, here, apart, step.b_is.slot.is)

  pub below_apart_at : IsNeighbourAt grid Below n m → n ≡ m + length grid.ys * length grid.xs
  below_apart_at step =
      let above = slots_beside Below step in
      let here : n ≡ ((step.b_is.k + 1) * length grid.ys + step.b_is.j) * length grid.xs + step.b_is.i =
      rw (← above.next, ← above.same_row, ← above.same_column) step.a_is.slot.is in
      let apart = below_apart step.b_is.k (length grid.ys) step.b_is.j step.b_is.i (length grid.xs) in
      omega (arith, here, apart, step.b_is.slot.is)

turned_in_line : (design : DesignModel) (a b : Node) → IsInLine design a b → IsInLine design b a
turned_in_line design a b (inl (inl west)) = inl (inr west)
turned_in_line design a b (inl (inr east)) = inl (inl east)
turned_in_line design a b (inr (inl south)) = inr (inr south)
turned_in_line design a b (inr (inr north)) = inr (inl north)

stretch_of : (design : DesignModel) (a b : Node) → IsInLine design a b → IsStretch a.at b.at ⊎ IsStretch b.at a.at
stretch_of design a b (inl (inl west)) = inr (stretch_east design b a west)
stretch_of design a b (inl (inr east)) = inl (stretch_east design a b east)
stretch_of design a b (inr (inl south)) = inr (stretch_north design b a south)
stretch_of design a b (inr (inr north)) = inl (stretch_north design a b north)

turned_over : (design : DesignModel) (via : ℕ) (a b : Node) → IsOver design via a b ⊎ IsOver design via b a → IsOver design via b a ⊎ IsOver design via a b
turned_over design via a b (inl up) = inr up
turned_over design via a b (inr down) = inl down

one_point : (design : DesignModel) (via : ℕ) (a b : Node) → IsOver design via a b ⊎ IsOver design via b a → a.at ≡ b.at
one_point design via a b (inl up) = sym up.at
one_point design via a b (inr down) = down.at

module _ (design : DesignModel) (flat : FlatModel) (net : ℕ) where
  -- a segment from its other end has the same points
  segment_turned : (layer : ℕ) (from to : PointModel) (width : ℤ) → IsWidth width → IsStretch from to ⊎ IsStretch to from
      → IsOpenWire design flat net (Segment layer from to width (half width) (half width))
      → IsOpenWire design flat net (Segment layer to from width (half width) (half width))
  segment_turned layer from to width wide (inl forth) is_open =
      let strip =
      open_is_clean design flat net layer (Line from to width (half width) (half width)) (strip_of from to width)
      (points_forth from to width wide (strip_of from to width) refl forth) is_open in
      clean_is_open design flat net layer (Line to from width (half width) (half width)) (strip_of from to width)
      (points_back from to width wide (strip_of from to width) refl forth) strip
  segment_turned layer from to width wide (inr back) is_open =
      let strip =
      open_is_clean design flat net layer (Line from to width (half width) (half width)) (strip_of to from width)
      (points_back to from width wide (strip_of to from width) refl back) is_open in
      clean_is_open design flat net layer (Line to from width (half width) (half width)) (strip_of to from width)
      (points_forth to from width wide (strip_of to from width) refl back) strip

  step_turned : (a b : Node) → IsSound design.library → IsOpenStep design flat net a b → IsOpenStep design flat net b a
  step_turned a b sound is_open = by is_open.wire is_open.adds is_open.clean where
    by : (wire : Wire) → StepAdds design a b wire → IsOpenWire design flat net wire → IsOpenStep design flat net b a
    by wire (inl along) clean =
        let line = along.line in
        let width = line.width in
        let same : a.layer ≡ b.layer = one_layer design a b along.in_line in
        let wide : IsWidth width = width_is design.library a.layer line.direction width sound line.runs in
        let segment : IsOpenWire design flat net (Segment a.layer a.at b.at width (half width) (half width)) = rw line.is at clean in
        let turned = segment_turned a.layer a.at b.at width wide (stretch_of design a b along.in_line) segment in
        let P : ℕ → Type 0 = λ layer. IsOpenWire design flat net (Segment layer b.at a.at width (half width) (half width)) in
        let R : ℕ → Type 0 = λ layer. Runs design.library layer line.direction width in
        record {
          wire = Segment b.layer b.at a.at width (half width) (half width);
          adds = inl (record {
            in_line = turned_in_line design a b along.in_line;
            line = record { direction = line.direction; width = width; runs = subst R same line.runs; is = refl };
          });
          clean = subst P same turned;
        }
    by wire (inr through) clean =
        let same : a.at ≡ b.at = one_point design through.via a b through.over in
        let via : IsOpenWire design flat net (ViaAt through.via a.at) = rw through.is at clean in
        let P : PointModel → Type 0 = λ point. IsOpenWire design flat net (ViaAt through.via point) in
        record {
          wire = ViaAt through.via b.at;
          adds = inr (record { via = through.via; over = turned_over design through.via a b through.over; is = refl });
          clean = subst P same via;
        }

module _ (grid : GridModel) (is_grid : IsDesignGrid grid) (flat : FlatModel) (net n m : ℕ) where
  -- a step is open from the one end where it is from the other
  pub open_across : (side : Side) → IsSound grid.design.library → IsNeighbourAt grid side n m
      → IsOpenStepAt grid flat net (opposite side) m ↔ IsOpenStepAt grid flat net side n
  open_across side sound beside =
      let across = turned_beside grid side n m beside in
      let here = open_at grid is_grid side n m beside.a beside.b beside.a_is beside.b_is flat net beside in
      let there = open_at grid is_grid (opposite side) m n beside.b beside.a beside.b_is beside.a_is flat net across in (
        λ step. here.1 (step_turned grid.design flat net beside.b beside.a sound (there.0 step)),
        λ step. there.1 (step_turned grid.design flat net beside.a beside.b sound (here.0 step)),
      )

module _ (grid : GridModel) (is_grid : IsDesignGrid grid) (sound : IsSound grid.design.library) (flat : FlatModel) (net n m : ℕ) where
  pub along_west : IsNeighbourAt grid West n m → IsOpenAlong grid flat net m ↔ IsOpenStepAt grid flat net West n
  along_west beside =
      let east = along_east grid is_grid m n (turned_beside grid West n m beside) flat net in
      let across = open_across grid is_grid flat net n m West sound beside in
      (λ along. across.0 (east.0 along), λ west. east.1 (across.1 west))

  pub along_south : IsNeighbourAt grid South n m → IsOpenAlong grid flat net m ↔ IsOpenStepAt grid flat net South n
  along_south beside =
      let north = along_north grid is_grid m n (turned_beside grid South n m beside) flat net in
      let across = open_across grid is_grid flat net n m South sound beside in
      (λ along. across.0 (north.0 along), λ south. north.1 (across.1 south))
