-- The parts of a grid.
use Rattle.std.proofs.Common.{◌≡◌, ℕ, ◌+◌, ◌*◌, ◌<◌, ◌≤◌, inl, inr, ℤ, Bool, List, [], ◌∷◌, ◌++◌, length, length-append, Some, slice_get, refl, ap, ◌∙◌, arith}
use Rattle.std.proofs.lemmas.Option.{slice_get_within}
use Rattle.leg_design_records.specs.Records.{DesignModel}
use Rattle.leg_route_grid.specs.declared.layers.RoutingLayer.{RoutingLayer}
use Rattle.leg_rules.specs.Route.Tracks.{IsGridX, IsGridY}
use Rattle.leg_rules.specs.Route.GridSize.{AreValues, track_count, slot_count, IsGridBeyond}
use Rattle.leg_route_grid.specs.Steps.Grid.{axis_of, values_of, AreTracks}
use Rattle.leg_route_grid.specs.Steps.LayerList.{routing_from}
use Rattle.leg_route_grid.specs.Steps.TrackMarks.{AreTrackMarks}
use Rattle.leg_route_grid.proofs.NextValues.{one_list}
use Rattle.leg_route_grid.proofs.ListEnds.{read_pushed}
use Rattle.leg_route_grid.proofs.RoutingLayers.{count_from}

-- the marks of the first n layers
pub record AreFirstTracks (design : DesignModel) (layers : List RoutingLayer) (xs ys : List ℤ) (n : ℕ) (tracks : List (List Bool)) : Type 0 where
  pub count : length tracks ≡ n
  pub each : (k : ℕ) (layer : RoutingLayer) (marks : List Bool) → slice_get layers k ≡ Some layer → slice_get tracks k ≡ Some marks
      → AreTrackMarks design layer.number (axis_of layer.direction) (values_of xs ys layer.direction) marks

module _ (design : DesignModel) (layers : List RoutingLayer) (xs ys : List ℤ) where
  pub no_tables : AreFirstTracks design layers xs ys 0 []
  no_tables = record { count = refl; each = λ k layer marks at_layer is. absurd (let e = slice_get_within [] k marks is in omega (arith, e)) }

  pub one_table_more : (n : ℕ) (tracks more : List (List Bool)) (marks : List Bool) → AreFirstTracks design layers xs ys n tracks → more ≡ tracks ++ marks ∷ []
      → ((layer : RoutingLayer) → slice_get layers n ≡ Some layer
      → AreTrackMarks design layer.number (axis_of layer.direction) (values_of xs ys layer.direction) marks)
      → AreFirstTracks design layers xs ys (n + 1) more
  one_table_more n tracks more marks are is last = rw is (record {
    count = omega (arith, length-append tracks (marks ∷ []), are.count);
    each = λ k layer m there at_k. elim (read_pushed tracks marks k m at_k) [
      | inl old ↦ are.each k layer m there old.is
      | inr new ↦ let k_is : k ≡ n = omega (arith, new.last, are.count) in rw (← new.is) (last layer (rw k_is at there))
    ];
  })

  pub all_tables : (n : ℕ) (tracks : List (List Bool)) → n ≡ length layers → AreFirstTracks design layers xs ys n tracks → AreTracks design layers xs ys tracks
  all_tables n tracks is are = record { count = are.count ∙ is; each = are.each }

module _ (design : DesignModel) (xs ys : List ℤ) (xs_are : AreValues (IsGridX design) xs) (ys_are : AreValues (IsGridY design) ys) where
  same_xs : (others : List ℤ) → AreValues (IsGridX design) others → others ≡ xs
  same_xs others are = one_list (IsGridX design) others xs are.increasing xs_are.increasing are.each xs_are.each are.all xs_are.all

  same_ys : (others : List ℤ) → AreValues (IsGridY design) others → others ≡ ys
  same_ys others are = one_list (IsGridY design) others ys are.increasing ys_are.increasing are.each ys_are.each are.all ys_are.all

  slots_are : (layers : List RoutingLayer) → layers ≡ routing_from 0 design.library.layers → length layers * length ys * length xs ≡ slot_count design xs ys
  slots_are layers is = ap (λ n. n * length ys * length xs) (ap length is ∙ count_from 0 design.library.layers)

  pub not_beyond : (limit : ℕ) (layers : List RoutingLayer) → layers ≡ routing_from 0 design.library.layers → ¬ (limit < track_count design.tracks)
      → length layers * length ys * length xs ≤ limit
      → ¬ IsGridBeyond limit design
  not_beyond limit layers is few_tracks few (inl many) = few_tracks many
  not_beyond limit layers is few_tracks few (inr (others, more, are, many)) =
      let same : slot_count design others more ≡ slot_count design xs ys = rw (same_xs others are.xs_are, same_ys more are.ys_are) refl in
      omega (arith, many, same, slots_are layers is, few)

  pub beyond : (limit : ℕ) (layers : List RoutingLayer) → layers ≡ routing_from 0 design.library.layers → ¬ (length layers * length ys * length xs ≤ limit)
      → IsGridBeyond limit design
  beyond limit layers is many = inr (xs, ys, record { xs_are = xs_are; ys_are = ys_are }, let same = slots_are layers is in omega (arith, same, many))
