-- Generated vias that are read have rectangles on layers with metal.
use Rattle.std.proofs.Common.{◌≡◌, ℕ, true, not, ◌&&◌, List, length, Option, None, Some, is_some, codes, slice_get, refl}
use Rattle.std.proofs.lemmas.Bool.{and_parts}
use Rattle.std.specs.List.{list_any, list_all}
use Rattle.leg_lex.specs.Words.{Words, ◌>>=◌, nothing_at}
use Rattle.leg_lib_records.specs.declared.records.LayerKind.{LayerKind}
use Rattle.leg_lib_records.specs.declared.records.LayerKind.TheVariants.{Routing, Cut, Other}
use Rattle.leg_lib_records.specs.declared.records.Layer.{Layer}
use Rattle.leg_lib_records.specs.Records.{LibraryModel, ViaModel}
use Rattle.leg_grammar.specs.declared.generated_via.ViaNumbers.TheVariants.{Units}
use Rattle.leg_grammar.specs.Def.Guard.{when, unless}
use Rattle.leg_grammar.specs.Def.Clause.{is_clause}
use Rattle.leg_grammar.specs.Def.GeneratedVia.{is_drawn, after_keyword, rule_in, is_cut, three_layers_at, via_layers_in, generated_in}
use Rattle.leg_grammar.specs.Def.CutPattern.{pattern_in}
use Rattle.leg_grammar.specs.Def.CutArray.{is_room_for_shapes, generated_shapes}
use Rattle.leg_design_records.specs.Layers.{wire_width, is_metal_kind, is_metal, has_metal, is_routing}
use Rattle.leg_design_records.specs.WellFormedParts.{IsMetalShape}
use Rattle.leg_design_common.proofs.Gives.{Gives, gives_some, gives_bind, gives_skip, when_gives}
use Rattle.leg_generated_via.proofs.ReadArrays.{HoldsOn, HoldsOnLayers, HoldsOnVia, between_gives, array_gives}
use Rattle.leg_design_floorplan.proofs.MetalShapes.{AreMetal}

module _ (library : LibraryModel) where
  routing_has_metal : (number : ℕ) → is_routing library number ≡ true → has_metal library number ≡ true
  routing_has_metal number is = by (slice_get library.layers number) is where
    of_kind : (kind : LayerKind) → is_some (wire_width kind) ≡ true → is_metal_kind kind ≡ true
    of_kind (Routing direction width) is = refl
    of_kind Cut is = absurd (let e : ⊥ = cc is in e)
    of_kind Other is = absurd (let e : ⊥ = cc is in e)

    by : (layer : Option Layer) → is_some (layer >>= λ l. wire_width l.kind) ≡ true → is_metal layer ≡ true
    by None is = absurd (let e : ⊥ = cc is in e)
    by (Some layer) is = of_kind layer.kind is

  -- a rectangle on a layer with metal
  on_metal : (number : ℕ) → has_metal library number ≡ true → HoldsOn (IsMetalShape library) number
  on_metal number metal = λ rect area. record { metal = metal; rect = area }

  layers_give : (clauses : List Words) → Gives (HoldsOnLayers (IsMetalShape library)) (via_layers_in library clauses)
  unfolding via_layers_in
  layers_give clauses =
      gives_skip (after_keyword (codes "LAYERS") clauses) (λ words.
      gives_skip (three_layers_at library words) (λ layers.
      gives_skip (nothing_at layers.1) (λ end.
      gives_bind (when_gives (is_routing library layers.0.low && is_cut library layers.0.cut && is_routing library layers.0.high)) (λ _ kinds.
      let high = and_parts (is_routing library layers.0.low && is_cut library layers.0.cut) (is_routing library layers.0.high) kinds in
      let low = and_parts (is_routing library layers.0.low) (is_cut library layers.0.cut) high.0 in
      let cut = and_parts (has_metal library layers.0.cut) (not (is_routing library layers.0.cut)) low.1 in
      gives_some layers.0 (record {
        low = on_metal layers.0.low (routing_has_metal layers.0.low low.0);
        cut = on_metal layers.0.cut cut.0;
        high = on_metal layers.0.high (routing_has_metal layers.0.high high.1);
      })))))

  via_gives : (clauses : List Words) → Gives (HoldsOnVia (IsMetalShape library)) (generated_in library clauses)
  unfolding generated_in
  via_gives clauses =
      gives_skip (rule_in clauses) (λ rule.
      gives_bind (layers_give clauses) (λ layers on. between_gives (IsMetalShape library) Units layers clauses on))

  pub generated_gives : (vias : List ViaModel) (clauses : List Words) → Gives (AreMetal library) (generated_shapes library vias clauses)
  unfolding generated_shapes
  generated_gives vias clauses =
      gives_skip (unless (list_any is_drawn clauses)) (λ none.
      gives_skip (when (list_all is_clause clauses)) (λ each.
      gives_bind (via_gives clauses) (λ via on.
      gives_skip (pattern_in clauses) (λ pattern.
      gives_bind (array_gives (IsMetalShape library) pattern via on) (λ shapes metal.
      gives_skip (when (is_room_for_shapes vias (length shapes))) (λ room.
      gives_some shapes metal))))))
