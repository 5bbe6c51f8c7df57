-- The shapes of generated vias are on layers of the library.
use Rattle.std.proofs.Common.{ℕ, ◌<◌, List, [], ◌∷◌, length, All, codes}
use Rattle.std.proofs.lemmas.List.Elements.{All-nil, All-cons, All-head, All-tail}
use Rattle.std.specs.List.{list_any}
use Rattle.leg_lex.specs.Words.{Words, name_at, nothing_at}
use Rattle.leg_lex.proofs.Gives.{Gives, gives_some, gives_bind, gives_skip}
use Rattle.leg_lex.proofs.GivesAll.{named_gives_within}
use Rattle.leg_lib_records.specs.declared.records.Shape.{Shape}
use Rattle.leg_lib_records.specs.declared.raw.RawLayer.{RawLayer}
use Rattle.leg_lib_records.specs.declared.raw.RawShape.{RawShape}
use Rattle.leg_lib_records.specs.Records.{RawLibraryModel}
use Rattle.leg_lib_records.specs.References.{AreRawShapesOn}
use Rattle.leg_grammar.specs.declared.generated_via.ViaNumbers.TheVariants.{Microns}
use Rattle.leg_grammar.specs.Def.Guard.{when, unless}
use Rattle.leg_grammar.specs.Def.GeneratedVia.{is_drawn, after_keyword, rule_in}
use Rattle.leg_grammar.specs.Def.CutPattern.{pattern_in}
use Rattle.leg_grammar.specs.Lef.GeneratedVia.{raw_layer_at, raw_layers_at, are_via_kinds, raw_via_layers_in, raw_generated_in, raw_shapes, raw_generated_shapes}
use Rattle.leg_generated_via.proofs.ReadArrays.{HoldsOnLayers, HoldsOnVia, between_gives, array_gives}

-- the layer is one of so many
abbrev IsOn : ℕ → Shape → Type 0
IsOn layers shape = shape.layer < layers

raw_on : (layers : ℕ) (shapes : List Shape) → All (IsOn layers) shapes → AreRawShapesOn layers (raw_shapes shapes)
raw_on layers [] on = All-nil (λ (shape : RawShape). shape.layer < layers)
raw_on layers (shape ∷ shapes) on =
    All-cons (λ (shape : RawShape). shape.layer < layers) (record { layer = shape.layer; rect = shape.rect }) (raw_shapes shapes)
    (All-head (IsOn layers) shape shapes on) (raw_on layers shapes (All-tail (IsOn layers) shape shapes on))

module _ (library : RawLibraryModel) where
  abbrev IsOnLayer : Shape → Type 0
  IsOnLayer = IsOn (length library.layers)

  layer_gives : (words : Words) → Gives (λ said. said.0 < length library.layers) (raw_layer_at library words)
  unfolding raw_layer_at
  layer_gives words =
      gives_skip (name_at words) (λ name.
      gives_bind (named_gives_within (λ (l : RawLayer). l.name) name.0 library.layers) (λ number within.
      gives_some _ within))

  three_give : (words : Words) → Gives (λ said. HoldsOnLayers IsOnLayer said.0) (raw_layers_at library words)
  unfolding raw_layers_at
  three_give words =
      gives_bind (layer_gives words) (λ low first.
      gives_bind (layer_gives low.1) (λ cut second.
      gives_bind (layer_gives cut.1) (λ high third.
      gives_some _ (record { low = λ rect area. first; cut = λ rect area. second; high = λ rect area. third }))))

  layers_give : (statements : List Words) → Gives (HoldsOnLayers IsOnLayer) (raw_via_layers_in library statements)
  unfolding raw_via_layers_in
  layers_give statements =
      gives_skip (after_keyword (codes "LAYERS") statements) (λ words.
      gives_bind (three_give words) (λ layers on.
      gives_skip (nothing_at layers.1) (λ end.
      gives_skip (when (are_via_kinds library layers.0)) (λ kinds.
      gives_some layers.0 on))))

  via_gives : (statements : List Words) → Gives (HoldsOnVia IsOnLayer) (raw_generated_in library statements)
  unfolding raw_generated_in
  via_gives statements =
      gives_skip (rule_in statements) (λ rule.
      gives_bind (layers_give statements) (λ layers on. between_gives IsOnLayer Microns layers statements on))

  -- The shapes that are read are on layers of the library.
  pub generated_gives : (statements : List Words) → Gives (AreRawShapesOn (length library.layers)) (raw_generated_shapes library statements)
  unfolding raw_generated_shapes
  generated_gives statements =
      gives_skip (unless (list_any is_drawn statements)) (λ none.
      gives_bind (via_gives statements) (λ via on.
      gives_skip (pattern_in statements) (λ pattern.
      gives_bind (array_gives IsOnLayer pattern via on) (λ shapes each.
      gives_some _ (raw_on (length library.layers) shapes each)))))
