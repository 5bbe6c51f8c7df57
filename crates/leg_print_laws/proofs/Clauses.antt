-- Clauses that tell rectangles on layers, each behind a plus.
use Rattle.std.proofs.Common.{◌≡◌, ℕ, ◌<◌, true, false, List, [], ◌∷◌, All, length, map, slice_get, Option, None, Some, refl}
use Rattle.std.specs.List.{list_any, list_all}
use Rattle.std.proofs.lemmas.Bool.{false≢true}
use Rattle.std.proofs.lemmas.Option.{slice_get_within}
use Rattle.std.proofs.lemmas.List.Elements.{All-nil, All-cons, All-head, All-tail, All-weaker}
use Rattle.leg_lex.specs.Words.{Words, next_at, name_at}
use Rattle.leg_lex.specs.Statements.{is_plus}
use Rattle.leg_output.specs.Words.{stays_one}
use Rattle.leg_print_words.proofs.LeadingBlanks.{first_passes, others_pass}
use Rattle.leg_lib_records.specs.declared.records.Layer.{Layer}
use Rattle.leg_lib_records.specs.declared.records.Shape.{Shape}
use Rattle.leg_lib_records.specs.Records.{LibraryModel}
use Rattle.leg_lib_records.specs.Sound.{IsSound}
use Rattle.leg_design_records.specs.Layers.{is_metal, has_metal}
use Rattle.leg_design_records.specs.Records.{DesignModel}
use Rattle.leg_design_records.specs.WellFormedParts.{IsMetalShape}
use Rattle.leg_grammar.specs.Def.Layers.{layer_named_at}
use Rattle.leg_output.specs.Names.{layer_name}
use Rattle.leg_output.specs.Text.Clauses.{clause_words, shape_clause}
use Rattle.leg_print_laws.specs.PrintedNames.{names_of_layers}
use Rattle.leg_print_laws.proofs.FreeWords.{AreInside, AreFree, IsFree, free_name, free_cons, inside_nil, inside_cons, inside_append}
use Rattle.leg_print_laws.proofs.Tracks.{IsLayerName, layer_named}
use Rattle.leg_print_laws.proofs.Points.{corners_free}

-- clauses behind pluses stay words, and none has a plus
pub clauses_inside : (clauses : List Words) → All AreFree clauses → AreInside (clause_words clauses)
clauses_inside [] each = inside_nil
clauses_inside (clause ∷ clauses) each =
    inside_cons (record { printable = refl; semicolon = refl })
    (inside_append (All-head AreFree clause clauses each).inside (clauses_inside clauses (All-tail AreFree clause clauses each)))

pub no_pluses : (clauses : List Words) → All AreFree clauses → All (λ clause. list_any is_plus clause ≡ false) clauses
no_pluses clauses each = All-weaker AreFree (λ clause. list_any is_plus clause ≡ false) (λ clause free. free.plus) clauses each

-- a layer with metal is there
metal_there : (library : LibraryModel) (layer : ℕ) (found : Option Layer) → slice_get library.layers layer ≡ found → is_metal found ≡ true
    → layer < length library.layers
metal_there library layer None is metal = absurd (false≢true metal)
metal_there library layer (Some l) is metal = slice_get_within library.layers layer l is

module _ (design : DesignModel) (sound : IsSound design.library) where
  pub with_metal_named : (layer : ℕ) → has_metal design.library layer ≡ true → IsLayerName design.library layer (layer_name design layer)
  with_metal_named layer metal = layer_named design layer sound (metal_there design.library layer (slice_get design.library.layers layer) refl metal)

  pub metal_named : (shape : Shape) → IsMetalShape design.library shape → IsLayerName design.library shape.layer (layer_name design shape.layer)
  metal_named shape is = with_metal_named shape.layer is.metal

  pub layer_again : (layer : ℕ) (rest : Words) → IsLayerName design.library layer (layer_name design layer)
      → layer_named_at design.library (layer_name design layer ∷ rest) ≡ Some (layer, rest)
  unfolding layer_named_at name_at next_at
  layer_again layer rest is = rw (is.is_one, is.there) refl

  pub shape_free : (keyword : List ℕ) (shape : Shape) → IsFree keyword → IsMetalShape design.library shape → stays_one (layer_name design shape.layer) ≡ true
      → AreFree (shape_clause keyword design shape)
  shape_free keyword shape key is one =
      free_cons key (free_cons (free_name (layer_name design shape.layer) (metal_named shape is).is_one one) (corners_free shape.rect is.rect))

  pub shapes_free : (keyword : List ℕ) (shapes : List Shape) → IsFree keyword → All (IsMetalShape design.library) shapes
      → list_all stays_one (names_of_layers design shapes) ≡ true
      → All AreFree (map (shape_clause keyword design) shapes)
  shapes_free keyword [] key each one = All-nil AreFree
  shapes_free keyword (shape ∷ shapes) key each one =
      All-cons AreFree (shape_clause keyword design shape) (map (shape_clause keyword design) shapes)
      (shape_free keyword shape key (All-head (IsMetalShape design.library) shape shapes each)
      (first_passes stays_one (layer_name design shape.layer) (names_of_layers design shapes) one))
      (shapes_free keyword shapes key (All-tail (IsMetalShape design.library) shape shapes each)
      (others_pass stays_one (layer_name design shape.layer) (names_of_layers design shapes) one))
