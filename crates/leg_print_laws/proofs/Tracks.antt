-- The line of tracks is read as the tracks.
use Rattle.std.proofs.Common.{◌≡◌, ℕ, pos, ◌+ℤ◌, ◌-ℤ◌, ◌*ℤ◌, ◌<◌, true, List, [], ◌∷◌, ◌++◌, All, length, map, Some, codes, refl, ap, ◌∙◌}
use Rattle.std.specs.List.{list_all}
use Rattle.std.proofs.lemmas.List.{append_assoc, append-nil}
use Rattle.std.proofs.lemmas.List.Elements.{All-head, All-tail}
use Rattle.leg_lemmas.proofs.Integers.{le_test}
use Rattle.leg_lemmas.proofs.Places.{there_is}
use Rattle.leg_lex.specs.Words.{Words, next_at, keyword_at, name_at, is_name}
use Rattle.leg_lex.specs.NameLookup.{place_of}
use Rattle.leg_lex.specs.Until.{until}
use Rattle.leg_lex.proofs.Until.{ends, goes_on}
use Rattle.leg_output.specs.Words.{stays_one, line, is_printable}
use Rattle.leg_print_words.proofs.LeadingBlanks.{first_passes, others_pass}
use Rattle.leg_lib_records.specs.declared.records.Layer.{Layer}
use Rattle.leg_lib_records.specs.Records.{LibraryModel, layer_names}
use Rattle.leg_lib_records.specs.Sound.{IsSound}
use Rattle.leg_design_records.specs.declared.records.Axis.{Axis}
use Rattle.leg_design_records.specs.declared.records.Axis.TheVariants.{X, Y}
use Rattle.leg_design_records.specs.Records.{DesignModel, TrackModel}
use Rattle.leg_design_records.specs.WellFormedParts.{IsTrack}
use Rattle.leg_grammar.specs.Def.Guard.{is_over}
use Rattle.leg_grammar.specs.declared.profile.Profile.TheVariants.{Narrow}
use Rattle.leg_grammar.specs.Def.TrackMask.{past_track_mask}
use Rattle.leg_grammar.specs.Def.Track.{axis_at, one_layer, layers_in, track_in, track_at}
use Rattle.leg_design_floorplan.proofs.Tracks.{one_layer_shortens}
use Rattle.leg_output.specs.Names.{layer_name}
use Rattle.leg_output.specs.Text.Tracks.{axis_word, layer_words, track_said, track_words}
use Rattle.leg_print_laws.specs.PrintedNames.{StayOne, track_names}
use Rattle.leg_print_laws.specs.Forms.{DenotesForm}
use Rattle.leg_print_laws.proofs.FreeWords.{IsFree, AreFree, free_literal, free_name, free_number, free_nil, free_cons}
use Rattle.leg_print_laws.proofs.Again.{said_again}
use Rattle.leg_print_laws.proofs.NumberedNames.{found, name_is}
use Rattle.leg_print_laws.proofs.Tests.{within_is}
use Rattle.leg_print_laws.proofs.Points.{number_again}
use Rattle.leg_print_laws.proofs.PrintableWords.{said_printable, line_says}

-- What is known of the name of a layer.
pub record IsLayerName (library : LibraryModel) (layer : ℕ) (name : List ℕ) : Type 0 where
  pub is_one : is_name name ≡ true
  pub there : place_of name (layer_names library) ≡ Some layer

pub layer_named : (design : DesignModel) (layer : ℕ) → IsSound design.library → layer < length design.library.layers
    → IsLayerName design.library layer (layer_name design layer)
layer_named design layer sound less =
    let found_one = there_is design.library.layers layer less in
    rw (found_one.1) (record {
      is_one = name_is (λ (l : Layer). l.name) design.library.layers layer found_one.0 found_one.1 sound.names.layers.each;
      there = found (λ (l : Layer). l.name) design.library.layers layer found_one.0 found_one.1 sound.names.layers.apart;
    })

axis_again : (axis : Axis) (rest : Words) → axis_at (axis_word axis ∷ rest) ≡ Some (axis, rest)
unfolding axis_at keyword_at next_at
axis_again X rest = refl
axis_again Y rest = refl

axis_free : (axis : Axis) → IsFree (axis_word axis)
axis_free X = free_literal (codes "X") refl refl refl
axis_free Y = free_literal (codes "Y") refl refl refl

module _ (design : DesignModel) (sound : IsSound design.library) where
  one_again : (numbers : List ℕ) (layer : ℕ) (rest : Words) → layer < length design.library.layers
      → one_layer design.library numbers (layer_name design layer ∷ rest) ≡ Some (numbers ++ layer ∷ [], rest)
  unfolding one_layer name_at next_at
  one_again numbers layer rest less =
      let known = layer_named design layer sound less in rw (known.is_one, known.there) refl

  more_again : (numbers layers : List ℕ) → All (λ layer. layer < length design.library.layers) layers
      → until is_over (one_layer design.library) numbers (map (layer_name design) layers) ≡ Some (numbers ++ layers, [])
  more_again numbers [] each = ends is_over (one_layer design.library) numbers [] refl ∙ rw (append-nil numbers) refl
  more_again numbers (layer ∷ layers) each =
      goes_on is_over (one_layer design.library) (one_layer_shortens design.library) numbers (numbers ++ layer ∷ [])
      (layer_name design layer ∷ map (layer_name design) layers) (map (layer_name design) layers) refl
      (one_again numbers layer (map (layer_name design) layers) (All-head (λ l. l < length design.library.layers) layer layers each))
      ∙ more_again (numbers ++ layer ∷ []) layers (All-tail (λ l. l < length design.library.layers) layer layers each)
      ∙ ap (λ all. Some (all, [])) (append_assoc numbers (layer ∷ []) layers)

  pub layers_again : (layers : List ℕ) → All (λ layer. layer < length design.library.layers) layers
      → layers_in design.library (layer_words design layers) ≡ Some layers
  unfolding layers_in keyword_at next_at
  layers_again [] each = refl
  layers_again (layer ∷ layers) each =
      rw (
        one_again [] layer (map (layer_name design) layers) (All-head (λ l. l < length design.library.layers) layer layers each),
        more_again (layer ∷ []) layers (All-tail (λ l. l < length design.library.layers) layer layers each),
      ) refl

  names_free : (layers : List ℕ) → All (λ layer. layer < length design.library.layers) layers → list_all stays_one (map (layer_name design) layers) ≡ true
      → AreFree (map (layer_name design) layers)
  names_free [] each one = free_nil
  names_free (layer ∷ layers) each one =
      let known = layer_named design layer sound (All-head (λ l. l < length design.library.layers) layer layers each) in
      free_cons (free_name (layer_name design layer) known.is_one (first_passes stays_one (layer_name design layer) (map (layer_name design) layers) one))
      (names_free layers (All-tail (λ l. l < length design.library.layers) layer layers each)
      (others_pass stays_one (layer_name design layer) (map (layer_name design) layers) one))

  layers_free : (layers : List ℕ) → All (λ layer. layer < length design.library.layers) layers → list_all stays_one (map (layer_name design) layers) ≡ true
      → AreFree (layer_words design layers)
  layers_free [] each one = free_nil
  layers_free (layer ∷ layers) each one = free_cons (free_literal (codes "LAYER") refl refl refl) (names_free (layer ∷ layers) each one)

  module _ (track : TrackModel) (is : IsTrack design.library track) (one : StayOne (track_names design track)) where
    track_free : AreFree (track_said design track)
    track_free =
        free_cons (free_literal (codes "TRACKS") refl refl refl) (free_cons (axis_free track.axis) (free_cons (free_number track.start is.start)
        (free_cons (free_literal (codes "DO") refl refl refl) (free_cons (free_number track.count is.count)
        (free_cons (free_literal (codes "STEP") refl refl refl) (free_cons (free_number track.step is.step) (layers_free track.layers is.layers one)))))))

    track_in_again : track_in Narrow design.library (track_said design track) ≡ Some track
    unfolding track_in past_track_mask keyword_at next_at
    track_in_again =
        rw (
          axis_again track.axis _,
          number_again track.start _ is.start,
          number_again track.count _ is.count,
          le_test (pos 1) track.count is.some,
          number_again track.step _ is.step,
          le_test (pos 1) track.step is.apart,
          within_is (track.start +ℤ (track.count -ℤ pos 1) *ℤ track.step) is.end,
          layers_again track.layers is.layers,
        ) refl

    pub track_again : (rest : Words) → track_at Narrow design.library (track_words design track ++ rest) ≡ Some (track, rest)
    unfolding track_at
    track_again rest = rw (said_again (track_said design track) rest track_free.inside, track_in_again) refl

    -- the words of the line stay words
    pub track_printable : list_all is_printable (track_words design track) ≡ true
    track_printable = said_printable track_free.inside

    pub track_line : DenotesForm (track_at Narrow design.library) (line (track_words design track)) track
    track_line = line_says (track_at Narrow design.library) (track_words design track) track track_printable track_again
