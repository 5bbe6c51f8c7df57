-- Tracks that are read are for layers of the library, and lie within the limit of numbers.
use Rattle.std.proofs.Common.{ℕ, ◌<◌, pos, ◌+ℤ◌, ◌-ℤ◌, ◌*ℤ◌, int_le, List, [], ◌∷◌, length, All, codes}
use Rattle.std.proofs.lemmas.List.Elements.{All-push, All-nil}
use Rattle.leg_lemmas.proofs.Integers.{le_from_test}
use Rattle.leg_lex.specs.Words.{Words, keyword_at, name_at}
use Rattle.leg_lex.specs.Statements.{statement_at}
use Rattle.leg_lex.proofs.GivesAll.{until_gives, named_gives_within}
use Rattle.leg_lib_records.specs.declared.records.Layer.{Layer}
use Rattle.leg_lib_records.specs.Records.{LibraryModel}
use Rattle.leg_grammar.specs.Def.Guard.{is_over, is_within}
use Rattle.leg_grammar.specs.declared.profile.Profile.{Profile}
use Rattle.leg_grammar.specs.Def.TrackMask.{past_track_mask}
use Rattle.leg_grammar.specs.Def.Track.{axis_at, one_layer, layers_in, track_in, track_at}
use Rattle.leg_design_records.specs.WellFormedParts.{IsTrack}
use Rattle.leg_design_common.proofs.Gives.{Gives, gives_some, gives_bind, gives_skip, when_gives}
use Rattle.leg_design_common.proofs.ReadPlacement.{whole_gives}
use Rattle.leg_design_floorplan.proofs.ReadRows.{within_is}

module _ (profile : Profile) (library : LibraryModel) where
  -- the numbers are those of layers
  abbrev AreLayers : List ℕ → Type 0
  AreLayers numbers = All (λ layer. layer < length library.layers) numbers

  one_layer_gives : (numbers : List ℕ) (words : Words) → AreLayers numbers → Gives (λ said. AreLayers said.0) (one_layer library numbers words)
  unfolding one_layer
  one_layer_gives numbers words each =
      gives_skip (name_at words) (λ name.
      gives_bind (named_gives_within (λ (l : Layer). l.name) name.0 library.layers) (λ number less.
      gives_some _ (All-push (λ layer. layer < length library.layers) numbers number each less)))

  layers_give : (words : Words) → Gives AreLayers (layers_in library words)
  unfolding layers_in
  layers_give [] = gives_some [] (All-nil (λ layer. layer < length library.layers))
  layers_give (word ∷ words) =
      gives_skip (keyword_at (codes "LAYER") (word ∷ words)) (λ start.
      gives_bind (one_layer_gives [] start.1 (All-nil (λ layer. layer < length library.layers))) (λ first one.
      gives_bind (until_gives AreLayers is_over (one_layer library) one_layer_gives first.0 first.1 one) (λ numbers each.
      gives_some _ each)))

  track_in_gives : (statement : Words) → Gives (IsTrack library) (track_in profile library statement)
  unfolding track_in
  track_in_gives statement =
      gives_skip (keyword_at (codes "TRACKS") statement) (λ first.
      gives_skip (axis_at first.1) (λ axis.
      gives_bind (whole_gives axis.1) (λ start from.
      gives_skip (keyword_at (codes "DO") start.1) (λ do_.
      gives_bind (whole_gives do_.1) (λ count number.
      gives_bind (when_gives (int_le (pos 1) count.0)) (λ some least.
      gives_skip (keyword_at (codes "STEP") count.1) (λ step_.
      gives_bind (whole_gives step_.1) (λ step pitch.
      gives_bind (when_gives (int_le (pos 1) step.0)) (λ apart rises.
      gives_bind (when_gives (is_within (start.0 +ℤ (count.0 -ℤ pos 1) *ℤ step.0))) (λ end within.
      gives_skip (past_track_mask profile step.1) (λ mask.
      gives_bind (layers_give mask.1) (λ layers each.
      gives_some _ (record {
        start = from;
        some = le_from_test (pos 1) count.0 least;
        count = number;
        apart = le_from_test (pos 1) step.0 rises;
        step = pitch;
        end = within_is (start.0 +ℤ (count.0 -ℤ pos 1) *ℤ step.0) within;
        layers = each;
      })))))))))))))

  pub track_gives : (words : Words) → Gives (λ said. IsTrack library said.0) (track_at profile library words)
  unfolding track_at
  track_gives words =
      gives_skip (statement_at words) (λ statement.
      gives_bind (track_in_gives statement.0) (λ track holds.
      gives_some _ holds))
