-- Tracks (LEF/DEF 5.8, "Tracks"; that the last one too is within the limit of numbers is lefdef's own rule).
use Rattle.std.specs.Prelude.{ℕ, pos, int_le, ◌+ℤ◌, ◌-ℤ◌, ◌*ℤ◌, if◌then◌else◌, List, [], ◌∷◌, ◌++◌, Option, Some, codes}
use Rattle.leg_lex.specs.Words.{Words, ◌>>=◌, is_at, keyword_at, name_at, whole_at}
use Rattle.leg_lex.specs.Until.{until}
use Rattle.leg_lex.specs.Statements.{statement_at}
use Rattle.leg_lex.specs.NameLookup.{place_of}
use Rattle.leg_lib_records.specs.Records.{LibraryModel, layer_names}
use Rattle.leg_grammar.specs.declared.profile.Profile.{Profile}
use Rattle.leg_grammar.specs.Def.Guard.{when, is_over, is_within}
use Rattle.leg_grammar.specs.Def.TrackMask.{past_track_mask}
use Rattle.leg_design_records.specs.Records.{TrackModel}
use Rattle.leg_design_records.specs.declared.records.Axis.{Axis}
use Rattle.leg_design_records.specs.declared.records.Axis.TheVariants.{X, Y}

-- X or Y
unfoldable pub axis_at : Words → Option (Axis × Words)
axis_at words =
    if is_at (codes "X") words then (keyword_at (codes "X") words >>= λ x. Some (X, x.1))
    else (keyword_at (codes "Y") words >>= λ y. Some (Y, y.1))

-- one more layer, by its number
unfoldable pub one_layer : LibraryModel → List ℕ → Words → Option (List ℕ × Words)
one_layer library numbers words = do
  name ← name_at words
  number ← place_of name.0 (layer_names library)
  Some (numbers ++ number ∷ [], name.1)

-- LAYER NAME .., one name at least, if it is written
unfoldable pub layers_in : LibraryModel → Words → Option (List ℕ)
layers_in library [] = Some []
layers_in library (word ∷ words) = do
  start ← keyword_at (codes "LAYER") (word ∷ words)
  first ← one_layer library [] start.1
  numbers ← until is_over (one_layer library) first.0 first.1
  Some numbers.0

-- TRACKS axis start DO n STEP s mask layers
unfoldable pub track_in : Profile → LibraryModel → Words → Option TrackModel
track_in profile library statement = do
  first ← keyword_at (codes "TRACKS") statement
  axis ← axis_at first.1
  start ← whole_at axis.1
  do_ ← keyword_at (codes "DO") start.1
  count ← whole_at do_.1
  some ← when (int_le (pos 1) count.0)
  step_ ← keyword_at (codes "STEP") count.1
  step ← whole_at step_.1
  apart ← when (int_le (pos 1) step.0)
  end ← when (is_within (start.0 +ℤ (count.0 -ℤ pos 1) *ℤ step.0))
  mask ← past_track_mask profile step.1
  layers ← layers_in library mask.1
  Some (record { axis = axis.0; start = start.0; count = count.0; step = step.0; layers = layers })

-- TRACKS .. ;
unfoldable pub track_at : Profile → LibraryModel → Words → Option (TrackModel × Words)
track_at profile library words = do
  statement ← statement_at words
  track ← track_in profile library statement.0
  Some (track, statement.1)
