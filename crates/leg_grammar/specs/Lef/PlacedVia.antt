-- Vias in ports and obstructions, in the wide profile (LEF/DEF 5.8, "Layer Geometries"; that a via is good, and that its
-- rectangles lie within the limit of lengths, is lefdef's own rule).
use Rattle.std.specs.Prelude.{pos, Bool, true, false, ◌&&◌, if◌then◌else◌, List, Option, Some, codes, slice_get}
use Rattle.leg_lex.specs.Words.{Words, ◌>>=◌, is_at, keyword_at, name_at, nothing_at}
use Rattle.leg_lex.specs.NameLookup.{place_of}
use Rattle.leg_lib_records.specs.declared.raw.RawShape.{RawShape}
use Rattle.leg_lib_records.specs.Records.{RawLibraryModel, RawViaModel, raw_via_names}
use Rattle.leg_grammar.specs.declared.profile.Profile.{Profile}
use Rattle.leg_grammar.specs.Def.Guard.{when}
use Rattle.leg_grammar.specs.Profiles.{is_wide}
use Rattle.leg_grammar.specs.Mask.{past_mask}
use Rattle.leg_grammar.specs.Lef.Point.{point_at}
use Rattle.leg_grammar.specs.Lef.Copies.{StepPattern, pattern_at, with_copies}

-- the statement is a via that is read
abbrev pub is_placed_via : Profile → Words → Bool
is_placed_via profile statement = is_wide profile && is_at (codes "VIA") statement

-- the name of a good via that was defined before
unfoldable pub good_via_at : RawLibraryModel → Words → Option (RawViaModel × Words)
good_via_at library words = do
  name ← name_at words
  number ← place_of name.0 (raw_via_names library)
  via ← slice_get library.vias number
  good ← when via.good
  Some (via, name.1)

-- whether ITERATE comes next, which is read past
unfoldable pub iterate_at : Words → Option (Bool × Words)
iterate_at words = if is_at (codes "ITERATE") words then (keyword_at (codes "ITERATE") words >>= λ start. Some (true, start.1)) else Some (false, words)

-- what stands once
abbrev pub once : StepPattern
once = record { columns = 1; rows = 1; x_step = pos 0; y_step = pos 0 }

-- the pattern of copies after ITERATE
abbrev pub pattern_after : Bool → Words → Option (StepPattern × Words)
pattern_after iterate words = if iterate then pattern_at words else Some (once, words)

-- Shapes and, behind them, those of VIA mask point name, or of VIA ITERATE mask point name pattern: the rectangles of the
-- via, on their layers, moved to the point, or their copies.
unfoldable pub with_placed_via : Profile → RawLibraryModel → List RawShape → Words → Option (List RawShape)
with_placed_via profile library shapes statement = do
  start ← keyword_at (codes "VIA") statement
  iterate ← iterate_at start.1
  mask ← past_mask profile iterate.1
  at ← point_at mask.1
  via ← good_via_at library at.1
  pattern ← pattern_after iterate.0 via.1
  end ← nothing_at pattern.1
  with_copies via.0.shapes pattern.0 at.0 shapes
