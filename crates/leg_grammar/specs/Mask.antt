-- Masks of shapes, tracks and wiring (LEF/DEF 5.8, "Layer Geometries", "Via", "Tracks", "Pins", "Blockages", "Regular Wiring Statement",
-- "Special Wiring Statement"; that they have no effect where they are dropped is lefdef's own rule).
use Rattle.std.specs.Prelude.{Bool, true, false, ◌&&◌, if◌then◌else◌, Option, Some, codes}
use Rattle.leg_lex.specs.Words.{Words, ◌>>=◌, is_at, keyword_at, whole_at}
use Rattle.leg_grammar.specs.declared.profile.Masks.TheVariants.{Refused, Dropped}
use Rattle.leg_grammar.specs.declared.profile.Profile.{Profile}
use Rattle.leg_grammar.specs.declared.profile.Profile.TheVariants.{Narrow, Wide}

-- whether masks that a text names are dropped
abbrev pub drops_masks : Profile → Bool
drops_masks Narrow = false
drops_masks (Wide Refused soft) = false
drops_masks (Wide Dropped soft) = true

-- whether a mask comes next that is dropped
abbrev pub at_mask : Profile → Words → Bool
at_mask profile words = drops_masks profile && is_at (codes "MASK") words

-- MASK number, which has no effect
unfoldable pub mask_at : Words → Option (Unit {0} × Words)
mask_at words = do
  start ← keyword_at (codes "MASK") words
  number ← whole_at start.1
  Some (tt, number.1)

-- a mask that is dropped is read past, if it is next
unfoldable pub past_mask : Profile → Words → Option (Unit {0} × Words)
past_mask profile words = if at_mask profile words then mask_at words else Some (tt, words)
