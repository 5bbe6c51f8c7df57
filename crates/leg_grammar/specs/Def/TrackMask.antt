-- Masks of tracks (LEF/DEF 5.8, "Tracks"; that they have no effect where they are dropped is lefdef's own rule).
use Rattle.std.specs.Prelude.{if◌then◌else◌, Option, Some, codes}
use Rattle.leg_lex.specs.Words.{Words, ◌>>=◌, is_at, keyword_at}
use Rattle.leg_grammar.specs.declared.profile.Profile.{Profile}
use Rattle.leg_grammar.specs.Mask.{at_mask, mask_at}

-- SAMEMASK, if it is written
unfoldable pub past_same_mask : Words → Option (Unit {0} × Words)
past_same_mask words = if is_at (codes "SAMEMASK") words then keyword_at (codes "SAMEMASK") words else Some (tt, words)

-- a mask that is dropped, and SAMEMASK behind it, are read past, if they are next
unfoldable pub past_track_mask : Profile → Words → Option (Unit {0} × Words)
past_track_mask profile words =
    if at_mask profile words then (mask_at words >>= λ mask. past_same_mask mask.1)
    else Some (tt, words)
