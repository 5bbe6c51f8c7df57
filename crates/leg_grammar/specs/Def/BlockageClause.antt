-- Clauses of a blockage, between its layer and its rectangles (LEF/DEF 5.8, "Blockages"; which of them are read, and what they make of the
-- blockage, is lefdef's own rule). Each tells, of whether the blockage is kept so far, whether it is kept then.
use Rattle.std.specs.Prelude.{ℕ, Bool, false, ◌||◌, if◌then◌else◌, Option, None, Some, codes}
use Rattle.leg_lex.specs.Words.{Words, ◌>>=◌, is_at, next_at, keyword_at, mark_at, name_at, word_at}
use Rattle.leg_grammar.specs.declared.profile.Profile.{Profile}
use Rattle.leg_grammar.specs.declared.profile.Profile.TheVariants.{Narrow, Wide}
use Rattle.leg_grammar.specs.declared.profile.Soft.{Soft}
use Rattle.leg_grammar.specs.declared.profile.Soft.TheVariants.{Refused, Dropped, Hard}
use Rattle.leg_grammar.specs.Mask.{at_mask, mask_at}

-- COMPONENT NAME, or PUSHDOWN: whatever a blockage comes from, it is one as any other
unfoldable pub origin_clause : Words → Option (Unit {0} × Words)
origin_clause words =
    if is_at (codes "COMPONENT") words then (do
      start ← keyword_at (codes "COMPONENT") words
      name ← name_at start.1
      Some (tt, name.1))
    else keyword_at (codes "PUSHDOWN") words

-- SLOTS or FILLS, which bars no wires: a blockage on a layer is dropped
unfoldable pub layer_clause : Profile → Bool → Words → Option (Bool × Words)
layer_clause profile kept words =
    if is_at (codes "SLOTS") words || is_at (codes "FILLS") words then (next_at words >>= λ word. Some (false, word.1))
    else (if at_mask profile words then (mask_at words >>= λ mask. Some (kept, mask.1))
    else (origin_clause words >>= λ origin. Some (kept, origin.1)))

-- SOFT, or PARTIAL density
unfoldable pub softness_at : Words → Option (Unit {0} × Words)
softness_at words =
    if is_at (codes "SOFT") words then keyword_at (codes "SOFT") words
    else (do
      start ← keyword_at (codes "PARTIAL") words
      density ← word_at start.1
      Some (tt, density.1))

-- whether a placement blockage that is soft or partial is kept, where it may be read
abbrev pub soft_is_kept : Soft → Bool → Option Bool
soft_is_kept Refused kept = None
soft_is_kept Dropped kept = Some false
soft_is_kept Hard kept = Some kept

-- a clause of a placement blockage
unfoldable pub placement_clause : Soft → Bool → Words → Option (Bool × Words)
placement_clause soft kept words =
    if is_at (codes "SOFT") words || is_at (codes "PARTIAL") words then (do
      stays ← soft_is_kept soft kept
      clause ← softness_at words
      Some (stays, clause.1))
    else (origin_clause words >>= λ origin. Some (kept, origin.1))

-- a clause after its plus, of a blockage on this layer or of places: in the narrow profile PUSHDOWN alone
unfoldable pub clause_in : Profile → Option ℕ → Bool → Words → Option (Bool × Words)
clause_in Narrow layer kept words = keyword_at (codes "PUSHDOWN") words >>= λ push. Some (kept, push.1)
clause_in (Wide masks soft) None kept words = placement_clause soft kept words
clause_in (Wide masks soft) (Some layer) kept words = layer_clause (Wide masks soft) kept words

-- + clause (43 is the plus)
unfoldable pub blockage_clause : Profile → Option ℕ → Bool → Words → Option (Bool × Words)
blockage_clause profile layer kept words = do
  plus ← mark_at 43 words
  clause_in profile layer kept plus.1
