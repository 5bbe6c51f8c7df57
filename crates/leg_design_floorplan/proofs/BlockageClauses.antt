-- Clauses of blockages: each takes a word.
use Rattle.std.proofs.Common.{◌≡◌, ℕ, suc, ◌<◌, Bool, false, ◌||◌, length, Option, None, Some, codes, arith}
use Rattle.leg_lex.specs.Words.{Words, is_at}
use Rattle.leg_lex.proofs.Shorter.{next_below, keyword_below, mark_below, name_below, word_below}
use Rattle.leg_lex.proofs.Until.{Below, Shortens, below_some, below_bind, below_ask, below_if, below_more}
use Rattle.leg_grammar.specs.declared.profile.Profile.{Profile}
use Rattle.leg_grammar.specs.declared.profile.Profile.TheVariants.{Narrow, Wide}
use Rattle.leg_grammar.specs.declared.profile.Soft.{Soft}
use Rattle.leg_grammar.specs.Mask.{at_mask}
use Rattle.leg_grammar.specs.Def.BlockageClause.{origin_clause, layer_clause, softness_at, soft_is_kept, placement_clause, clause_in, blockage_clause}
use Rattle.leg_design_floorplan.proofs.Masks.{mask_below}

origin_below : (words : Words) → Below (length words) (origin_clause words)
unfolding origin_clause
origin_below words =
    below_if (is_at (codes "COMPONENT") words)
    (below_bind (omega arith) (keyword_below (codes "COMPONENT") words) (λ start less.
    below_bind (omega arith) (name_below start.1) (λ name fewer. below_some tt name.1 fewer)))
    (keyword_below (codes "PUSHDOWN") words)

layer_clause_below : (profile : Profile) (kept : Bool) (words : Words) → Below (suc (length words)) (layer_clause profile kept words)
unfolding layer_clause
layer_clause_below profile kept words =
    below_if (is_at (codes "SLOTS") words || is_at (codes "FILLS") words)
    (below_bind (omega arith) (next_below words) (λ word less. below_some false word.1 less))
    (below_if (at_mask profile words)
    (below_bind (omega arith) (mask_below words) (λ mask less. below_some kept mask.1 less))
    (below_bind (omega arith) (origin_below words) (λ origin less. below_some kept origin.1 less)))

softness_below : (words : Words) → Below (length words) (softness_at words)
unfolding softness_at
softness_below words =
    below_if (is_at (codes "SOFT") words) (keyword_below (codes "SOFT") words)
    (below_bind (omega arith) (keyword_below (codes "PARTIAL") words) (λ start less.
    below_bind (omega arith) (word_below start.1) (λ density fewer. below_some tt density.1 fewer)))

placement_clause_below : (soft : Soft) (kept : Bool) (words : Words) → Below (suc (length words)) (placement_clause soft kept words)
unfolding placement_clause
placement_clause_below soft kept words =
    below_if (is_at (codes "SOFT") words || is_at (codes "PARTIAL") words)
    (below_ask (soft_is_kept soft kept) (λ stays.
    below_bind (omega arith) (softness_below words) (λ clause less. below_some stays clause.1 less)))
    (below_bind (omega arith) (origin_below words) (λ origin less. below_some kept origin.1 less))

clause_in_below : (profile : Profile) (layer : Option ℕ) (kept : Bool) (words : Words) → Below (suc (length words)) (clause_in profile layer kept words)
unfolding clause_in
clause_in_below Narrow layer kept words =
    below_bind (omega arith) (keyword_below (codes "PUSHDOWN") words) (λ push less. below_some kept push.1 less)
clause_in_below (Wide masks soft) None kept words = placement_clause_below soft kept words
clause_in_below (Wide masks soft) (Some layer) kept words = layer_clause_below (Wide masks soft) kept words

pub clause_shortens : (profile : Profile) (layer : Option ℕ) → Shortens (blockage_clause profile layer)
unfolding blockage_clause
clause_shortens profile layer kept words =
    below_bind (omega arith) (mark_below 43 words) (λ plus less. below_more (omega arith) (clause_in_below profile layer kept plus.1))

pub clause_shorter : (profile : Profile) (layer : Option ℕ) (kept stays : Bool) (words rest : Words)
    → blockage_clause profile layer kept words ≡ Some (stays, rest) → length rest < length words
clause_shorter profile layer kept stays words rest said = (clause_shortens profile layer kept words).left stays rest said
