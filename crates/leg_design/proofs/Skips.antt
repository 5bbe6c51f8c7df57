-- A section that is read past, from its first word on.
use Rattle.std.proofs.Common.{◌≡◌, ℕ, List, [], ◌∷◌, None, Some, refl, ap, ◌∙◌}
use Rattle.leg_lex.specs.Words.{Words, next_at, end_at}
use Rattle.leg_lex.specs.Past.{past}
use Rattle.leg_lex.proofs.Parts.{made_is, rest_is}
use Rattle.leg_grammar.specs.Def.SkippedForms.{past_def_section}

pub past_section_from : (words : Words) (keyword : List ℕ) (rest : Words) → next_at words ≡ Some (keyword, rest)
    → past_def_section words ≡ past (end_at keyword) rest
unfolding past_def_section next_at
past_section_from [] keyword rest next = absurd (let e : ⊥ = cc in e)
past_section_from (word ∷ words) keyword rest next =
    ap (λ w. past (end_at w) words) (made_is word keyword words rest next) ∙ ap (past (end_at keyword)) (rest_is word keyword words rest next)

pub past_section_of_none : (words : Words) → next_at words ≡ None → past_def_section words ≡ None
unfolding past_def_section next_at
past_section_of_none [] next = refl
past_section_of_none (word ∷ words) next = absurd (let e : ⊥ = cc in e)
