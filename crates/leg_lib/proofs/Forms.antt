-- The forms of a text: each takes a word at least, and what their loop keeps.
use Rattle.std.proofs.Common.{◌≡◌, ◌<◌, true, false, [], ◌∷◌, length, None, Some, codes, refl, arith}
use Rattle.leg_lex.specs.Words.{Words, is_at}
use Rattle.leg_lex.specs.Until.{until}
use Rattle.leg_lex.proofs.Until as loops
use Rattle.leg_lex.proofs.Until.{Below, Shortens, below_some, below_bind, below_if}
use Rattle.leg_lib_records.specs.Records.{RawLibraryModel}
use Rattle.leg_grammar.specs.declared.profile.Profile.{Profile}
use Rattle.leg_grammar.specs.Lef.Rule.{is_at_rule}
use Rattle.leg_grammar.specs.Lef.Form.{LefParts, library_form_at, lef_form_at, at_last}
use Rattle.leg_lib.proofs.Layers.{with_layer_below}
use Rattle.leg_lib.proofs.Vias.{with_via_below}
use Rattle.leg_lib.proofs.Sites.{with_site_below}
use Rattle.leg_lib.proofs.MacroSkips.{with_macro_below}
use Rattle.leg_lib.proofs.PastForms.{past_form_below}
use Rattle.leg_lib.proofs.Rules.{with_rule_below}

library_form_below : (profile : Profile) (library : RawLibraryModel) (words : Words) → Below (length words) (library_form_at profile library words)
unfolding library_form_at
library_form_below profile library words =
    below_if (is_at (codes "LAYER") words) (with_layer_below library words)
    (below_if (is_at (codes "VIA") words) (with_via_below profile library words)
    (below_if (is_at (codes "SITE") words) (with_site_below library words)
    (below_if (is_at (codes "MACRO") words) (with_macro_below profile library words)
    (below_if (is_at_rule profile words) (with_rule_below profile library words)
    (below_bind (omega arith) (past_form_below words) (λ form less. below_some library form.1 less))))))

pub form_shortens : Shortens lef_form_at
unfolding lef_form_at
form_shortens parts words = below_bind (omega arith) (library_form_below parts.profile parts.library words) (λ form less. below_some _ form.1 less)

pub form_shorter : (parts next : LefParts) (words rest : Words) → lef_form_at parts words ≡ Some (next, rest) → length rest < length words
form_shorter parts next words rest said = (form_shortens parts words).left next rest said

-- where another form stands
pub not_last : (words : Words) → (words ≡ [] → ⊥) → is_at (codes "END") words ≡ false → at_last words ≡ false
not_last [] some other = absurd (some refl)
not_last (word ∷ words) some other = other

-- where none stands
pub last_at_end : (words : Words) → words ≡ [] → at_last words ≡ true
last_at_end words none = rw none refl

pub last_at_word : (words : Words) → is_at (codes "END") words ≡ true → at_last words ≡ true
last_at_word [] there = refl
last_at_word (word ∷ words) there = there

-- one more form
pub forms_on : (parts next : LefParts) (words rest : Words) → lef_form_at parts words ≡ Some (next, rest) → at_last words ≡ false
    → until at_last lef_form_at parts words ≡ until at_last lef_form_at next rest
forms_on parts next words rest said more =
    loops.goes_on at_last lef_form_at form_shortens parts next words rest more said

-- no more forms
pub forms_end : (parts : LefParts) (words : Words) → at_last words ≡ true → until at_last lef_form_at parts words ≡ Some (parts, words)
forms_end parts words stops = loops.ends at_last lef_form_at parts words stops

-- what stands there is no form
pub forms_fail : (parts : LefParts) (words : Words) → lef_form_at parts words ≡ None → at_last words ≡ false
    → until at_last lef_form_at parts words ≡ None
forms_fail parts words said more = loops.fails at_last lef_form_at parts words more said
