-- What the loop over the forms of a DEF keeps.
use Rattle.std.proofs.Common.{◌≡◌, Bool, true, false, None, Some, codes, refl, sym, ◌∙◌}
use Rattle.leg_lex.specs.Words.{Words, is_at, end_at, nothing_at}
use Rattle.leg_lex.specs.Until.{until}
use Rattle.leg_lex.specs.Statements.{at_end}
use Rattle.leg_lex.proofs.Until as loops
use Rattle.leg_lib_records.specs.Records.{LibraryModel}
use Rattle.leg_grammar.specs.declared.profile.Profile.{Profile}
use Rattle.leg_grammar.specs.Def.Parts.{DesignParts, no_parts}
use Rattle.leg_grammar.specs.Def.Form.{def_form_at, design_in}
use Rattle.leg_design.proofs.FormsShorter.{form_shortens}

-- one more form
pub forms_on : (parts next : DesignParts) (words rest : Words) → def_form_at parts words ≡ Some (next, rest) → is_at (codes "END") words ≡ false
    → until at_end def_form_at parts words ≡ until at_end def_form_at next rest
forms_on parts next words rest said more =
    loops.goes_on at_end def_form_at form_shortens parts next words rest more said

-- no more forms
pub forms_end : (parts : DesignParts) (words : Words) → is_at (codes "END") words ≡ true → until at_end def_form_at parts words ≡ Some (parts, words)
forms_end parts words stops = loops.ends at_end def_form_at parts words stops

-- what stands there is no form
pub forms_fail : (parts : DesignParts) (words : Words) → def_form_at parts words ≡ None → is_at (codes "END") words ≡ false
    → until at_end def_form_at parts words ≡ None
forms_fail parts words said more = loops.fails at_end def_form_at parts words more said

-- the forms before it said these parts, and what stands there is no form
pub forms_failed : (first parts : DesignParts) (all words : Words) (ended : Bool)
    → until at_end def_form_at parts words ≡ until at_end def_form_at first all
    → def_form_at parts words ≡ None → ended ≡ is_at (codes "END") words → ended ≡ false → until at_end def_form_at first all ≡ None
forms_failed first parts all words ended so_far said test more =
    sym so_far ∙ forms_fail parts words said (sym test ∙ more)

-- something stands after END DESIGN
pub more_after : (profile : Profile) (library : LibraryModel) (parts : DesignParts) (words rest after : Words)
    → until at_end def_form_at (no_parts profile library) words ≡ Some (parts, rest) → end_at (codes "DESIGN") rest ≡ Some (tt, after)
    → nothing_at after ≡ None → design_in profile library words ≡ None
unfolding design_in
more_after profile library parts words rest after forms end more = rw (forms, end, more) refl

-- END DESIGN doesn't stand
pub no_end : (profile : Profile) (library : LibraryModel) (parts : DesignParts) (words rest : Words)
    → until at_end def_form_at (no_parts profile library) words ≡ Some (parts, rest) → end_at (codes "DESIGN") rest ≡ None
    → design_in profile library words ≡ None
unfolding design_in
no_end profile library parts words rest forms end = rw (forms, end) refl
