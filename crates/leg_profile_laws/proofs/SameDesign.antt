-- What a DEF denotes in the narrow profile it denotes in each.
use Rattle.std.proofs.Common.{◌≡◌, ℕ, suc, List, length, refl, codes, []}
use Rattle.leg_lex.specs.Words.{Words, end_at, nothing_at}
use Rattle.leg_lex.specs.Statements.{at_end}
use Rattle.leg_lex.specs.Denotes.{Denotes}
use Rattle.leg_lex.proofs.Denotations.{says_one}
use Rattle.leg_lib_records.specs.Records.{LibraryModel}
use Rattle.leg_design_records.specs.Records.{DesignModel}
use Rattle.leg_grammar.specs.declared.profile.Profile.{Profile}
use Rattle.leg_grammar.specs.declared.profile.Profile.TheVariants.{Narrow}
use Rattle.leg_grammar.specs.Def.Parts.{DesignParts, no_parts}
use Rattle.leg_grammar.specs.Def.Form.{def_form_at, design_of, design_in}
use Rattle.leg_grammar.specs.Texts.{DenoteLibraryFor, DenoteDesign}
use Rattle.leg_profile_laws.specs.WiderForms.{HaveNoWider}
use Rattle.leg_profile_laws.proofs.Keeps.{Keeps, keeps_itself, keeps_bind}
use Rattle.leg_profile_laws.proofs.Follows.{keeps_after, steps_follow}
use Rattle.leg_profile_laws.proofs.SameLibrary.{library_same}
use Rattle.leg_profile_laws.proofs.SameForms.{read_in, AreSame, forms_follow}

module _ (profile : Profile) where
  of_same : (narrow parts : DesignParts) → AreSame profile narrow parts → Keeps (design_of narrow) (design_of parts)
  unfolding design_of
  of_same narrow parts same = rw (same.narrow_is, same.parts_are) (keeps_itself (design_of (read_in Narrow [] same.has same.design)))

  -- What words denote in the narrow profile they denote in each.
  pub words_same : (library : LibraryModel) (words : Words) → Keeps (design_in Narrow library words) (design_in profile library words)
  unfolding design_in
  words_same library words =
      keeps_after _ _
      (steps_follow (λ s t rest. AreSame profile s t) at_end def_form_at def_form_at (forms_follow profile) (suc (length words)) (no_parts Narrow library)
      (no_parts profile library) words (record { has = _; design = _; rules = []; narrow_is = refl; parts_are = refl })) (λ narrow parts rest same.
      keeps_bind (keeps_itself (end_at (codes "DESIGN") rest)) (λ end.
      keeps_bind (keeps_itself (nothing_at end.1)) (λ nothing.
      of_same narrow parts same)))

  module _ (library : LibraryModel) (def : List ℕ) (design : DesignModel) (says : Denotes (design_in Narrow library) def design) where
    -- The design that a DEF denotes in the narrow profile it denotes in each.
    pub design_same : Denotes (design_in profile library) def design
    design_same = record {
      fits = says.fits;
      words = says.words;
      tokens = says.tokens;
      reads = (words_same library _).kept design says.reads;
    }

    -- It denotes no other.
    pub design_only : (other : DesignModel) → Denotes (design_in profile library) def other → other ≡ design
    design_only other said = says_one (design_in profile library) def other design said design_same

  -- LEF and DEF texts together.
  pub texts_same : (lefs : List (List ℕ)) (def : List ℕ) (library : LibraryModel) (design : DesignModel) → DenoteDesign Narrow lefs def library design
      → DenoteLibraryFor profile lefs def library → DenoteDesign profile lefs def library design
  texts_same lefs def library design say under = record { under = under; said = design_same library def design say.said }

  -- A library at the units of a DEF.
  pub library_for_same : (lefs : List (List ℕ)) (def : List ℕ) (library : LibraryModel) → HaveNoWider profile lefs
      → DenoteLibraryFor Narrow lefs def library → DenoteLibraryFor profile lefs def library
  library_for_same lefs def library plain under = record {
    raw = under.raw;
    units = under.units;
    lef = library_same profile lefs under.raw plain under.lef;
    unit = under.unit;
    scaled = under.scaled;
  }
