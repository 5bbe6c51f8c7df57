-- What LEF texts denote in the narrow profile they denote in each, where they have no forms of which that makes more.
use Rattle.std.proofs.Common.{◌≡◌, ℕ, suc, List, [], ◌∷◌, length, Some, codes, refl, sym, ap, ◌∙◌, subst}
use Rattle.std.proofs.lemmas.List.Elements.{All-head, All-tail}
use Rattle.leg_lex.specs.Word.{texts}
use Rattle.leg_lex.specs.Words.{Words, ◌>>=◌, is_at}
use Rattle.leg_lib_records.specs.Records.{RawLibraryModel, empty_library}
use Rattle.leg_grammar.specs.declared.profile.Profile.{Profile}
use Rattle.leg_grammar.specs.declared.profile.Profile.TheVariants.{Narrow}
use Rattle.leg_grammar.specs.Lef.Layer.{with_layer}
use Rattle.leg_grammar.specs.Lef.Site.{with_site}
use Rattle.leg_grammar.specs.Lef.SkippedForms.{past_lef_form}
use Rattle.leg_grammar.specs.Lef.Form.{LefParts, library_form_at, lef_form_at, at_last, ended, lef_in}
use Rattle.leg_grammar.specs.Lef.Library.{Extend, DenoteLibrary}
use Rattle.leg_profile_laws.specs.WiderForms.{HasNoWider, HaveNoWider}
use Rattle.leg_profile_laws.proofs.Keeps.{Keeps, keeps_itself, keeps_if}
use Rattle.leg_profile_laws.proofs.Follows.{Follows, follows_known, follows_some, steps_follow, Finds, finds_some, finds_bind, finds_after}
use Rattle.leg_profile_laws.proofs.PlainWords.{ArePlain, no_rule_at}
use Rattle.leg_profile_laws.proofs.PlainForms.{form_leaves}
use Rattle.leg_profile_laws.proofs.SameMacros.{macro_keeps}
use Rattle.leg_profile_laws.proofs.SameLefVias.{lef_via_keeps}

-- what the forms before gave, in this profile
abbrev pub lef_read_in : Profile → RawLibraryModel → LefParts
lef_read_in profile library = record { profile = profile; library = library }

-- the same was read in both profiles
record AreSameLefs (profile : Profile) (narrow parts : LefParts) : Type 0 where
  library : RawLibraryModel
  narrow_is : narrow ≡ lef_read_in Narrow library
  parts_are : parts ≡ lef_read_in profile library

-- and the words that are left are plain
record AreSameAt (profile : Profile) (narrow parts : LefParts) (words : Words) : Type 0 where
  same : AreSameLefs profile narrow parts
  left : ArePlain profile words

module _ (profile : Profile) where
  same_lefs : (library : RawLibraryModel) → AreSameLefs profile (lef_read_in Narrow library) (lef_read_in profile library)
  same_lefs library = record { library = library; narrow_is = refl; parts_are = refl }

  form_same : (library : RawLibraryModel) (words : Words) → ArePlain profile words
      → Keeps (library_form_at Narrow library words) (library_form_at profile library words)
  unfolding library_form_at
  form_same library words plain =
      keeps_if (is_at (codes "LAYER") words) (keeps_itself (with_layer library words))
      (keeps_if (is_at (codes "VIA") words) (lef_via_keeps profile library words plain)
      (keeps_if (is_at (codes "SITE") words) (keeps_itself (with_site library words))
      (keeps_if (is_at (codes "MACRO") words) (macro_keeps profile library words)
      (rw (no_rule_at profile words plain) (keeps_itself (past_lef_form words >>= λ form. Some (library, form.1)))))))

  form_follows : (library : RawLibraryModel) (words : Words) → ArePlain profile words
      → Follows (AreSameAt profile) (lef_form_at (lef_read_in Narrow library) words) (lef_form_at (lef_read_in profile library) words)
  unfolding lef_form_at
  form_follows library words plain =
      follows_known (form_same library words plain) (form_leaves profile library words plain) (λ form left.
      follows_some form.1 (record { same = same_lefs form.0; left = left }))

  forms_follow : (narrow parts : LefParts) (words : Words) → AreSameAt profile narrow parts words
      → Follows (AreSameAt profile) (lef_form_at narrow words) (lef_form_at parts words)
  forms_follow narrow parts words at = rw (at.same.narrow_is, at.same.parts_are) (form_follows at.same.library words at.left)

  lef_same : (library : RawLibraryModel) (words : Words) → ArePlain profile words
      → Finds (AreSameLefs profile) (lef_in (lef_read_in Narrow library) words) (lef_in (lef_read_in profile library) words)
  unfolding lef_in
  lef_same library words plain =
      finds_after _ _
      (steps_follow (AreSameAt profile) at_last lef_form_at lef_form_at forms_follow (suc (length words)) (lef_read_in Narrow library)
      (lef_read_in profile library) words (record { same = same_lefs library; left = plain })) (λ narrow parts rest at.
      finds_bind (ended rest) (λ end. finds_some at.same))

  -- what texts add to a library
  extend_same : (lefs : List (List ℕ)) → HaveNoWider profile lefs → (library : RawLibraryModel) (last : LefParts)
      → Extend (lef_read_in Narrow library) lefs last → (other : LefParts) × AreSameLefs profile last other × Extend (lef_read_in profile library) lefs other
  extend_same [] plain library last said = (lef_read_in profile library, record { library = library; narrow_is = sym said; parts_are = refl }, refl)
  extend_same (lef ∷ lefs) plain library last (next, says, rest) =
      let words = texts says.words in
      let here : ArePlain profile words = record { none = (All-head (HasNoWider profile) lef lefs plain).none says.words says.tokens } in
      let found = (lef_same library words here).found next says.reads in
      let same = found.1 in
      let later = subst (λ p. Extend p lefs last) same.narrow_is rest in
      let more = extend_same lefs (All-tail (HasNoWider profile) lef lefs plain) same.library last later in
      let reads : lef_in (lef_read_in profile library) words ≡ Some (lef_read_in profile same.library) = found.2 ∙ ap Some same.parts_are in
      (more.0, more.1, (lef_read_in profile same.library, record { fits = says.fits; words = says.words; tokens = says.tokens; reads = reads }, more.2))

  -- What texts denote.
  pub library_same : (lefs : List (List ℕ)) (library : RawLibraryModel) → HaveNoWider profile lefs → DenoteLibrary Narrow lefs library
      → DenoteLibrary profile lefs library
  library_same lefs library plain said =
      let found = extend_same lefs plain empty_library said.0 said.1 in
      (found.0, found.2, ap (λ p. p.library) found.1.parts_are ∙ ap (λ p. p.library) (sym found.1.narrow_is) ∙ said.2)
