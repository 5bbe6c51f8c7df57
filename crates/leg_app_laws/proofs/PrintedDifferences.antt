-- A DEF, and what a command has printed of it, under one library.
use Rattle.std.proofs.Common.{◌≡◌, ℕ, List, ◌∙◌, subst}
use Rattle.leg_lex.specs.Word.{texts}
use Rattle.leg_lib_records.specs.Records.{LibraryModel}
use Rattle.leg_design_records.specs.Records.{DesignModel}
use Rattle.leg_design_records.specs.WellFormed.{IsWellFormed}
use Rattle.leg_design.proofs.ReadDesigns.{reads_well_formed}
use Rattle.leg_grammar.specs.declared.profile.Profile.{Profile}
use Rattle.leg_grammar.specs.Texts.{DenoteDesign}
use Rattle.leg_app.proofs.Denotations.{design_has_library}

module _ (profile : Profile) (lefs : List (List ℕ)) (def : List ℕ) (library : LibraryModel) (design : DesignModel)
    (say : DenoteDesign profile lefs def library design) where
  -- the design that a text denotes is well-formed
  pub said_well_formed : IsWellFormed design
  said_well_formed = reads_well_formed profile library (texts say.said.words) design say.said.reads

  -- a text that denotes a design of the same library denotes it under that library
  pub said_under : (text : List ℕ) (after : DesignModel) → after.library ≡ design.library → DenoteDesign profile lefs text after.library after
      → DenoteDesign profile lefs text library after
  said_under text after same again =
      subst (λ l. DenoteDesign profile lefs text l after) (same ∙ (design_has_library profile library (texts say.said.words)).given design say.said.reads) again
