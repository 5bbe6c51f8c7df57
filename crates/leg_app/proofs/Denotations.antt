-- What texts say together, and when they say nothing.
use Rattle.std.proofs.Common.{◌≡◌, ℕ, List, sym, subst}
use Rattle.leg_lex.specs.Word.{texts}
use Rattle.leg_lex.specs.Denotes.{Denotes}
use Rattle.leg_lib_records.specs.Records.{RawLibraryModel, LibraryModel}
use Rattle.leg_grammar.specs.declared.profile.Profile.{Profile}
use Rattle.leg_grammar.specs.Lef.Library.{DenoteLibrary}
use Rattle.leg_lib_records.specs.Scale.{IsLibraryAt}
use Rattle.leg_design_records.specs.Records.{DesignModel}
use Rattle.leg_grammar.specs.Def.Header.{units_in}
use Rattle.leg_grammar.specs.Def.Form.{design_in}
pub use Rattle.leg_design.proofs.ReadDesigns.{design_has_library}
use Rattle.leg_grammar.specs.Texts.{DenoteLibraryFor, DenoteDesign, DenoteNothing}
use Rattle.leg_app.specs.Steps.OneLibrary.{DenotesJust, DenoteNoLibrary}

module _ (profile : Profile) (lefs : List (List ℕ)) (def : List ℕ) where
  pub no_units : ((n : ℕ) → Denotes units_in def n → ⊥) → DenoteNoLibrary profile lefs def
  no_units none library say = none say.units say.unit

  -- Where the LEFs say this library and no other, and the DEF these units and no others.
  module _ (raw : RawLibraryModel) (only : (said : RawLibraryModel) → DenoteLibrary profile lefs said → said ≡ raw) (n : ℕ)
      (one : (said : ℕ) → Denotes units_in def said → said ≡ n) where
    -- the texts can only mean the library at these units
    scaled_at : (library : LibraryModel) → DenoteLibraryFor profile lefs def library → IsLibraryAt n raw library
    scaled_at library say =
        let same_units : say.units ≡ n = one say.units say.unit in
        let same_raw : say.raw ≡ raw = only say.raw say.lef in
        subst (λ k. IsLibraryAt k raw library) same_units (subst (λ r. IsLibraryAt say.units r library) same_raw say.scaled)

    pub no_scaled : ((library : LibraryModel) → IsLibraryAt n raw library → ⊥) → DenoteNoLibrary profile lefs def
    no_scaled none library say = none library (scaled_at library say)

    pub only_scaled : (library : LibraryModel) → ((other : LibraryModel) → IsLibraryAt n raw other → other ≡ library) → (said : LibraryModel)
        → DenoteLibraryFor profile lefs def said → said ≡ library
    only_scaled library one_at said say = one_at said (scaled_at said say)

  -- no library is said, so no design
  pub nothing_under : DenoteNoLibrary profile lefs def → DenoteNothing profile lefs def
  nothing_under none library design say = none library say.under

  -- under the one library that is said there is no design
  pub no_design : (library : LibraryModel) → DenotesJust profile lefs def library
      → ((design : DesignModel) → Denotes (design_in profile library) def design → ⊥)
      → DenoteNothing profile lefs def
  no_design library just none other design say = none design (subst (λ l. Denotes (design_in profile l) def design) (just.only other say.under) say.said)

-- the texts say the design that the DEF says under the library that they say
pub say_under : (profile : Profile) (lefs : List (List ℕ)) (def : List ℕ) (library : LibraryModel) (design : DesignModel) → DenotesJust profile lefs def library
    → Denotes (design_in profile library) def design → DenoteDesign profile lefs def design.library design
say_under profile lefs def library design just says =
    let same : design.library ≡ library = (design_has_library profile library (texts says.words)).given design says.reads in
    subst (λ l. DenoteDesign profile lefs def l design) (sym same) (record { under = just.found; said = says })
