-- What is known of a fault before it is the reason of an answer.
use Rattle.std.specs.Prelude.{◌≡◌, ◌≢◌, ℕ, List, Option}
use Rattle.leg_lex.specs.declared.read_fault.FaultKind.TheVariants as kinds
use Rattle.leg_lib_records.specs.Records.{LibraryModel}
use Rattle.leg_app.specs.declared.text_fault.TextFault.{TextFault}
use Rattle.leg_app.specs.declared.text_fault.TextFault.TheVariants.{Read, Scale, TooMany, Memory}
use Rattle.leg_grammar.specs.declared.profile.Profile.{Profile}
use Rattle.leg_grammar.specs.Texts.{DenoteLibraryFor}
use Rattle.leg_app.specs.Reason.{needed_master}

-- the macro of which a fault needs a pin is one of the library that the texts denote; nothing is known where memory ran out
abbrev pub IsOfMaster : Profile → List (List ℕ) → List ℕ → TextFault → Option (List ℕ) → Type 0
IsOfMaster profile lefs def (Read fault) master =
    fault.kind ≢ kinds.Memory → (library : LibraryModel) → DenoteLibraryFor profile lefs def library → master ≡ needed_master library fault.need
IsOfMaster profile lefs def (Scale fault units) master = Unit {0}
IsOfMaster profile lefs def TooMany master = Unit {0}
IsOfMaster profile lefs def Memory master = Unit {0}
