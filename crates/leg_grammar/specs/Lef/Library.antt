-- The library that LEF texts denote, taken one after the other.
use Rattle.std.specs.Prelude.{◌≡◌, ℕ, List, [], ◌∷◌}
use Rattle.leg_lex.specs.Denotes.{Denotes}
use Rattle.leg_lib_records.specs.Records.{RawLibraryModel}
use Rattle.leg_grammar.specs.declared.profile.Profile.{Profile}
use Rattle.leg_grammar.specs.Lef.Form.{LefParts, no_lef_parts, lef_in}

-- these texts add to what was read before until it is this
abbrev pub Extend : LefParts → List (List ℕ) → LefParts → Type 0
Extend before [] parts = before ≡ parts
Extend before (lef ∷ lefs) parts = (next : LefParts) × Denotes (lef_in before) lef next × Extend next lefs parts

-- the texts denote this library in a profile, in millionths of a micron
abbrev pub DenoteLibrary : Profile → List (List ℕ) → RawLibraryModel → Type 0
DenoteLibrary profile lefs library = (parts : LefParts) × Extend (no_lef_parts profile) lefs parts × (parts.library ≡ library)
