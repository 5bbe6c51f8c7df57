-- Why texts are refused.
use Rattle.std.specs.Prelude.{◌≡◌, ◌≢◌, ℕ, List}
use Rattle.leg_lex.specs.Denotes.{Denotes}
use Rattle.leg_lex.specs.declared.read_fault.FaultKind.TheVariants as kinds
use Rattle.leg_lib_records.specs.declared.scale_fault.ScaleKind.TheVariants as scale
use Rattle.leg_flat.specs.declared.fault.FlatFault.{FlatFault}
use Rattle.leg_flat.specs.declared.fault.FlatFault.TheVariants as flat
use Rattle.leg_grammar.specs.Def.Header.{units_in}
use Rattle.leg_app.specs.declared.text_fault.TextFault.{TextFault}
use Rattle.leg_app.specs.declared.text_fault.TextFault.TheVariants.{Read, Scale, TooMany, Memory}

-- a design without a flat
abbrev pub of_flat : FlatFault → TextFault
of_flat flat.TooMany = TooMany
of_flat flat.Memory = Memory

-- What is true where texts are refused so: they denote nothing, or too much. Being out of memory implies nothing about them.
abbrev pub Refuses : Type 0 → Type 0 → TextFault → Type 0
Refuses nothing much (Read fault) = fault.kind ≢ kinds.Memory → nothing
Refuses nothing much (Scale fault units) = fault.kind ≢ scale.Memory → nothing
Refuses nothing much TooMany = much
Refuses nothing much Memory = Unit {0}

-- Texts are refused because memory ran out.
abbrev pub IsOutOfMemory : TextFault → Type 0
IsOutOfMemory (Read fault) = fault.kind ≡ kinds.Memory
IsOutOfMemory (Scale fault units) = fault.kind ≡ scale.Memory
IsOutOfMemory TooMany = ⊥
IsOutOfMemory Memory = Unit {0}

-- The units that come with a fault are the DEF's.
abbrev pub HasUnitsOf : List ℕ → TextFault → Type 0
HasUnitsOf def (Read fault) = Unit {0}
HasUnitsOf def (Scale fault units) = Denotes units_in def units
HasUnitsOf def TooMany = Unit {0}
HasUnitsOf def Memory = Unit {0}
