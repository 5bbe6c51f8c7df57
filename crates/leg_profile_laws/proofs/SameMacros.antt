-- What macros say in the narrow profile they say in each: the narrow profile leaves none out.
use Rattle.std.proofs.Common.{suc, [], ◌∷◌, ◌++◌, length, Option, None, Some, codes, refl}
use Rattle.std.specs.Option.{option_or}
use Rattle.leg_lex.specs.Words.{Words, ◌>>=◌, is_at, keyword_at, name_at, end_of}
use Rattle.leg_lex.specs.Statements.{at_end, statement_at, only}
use Rattle.leg_lib_records.specs.Records.{RawLibraryModel}
use Rattle.leg_grammar.specs.declared.profile.Profile.{Profile}
use Rattle.leg_grammar.specs.declared.profile.Profile.TheVariants.{Narrow, Wide}
use Rattle.leg_grammar.specs.Lef.Pin.{PinParts, no_pin_parts, port_at, pin_part, supply_of_any, pin_at}
use Rattle.leg_grammar.specs.Lef.Macro.{MacroParts, no_macro_parts, macro_pin, macro_obstruction, macro_density, macro_timing, macro_statement, macro_part, macro_said, macro_at, with_master}
use Rattle.leg_grammar.specs.Lef.MacroSkip.{without_macro, with_macro}
use Rattle.leg_profile_laws.proofs.Keeps.{Keeps, keeps_none, keeps_itself, keeps_bind, keeps_if, steps_keep}
use Rattle.leg_profile_laws.proofs.SameGeometry.{geometry_keeps}

-- what another reading may say, where the first says nothing
or_keeps : {Y : Type 0} (said other new : Option Y) → Keeps said other → Keeps said (option_or other new)
or_keeps None other new first = keeps_none (option_or other new)
or_keeps (Some y) other new first = rw (first.kept y refl) (keeps_itself (Some y))

module _ (profile : Profile) (library : RawLibraryModel) where
  port_same : (words : Words) → Keeps (port_at Narrow library words) (port_at profile library words)
  unfolding port_at
  port_same words =
      keeps_bind (keeps_itself (keyword_at (codes "PORT") words)) (λ start.
      keeps_bind (geometry_keeps profile library start.1) (λ shapes.
      keeps_bind (keeps_itself (keyword_at (codes "END") shapes.1)) (λ end.
      keeps_itself (Some (shapes.0, end.1)))))

  pin_part_same : (parts : PinParts) (words : Words) → Keeps (pin_part Narrow library parts words) (pin_part profile library parts words)
  unfolding pin_part
  pin_part_same parts words =
      keeps_if (is_at (codes "PORT") words)
      (keeps_bind (port_same words) (λ port. keeps_itself (Some (record parts { shapes = parts.shapes ++ port.0 }, port.1))))
      (keeps_itself (statement_at words >>= λ statement. Some (record parts { statements = parts.statements ++ statement.0 ∷ [] }, statement.1)))

  pin_same : (words : Words) → Keeps (pin_at Narrow library words) (pin_at profile library words)
  unfolding pin_at
  pin_same words =
      keeps_bind (keeps_itself (keyword_at (codes "PIN") words)) (λ start.
      keeps_bind (keeps_itself (name_at start.1)) (λ name.
      keeps_bind (steps_keep at_end (pin_part Narrow library) (pin_part profile library) pin_part_same (suc (length name.1)) no_pin_parts name.1) (λ parts.
      keeps_bind (keeps_itself (only (codes "USE") parts.0.statements)) (λ found.
      keeps_bind (keeps_itself (supply_of_any found)) (λ supply.
      keeps_bind (keeps_itself (end_of name.0 parts.1)) (λ end.
      keeps_itself (Some (record { name = name.0; supply = supply; shapes = parts.0.shapes }, end.1))))))))

  macro_pin_same : (parts : MacroParts) (words : Words) → Keeps (macro_pin Narrow library parts words) (macro_pin profile library parts words)
  unfolding macro_pin
  macro_pin_same parts words = keeps_bind (pin_same words) (λ pin. keeps_itself _)

  obstruction_same : (parts : MacroParts) (words : Words) → Keeps (macro_obstruction Narrow library parts words) (macro_obstruction profile library parts words)
  unfolding macro_obstruction
  obstruction_same parts words =
      keeps_bind (keeps_itself (keyword_at (codes "OBS") words)) (λ start.
      keeps_bind (geometry_keeps profile library start.1) (λ shapes.
      keeps_bind (keeps_itself (keyword_at (codes "END") shapes.1)) (λ end.
      keeps_itself (Some (record parts { obstructions = parts.obstructions ++ shapes.0 }, end.1)))))

  part_same : (parts : MacroParts) (words : Words) → Keeps (macro_part Narrow library parts words) (macro_part profile library parts words)
  unfolding macro_part
  part_same parts words =
      keeps_if (is_at (codes "PIN") words) (macro_pin_same parts words)
      (keeps_if (is_at (codes "OBS") words) (obstruction_same parts words)
      (keeps_if (is_at (codes "DENSITY") words) (keeps_itself (macro_density parts words))
      (keeps_if (is_at (codes "TIMING") words) (keeps_itself (macro_timing parts words)) (keeps_itself (macro_statement parts words)))))

  macro_same : (words : Words) → Keeps (macro_at Narrow library words) (macro_at profile library words)
  unfolding macro_at
  macro_same words =
      keeps_bind (keeps_itself (keyword_at (codes "MACRO") words)) (λ start.
      keeps_bind (keeps_itself (name_at start.1)) (λ name.
      keeps_bind (steps_keep at_end (macro_part Narrow library) (macro_part profile library) part_same (suc (length name.1)) no_macro_parts name.1) (λ parts.
      keeps_bind (keeps_itself (macro_said library parts.0.statements)) (λ said.
      keeps_bind (keeps_itself (end_of name.0 parts.1)) (λ end.
      keeps_itself _)))))

  master_same : (words : Words) → Keeps (with_master Narrow library words) (with_master profile library words)
  unfolding with_master
  master_same words = keeps_bind (macro_same words) (λ master. keeps_itself _)

-- A macro of the narrow profile.
pub macro_keeps : (profile : Profile) (library : RawLibraryModel) (words : Words) → Keeps (with_macro Narrow library words) (with_macro profile library words)
unfolding with_macro
macro_keeps Narrow library words = keeps_itself (with_master Narrow library words)
macro_keeps (Wide masks soft) library words =
    or_keeps (with_master Narrow library words) (with_master (Wide masks soft) library words) (without_macro library words)
    (master_same (Wide masks soft) library words)
