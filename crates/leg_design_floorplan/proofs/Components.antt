-- Components: each entry takes a word, and its name is new.
use Rattle.std.proofs.Common.{◌≡◌, ℕ, ◌<◌, nat_le, List, [], ◌∷◌, ◌++◌, length, None, Some, codes, arith}
use Rattle.leg_lex.specs.Words.{Words}
use Rattle.leg_lex.specs.Statements.{clauses_of}
use Rattle.leg_lex.specs.NameLookup.{place_of}
use Rattle.leg_lex.proofs.Until.{Below, Shortens, below_some, below_bind, below_ask}
use Rattle.leg_lex.proofs.Statements.{statement_below}
use Rattle.leg_lib_records.specs.Records.{LibraryModel}
use Rattle.leg_design_records.specs.declared.limits.TheConstants.{ENTRY_LIMIT}
use Rattle.leg_design_records.specs.declared.records.Component.{Component}
use Rattle.leg_grammar.specs.Def.Guard.{unless}
use Rattle.leg_design_records.specs.Records.{component_names}
use Rattle.leg_grammar.specs.Def.Component.{component_in, component_entry, components_at}
use Rattle.leg_design_floorplan.proofs.ReadComponents.{component_gives}
use Rattle.leg_design_common.proofs.Sections.{section_below}

-- a component that is read has a new name
pub name_is_fresh : (library : LibraryModel) (names : List (List ℕ)) (parts : List Words) (component : Component)
    → component_in library names parts ≡ Some component → place_of component.name names ≡ None
name_is_fresh library names parts component is = ((component_gives library names parts).given component is).1

pub entry_shortens : (library : LibraryModel) → Shortens (component_entry library)
unfolding component_entry
entry_shortens library components words =
    below_ask (unless (nat_le ENTRY_LIMIT (length components))) (λ room.
    below_bind (omega arith) (statement_below words) (λ statement less.
    below_ask (component_in library (component_names components) (clauses_of statement.0))
    (λ component. below_some (components ++ component ∷ []) statement.1 less)))

pub entry_shorter : (library : LibraryModel) (components more : List Component) (words rest : Words)
    → component_entry library components words ≡ Some (more, rest) → length rest < length words
entry_shorter library components more words rest said = (entry_shortens library components words).left more rest said

pub components_below : (library : LibraryModel) (words : Words) → Below (length words) (components_at library words)
unfolding components_at
components_below library words = section_below (codes "COMPONENTS") (component_entry library) (entry_shortens library) [] words
