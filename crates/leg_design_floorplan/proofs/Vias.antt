-- Vias of a design: each entry takes a word, and its name is new.
use Rattle.std.proofs.Common.{◌≡◌, ◌<◌, List, [], ◌∷◌, ◌++◌, length, None, Some, codes, arith}
use Rattle.leg_lex.specs.Words.{Words}
use Rattle.leg_lex.specs.Statements.{clauses_of}
use Rattle.leg_lex.specs.NameLookup.{place_of}
use Rattle.leg_lex.proofs.Until.{Below, Shortens, below_some, below_bind, below_ask}
use Rattle.leg_lex.proofs.Statements.{statement_below}
use Rattle.leg_lib_records.specs.Records.{LibraryModel, ViaModel}
use Rattle.leg_design_records.specs.Records.{design_via_names}
use Rattle.leg_grammar.specs.declared.profile.Profile.{Profile}
use Rattle.leg_grammar.specs.Def.Via.{via_in, via_entry, vias_at}
use Rattle.leg_design_floorplan.proofs.ReadVias.{via_in_gives}
use Rattle.leg_design_common.proofs.Sections.{section_below}

-- a via that is read has a new name
pub name_is_fresh : (profile : Profile) (library : LibraryModel) (vias : List ViaModel) (parts : List Words) (via : ViaModel)
    → via_in profile library vias parts ≡ Some via → place_of via.name (design_via_names vias) ≡ None
name_is_fresh profile library vias parts via is = ((via_in_gives profile library vias parts).given via is).1

pub entry_shortens : (profile : Profile) (library : LibraryModel) → Shortens (via_entry profile library)
unfolding via_entry
entry_shortens profile library vias words =
    below_bind (omega arith) (statement_below words) (λ statement less.
    below_ask (via_in profile library vias (clauses_of statement.0)) (λ via. below_some (vias ++ via ∷ []) statement.1 less))

pub entry_shorter : (profile : Profile) (library : LibraryModel) (vias more : List ViaModel) (words rest : Words)
    → via_entry profile library vias words ≡ Some (more, rest) → length rest < length words
entry_shorter profile library vias more words rest said = (entry_shortens profile library vias words).left more rest said

pub vias_below : (profile : Profile) (library : LibraryModel) (words : Words) → Below (length words) (vias_at profile library words)
unfolding vias_at
vias_below profile library words = section_below (codes "VIAS") (via_entry profile library) (entry_shortens profile library) [] words
