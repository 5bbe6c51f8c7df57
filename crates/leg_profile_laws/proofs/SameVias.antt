-- What entries of VIAS say in the narrow profile they say in each: it has no clause VIARULE.
use Rattle.std.proofs.Common.{◌≡◌, Bool, true, false, List, [], ◌∷◌, ◌++◌, map, Option, None, Some, codes, refl}
use Rattle.std.specs.Char.{to_ascii_lowercase}
use Rattle.leg_lex.specs.Words.{Words, is_at}
use Rattle.leg_lex.specs.Until.{over}
use Rattle.leg_lex.specs.Statements.{statement_at, clauses_of}
use Rattle.leg_lex.proofs.NameLookup.{same_name}
use Rattle.leg_lib_records.specs.declared.records.Shape.{Shape}
use Rattle.leg_lib_records.specs.Records.{LibraryModel, ViaModel}
use Rattle.leg_lib_records.specs.GoodVia.{is_good_via}
use Rattle.leg_grammar.specs.declared.profile.Profile.{Profile}
use Rattle.leg_grammar.specs.declared.profile.Profile.TheVariants.{Narrow, Wide}
use Rattle.leg_grammar.specs.Def.GeneratedVia.{is_generated}
use Rattle.leg_grammar.specs.Def.Via.{via_clause, via_head, shapes_in, via_in, via_entry, vias_at}
use Rattle.leg_profile_laws.proofs.Keeps.{Keeps, keeps_none, keeps_itself, keeps_bind, keeps_new}
use Rattle.leg_profile_laws.proofs.Sections.{section_keeps}

-- A clause VIARULE is refused,
no_rule : (library : LibraryModel) (made : List Shape) (clause : Words) → is_at (codes "VIARULE") clause ≡ true → via_clause library made clause ≡ None
unfolding via_clause
no_rule library made [] there = absurd (let e : ⊥ = cc in e)
no_rule library made (word ∷ words) there =
    let same : map to_ascii_lowercase word ≡ map to_ascii_lowercase (codes "VIARULE") =
    same_name (map to_ascii_lowercase word) (map to_ascii_lowercase (codes "VIARULE")) there in
    rw same refl

-- and so are clauses of which one is VIARULE.
none_of_rule : (library : LibraryModel) (made : List Shape) (clauses : List Words) → is_generated clauses ≡ true
    → over (via_clause library) made clauses ≡ None
unfolding over
none_of_rule library made [] there = absurd (let e : ⊥ = cc in e)
none_of_rule library made (clause ∷ clauses) there =
    by (λ next. none_of_rule library next clauses) (is_at (codes "VIARULE") clause) refl (via_clause library made clause) refl where
      by : ((next : List Shape) → is_generated clauses ≡ true → over (via_clause library) next clauses ≡ None) → (here : Bool)
          → is_at (codes "VIARULE") clause ≡ here → (said : Option (List Shape)) → via_clause library made clause ≡ said
          → over (via_clause library) made (clause ∷ clauses) ≡ None
      by later true here said is = rw (no_rule library made clause here) refl
      by later false here None is = rw is refl
      by later false here (Some next) is = rw (is, later next (rw here at there)) refl

shapes_same : (profile : Profile) (library : LibraryModel) (vias : List ViaModel) (clauses : List Words)
    → Keeps (shapes_in Narrow library vias clauses) (shapes_in profile library vias clauses)
unfolding shapes_in
shapes_same Narrow library vias clauses = keeps_itself (over (via_clause library) [] clauses)
shapes_same (Wide masks soft) library vias clauses =
    keeps_new (is_generated clauses) _ (none_of_rule library [] clauses) (keeps_itself (over (via_clause library) [] clauses))

module _ (profile : Profile) (library : LibraryModel) where
  via_same : (vias : List ViaModel) (clauses : List Words) → Keeps (via_in Narrow library vias clauses) (via_in profile library vias clauses)
  unfolding via_in
  via_same vias [] = keeps_none None
  via_same vias (head ∷ clauses) =
      keeps_bind (keeps_itself (via_head library vias head)) (λ name.
      keeps_bind (shapes_same profile library vias clauses) (λ shapes.
      keeps_itself (Some (record { name = name; default_via = false; good = is_good_via library name shapes; shapes = shapes }))))

  entry_same : (vias : List ViaModel) (words : Words) → Keeps (via_entry Narrow library vias words) (via_entry profile library vias words)
  unfolding via_entry
  entry_same vias words =
      keeps_bind (keeps_itself (statement_at words)) (λ statement.
      keeps_bind (via_same vias (clauses_of statement.0)) (λ via.
      keeps_itself (Some (vias ++ via ∷ [], statement.1))))

  -- What the section says in the narrow profile.
  pub vias_keep : (words : Words) → Keeps (vias_at Narrow library words) (vias_at profile library words)
  unfolding vias_at
  vias_keep words = section_keeps (codes "VIAS") (via_entry Narrow library) (via_entry profile library) entry_same [] words
