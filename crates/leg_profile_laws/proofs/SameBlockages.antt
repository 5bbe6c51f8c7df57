-- What entries of BLOCKAGES say in the narrow profile they say in each: it has no clause but PUSHDOWN, and no polygons.
use Rattle.std.proofs.Common.{◌≡◌, ℕ, suc, Bool, true, false, ◌&&◌, if◌then◌else◌, List, [], ◌∷◌, ◌++◌, length, map, Option, None, Some, codes, refl}
use Rattle.std.specs.Char.{to_ascii_lowercase}
use Rattle.leg_lex.specs.Words.{Words, ◌>>=◌, is_at, is_keyword, keyword_at, mark_at, next_at}
use Rattle.leg_lex.proofs.NameLookup.{same_name}
use Rattle.leg_geom.specs.Plane.{RectModel}
use Rattle.leg_lib_records.specs.Records.{LibraryModel}
use Rattle.leg_design_records.specs.Records.{BlockageModel}
use Rattle.leg_grammar.specs.declared.profile.Profile.{Profile}
use Rattle.leg_grammar.specs.declared.profile.Profile.TheVariants.{Narrow, Wide}
use Rattle.leg_grammar.specs.declared.profile.Masks.TheVariants.{Refused, Dropped}
use Rattle.leg_grammar.specs.Def.Guard.{when}
use Rattle.leg_grammar.specs.Def.BlockageClause.{origin_clause, layer_clause, placement_clause, clause_in, blockage_clause}
use Rattle.leg_grammar.specs.Def.Blockage.{blocked_layer_at, at_no_plus, one_rect, one_area, at_semicolon, rects_at, blockage_at, is_kept, is_room_for, blockage_entry, blockages_at}
use Rattle.leg_profile_laws.proofs.Keeps.{Keeps, keeps_none, keeps_itself, keeps_bind, steps_keep}
use Rattle.leg_profile_laws.proofs.Sections.{section_keeps}

-- PUSHDOWN is none of the other clauses.
pushed_down : (profile : Profile) (layer : Option ℕ) (made : Bool) (word : List ℕ) (words : Words) → is_keyword (codes "PUSHDOWN") word ≡ true
    → clause_in profile layer made (word ∷ words) ≡ Some (made, words)
unfolding clause_in placement_clause layer_clause origin_clause keyword_at next_at
pushed_down profile layer made word words there = by profile layer where
  same : map to_ascii_lowercase word ≡ map to_ascii_lowercase (codes "PUSHDOWN")
  same = same_name (map to_ascii_lowercase word) (map to_ascii_lowercase (codes "PUSHDOWN")) there

  by : (profile : Profile) (layer : Option ℕ) → clause_in profile layer made (word ∷ words) ≡ Some (made, words)
  by Narrow layer = rw same refl
  by (Wide masks soft) None = rw same refl
  by (Wide Refused soft) (Some layer) = rw same refl
  by (Wide Dropped soft) (Some layer) = rw same refl

clause_same : (profile : Profile) (layer : Option ℕ) (made : Bool) (words : Words)
    → Keeps (clause_in Narrow layer made words) (clause_in profile layer made words)
unfolding clause_in keyword_at next_at
clause_same profile layer made [] = keeps_none (clause_in profile layer made [])
clause_same profile layer made (word ∷ words) = by (is_keyword (codes "PUSHDOWN") word) refl where
  by : (test : Bool) → is_keyword (codes "PUSHDOWN") word ≡ test
      → Keeps (clause_in Narrow layer made (word ∷ words)) (clause_in profile layer made (word ∷ words))
  by true there =
      rw (pushed_down Narrow layer made word words there, pushed_down profile layer made word words there) (keeps_itself (Some (made, words)))
  by false there = rw there (keeps_none (clause_in profile layer made (word ∷ words)))

-- POLYGON isn't RECT.
no_rect : (rects : List RectModel) (words : Words) → is_at (codes "POLYGON") words ≡ true → one_rect rects words ≡ None
unfolding one_rect keyword_at next_at
no_rect rects [] there = refl
no_rect rects (word ∷ words) there =
    let same : map to_ascii_lowercase word ≡ map to_ascii_lowercase (codes "POLYGON") =
    same_name (map to_ascii_lowercase word) (map to_ascii_lowercase (codes "POLYGON")) there in
    let other : is_keyword (codes "RECT") word ≡ false = rw same refl in
    rw other refl

area_same : (profile : Profile) (rects : List RectModel) (words : Words) → Keeps (one_area Narrow rects words) (one_area profile rects words)
unfolding one_area
area_same Narrow rects words = keeps_itself (one_rect rects words)
area_same (Wide masks soft) rects words = by (is_at (codes "POLYGON") words) refl where
  by : (test : Bool) → is_at (codes "POLYGON") words ≡ test → Keeps (one_area Narrow rects words) (one_area (Wide masks soft) rects words)
  by true there = rw (no_rect rects words there) (keeps_none _)
  by false there = rw there (keeps_itself (one_rect rects words))

rects_same : (profile : Profile) (words : Words) → Keeps (rects_at Narrow words) (rects_at profile words)
unfolding rects_at
rects_same profile words =
    keeps_bind (area_same profile [] words) (λ first.
    keeps_bind (steps_keep at_semicolon (one_area Narrow) (one_area profile) (area_same profile) (suc (length first.1)) first.0 first.1) (λ rects.
    keeps_bind (keeps_itself (mark_at 59 rects.1)) (λ end.
    keeps_itself (Some (rects.0, end.1)))))

module _ (profile : Profile) (library : LibraryModel) where
  plus_same : (layer : Option ℕ) (made : Bool) (words : Words) → Keeps (blockage_clause Narrow layer made words) (blockage_clause profile layer made words)
  unfolding blockage_clause
  plus_same layer made words = keeps_bind (keeps_itself (mark_at 43 words)) (λ plus. clause_same profile layer made plus.1)

  blockage_same : (words : Words) → Keeps (blockage_at Narrow library words) (blockage_at profile library words)
  unfolding blockage_at
  blockage_same words =
      keeps_bind (keeps_itself (mark_at 45 words)) (λ dash.
      keeps_bind (keeps_itself (blocked_layer_at library dash.1)) (λ layer.
      keeps_bind (steps_keep at_no_plus (blockage_clause Narrow layer.0) (blockage_clause profile layer.0) (plus_same layer.0) (suc (length layer.1)) true
      layer.1) (λ kept.
      keeps_bind (rects_same profile kept.1) (λ rects.
      keeps_itself (Some ((record { layer = layer.0; rects = rects.0 }, kept.0), rects.1))))))

  entry_same : (blockages : List BlockageModel) (words : Words)
      → Keeps (blockage_entry Narrow library blockages words) (blockage_entry profile library blockages words)
  unfolding blockage_entry
  entry_same blockages words =
      keeps_bind (blockage_same words) (λ said. keeps_itself (
      if said.0.1 && is_kept library said.0.0.layer then (when (is_room_for said.0.0 blockages) >>= λ room. Some (blockages ++ said.0.0 ∷ [], said.1))
      else Some (blockages, said.1)))

  -- What the section says in the narrow profile.
  pub blockages_keep : (words : Words) → Keeps (blockages_at Narrow library words) (blockages_at profile library words)
  unfolding blockages_at
  blockages_keep words = section_keeps (codes "BLOCKAGES") (blockage_entry Narrow library) (blockage_entry profile library) entry_same [] words
