-- Vias that are read have names of their own, and rectangles on layers with metal.
use Rattle.std.proofs.Common.{◌≡◌, ℕ, true, ◌||◌, List, [], ◌∷◌, ◌++◌, None, is_some, codes, refl, arith}
use Rattle.std.proofs.lemmas.Bool.{or_parts}
use Rattle.std.proofs.lemmas.List.{map_push}
use Rattle.std.proofs.lemmas.List.Elements.{All-push, All-nil}
use Rattle.leg_lemmas.proofs.Options.{none_is}
use Rattle.leg_lex.specs.Until.{over}
use Rattle.leg_lex.specs.Words.{Words, is_at, keyword_at, mark_at, nothing_at, is_name}
use Rattle.leg_lex.specs.Statements.{statement_at, clauses_of}
use Rattle.leg_lex.specs.NameLookup.{place_of}
use Rattle.leg_lex.proofs.NameLookup.{apart_push}
use Rattle.leg_lex.proofs.GivesAll.{over_gives}
use Rattle.leg_lib_records.specs.declared.records.Shape.{Shape}
use Rattle.leg_lib_records.specs.Records.{LibraryModel, ViaModel, via_names}
use Rattle.leg_grammar.specs.Def.Guard.{when}
use Rattle.leg_grammar.specs.Def.Clause.{is_clause}
use Rattle.leg_grammar.specs.Def.Layers.{layer_named_at}
use Rattle.leg_grammar.specs.Def.GeneratedVia.{is_generated}
use Rattle.leg_grammar.specs.Def.Via.{via_rect, is_other_via, via_clause, via_head, shapes_in, via_in, via_entry, vias_at}
use Rattle.leg_grammar.specs.declared.profile.Profile.{Profile}
use Rattle.leg_grammar.specs.declared.profile.Profile.TheVariants.{Narrow, Wide}
use Rattle.leg_design_records.specs.Records.{design_via_names}
use Rattle.leg_design_records.specs.WellFormedParts.{IsMetalShape, IsDesignVia, AreVias}
use Rattle.leg_design_common.proofs.Gives.{Gives, gives_none, gives_some, gives_bind, gives_skip, gives_if, unless_gives, name_gives, section_gives}
use Rattle.leg_design_common.proofs.ReadPlacement.{rect_gives}
use Rattle.leg_design_floorplan.proofs.MetalShapes.{AreMetal, with_rect_metal}
use Rattle.leg_design_floorplan.proofs.ReadGeneratedVias.{generated_gives}

module _ (library : LibraryModel) where
  via_rect_gives : (shapes : List Shape) (clause : Words) → AreMetal library shapes → Gives (AreMetal library) (via_rect library shapes clause)
  unfolding via_rect
  via_rect_gives shapes clause each =
      gives_skip (keyword_at (codes "RECT") clause) (λ start.
      gives_skip (layer_named_at library start.1) (λ layer.
      gives_bind (rect_gives layer.1) (λ rect area.
      gives_skip (nothing_at rect.1) (λ end.
      gives_some _ (with_rect_metal library layer.0 rect.0 shapes area each)))))

  via_clause_gives : (shapes : List Shape) (clause : Words) → AreMetal library shapes → Gives (AreMetal library) (via_clause library shapes clause)
  unfolding via_clause
  via_clause_gives shapes clause each =
      gives_if (is_at (codes "RECT") clause) (via_rect_gives shapes clause each)
      (gives_if (is_other_via clause) gives_none
      (gives_skip (when (is_clause clause)) (λ _. gives_some shapes each)))

  -- a new name: no via of the library has it, and none of these
  record IsNewVia (vias : List ViaModel) (name : List ℕ) : Type 0 where
    named : is_name name ≡ true
    new : place_of name (via_names library) ≡ None
    here : place_of name (design_via_names vias) ≡ None

  via_head_gives : (vias : List ViaModel) (head : Words) → Gives (IsNewVia vias) (via_head library vias head)
  unfolding via_head
  via_head_gives vias head =
      gives_skip (mark_at 45 head) (λ dash.
      gives_bind (name_gives dash.1) (λ name named.
      gives_bind (unless_gives (is_some (place_of name.0 (via_names library)) || is_some (place_of name.0 (design_via_names vias)))) (λ new is.
      gives_skip (nothing_at name.1) (λ end.
      let parts = or_parts (is_some (place_of name.0 (via_names library))) (is_some (place_of name.0 (design_via_names vias))) is in
      gives_some name.0 (record {
        named = named;
        new = none_is (place_of name.0 (via_names library)) parts.0;
        here = none_is (place_of name.0 (design_via_names vias)) parts.1;
      })))))

  drawn_give : (clauses : List Words) → Gives (AreMetal library) (over (via_clause library) [] clauses)
  drawn_give clauses = over_gives (AreMetal library) (via_clause library) via_clause_gives [] clauses (All-nil (IsMetalShape library))

  shapes_give : (profile : Profile) (vias : List ViaModel) (clauses : List Words) → Gives (AreMetal library) (shapes_in profile library vias clauses)
  unfolding shapes_in
  shapes_give Narrow vias clauses = drawn_give clauses
  shapes_give (Wide masks soft) vias clauses = gives_if (is_generated clauses) (generated_gives library vias clauses) (drawn_give clauses)

  pub with_via : (vias : List ViaModel) (via : ViaModel) → AreVias library vias → IsDesignVia library via → place_of via.name (design_via_names vias) ≡ None
      → AreVias library (vias ++ via ∷ [])
  with_via vias via before holds new = record {
    each = All-push (IsDesignVia library) vias via before.each holds;
    apart = rw (map_push (λ (v : ViaModel). v.name) vias via) (apart_push via.name (design_via_names vias) new before.apart);
  }

  pub no_vias : AreVias library []
  no_vias = record { each = All-nil (IsDesignVia library); apart = λ i less. absurd (omega arith) }

module _ (profile : Profile) (library : LibraryModel) where
  pub via_in_gives : (vias : List ViaModel) (parts : List Words)
      → Gives (λ via. IsDesignVia library via × (place_of via.name (design_via_names vias) ≡ None)) (via_in profile library vias parts)
  unfolding via_in
  via_in_gives vias [] = gives_none
  via_in_gives vias (head ∷ clauses) =
      gives_bind (via_head_gives library vias head) (λ name new.
      gives_bind (shapes_give library profile vias clauses) (λ shapes each.
      gives_some _ (record { name = new.named; new = new.new; default_via = refl; good = refl; shapes = each }, new.here)))

  via_entry_gives : (vias : List ViaModel) (words : Words) → AreVias library vias
      → Gives (λ said. AreVias library said.0) (via_entry profile library vias words)
  unfolding via_entry
  via_entry_gives vias words before =
      gives_skip (statement_at words) (λ statement.
      gives_bind (via_in_gives vias (clauses_of statement.0)) (λ via holds.
      gives_some _ (with_via library vias via before holds.0 holds.1)))

  pub vias_give : (words : Words) → Gives (λ said. AreVias library said.0) (vias_at profile library words)
  unfolding vias_at
  vias_give words = section_gives (AreVias library) (codes "VIAS") (via_entry profile library) via_entry_gives [] words (no_vias library)
