-- Vias of a DEF (LEF/DEF 5.8, "Vias"; which of them are good, and what is left out, are lefdef's own rules).
use Rattle.std.specs.Prelude.{ℕ, Bool, false, ◌||◌, if◌then◌else◌, List, [], ◌∷◌, ◌++◌, Option, None, Some, is_some, codes}
use Rattle.leg_lex.specs.Words.{Words, ◌>>=◌, is_at, keyword_at, mark_at, name_at, nothing_at}
use Rattle.leg_lex.specs.Until.{over}
use Rattle.leg_lex.specs.Statements.{statement_at, clauses_of}
use Rattle.leg_lex.specs.NameLookup.{place_of}
use Rattle.leg_lib_records.specs.declared.records.Shape.{Shape}
use Rattle.leg_lib_records.specs.Records.{LibraryModel, ViaModel, via_names}
use Rattle.leg_lib_records.specs.GoodVia.{is_good_via}
use Rattle.leg_grammar.specs.Def.Guard.{when, unless}
use Rattle.leg_grammar.specs.Def.Placement.{rect_at}
use Rattle.leg_grammar.specs.Def.Clause.{is_clause}
use Rattle.leg_grammar.specs.Def.Layers.{layer_named_at, with_rect}
use Rattle.leg_grammar.specs.Def.Section.{section_at}
use Rattle.leg_grammar.specs.Def.GeneratedVia.{is_generated}
use Rattle.leg_grammar.specs.Def.CutArray.{generated_shapes}
use Rattle.leg_grammar.specs.declared.profile.Profile.{Profile}
use Rattle.leg_grammar.specs.declared.profile.Profile.TheVariants.{Narrow, Wide}
use Rattle.leg_design_records.specs.Records.{design_via_names}

-- RECT NAME corners
unfoldable pub via_rect : LibraryModel → List Shape → Words → Option (List Shape)
via_rect library shapes clause = do
  start ← keyword_at (codes "RECT") clause
  layer ← layer_named_at library start.1
  rect ← rect_at layer.1
  end ← nothing_at rect.1
  Some (with_rect library layer.0 rect.0 shapes)

-- clauses that define a via in other ways than by rectangles, or give the mask on which they lie
abbrev pub is_other_via : Words → Bool
is_other_via clause =
    is_at (codes "VIARULE") clause || is_at (codes "POLYGON") clause || is_at (codes "PATTERNNAME") clause
    || is_at (codes "MASK") clause

-- one more clause
unfoldable pub via_clause : LibraryModel → List Shape → Words → Option (List Shape)
via_clause library shapes clause =
    if is_at (codes "RECT") clause then via_rect library shapes clause
    else (if is_other_via clause then None
    else (when (is_clause clause) >>= λ _. Some shapes))

-- - NAME, a name that no via of the library and none before has (45 is the dash)
unfoldable pub via_head : LibraryModel → List ViaModel → Words → Option (List ℕ)
via_head library vias head = do
  dash ← mark_at 45 head
  name ← name_at dash.1
  new ← unless (is_some (place_of name.0 (via_names library)) || is_some (place_of name.0 (design_via_names vias)))
  end ← nothing_at name.1
  Some name.0

-- the shapes that the clauses say, where these vias came before: the wide profile takes generated vias too
unfoldable pub shapes_in : Profile → LibraryModel → List ViaModel → List Words → Option (List Shape)
shapes_in Narrow library vias clauses = over (via_clause library) [] clauses
shapes_in (Wide masks soft) library vias clauses =
    if is_generated clauses then generated_shapes library vias clauses else over (via_clause library) [] clauses

-- the entry's head and its clauses, where these vias came before
unfoldable pub via_in : Profile → LibraryModel → List ViaModel → List Words → Option ViaModel
via_in profile library vias [] = None
via_in profile library vias (head ∷ clauses) = do
  name ← via_head library vias head
  shapes ← shapes_in profile library vias clauses
  Some (record { name = name; default_via = false; good = is_good_via library name shapes; shapes = shapes })

-- one more entry
unfoldable pub via_entry : Profile → LibraryModel → List ViaModel → Words → Option (List ViaModel × Words)
via_entry profile library vias words = do
  statement ← statement_at words
  via ← via_in profile library vias (clauses_of statement.0)
  Some (vias ++ via ∷ [], statement.1)

-- VIAS number ; entries END VIAS
unfoldable pub vias_at : Profile → LibraryModel → Words → Option (List ViaModel × Words)
vias_at profile library words = section_at (codes "VIAS") (via_entry profile library) [] words
