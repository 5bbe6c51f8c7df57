-- Macros (LEF/DEF 5.8, "Macro"; that a macro has one site is lefdef's own rule).
use Rattle.std.specs.Prelude.{ℕ, pos, Bool, false, if◌then◌else◌, List, [], ◌∷◌, ◌++◌, map, Option, None, Some, is_none, codes}
use Rattle.std.specs.List.{list_any, list_all}
use Rattle.leg_lex.specs.Words.{Words, ◌>>=◌, is_keyword, is_word, is_at, keyword_at, name_at, word_at, end_at, end_of, nothing_at}
use Rattle.leg_lex.specs.Until.{until}
use Rattle.leg_lex.specs.Past.{past}
use Rattle.leg_lex.specs.Statements.{statement_at, only, the, at_end}
use Rattle.leg_lex.specs.NameLookup.{place_of}
use Rattle.leg_geom.specs.Plane.{PointModel}
use Rattle.leg_grammar.specs.declared.macro_statements.MacroStatements.{MacroStatements}
use Rattle.leg_lib_records.specs.declared.raw.RawShape.{RawShape}
use Rattle.leg_lib_records.specs.Records.{RawLibraryModel, RawPinModel, RawMasterModel, raw_site_names, raw_master_names}
use Rattle.leg_grammar.specs.declared.profile.Profile.{Profile}
use Rattle.leg_grammar.specs.Lef.Point.{point_at, size_in}
use Rattle.leg_grammar.specs.Lef.Geometry.{geometry_at}
use Rattle.leg_grammar.specs.Lef.Pin.{pin_at}

-- what came before in a macro: its pins, the shapes of its obstructions, and its statements
pub record MacroParts : Type 0 where
  pub pins : List RawPinModel
  pub obstructions : List RawShape
  pub statements : List Words

abbrev pub no_macro_parts : MacroParts
no_macro_parts = record { pins = []; obstructions = []; statements = [] }

-- a pin's name is new in its macro
unfoldable pub macro_pin : Profile → RawLibraryModel → MacroParts → Words → Option (MacroParts × Words)
macro_pin profile library parts words = do
  pin ← pin_at profile library words
  if is_none (place_of pin.0.name (map (λ p. p.name) parts.pins))
      then Some (record parts { pins = parts.pins ++ pin.0 ∷ [] }, pin.1) else None

-- OBS shapes END
unfoldable pub macro_obstruction : Profile → RawLibraryModel → MacroParts → Words → Option (MacroParts × Words)
macro_obstruction profile library parts words = do
  start ← keyword_at (codes "OBS") words
  shapes ← geometry_at profile library start.1
  end ← keyword_at (codes "END") shapes.1
  Some (record parts { obstructions = parts.obstructions ++ shapes.0 }, end.1)

-- DENSITY .. END is read past up to the first END
unfoldable pub macro_density : MacroParts → Words → Option (MacroParts × Words)
macro_density parts words = do
  start ← keyword_at (codes "DENSITY") words
  end ← past (keyword_at (codes "END")) start.1
  Some (parts, end.1)

-- TIMING .. END TIMING is read past
unfoldable pub macro_timing : MacroParts → Words → Option (MacroParts × Words)
macro_timing parts words = do
  start ← keyword_at (codes "TIMING") words
  end ← past (end_at (codes "TIMING")) start.1
  Some (parts, end.1)

unfoldable pub macro_statement : MacroParts → Words → Option (MacroParts × Words)
macro_statement parts words = do
  statement ← statement_at words
  Some (record parts { statements = parts.statements ++ statement.0 ∷ [] }, statement.1)

-- one more part of a macro
unfoldable pub macro_part : Profile → RawLibraryModel → MacroParts → Words → Option (MacroParts × Words)
macro_part profile library parts words =
    if is_at (codes "PIN") words then macro_pin profile library parts words
    else (if is_at (codes "OBS") words then macro_obstruction profile library parts words
    else (if is_at (codes "DENSITY") words then macro_density parts words
    else (if is_at (codes "TIMING") words then macro_timing parts words
    else macro_statement parts words)))

-- ORIGIN point; 0 0 where it isn't written
unfoldable pub origin_in : Words → Option PointModel
origin_in statement = do
  start ← keyword_at (codes "ORIGIN") statement
  point ← point_at start.1
  end ← nothing_at point.1
  Some point.0

abbrev pub origin_of_any : Option Words → Option PointModel
origin_of_any None = Some (record { x = pos 0; y = pos 0 })
origin_of_any (Some statement) = origin_in statement

-- SYMMETRY words, one at least: whether Y is among them
unfoldable pub symmetry_in : Words → Option Bool
symmetry_in statement = do
  start ← keyword_at (codes "SYMMETRY") statement
  first ← word_at start.1
  if list_all is_word first.1 then Some (list_any (is_keyword (codes "Y")) start.1) else None

abbrev pub symmetry_of_any : Option Words → Option Bool
symmetry_of_any None = Some false
symmetry_of_any (Some statement) = symmetry_in statement

-- SITE NAME: the number of a site that was defined before
unfoldable pub site_in : RawLibraryModel → Words → Option ℕ
site_in library statement = do
  start ← keyword_at (codes "SITE") statement
  name ← name_at start.1
  number ← place_of name.0 (raw_site_names library)
  end ← nothing_at name.1
  Some number

abbrev pub site_of_any : RawLibraryModel → Option Words → Option (Option ℕ)
site_of_any library None = Some None
site_of_any library (Some statement) = site_in library statement >>= λ k. Some (Some k)

-- what statements of a macro give: the one SIZE, at most one ORIGIN, SYMMETRY and SITE; the rest is read past
unfoldable pub macro_said : RawLibraryModel → List Words → Option MacroStatements
macro_said library statements = do
  of_size ← the (codes "SIZE") statements
  size ← size_in of_size
  of_origin ← only (codes "ORIGIN") statements
  origin ← origin_of_any of_origin
  of_symmetry ← only (codes "SYMMETRY") statements
  y_symmetric ← symmetry_of_any of_symmetry
  of_site ← only (codes "SITE") statements
  site ← site_of_any library of_site
  Some (record { size = size; origin = origin; y_symmetric = y_symmetric; site = site })

-- MACRO NAME parts END NAME
unfoldable pub macro_at : Profile → RawLibraryModel → Words → Option (RawMasterModel × Words)
macro_at profile library words = do
  start ← keyword_at (codes "MACRO") words
  name ← name_at start.1
  parts ← until at_end (macro_part profile library) no_macro_parts name.1
  said ← macro_said library parts.0.statements
  end ← end_of name.0 parts.1
  Some (
    record {
      name = name.0;
      size = said.size;
      origin = said.origin;
      y_symmetric = said.y_symmetric;
      site = said.site;
      pins = parts.0.pins;
      obstructions = parts.0.obstructions;
    },
    end.1,
  )

-- a macro's name is new
unfoldable pub with_master : Profile → RawLibraryModel → Words → Option (RawLibraryModel × Words)
with_master profile library words = do
  master ← macro_at profile library words
  if is_none (place_of master.0.name (raw_master_names library))
      then Some (record library { masters = library.masters ++ master.0 ∷ [] }, master.1) else None
