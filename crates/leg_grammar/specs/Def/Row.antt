-- Rows (LEF/DEF 5.8, "Rows"; that a row has one line of abutting sites, not turned, is lefdef's own rule).
use Rattle.std.specs.Prelude.{ℕ, ℤ, pos, ◌||◌, int_le, ◌+ℤ◌, ◌*ℤ◌, List, [], ◌∷◌, Option, Some, codes, slice_get}
use Rattle.std.specs.Ordering.{int_eq}
use Rattle.leg_lex.specs.Words.{Words, ◌>>=◌, keyword_at, name_at, whole_at, nothing_at}
use Rattle.leg_lex.specs.Statements.{statement_at, clauses_of}
use Rattle.leg_lex.specs.NameLookup.{place_of}
use Rattle.leg_lib_records.specs.declared.records.Site.{Site}
use Rattle.leg_lib_records.specs.Records.{LibraryModel, site_names}
use Rattle.leg_grammar.specs.Def.Guard.{when, is_within}
use Rattle.leg_grammar.specs.Def.Placement.{orient_at}
use Rattle.leg_design_records.specs.declared.records.Row.{Row}
use Rattle.leg_design_records.specs.Rows.{is_upright}

-- a site of the library: its number, and the site
unfoldable pub site_named_at : LibraryModel → Words → Option ((ℕ × Site) × Words)
site_named_at library words = do
  name ← name_at words
  number ← place_of name.0 (site_names library)
  site ← slice_get library.sites number
  Some ((number, site), name.1)

-- STEP sx sy, if it is written: the step in x is the width of the site, but for a row of one site
unfoldable pub step_in : ℤ → ℤ → Words → Option (Unit {0})
step_in width count [] = Some tt
step_in width count (word ∷ words) = do
  start ← keyword_at (codes "STEP") (word ∷ words)
  x ← whole_at start.1
  y ← whole_at x.1
  end ← nothing_at y.1
  when (int_eq count (pos 1) || int_eq x.0 width)

-- DO nx BY 1, if it is written: how many sites there are, one at least
unfoldable pub sites_in : ℤ → Words → Option ℤ
sites_in width [] = Some (pos 1)
sites_in width (word ∷ words) = do
  start ← keyword_at (codes "DO") (word ∷ words)
  count ← whole_at start.1
  by ← keyword_at (codes "BY") count.1
  lines ← whole_at by.1
  some ← when (int_le (pos 1) count.0)
  one ← when (int_eq lines.0 (pos 1))
  step ← step_in width count.0 lines.1
  Some count.0

-- ROW NAME site x y orientation sites: its right end too is within the limit of numbers
unfoldable pub row_in : LibraryModel → Words → Option Row
row_in library head = do
  start ← keyword_at (codes "ROW") head
  name ← name_at start.1
  site ← site_named_at library name.1
  x ← whole_at site.1
  y ← whole_at x.1
  orient ← orient_at y.1
  upright ← when (is_upright orient.0)
  count ← sites_in site.0.1.size.width orient.1
  end ← when (is_within (x.0 +ℤ count *ℤ site.0.1.size.width))
  Some (record { name = name.0; site = site.0.0; at = record { x = x.0; y = y.0 }; orient = orient.0; count = count })

-- what comes after a `+` is read past
abbrev pub head_of : List Words → Words
head_of [] = []
head_of (head ∷ clauses) = head

-- ROW .. [+ ..] ;
unfoldable pub row_at : LibraryModel → Words → Option (Row × Words)
row_at library words = do
  statement ← statement_at words
  row ← row_in library (head_of (clauses_of statement.0))
  Some (row, statement.1)
