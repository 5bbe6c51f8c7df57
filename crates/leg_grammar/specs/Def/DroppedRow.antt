-- Rows that the wide profile drops, where no component's macro has their site: those that are turned, or have more than one line of sites
-- (LEF/DEF 5.8, "Rows"; that they are dropped is lefdef's own rule).
use Rattle.std.specs.Prelude.{ℕ, ℤ, pos, Bool, false, ◌&&◌, ◌==◌, int_le, if◌then◌else◌, List, [], ◌∷◌, ◌++◌, Option, None, Some, codes, slice_get}
use Rattle.std.specs.Ordering.{int_eq}
use Rattle.std.specs.List.{list_any}
use Rattle.leg_lex.specs.Words.{Words, ◌>>=◌, keyword_at, name_at, whole_at, nothing_at}
use Rattle.leg_lex.specs.Statements.{statement_at, clauses_of}
use Rattle.leg_lib_records.specs.Records.{LibraryModel, MasterModel}
use Rattle.leg_grammar.specs.Def.Guard.{when, unless}
use Rattle.leg_grammar.specs.Def.Placement.{orient_at}
use Rattle.leg_grammar.specs.Def.Row.{site_named_at, head_of}
use Rattle.leg_design_records.specs.declared.records.Component.{Component}
use Rattle.leg_design_records.specs.Rows.{is_upright}

-- STEP sx sy, if it is written
unfoldable pub any_step_in : Words → Option (Unit {0})
any_step_in [] = Some tt
any_step_in (word ∷ words) = do
  start ← keyword_at (codes "STEP") (word ∷ words)
  x ← whole_at start.1
  y ← whole_at x.1
  nothing_at y.1

-- DO nx BY ny step, if it is written: how many lines of sites there are, one at least
unfoldable pub lines_in : Words → Option ℤ
lines_in [] = Some (pos 1)
lines_in (word ∷ words) = do
  start ← keyword_at (codes "DO") (word ∷ words)
  count ← whole_at start.1
  by ← keyword_at (codes "BY") count.1
  lines ← whole_at by.1
  some ← when (int_le (pos 1) count.0)
  more ← when (int_le (pos 1) lines.0)
  step ← any_step_in lines.1
  Some lines.0

-- ROW NAME site x y orientation lines, turned or of more than one line: the number of its site
unfoldable pub dropped_site_in : LibraryModel → Words → Option ℕ
dropped_site_in library head = do
  start ← keyword_at (codes "ROW") head
  name ← name_at start.1
  site ← site_named_at library name.1
  x ← whole_at site.1
  y ← whole_at x.1
  orient ← orient_at y.1
  lines ← lines_in orient.1
  other ← unless (is_upright orient.0 && int_eq lines (pos 1))
  Some site.0.0

-- ROW .. [+ ..] ;
unfoldable pub dropped_row_at : LibraryModel → Words → Option (ℕ × Words)
dropped_row_at library words = do
  statement ← statement_at words
  site ← dropped_site_in library (head_of (clauses_of statement.0))
  Some (site, statement.1)

-- sites of dropped rows, each once
abbrev pub with_site : ℕ → List ℕ → List ℕ
with_site site sites = if list_any (λ s. s == site) sites then sites else sites ++ site ∷ []

abbrev pub is_site : ℕ → Option ℕ → Bool
is_site site None = false
is_site site (Some s) = s == site

abbrev pub is_of_site : ℕ → Option MasterModel → Bool
is_of_site site None = false
is_of_site site (Some master) = is_site site master.site

-- the macro of one of the components has this site
abbrev pub have_site : LibraryModel → List Component → ℕ → Bool
have_site library components site = list_any (λ component. is_of_site site (slice_get library.masters component.master)) components
