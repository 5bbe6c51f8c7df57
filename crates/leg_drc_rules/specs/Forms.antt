-- The statements that state rules, each with exactly these words and any word in the place of LEN (LEF/DEF 5.8,
-- "Layer (Cut)", "Layer (Routing)"). A statement that begins so and has more or other words is of no form.
use Rattle.std.specs.Prelude.{ℕ, Bool, ◌||◌, List, Option, is_some, codes}
use Rattle.std.specs.List.{find}
use Rattle.leg_lex.specs.Words.{Words, ◌>>=◌, next_at, keyword_at, nothing_at}
use Rattle.leg_drc_rules.specs.declared.form.Form.{Form}
use Rattle.leg_drc_rules.specs.declared.form.Form.TheVariants.{Area, Width, NetSpacing, CutNetSpacing, Table, LineEnd}
use Rattle.leg_drc_rules.specs.Table.{table_form}

-- a keyword and LEN
unfoldable pub one_number_form : List ℕ → Words → Option (Unit {0})
one_number_form keyword statement = do
  start ← keyword_at keyword statement
  number ← next_at start.1
  nothing_at number.1

-- SPACING LEN SAMENET
unfoldable pub same_net_form : Words → Option (Unit {0})
same_net_form statement = do
  start ← keyword_at (codes "SPACING") statement
  spacing ← next_at start.1
  net ← keyword_at (codes "SAMENET") spacing.1
  nothing_at net.1

-- SPACING LEN SAMENET PGONLY
unfoldable pub supply_net_form : Words → Option (Unit {0})
supply_net_form statement = do
  start ← keyword_at (codes "SPACING") statement
  spacing ← next_at start.1
  net ← keyword_at (codes "SAMENET") spacing.1
  supply ← keyword_at (codes "PGONLY") net.1
  nothing_at supply.1

-- SPACING LEN ENDOFLINE LEN WITHIN LEN
unfoldable pub line_end_form : Words → Option (Unit {0})
line_end_form statement = do
  start ← keyword_at (codes "SPACING") statement
  spacing ← next_at start.1
  line_end ← keyword_at (codes "ENDOFLINE") spacing.1
  width ← next_at line_end.1
  near ← keyword_at (codes "WITHIN") width.1
  within ← next_at near.1
  nothing_at within.1

-- which statements are of a form
abbrev pub is_form : Form → Words → Bool
is_form Area statement = is_some (one_number_form (codes "AREA") statement)
is_form Width statement = is_some (one_number_form (codes "MINWIDTH") statement)
is_form NetSpacing statement = is_some (same_net_form statement) || is_some (supply_net_form statement)
is_form CutNetSpacing statement = is_some (same_net_form statement)
is_form Table statement = is_some (table_form statement)
is_form LineEnd statement = is_some (line_end_form statement)

-- the first statement of exactly a form
abbrev pub first_of : Form → List Words → Option Words
first_of form statements = find (is_form form) statements
