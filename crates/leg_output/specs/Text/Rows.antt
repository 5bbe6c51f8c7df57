-- The line of a row (LEF/DEF 5.8, "Rows"; that the step is always written is lefdef's own rule).
use Rattle.std.specs.Prelude.{ℕ, ℤ, pos, [], ◌∷◌, ◌++◌, Option, None, Some, codes, slice_get}
use Rattle.std.specs.Fmt.{signed_decimal}
use Rattle.leg_lex.specs.Words.{Words}
use Rattle.leg_lib_records.specs.declared.records.Site.{Site}
use Rattle.leg_design_records.specs.declared.records.Row.{Row}
use Rattle.leg_design_records.specs.Records.{DesignModel}
use Rattle.leg_output.specs.Names.{site_name}
use Rattle.leg_output.specs.Text.Points.{orient_word}

-- how wide a site is, if there is one
abbrev pub width_if_any : Option Site → ℤ
width_if_any None = pos 0
width_if_any (Some site) = site.size.width

abbrev pub width_of_site : DesignModel → ℕ → ℤ
width_of_site design site = width_if_any (slice_get design.library.sites site)

-- ROW name site x y orientation DO count BY 1 STEP width 0, the width being that of the site
abbrev pub row_said : DesignModel → Row → Words
row_said design row =
    codes "ROW" ∷ row.name ∷ site_name design row.site ∷ signed_decimal row.at.x ∷ signed_decimal row.at.y
    ∷ orient_word row.orient ∷ codes "DO" ∷ signed_decimal row.count ∷ codes "BY" ∷ codes "1"
    ∷ codes "STEP" ∷ signed_decimal (width_of_site design row.site) ∷ codes "0" ∷ []

-- the same with its semicolon
abbrev pub row_words : DesignModel → Row → Words
row_words design row = row_said design row ++ codes ";" ∷ []
