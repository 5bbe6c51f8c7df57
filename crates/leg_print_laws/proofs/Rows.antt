-- The line of a row is read as the row.
use Rattle.std.proofs.Common.{◌≡◌, pos, ◌+ℤ◌, ◌*ℤ◌, true, [], ◌∷◌, ◌++◌, Some, codes, refl}
use Rattle.std.specs.List.{list_all}
use Rattle.std.specs.Ordering.{int_eq}
use Rattle.std.specs.Fmt.{signed_decimal}
use Rattle.std.proofs.lemmas.Bool.{or_right}
use Rattle.leg_lemmas.proofs.Integers.{le_test}
use Rattle.leg_lemmas.proofs.Places.{all_at}
use Rattle.leg_lex.specs.Words.{Words, next_at, keyword_at, name_at, whole_at, nothing_at, is_name}
use Rattle.leg_lex.specs.Number.{IsNumber}
use Rattle.leg_output.specs.Words.{stays_one, line, is_printable}
use Rattle.leg_print_words.proofs.LeadingBlanks.{first_passes, others_pass}
use Rattle.leg_lib_records.specs.declared.records.Site.{Site}
use Rattle.leg_lib_records.specs.Sound.{IsSound}
use Rattle.leg_lib_records.specs.Measure.{IsExtent}
use Rattle.leg_design_records.specs.declared.records.Row.{Row}
use Rattle.leg_design_records.specs.Records.{DesignModel}
use Rattle.leg_design_records.specs.WellFormedParts.{IsRow}
use Rattle.leg_grammar.specs.Def.Row.{site_named_at, step_in, sites_in, row_in, row_at}
use Rattle.leg_output.specs.Names.{site_name}
use Rattle.leg_output.specs.Text.Rows.{row_said, row_words, width_of_site}
use Rattle.leg_print_laws.specs.PrintedNames.{StayOne, row_names}
use Rattle.leg_print_laws.proofs.FreeWords.{IsFree, AreFree, free_literal, free_name, free_number, free_nil, free_cons}
use Rattle.leg_print_laws.proofs.Again.{said_again, clauses_none}
use Rattle.leg_print_laws.proofs.NumberedNames.{found, name_is}
use Rattle.leg_print_laws.proofs.Tests.{within_is, same_is}
use Rattle.leg_print_laws.specs.Forms.{DenotesForm}
use Rattle.leg_print_laws.proofs.PrintableWords.{said_printable, line_says}
use Rattle.leg_print_laws.proofs.Points.{number_again, orient_again, orient_free}

module _ (design : DesignModel) (row : Row) (sound : IsSound design.library) (is : IsRow design.library row) (one : StayOne (row_names design row)) where
  wide : IsNumber is.site.size.width
  wide = (all_at (λ site. IsExtent site.size) design.library.sites row.site is.site sound.sites is.there).width

  site_is_name : is_name is.site.name ≡ true
  site_is_name = name_is (λ (s : Site). s.name) design.library.sites row.site is.site is.there sound.names.sites.each

  pub row_in_again : row_in design.library (row_said design row) ≡ Some row
  unfolding row_in site_named_at sites_in step_in keyword_at name_at nothing_at next_at whole_at
  row_in_again =
      rw (
        is.there,
        is.name,
        site_is_name,
        found (λ (s : Site). s.name) design.library.sites row.site is.site is.there sound.names.sites.apart,
        is.there,
        number_again row.at.x _ is.at.x,
        number_again row.at.y _ is.at.y,
        orient_again row.orient _,
        is.upright,
        number_again row.count _ is.count,
        le_test (pos 1) row.count is.some,
        number_again is.site.size.width _ wide,
        or_right (int_eq row.count (pos 1)) (int_eq is.site.size.width is.site.size.width) (same_is is.site.size.width),
        within_is (row.at.x +ℤ row.count *ℤ is.site.size.width) is.end,
      ) refl

  row_free : AreFree (row_said design row)
  row_free =
      free_cons (free_literal (codes "ROW") refl refl refl)
      (free_cons (free_name row.name is.name (first_passes stays_one row.name (site_name design row.site ∷ []) one))
      (free_cons site_free
      (free_cons (free_number row.at.x is.at.x) (free_cons (free_number row.at.y is.at.y) (free_cons (orient_free row.orient)
      (free_cons (free_literal (codes "DO") refl refl refl) (free_cons (free_number row.count is.count)
      (free_cons (free_literal (codes "BY") refl refl refl) (free_cons (free_literal (codes "1") refl refl refl)
      (free_cons (free_literal (codes "STEP") refl refl refl) (free_cons width_free
      (free_cons (free_literal (codes "0") refl refl refl) free_nil)))))))))))) where
        site_free : IsFree (site_name design row.site)
        site_free = free_name (site_name design row.site) (rw is.there site_is_name)
            (first_passes stays_one (site_name design row.site) [] (others_pass stays_one row.name (site_name design row.site ∷ []) one))

        width_free : IsFree (signed_decimal (width_of_site design row.site))
        width_free = rw is.there (free_number is.site.size.width wide)

  pub row_again : (rest : Words) → row_at design.library (row_words design row ++ rest) ≡ Some (row, rest)
  unfolding row_at
  row_again rest =
      rw (said_again (row_said design row) rest row_free.inside, clauses_none (row_said design row) row_free.plus, row_in_again) refl

  -- the words of the line stay words
  pub row_printable : list_all is_printable (row_words design row) ≡ true
  row_printable = said_printable row_free.inside

  pub row_line : DenotesForm (row_at design.library) (line (row_words design row)) row
  row_line = line_says (row_at design.library) (row_words design row) row row_printable row_again
