-- Rows that are read are of sites of the library, and lie within the limit of numbers.
use Rattle.std.proofs.Common.{◌≡◌, ℤ, pos, ◌≤ℤ◌, ◌+ℤ◌, ◌*ℤ◌, true, int_le, [], ◌∷◌, Some, codes, slice_get, arith}
use Rattle.std.specs.Ordering.{int_eq}
use Rattle.std.proofs.lemmas.Int.{ints}
use Rattle.std.proofs.lemmas.Bool.Decides.{nat_tests}
use Rattle.leg_lemmas.proofs.Integers.{le_from_test}
use Rattle.leg_lex.specs.Number.{IsNumber}
use Rattle.leg_lex.specs.Words.{Words, keyword_at, name_at}
use Rattle.leg_lex.specs.Statements.{statement_at, clauses_of}
use Rattle.leg_lex.specs.NameLookup.{place_of}
use Rattle.leg_lib_records.specs.Records.{LibraryModel, site_names}
use Rattle.leg_grammar.specs.Def.Guard.{when, is_within}
use Rattle.leg_grammar.specs.Def.Placement.{orient_at}
use Rattle.leg_design_records.specs.Rows.{is_upright}
use Rattle.leg_grammar.specs.Def.Row.{site_named_at, step_in, sites_in, row_in, head_of, row_at}
use Rattle.leg_design_records.specs.WellFormedParts.{IsRow}
use Rattle.leg_design_common.proofs.Gives.{Gives, gives_some, gives_bind, gives_skip, gives_itself, name_gives, when_gives}
use Rattle.leg_design_common.proofs.ReadPlacement.{whole_gives}

pub within_is : (z : ℤ) → is_within z ≡ true → IsNumber z
within_is z within = grind (arith, nat_tests)

site_gives : (library : LibraryModel) (words : Words) → Gives (λ said. slice_get library.sites said.0.0 ≡ Some said.0.1) (site_named_at library words)
unfolding site_named_at
site_gives library words =
    gives_skip (name_at words) (λ name.
    gives_skip (place_of name.0 (site_names library)) (λ number.
    gives_bind (gives_itself (slice_get library.sites number)) (λ site there.
    gives_some _ there)))

-- how many sites there are
sites_give : (width : ℤ) (words : Words) → Gives (λ count. (pos 1 ≤ℤ count) × IsNumber count) (sites_in width words)
unfolding sites_in
sites_give width [] = gives_some (pos 1) (omega (arith, ints), omega arith)
sites_give width (word ∷ words) =
    gives_skip (keyword_at (codes "DO") (word ∷ words)) (λ start.
    gives_bind (whole_gives start.1) (λ count number.
    gives_skip (keyword_at (codes "BY") count.1) (λ by.
    gives_bind (whole_gives by.1) (λ lines _.
    gives_bind (when_gives (int_le (pos 1) count.0)) (λ some least.
    gives_skip (when (int_eq lines.0 (pos 1))) (λ one.
    gives_skip (step_in width count.0 lines.1) (λ step.
    gives_some count.0 (le_from_test (pos 1) count.0 least, number))))))))

row_in_gives : (library : LibraryModel) (head : Words) → Gives (IsRow library) (row_in library head)
unfolding row_in
row_in_gives library head =
    gives_skip (keyword_at (codes "ROW") head) (λ start.
    gives_bind (name_gives start.1) (λ name named.
    gives_bind (site_gives library name.1) (λ site there.
    gives_bind (whole_gives site.1) (λ x wide.
    gives_bind (whole_gives x.1) (λ y high.
    gives_skip (orient_at y.1) (λ orient.
    gives_bind (when_gives (is_upright orient.0)) (λ upright stands.
    gives_bind (sites_give site.0.1.size.width orient.1) (λ count sites.
    gives_bind (when_gives (is_within (x.0 +ℤ count *ℤ site.0.1.size.width))) (λ end within.
    gives_some _ (record {
      name = named;
      site = site.0.1;
      there = there;
      at = record { x = wide; y = high };
      upright = stands;
      some = sites.0;
      count = sites.1;
      end = within_is (x.0 +ℤ count *ℤ site.0.1.size.width) within;
    }))))))))))

pub row_gives : (library : LibraryModel) (words : Words) → Gives (λ said. IsRow library said.0) (row_at library words)
unfolding row_at
row_gives library words =
    gives_skip (statement_at words) (λ statement.
    gives_bind (row_in_gives library (head_of (clauses_of statement.0))) (λ row holds.
    gives_some _ holds))
