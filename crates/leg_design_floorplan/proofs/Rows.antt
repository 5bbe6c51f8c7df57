-- A site that is found stands in the library, and a row takes words.
use Rattle.std.proofs.Common.{◌≡◌, ℕ, ◌<◌, List, [], length, get_or, None, Some, slice_get, refl, arith}
use Rattle.std.proofs.lemmas.List.{length-map}
use Rattle.std.proofs.lemmas.Option.{slice_get_read}
use Rattle.leg_lex.specs.Words.{Words, keyword_at, next_at}
use Rattle.leg_lex.specs.NameLookup.{place_of}
use Rattle.leg_lex.proofs.NameLookup.{place_stands}
use Rattle.leg_lib_records.specs.Records.{LibraryModel, site_names}
use Rattle.leg_lib_records.specs.declared.records.Site.{Site}
use Rattle.leg_lex.specs.Statements.{clauses_of}
use Rattle.leg_lex.proofs.Statements.{statement_below}
use Rattle.leg_lex.proofs.Until.{Below, below_some, below_bind, below_ask}
use Rattle.leg_grammar.specs.Def.Row.{row_in, head_of, row_at}

pub site_within : (name : List ℕ) (library : LibraryModel) (number : ℕ) → place_of name (site_names library) ≡ Some number → number < length library.sites
site_within name library number found =
    let stands = place_stands name (site_names library) number found in
    omega (arith, stands.within, length-map library.sites (λ (s : Site). s.name))

pub site_read : (sites : List Site) (number : ℕ) (site : Site) → number < length sites → site ≡ get_or sites number site → slice_get sites number ≡ Some site
site_read sites number site less is = slice_get_read sites (length sites) number site refl less is

-- Without words no row is said.
pub no_head : (library : LibraryModel) (clauses : List Words) → clauses ≡ [] → row_in library (head_of clauses) ≡ None
unfolding row_in keyword_at next_at
no_head library clauses none = rw none refl

pub row_below : (library : LibraryModel) (words : Words) → Below (length words) (row_at library words)
unfolding row_at
row_below library words =
    below_bind (omega arith) (statement_below words) (λ statement less.
    below_ask (row_in library (head_of (clauses_of statement.0))) (λ row.
    below_some row statement.1 less))
