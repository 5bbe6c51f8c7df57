-- Sites: each takes a word at least, and a name that has no site is new.
use Rattle.std.proofs.Common.{◌≡◌, ℕ, List, [], length, get_or, map, Option, None, Some, option_map, codes, slice_get, refl, ap, arith}
use Rattle.std.proofs.lemmas.Option.{slice_get-get_or, slice_get-map}
use Rattle.leg_lex.specs.Words.{Words, ◌>>=◌}
use Rattle.leg_lex.specs.Statements.{the}
use Rattle.leg_lex.specs.NameLookup.{place_of}
use Rattle.leg_lex.proofs.Until.{Below, below_some, below_bind, below_ask}
use Rattle.leg_lex.proofs.Shorter.{keyword_below, name_below, end_of_below}
use Rattle.leg_lex.proofs.Statements.{statements_below}
use Rattle.leg_lex.proofs.NameLookup.{place_stands}
use Rattle.leg_lib_records.specs.Records.{RawLibraryModel}
use Rattle.leg_grammar.specs.Lef.Point.{size_in}
use Rattle.leg_grammar.specs.Lef.Site.{site_at, add_site, site_named, with_site}

pub site_below : (words : Words) → Below (length words) (site_at words)
unfolding site_at
site_below words =
    below_bind (omega arith) (keyword_below (codes "SITE") words) (λ start less.
    below_bind (omega arith) (name_below start.1) (λ name fewer.
    below_bind (omega arith) (statements_below name.1) (λ body no_more.
    below_ask (the (codes "SIZE") body.0) (λ statement.
    below_ask (size_in statement) (λ size.
    below_bind (omega arith) (end_of_below name.0 body.1) (λ end last.
    below_some (record { name = name.0; size = size }) end.1 last))))))

pub with_site_below : (library : RawLibraryModel) (words : Words) → Below (length words) (with_site library words)
unfolding with_site
with_site_below library words =
    below_bind (omega arith) (site_below words) (λ site less.
    below_ask (add_site (site_named site.0.name library) site.0 library) (λ added.
    below_some added site.1 less))

-- A name that has no site isn't the name of one.
pub found_nowhere : {X : Type 0} (name_of : X → List ℕ) (name : List ℕ) (xs : List X) → (place_of name (map name_of xs) >>= λ k. slice_get xs k) ≡ None
    → place_of name (map name_of xs) ≡ None
found_nowhere {X} name_of name xs none = by (place_of name (map name_of xs)) refl where
  by : (o : Option ℕ) → place_of name (map name_of xs) ≡ o → place_of name (map name_of xs) ≡ None
  by None is = is
  by (Some k) is =
      let stands = place_stands name (map name_of xs) k is in
      let named : slice_get (map name_of xs) k ≡ Some (get_or (map name_of xs) k []) = slice_get-get_or (map name_of xs) k [] stands.within in
      let empty : slice_get xs k ≡ None = rw is at none in
      absurd (let e : ⊥ = cc (named, slice_get-map name_of xs k, ap (option_map name_of) empty) in e)
