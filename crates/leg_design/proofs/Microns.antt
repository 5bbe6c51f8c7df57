-- Whether UNITS DISTANCE MICRONS stand in a row.
use Rattle.std.proofs.Common.{◌≡◌, false, List, ℕ, None, Some, is_some, codes, refl, ◌∙◌}
use Rattle.leg_lemmas.proofs.Options.{none_is}
use Rattle.leg_lex.specs.Words.{Words, is_at, keyword_at}
use Rattle.leg_lex.proofs.ReadPast.{keyword_is_there}
use Rattle.leg_grammar.specs.Def.Header.{microns_at}

not_there : (keyword : List ℕ) (words : Words) → is_at keyword words ≡ false → keyword_at keyword words ≡ None
not_there keyword words other = none_is (keyword_at keyword words) (keyword_is_there keyword words ∙ other)

-- The first of them doesn't stand there,
pub no_units : (words : Words) → is_at (codes "UNITS") words ≡ false → is_some (microns_at words) ≡ false
unfolding microns_at
no_units words other = rw (not_there (codes "UNITS") words other) refl

-- or the second doesn't,
pub no_distance : (words rest : Words) (x : Unit {0}) → keyword_at (codes "UNITS") words ≡ Some (x, rest) → is_at (codes "DISTANCE") rest ≡ false
    → is_some (microns_at words) ≡ false
unfolding microns_at
no_distance words rest x first other = rw (first, not_there (codes "DISTANCE") rest other) refl

-- or both do, and the third decides.
pub all_but_microns : (words rest last : Words) (x y : Unit {0})
    → keyword_at (codes "UNITS") words ≡ Some (x, rest) → keyword_at (codes "DISTANCE") rest ≡ Some (y, last)
    → is_some (microns_at words) ≡ is_at (codes "MICRONS") last
unfolding microns_at
all_but_microns words rest last x y first second =
    rw (first, second) (keyword_is_there (codes "MICRONS") last)
