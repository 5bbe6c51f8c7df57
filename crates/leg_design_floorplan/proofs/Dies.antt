-- Each point of a die area takes a word, and so does the die area.
use Rattle.std.proofs.Common.{◌≡◌, ◌<◌, List, [], ◌∷◌, ◌++◌, length, Some, codes, arith}
use Rattle.leg_lex.specs.Words.{Words}
use Rattle.leg_lex.proofs.Shorter.{keyword_below, mark_below}
use Rattle.leg_lex.proofs.Until.{Below, Shortens, below_some, below_bind, below_ask, until_below}
use Rattle.leg_geom.specs.Plane.{PointModel}
use Rattle.leg_grammar.specs.Def.Die.{at_no_spot, one_spot, die_of, die_at}
use Rattle.leg_design_common.proofs.Spots.{spot_below}

pub one_spot_shortens : Shortens one_spot
unfolding one_spot
one_spot_shortens spots words =
    below_bind (omega arith) (spot_below words) (λ spot less. below_some (spots ++ spot.0 ∷ []) spot.1 less)

pub one_spot_shorter : (spots more : List PointModel) (words rest : Words) → one_spot spots words ≡ Some (more, rest) → length rest < length words
one_spot_shorter spots more words rest said = (one_spot_shortens spots words).left more rest said

pub die_below : (words : Words) → Below (length words) (die_at words)
unfolding die_at
die_below words =
    below_bind (omega arith) (keyword_below (codes "DIEAREA") words) (λ start less.
    below_bind (omega arith) (until_below at_no_spot one_spot one_spot_shortens [] start.1) (λ spots no_more.
    below_bind (omega arith) (mark_below 59 spots.1) (λ end last.
    below_ask (die_of spots.0) (λ die.
    below_some die end.1 last))))
