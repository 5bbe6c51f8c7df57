-- A die area that is read has area.
use Rattle.std.proofs.Common.{List, [], ◌∷◌, All, arith}
use Rattle.std.proofs.lemmas.List.Elements.{All-push, All-nil}
use Rattle.leg_lex.specs.Words.{Words}
use Rattle.leg_lex.proofs.GivesAll.{until_gives}
use Rattle.leg_geom.specs.Plane.{PointModel}
use Rattle.leg_grammar.specs.Def.Die.{one_spot, at_no_spot, go_round, die_of, die_at}
use Rattle.leg_design_records.specs.WellFormedParts.{IsPosition, IsArea}
use Rattle.leg_design_common.proofs.Gives.{Gives, gives_none, gives_some, gives_bind, gives_skip, gives_if}
use Rattle.leg_design_common.proofs.ReadPlacement.{spot_gives, between_gives}

one_spot_gives : (spots : List PointModel) (words : Words) → All IsPosition spots → Gives (λ said. All IsPosition said.0) (one_spot spots words)
unfolding one_spot
one_spot_gives spots words each =
    gives_bind (spot_gives words) (λ spot position.
    gives_some _ (All-push IsPosition spots spot.0 each position))

-- two corners of it
die_of_gives : (spots : List PointModel) → All IsPosition spots → Gives IsArea (die_of spots)
die_of_gives [] each = gives_none
die_of_gives (p ∷ []) each = gives_none
die_of_gives (p ∷ q ∷ []) each = between_gives p q (each 0 p (omega arith)) (each 1 p (omega arith))
die_of_gives (p ∷ q ∷ r ∷ []) each = gives_none
die_of_gives (p ∷ q ∷ r ∷ s ∷ []) each =
    gives_if (go_round p q r s) (between_gives p r (each 0 p (omega arith)) (each 2 p (omega arith))) gives_none
die_of_gives (p ∷ q ∷ r ∷ s ∷ t ∷ spots) each = gives_none

pub die_gives : (words : Words) → Gives (λ said. IsArea said.0) (die_at words)
unfolding die_at
die_gives words =
    gives_skip _ (λ start.
    gives_bind (until_gives (All IsPosition) at_no_spot one_spot one_spot_gives [] start.1 (All-nil IsPosition)) (λ spots each.
    gives_skip _ (λ end.
    gives_bind (die_of_gives spots.0 each) (λ die area.
    gives_some _ area))))
