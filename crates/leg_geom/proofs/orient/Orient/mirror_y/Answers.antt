use Rattle.std.proofs.Common.{refl, arith}
use Rattle.std.proofs.lemmas.Int.{ints}
use Rattle.leg_geom.proofs.Points.{same_spot}
use Rattle.leg_geom.proofs.orient.Orient.mirror_y.Goals as goal

pub returns-in-S : goal.returns-in-S
returns-in-S c = rw c.in-S.is (λ w h p. same_spot _ _ _ _ (omega (arith, ints)) refl)

pub returns-in-FE : goal.returns-in-FE
returns-in-FE c = rw c.in-FE.is (λ w h p. same_spot _ _ _ _ (omega (arith, ints)) refl)
