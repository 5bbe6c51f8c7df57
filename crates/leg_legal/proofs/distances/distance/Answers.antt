-- Each coordinate is within the limit.
use Rattle.std.proofs.Common.{◌≡◌, ◌+◌, pos, to_z, w64, arith}
use Rattle.std.proofs.lemmas.Int.{ints}
use Rattle.leg_legal.proofs.distances.distance.Goals as goal

pub returns-clause-within : goal.returns-clause-within
returns-clause-within c =
    let p = c.x.ensures.within in
    let q = c.x-2.ensures.within in
    let sum : to_z w64 (c.abs_diff.result + c.abs_diff-2.result) ≡ pos (c.abs_diff.result + c.abs_diff-2.result) =
    omega (arith, ints, c.abs_diff.ensures, c.abs_diff-2.ensures, c.x.ensures.is, c.x-2.ensures.is, c.y.ensures.is, c.y-2.ensures.is, p.x, p.y, q.x, q.y) in
    record {
      least = omega (arith, ints, sum);
      most = omega (
        arith,
        ints,
        sum,
        c.abs_diff.ensures,
        c.abs_diff-2.ensures,
        c.x.ensures.is,
        c.x-2.ensures.is,
        c.y.ensures.is,
        c.y-2.ensures.is,
        p.x,
        p.y,
        q.x,
        q.y,
      );
    }
