-- The least squared distance of two rectangles says whether they are nearer than a distance.
use Rattle.std.proofs.Common.{◌≡◌, ◌*◌, ◌<◌, ◌↔◌, ℕ, pos, int_lt, true, arith}
use Rattle.std.proofs.lemmas.Int.{ints}
use Rattle.leg_geom.specs.Plane.{RectModel}
use Rattle.leg_geom.specs.Gap.{IsSquareGap}
use Rattle.leg_rules.specs.Spacing.Violations.{AreNearer}

less_from_test : (n m : ℕ) → int_lt (pos n) (pos m) ≡ true → n < m
less_from_test n m test = grind (arith, ints)

test_from_less : (n m : ℕ) → n < m → int_lt (pos n) (pos m) ≡ true
test_from_less n m less = grind (arith, ints)

pub nearer_test : (distance : ℕ) (a b : RectModel) (n : ℕ) → IsSquareGap a b n → (int_lt (pos n) (pos (distance * distance)) ≡ true) ↔ AreNearer distance a b
nearer_test distance a b n gap = (
  λ test. record {
    p = gap.p;
    q = gap.q;
    in_a = gap.in_a;
    in_b = gap.in_b;
    near = let less = less_from_test n (distance * distance) test in omega (arith, less, gap.is);
  },
  λ near. test_from_less n (distance * distance) (let least = gap.least near.p near.q near.in_a near.in_b in omega (arith, least, near.near)),
)
