use Rattle.std.proofs.Common.{◌≡◌, ◌≤◌, ◌*◌, ℤ, ◌-ℤ◌, unsigned_abs, FitsSigned, w64, to_z, of_z, refl, ◌∙◌, arith}
use Rattle.std.proofs.lemmas.Int.{to_z-of_z, fits_signed_from_abs}
use Rattle.leg_geom.specs.declared.limits.TheConstants.{COORDINATE_LIMIT}
use Rattle.leg_geom.proofs.orient.Orient.turned.Goals as goal

-- a coordinate taken from a side of the box fits, and is what the machine's subtraction gives
minus_fits : (a b p : ℤ) → FitsSigned w64 a → FitsSigned w64 b → b ≡ p → unsigned_abs (a -ℤ p) ≤ 2 * COORDINATE_LIMIT
    → FitsSigned w64 (to_z w64 (of_z w64 a) -ℤ to_z w64 (of_z w64 b))
minus_fits a b p fa fb e small = rw (to_z-of_z w64 a fa, to_z-of_z w64 b fb, e) (fits_signed_from_abs w64 (a -ℤ p) (omega arith))

minus_is : (a b p : ℤ) → FitsSigned w64 a → FitsSigned w64 b → b ≡ p → unsigned_abs (a -ℤ p) ≤ 2 * COORDINATE_LIMIT
    → to_z w64 (of_z w64 (to_z w64 (of_z w64 a) -ℤ to_z w64 (of_z w64 b))) ≡ a -ℤ p
minus_is a b p fa fb e small =
    to_z-of_z w64 _ (minus_fits a b p fa fb e small) ∙ rw (to_z-of_z w64 a fa, to_z-of_z w64 b fb, e) refl

pub overflow_sub-result : goal.overflow_sub-result
overflow_sub-result c =
    minus_fits c.args.width c.x-x.result _ c.ranges.width (record { sfits = c.x-x.type_inv }) c.x-x.ensures.is (rw c.in-S.is at c.requires.x)

pub overflow_sub-result-in-S : goal.overflow_sub-result-in-S
overflow_sub-result-in-S c =
    minus_fits c.args.height c.y-y.result _ c.ranges.height (record { sfits = c.y-y.type_inv }) c.y-y.ensures.is (rw c.in-S.is at c.requires.y)

pub overflow_sub-result-in-W : goal.overflow_sub-result-in-W
overflow_sub-result-in-W c =
    minus_fits c.args.height c.y-y.result _ c.ranges.height (record { sfits = c.y-y.type_inv }) c.y-y.ensures.is (rw c.in-W.is at c.requires.x)

pub overflow_sub-result-in-E : goal.overflow_sub-result-in-E
overflow_sub-result-in-E c =
    minus_fits c.args.width c.x-x.result _ c.ranges.width (record { sfits = c.x-x.type_inv }) c.x-x.ensures.is (rw c.in-E.is at c.requires.y)

pub overflow_sub-result-in-FN : goal.overflow_sub-result-in-FN
overflow_sub-result-in-FN c =
    minus_fits c.args.width c.x-x.result _ c.ranges.width (record { sfits = c.x-x.type_inv }) c.x-x.ensures.is (rw c.in-FN.is at c.requires.x)

pub overflow_sub-result-in-FS : goal.overflow_sub-result-in-FS
overflow_sub-result-in-FS c =
    minus_fits c.args.height c.y-y.result _ c.ranges.height (record { sfits = c.y-y.type_inv }) c.y-y.ensures.is (rw c.in-FS.is at c.requires.y)

pub overflow_sub-result-in-FE : goal.overflow_sub-result-in-FE
overflow_sub-result-in-FE c =
    minus_fits c.args.height c.y-y.result _ c.ranges.height (record { sfits = c.y-y.type_inv }) c.y-y.ensures.is (rw c.in-FE.is at c.requires.x)

pub overflow_sub-result-in-FE-2 : goal.overflow_sub-result-in-FE-2
overflow_sub-result-in-FE-2 c =
    minus_fits c.args.width c.x-x.result _ c.ranges.width (record { sfits = c.x-x.type_inv }) c.x-x.ensures.is (rw c.in-FE.is at c.requires.y)

pub returns-in-S-clause-x : goal.returns-in-S-clause-x
returns-in-S-clause-x c =
    rw c.in-S.is (minus_is c.args.width c.x-x.result _ c.ranges.width (record { sfits = c.x-x.type_inv }) c.x-x.ensures.is (rw c.in-S.is at c.requires.x))

pub returns-in-S-clause-y : goal.returns-in-S-clause-y
returns-in-S-clause-y c =
    rw c.in-S.is (minus_is c.args.height c.y-y.result _ c.ranges.height (record { sfits = c.y-y.type_inv }) c.y-y.ensures.is (rw c.in-S.is at c.requires.y))

pub returns-in-W-clause-x : goal.returns-in-W-clause-x
returns-in-W-clause-x c =
    rw c.in-W.is (minus_is c.args.height c.y-y.result _ c.ranges.height (record { sfits = c.y-y.type_inv }) c.y-y.ensures.is (rw c.in-W.is at c.requires.x))

pub returns-in-E-clause-y : goal.returns-in-E-clause-y
returns-in-E-clause-y c =
    rw c.in-E.is (minus_is c.args.width c.x-x.result _ c.ranges.width (record { sfits = c.x-x.type_inv }) c.x-x.ensures.is (rw c.in-E.is at c.requires.y))

pub returns-in-FN-clause-x : goal.returns-in-FN-clause-x
returns-in-FN-clause-x c =
    rw c.in-FN.is (minus_is c.args.width c.x-x.result _ c.ranges.width (record { sfits = c.x-x.type_inv }) c.x-x.ensures.is (rw c.in-FN.is at c.requires.x))

pub returns-in-FS-clause-y : goal.returns-in-FS-clause-y
returns-in-FS-clause-y c =
    rw c.in-FS.is (minus_is c.args.height c.y-y.result _ c.ranges.height (record { sfits = c.y-y.type_inv }) c.y-y.ensures.is (rw c.in-FS.is at c.requires.y))

pub returns-in-FE-clause-x : goal.returns-in-FE-clause-x
returns-in-FE-clause-x c =
    rw c.in-FE.is (minus_is c.args.height c.y-y.result _ c.ranges.height (record { sfits = c.y-y.type_inv }) c.y-y.ensures.is (rw c.in-FE.is at c.requires.x))

pub returns-in-FE-clause-y : goal.returns-in-FE-clause-y
returns-in-FE-clause-y c =
    rw c.in-FE.is (minus_is c.args.width c.x-x.result _ c.ranges.width (record { sfits = c.x-x.type_inv }) c.x-x.ensures.is (rw c.in-FE.is at c.requires.y))
