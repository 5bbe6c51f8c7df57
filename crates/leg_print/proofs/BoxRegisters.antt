-- The sides of boxes are kept by registers.
use Rattle.std.proofs.Common.{◌≡◌, ℤ, w64, to_z, of_z, arith}
use Rattle.std.specs.Int.{int_min, int_max}
use Rattle.std.proofs.lemmas.Int.{ints, clamps, to_z-of_z}
use Rattle.leg_lex.specs.Number.{IsNumber}
use Rattle.leg_geom.specs.Plane.{RectModel, IsCoordinate}
use Rattle.leg_print.specs.Steps.Wirelength.{IsBox, joined}

-- what a register keeps of a number
abbrev pub register : ℤ → ℤ
register z = to_z w64 (of_z w64 z)

pub kept : (z : ℤ) → IsCoordinate z → register z ≡ z
kept z near = grind (arith, ints, to_z-of_z)

pub near_min : (a b : ℤ) → IsCoordinate a → IsCoordinate b → IsCoordinate (int_min a b)
near_min a b p q = omega (arith, ints, clamps)

pub near_max : (a b : ℤ) → IsCoordinate a → IsCoordinate b → IsCoordinate (int_max a b)
near_max a b p q = omega (arith, ints, clamps)

pub min_kept : (z a b : ℤ) → IsCoordinate a → IsCoordinate b → z ≡ int_min (register a) (register b) → register z ≡ int_min a b
min_kept z a b p q is =
    let e = rw (kept a p, kept b q) at is in
    rw e (kept _ (near_min a b p q))

pub max_kept : (z a b : ℤ) → IsCoordinate a → IsCoordinate b → z ≡ int_max (register a) (register b) → register z ≡ int_max a b
max_kept z a b p q is =
    let e = rw (kept a p, kept b q) at is in
    rw e (kept _ (near_max a b p q))

-- the box of two is one
pub box_joined : (a b : RectModel) → IsBox a → IsBox b → IsBox (joined a b)
box_joined a b p q = record {
  x1 = near_min a.x1 b.x1 p.x1 q.x1;
  y1 = near_min a.y1 b.y1 p.y1 q.y1;
  x2 = near_max a.x2 b.x2 p.x2 q.x2;
  y2 = near_max a.y2 b.y2 p.y2 q.y2;
  wide = let wide = p.wide in omega (arith, ints, clamps);
  high = let high = p.high in omega (arith, ints, clamps);
}

-- a number of a LEF is kept too
pub number_kept : (z v : ℤ) → z ≡ v → IsNumber v → register z ≡ v
number_kept z v is near = grind (arith, ints, to_z-of_z)
