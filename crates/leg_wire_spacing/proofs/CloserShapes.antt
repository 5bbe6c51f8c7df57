-- Shapes that are closer than a distance.
use Rattle.std.proofs.Common.{◌*◌, ◌<◌, ◌≤◌, ◌⊎◌, ℕ, inl, inr, sym, arith}
use Rattle.std.proofs.Math.Nat.{mul-le-mul}
use Rattle.leg_geom.specs.Plane.{PointModel, RectModel, HasPoint, SharePoint}
use Rattle.leg_geom.specs.Gap.{apart, x_gap, y_gap}
use Rattle.leg_geom.proofs.Gaps.{SharePoint-symmetric, SharePoint-gaps, square_distance-symmetric, x_gap-least, y_gap-least, less_from_squares}
use Rattle.leg_lib_records.specs.Records.{LibraryModel}
use Rattle.leg_rules.specs.declared.shape.Shape.{Shape}
use Rattle.leg_rules.specs.Spacing.Comparable.{AreComparable}
use Rattle.leg_rules.specs.Spacing.RequiredSpacing.{greatest_spacing_on, required_spacing}
use Rattle.leg_rules.specs.Spacing.Violations.{AreNearer, AreTooNear}
use Rattle.leg_rules.specs.Spacing.Closer.{AreCloserThan}
use Rattle.leg_rules.specs.Spacing.Clean.{net_metal}
use Rattle.leg_wire_spacing.proofs.RequiredSpacing.{required_within, required_back}

-- the order of two shapes or rectangles doesn't matter
pub comparable_back : (a b : Shape) → AreComparable a b → AreComparable b a
comparable_back a b h = record {
  layer = sym h.layer;
  owners = λ same. h.owners (sym same);
  apart = λ one. h.apart (record { component = one.component; of_a = one.of_b; of_b = one.of_a });
  metal = λ second first. h.metal first second;
}

pub nearer_back : (distance : ℕ) (a b : RectModel) → AreNearer distance a b → AreNearer distance b a
nearer_back distance a b h = record { p = h.q; q = h.p; in_a = h.in_b; in_b = h.in_a; near = rw (square_distance-symmetric h.q h.p) h.near }

pub closer_back : (distance : ℕ) (a b : Shape) → AreCloserThan distance a b → AreCloserThan distance b a
closer_back distance a b h = record {
  comparable = comparable_back a b h.comparable;
  close = elim h.close [ inl shared ↦ inl (SharePoint-symmetric a.rect b.rect shared) | inr near ↦ inr (nearer_back distance a.rect b.rect near) ];
}

-- rectangles that are nearer than a distance are nearer than a greater one
pub nearer_wider : (distance wider : ℕ) (a b : RectModel) → distance ≤ wider → AreNearer distance a b → AreNearer wider a b
nearer_wider distance wider a b within h =
    let squares : distance * distance ≤ wider * wider = mul-le-mul within within in
    record { p = h.p; q = h.q; in_a = h.in_a; in_b = h.in_b; near = omega (arith, h.near, squares) }

-- shapes that are too near are closer than the greatest spacing on their layer
pub too_near_is_closer : (library : LibraryModel) (a b : Shape) → AreTooNear library a b → AreCloserThan (greatest_spacing_on library a.layer) a b
too_near_is_closer library a b h = record {
  comparable = h.comparable;
  close = inr (nearer_wider (required_spacing library a b) (greatest_spacing_on library a.layer) a.rect b.rect (required_within library a b) h.near);
}

pub too_near_back : (library : LibraryModel) (a b : Shape) → AreTooNear library a b → AreTooNear library b a
too_near_back library a b h = record {
  comparable = comparable_back a b h.comparable;
  apart = λ shared. h.apart (SharePoint-symmetric b.rect a.rect shared);
  near = rw (← required_back library a b h.comparable.layer) (nearer_back (required_spacing library a b) a.rect b.rect h.near);
}

-- Metal of a net is closer to the shape than this at one of its points: so is other metal of the net on the layer that has the point.
pub record IsCloseAtPoint (distance net layer : ℕ) (rect : RectModel) (shape : Shape) : Type 0 where
  pub p : PointModel
  pub inside : HasPoint rect p
  pub as_close : (other : RectModel) → HasPoint other p → AreCloserThan distance (net_metal net layer other) shape

pub close_at_point : (distance net layer : ℕ) (rect : RectModel) (shape : Shape) → AreCloserThan distance (net_metal net layer rect) shape
    → IsCloseAtPoint distance net layer rect shape
close_at_point distance net layer rect shape h = by h.close where
  comparable : (other : RectModel) → AreComparable (net_metal net layer other) shape
  comparable other = record {
    layer = h.comparable.layer;
    owners = h.comparable.owners;
    apart = λ one. h.comparable.apart (record { component = one.component; of_a = one.of_a; of_b = one.of_b });
    metal = h.comparable.metal;
  }

  by : SharePoint rect shape.rect ⊎ AreNearer distance rect shape.rect → IsCloseAtPoint distance net layer rect shape
  by (inl s) = record {
    p = s.point;
    inside = s.in_a;
    as_close = λ other has. record { comparable = comparable other; close = inl (record { point = s.point; in_a = has; in_b = s.in_b }) };
  }
  by (inr n) = record {
    p = n.p;
    inside = n.in_a;
    as_close = λ other has. record { comparable = comparable other; close = inr (record { p = n.p; q = n.q; in_a = has; in_b = n.in_b; near = n.near }) };
  }

-- shapes closer than a distance have both gaps within it
pub AreCloserThan-gaps : (distance : ℕ) (a b : Shape) → AreCloserThan distance a b → (x_gap a.rect b.rect ≤ distance) × (y_gap a.rect b.rect ≤ distance)
AreCloserThan-gaps distance a b h =
    elim h.close [
      | inl s ↦ let gaps = SharePoint-gaps a.rect b.rect s in (omega (arith, gaps.0), omega (arith, gaps.1))
      | inr n ↦
          let x = apart n.p.x n.q.x in
          let y = apart n.p.y n.q.y in
          let x_less : x < distance = less_from_squares x distance (y * y) n.near in
          let y_less : y < distance = less_from_squares y distance (x * x) (omega (arith, n.near)) in
          (omega (arith, x_less, x_gap-least a.rect b.rect n.p n.q n.in_a n.in_b), omega (arith, y_less, y_gap-least a.rect b.rect n.p n.q n.in_a n.in_b))
    ]
