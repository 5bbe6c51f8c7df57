-- Flats whose shapes are alike but for pieces and order have the same shorts and shapes too near one another.
use Rattle.std.proofs.Common.{ℕ, List, Contains, sym, ◌∙◌}
use Rattle.leg_lemmas.proofs.Places.{contains_at}
use Rattle.leg_lib_records.specs.Records.{LibraryModel}
use Rattle.leg_design_records.specs.declared.fault.Fault.TheVariants.{Short, TooNear}
use Rattle.leg_rules.specs.declared.shape.Shape.{Shape}
use Rattle.leg_rules.specs.Metal.Flat.{FlatModel}
use Rattle.leg_rules.specs.Spacing.Comparable.{AreComparable}
use Rattle.leg_rules.specs.Spacing.Violations.{AreShort, AreTooNear, IsSpacingViolation}
use Rattle.leg_rules.specs.Spacing.Violations.IsSpacingViolation.{short, too_near}
use Rattle.leg_route_laws.specs.Violations.{HasShort, HasTooNear}
use Rattle.leg_wire_spacing.proofs.RequiredSpacing.{HaveSamePoints, required_alike}
use Rattle.leg_wire_spacing.proofs.CloserShapes.{too_near_back}
use Rattle.leg_route_laws.proofs.StillClean.{short_back, pair_of}

pub alike_back : (s t : Shape) → HaveSamePoints s t → HaveSamePoints t s
alike_back s t h = record {
  layer = sym h.layer;
  owner = sym h.owner;
  component = sym h.component;
  points = λ p. ((h.points p).1, (h.points p).0);
}

-- each shape of the first list has its like in the second
abbrev pub HaveLikes : List Shape → List Shape → Type 0
HaveLikes xs ys = (s : Shape) → Contains xs s → (t : Shape) × Contains ys t × HaveSamePoints s t

module _ (a b c d : Shape) (left : HaveSamePoints a c) (right : HaveSamePoints b d) where
  comparable_like : AreComparable a b → AreComparable c d
  comparable_like h = record {
    layer = sym left.layer ∙ h.layer ∙ right.layer;
    owners = λ same. h.owners (left.owner ∙ same ∙ sym right.owner);
    apart = λ one. h.apart (record { component = one.component; of_a = left.component ∙ one.of_a; of_b = right.component ∙ one.of_b });
    metal = λ first second. h.metal (rw left.owner first) (rw right.owner second);
  }

  short_like : AreShort a b → AreShort c d
  short_like h = record {
    comparable = comparable_like h.comparable;
    shared = record { point = h.shared.point; in_a = (left.points h.shared.point).0 h.shared.in_a; in_b = (right.points h.shared.point).0 h.shared.in_b };
  }

  near_like : (library : LibraryModel) → AreTooNear library a b → AreTooNear library c d
  near_like library h = record {
    comparable = comparable_like h.comparable;
    apart = λ shared. h.apart (record {
      point = shared.point;
      in_a = (left.points shared.point).1 shared.in_a;
      in_b = (right.points shared.point).1 shared.in_b;
    });
    near = record {
      p = h.near.p;
      q = h.near.q;
      in_a = (left.points h.near.p).0 h.near.in_a;
      in_b = (right.points h.near.q).0 h.near.in_b;
      near = rw (← required_alike library a b c d left right) h.near.near;
    };
  }

module _ (library : LibraryModel) (first second : FlatModel) (likes : HaveLikes first.shapes second.shapes) where
  pub short_there : HasShort library first → HasShort library second
  short_there has = by has.0 has.1 has.2 where
    by : (i j : ℕ) → IsSpacingViolation library first (Short i j) → HasShort library second
    by i j (short pair) =
        let a = likes pair.a (contains_at first.shapes i pair.a pair.a_at) in
        let b = likes pair.b (contains_at first.shapes j pair.b pair.b_at) in
        let there = pair_of AreShort short_back (λ x y r. r.comparable) second.shapes a.0 b.0 a.1 b.1 (short_like pair.a pair.b a.0 b.0 a.2 b.2 pair.holds) in
        (there.0, there.1, short there.2)

  pub near_there : HasTooNear library first → HasTooNear library second
  near_there has = by has.0 has.1 has.2 where
    by : (i j : ℕ) → IsSpacingViolation library first (TooNear i j) → HasTooNear library second
    by i j (too_near pair) =
        let a = likes pair.a (contains_at first.shapes i pair.a pair.a_at) in
        let b = likes pair.b (contains_at first.shapes j pair.b pair.b_at) in
        let there =
        pair_of (AreTooNear library) (too_near_back library) (λ x y r. r.comparable) second.shapes a.0 b.0 a.1 b.1
        (near_like pair.a pair.b a.0 b.0 a.2 b.2 library pair.holds) in
        (there.0, there.1, too_near there.2)
