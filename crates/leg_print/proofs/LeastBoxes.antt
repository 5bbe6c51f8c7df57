-- Least boxes: there is one at most, two join to that round both, and it is the same round the same points.
use Rattle.std.proofs.Common.{◌≡◌, ◌⊎◌, inl, inr, pos, ◌≤ℤ◌, Option, None, Some, refl, ap, arith}
use Rattle.std.proofs.lemmas.Int.{ints, clamps}
use Rattle.leg_geom.specs.Plane.{PointModel, RectModel, HasPoint, HasAllPoints}
use Rattle.leg_geom.proofs.Points.{same_sides}
use Rattle.leg_rules.specs.Wirelength.{IsLeastBox, IsLeastBoxIfAny}
use Rattle.leg_print.specs.Steps.Wirelength.{joined, joined_if_any}

-- one box lies within another
record IsWithin (outer inner : RectModel) : Type 0 where
  pub x1 : outer.x1 ≤ℤ inner.x1
  pub y1 : outer.y1 ≤ℤ inner.y1
  pub x2 : inner.x2 ≤ℤ outer.x2
  pub y2 : inner.y2 ≤ℤ outer.y2

lower_left : RectModel → PointModel
lower_left box = record { x = box.x1; y = box.y1 }

upper_right : RectModel → PointModel
upper_right box = record { x = box.x2; y = box.y2 }

has_lower_left : (box : RectModel) → box.x1 ≤ℤ box.x2 → box.y1 ≤ℤ box.y2 → HasPoint box (lower_left box)
unfolding lower_left
has_lower_left box wide high = record { left = omega (arith, ints); right = wide; bottom = omega (arith, ints); top = high }

has_upper_right : (box : RectModel) → box.x1 ≤ℤ box.x2 → box.y1 ≤ℤ box.y2 → HasPoint box (upper_right box)
unfolding upper_right
has_upper_right box wide high = record { left = wide; right = omega (arith, ints); bottom = high; top = omega (arith, ints) }

within : (outer inner : RectModel) → inner.x1 ≤ℤ inner.x2 → inner.y1 ≤ℤ inner.y2 → HasAllPoints outer inner → IsWithin outer inner
unfolding lower_left upper_right
within outer inner wide high all =
    let low = all _ (has_lower_left inner wide high) in
    let up = all _ (has_upper_right inner wide high) in
    record { x1 = low.left; y1 = low.bottom; x2 = up.right; y2 = up.top }

each_within : (a b : RectModel) → IsWithin a b → IsWithin b a → a ≡ b
each_within a b p q = same_sides _ _ _ _ _ _ _ _ (omega (arith, ints)) (omega (arith, ints)) (omega (arith, ints)) (omega (arith, ints))

-- the point lies in the box of two, as it lies in the first
in_first : (a b : RectModel) (p : PointModel) → HasPoint a p → HasPoint (joined a b) p
in_first a b p in_a = record {
  left = omega (arith, ints, clamps);
  right = omega (arith, ints, clamps);
  bottom = omega (arith, ints, clamps);
  top = omega (arith, ints, clamps);
}

in_second : (a b : RectModel) (p : PointModel) → HasPoint b p → HasPoint (joined a b) p
in_second a b p in_b = record {
  left = omega (arith, ints, clamps);
  right = omega (arith, ints, clamps);
  bottom = omega (arith, ints, clamps);
  top = omega (arith, ints, clamps);
}

-- and what holds both holds the box of two
holds_joined : (other a b : RectModel) → IsWithin other a → IsWithin other b → HasAllPoints other (joined a b)
holds_joined other a b first second p there = record {
  left = omega (arith, ints, clamps);
  right = omega (arith, ints, clamps);
  bottom = omega (arith, ints, clamps);
  top = omega (arith, ints, clamps);
}

wide_joined : (a b : RectModel) → a.x1 ≤ℤ a.x2 → (joined a b).x1 ≤ℤ (joined a b).x2
wide_joined a b wide = omega (arith, ints, clamps)

high_joined : (a b : RectModel) → a.y1 ≤ℤ a.y2 → (joined a b).y1 ≤ℤ (joined a b).y2
high_joined a b high = omega (arith, ints, clamps)

module _ (H K : PointModel → Type 0) where
  pub least_joined : (a b : RectModel) → IsLeastBox H a → IsLeastBox K b → IsLeastBox (λ p. H p ⊎ K p) (joined a b)
  least_joined a b first second = record {
    wide = wide_joined a b first.wide;
    high = high_joined a b first.high;
    around = λ p has. elim has [
      | inl h ↦ in_first a b p (first.around p h)
      | inr k ↦ in_second a b p (second.around p k)
    ];
    least = λ other holds.
        holds_joined other a b
        (within other a first.wide first.high (first.least other (λ p h. holds p (inl h))))
        (within other b second.wide second.high (second.least other (λ p k. holds p (inr k))));
  }

  -- round the same points there is the same box
  pub least_same : ((p : PointModel) → H p → K p) → ((p : PointModel) → K p → H p) → (box : Option RectModel) → IsLeastBoxIfAny H box → IsLeastBoxIfAny K box
  least_same there back None none = λ p k. none p (back p k)
  least_same there back (Some box) least = record {
    wide = least.wide;
    high = least.high;
    around = λ p k. least.around p (back p k);
    least = λ other holds. least.least other (λ p h. holds p (there p h));
  }

pub one_least : (H : PointModel → Type 0) (a b : RectModel) → IsLeastBox H a → IsLeastBox H b → a ≡ b
one_least H a b first second =
    each_within a b
    (within a b second.wide second.high (second.least a first.around))
    (within b a first.wide first.high (first.least b second.around))

nothing_in : RectModel
nothing_in = record { x1 = pos 1; y1 = pos 0; x2 = pos 0; y2 = pos 0 }

in_nothing : (p : PointModel) → HasPoint nothing_in p → ⊥
unfolding nothing_in
in_nothing p has = omega (arith, ints)

-- where there are no points, no box is the least round them
pub none_least : (H : PointModel → Type 0) (box : RectModel) → ((p : PointModel) → H p → ⊥) → IsLeastBox H box → ⊥
none_least H box none least =
    in_nothing _ (least.least nothing_in (λ p h. absurd (none p h)) _ (has_lower_left box least.wide least.high))

pub one_least_if_any : (H : PointModel → Type 0) (a b : Option RectModel) → IsLeastBoxIfAny H a → IsLeastBoxIfAny H b → a ≡ b
one_least_if_any H None None first second = refl
one_least_if_any H None (Some b) first second = absurd (none_least H b first second)
one_least_if_any H (Some a) None first second = absurd (none_least H a second first)
one_least_if_any H (Some a) (Some b) first second = ap Some (one_least H a b first second)

-- boxes that there may be join to one round the points of both
pub least_joined_if_any : (H K : PointModel → Type 0) (a b : Option RectModel) → IsLeastBoxIfAny H a → IsLeastBoxIfAny K b
    → IsLeastBoxIfAny (λ p. H p ⊎ K p) (joined_if_any a b)
least_joined_if_any H K None None none nor = λ p has. elim has [ inl h ↦ none p h | inr k ↦ nor p k ]
least_joined_if_any H K None (Some b) none second =
    least_same K (λ p. H p ⊎ K p) (λ p k. inr k) (λ p has. elim has [ inl h ↦ absurd (none p h) | inr k ↦ k ]) (Some b) second
least_joined_if_any H K (Some a) None first nor =
    least_same H (λ p. H p ⊎ K p) (λ p h. inl h) (λ p has. elim has [ inl h ↦ h | inr k ↦ absurd (nor p k) ]) (Some a) first
least_joined_if_any H K (Some a) (Some b) first second = least_joined H K a b first second
