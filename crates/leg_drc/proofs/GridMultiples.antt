-- Coordinates on the manufacturing grid: a multiple is one by its absolute value.
use Rattle.std.proofs.Common.{◌≡◌, ◌↔◌, ℕ, zero, suc, ◌*◌, ◌/◌, ◌%◌, ◌<◌, ℤ, pos, negsuc, ◌*ℤ◌, ◌<ℤ◌, unsigned_abs, [], ◌∷◌, get_or, Bool, true, false, not, ◌&&◌, IsTrue, eqb, refl, sym, ap, ◌∙◌, arith}
use Rattle.std.proofs.Math.Nat.{mul-mod_left}
use Rattle.std.proofs.Math.IntN.{neg_ℤ}
use Rattle.std.proofs.lemmas.List.Elements.{All-nil, All-cons, All-contains, Contains-get_or}
use Rattle.std.proofs.lemmas.Nat.{div-add-mod'}
use Rattle.std.proofs.lemmas.Bool.{false≢true}
use Rattle.std.proofs.lemmas.Bool.Decides.{nat_tests}
use Rattle.std.proofs.lemmas.Int.{ints, unsigned_abs-mul}
use Rattle.leg_geom.specs.Plane.{RectModel}
use Rattle.leg_drc.specs.Sides.{coordinates}
use Rattle.leg_drc.specs.OneShape.{IsMultiple}
use Rattle.leg_drc.specs.Steps.ShapeParts.{HasSideOff}

module _ (units : ℕ) (grid z : ℤ) where
  -- the step of the grid, in parts of a unit
  abbrev step : ℕ
  step = unsigned_abs grid * units

  -- the remainder of a multiple is 0
  pub no_remainder : IsMultiple units grid z → unsigned_abs z * 1000000 % step ≡ 0
  no_remainder (k, is) =
      let left : unsigned_abs (z *ℤ pos 1000000) ≡ unsigned_abs z * 1000000 = unsigned_abs-mul z (pos 1000000) in
      let inner : unsigned_abs (grid *ℤ pos units) ≡ step = unsigned_abs-mul grid (pos units) in
      let right : unsigned_abs (k *ℤ (grid *ℤ pos units)) ≡ unsigned_abs k * step = unsigned_abs-mul k (grid *ℤ pos units) ∙ ap (λ n. unsigned_abs k
      * n) inner in
      let same : unsigned_abs z * 1000000 ≡ unsigned_abs k * step = sym left ∙ ap unsigned_abs is ∙ right in
      rw same (mul-mod_left (unsigned_abs k) step)

-- where the remainder is 0, the number is a multiple
multiple_from : (units : ℕ) (grid z : ℤ) → pos 0 <ℤ grid → unsigned_abs z * 1000000 % (unsigned_abs grid * units) ≡ 0 → IsMultiple units grid z
multiple_from units (pos g) (pos a) above none =
    let q = a * 1000000 / (g * units) in
    let whole : a * 1000000 ≡ q * (g * units) = omega (arith, none, div-add-mod' (a * 1000000) (g * units)) in
    (pos q, ap pos whole)
multiple_from units (pos g) (negsuc a) above none =
    let q = suc a * 1000000 / (g * units) in
    let whole : suc a * 1000000 ≡ q * (g * units) = omega (arith, none, div-add-mod' (suc a * 1000000) (g * units)) in
    by q whole
  where
    by : (q : ℕ) → suc a * 1000000 ≡ q * (g * units) → IsMultiple units (pos g) (negsuc a)
    by zero whole = absurd (omega (arith, whole))
    by (suc q) whole = (negsuc q, ap (λ n. neg_ℤ (pos n)) whole)
multiple_from units (negsuc g) z above none = absurd (omega (arith, ints, above))

-- a number is a multiple just where the remainder of its absolute value is 0
pub multiple_told : (units : ℕ) (grid z : ℤ) (m d : ℕ) → m ≡ unsigned_abs z * 1000000 → d ≡ unsigned_abs grid * units → pos 0 <ℤ grid
    → IsTrue (eqb (m % d) 0) ↔ IsMultiple units grid z
multiple_told units grid z m d m_is d_is above = (
  λ test.
      let none : m % d ≡ 0 = grind (arith, nat_tests) in
      multiple_from units grid z above (rw (← m_is, ← d_is) none),
  λ is.
      let none : m % d ≡ 0 = rw (m_is, d_is) (no_remainder units grid z is) in
      grind (arith, nat_tests),
)

-- a side is off the grid just where not all four are on it
module _ (units : ℕ) (grid : ℤ) (rect : RectModel) where
  pub sides_on : IsMultiple units grid rect.x1 → IsMultiple units grid rect.y1 → IsMultiple units grid rect.x2 → IsMultiple units grid rect.y2
      → HasSideOff units grid rect → ⊥
  sides_on left bottom right top off =
      off.off (All-contains (IsMultiple units grid) (coordinates rect) off.z
      (All-cons (IsMultiple units grid) rect.x1 (rect.y1 ∷ rect.x2 ∷ rect.y2 ∷ []) left
      (All-cons (IsMultiple units grid) rect.y1 (rect.x2 ∷ rect.y2 ∷ []) bottom
      (All-cons (IsMultiple units grid) rect.x2 (rect.y2 ∷ []) right
      (All-cons (IsMultiple units grid) rect.y2 [] top (All-nil (IsMultiple units grid))))))
      off.side)

  pub side_off : (k : ℕ) → k < 4 → (IsMultiple units grid (get_or (coordinates rect) k (pos 0)) → ⊥) → HasSideOff units grid rect
  side_off k within off =
      record { z = get_or (coordinates rect) k (pos 0); side = Contains-get_or (coordinates rect) k (pos 0) within; off = off }

  -- what four tests say together
  pub sides_told : (left bottom right top : Bool) → IsTrue left ↔ IsMultiple units grid rect.x1 → IsTrue bottom ↔ IsMultiple units grid rect.y1
      → IsTrue right ↔ IsMultiple units grid rect.x2 → IsTrue top ↔ IsMultiple units grid rect.y2 → (all : Bool)
      → all ≡ (left && bottom && right && top) → IsTrue (not all) ↔ HasSideOff units grid rect
  sides_told false bottom right top l b r t all is = rw is (λ _. side_off 0 (omega arith) (λ on. false≢true (l.1 on)), λ _. refl)
  sides_told true false right top l b r t all is = rw is (λ _. side_off 1 (omega arith) (λ on. false≢true (b.1 on)), λ _. refl)
  sides_told true true false top l b r t all is = rw is (λ _. side_off 2 (omega arith) (λ on. false≢true (r.1 on)), λ _. refl)
  sides_told true true true false l b r t all is = rw is (λ _. side_off 3 (omega arith) (λ on. false≢true (t.1 on)), λ _. refl)
  sides_told true true true true l b r t all is =
      rw is (λ test. absurd (false≢true test), λ off. absurd (sides_on (l.0 refl) (b.0 refl) (r.0 refl) (t.0 refl) off))
