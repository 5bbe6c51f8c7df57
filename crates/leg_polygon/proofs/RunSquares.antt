-- The rectangles between the edges of a band: where they lie, in which order, and which places they have.
use Rattle.std.proofs.Common.{◌≡◌, ℤ, ◌≤ℤ◌, ◌<ℤ◌, true, false, List, [], ◌∷◌, AllPairs, Contains, inl, inr, refl, sym, ap, ◌∙◌, arith}
use Rattle.std.specs.Prelude.{int_le}
use Rattle.std.proofs.lemmas.Bool.{false≢true, true≢false}
use Rattle.std.proofs.lemmas.Int.{ints}
use Rattle.std.proofs.lemmas.List.Elements.{All-cons, All-weaker}
use Rattle.std.proofs.lemmas.List.Kept.{AllPairs-cons}
use Rattle.leg_lemmas.proofs.Contents.{Contains-nil, Contains-here, Contains-there, Contains-cons_cases, All-from_contains}
use Rattle.leg_lemmas.proofs.Integers.{cases_lt_z, le_test, lt_trans_z}
use Rattle.leg_lemmas.proofs.RisingLists.{AllPairs-nil, AllPairs-head}
use Rattle.leg_geom.specs.Plane.{RectModel}
use Rattle.leg_polygon.specs.Inside.{is_odd, differ}
use Rattle.leg_polygon.specs.Slab.{runs, ComesBefore}
use Rattle.leg_polygon.proofs.Parity.{is_odd-nil, is_odd-cons, is_odd-none, differ_twice}
use Rattle.leg_polygon.proofs.RisingNumbers.{Rise, above_first, rest_rises}

-- a rectangle between two edges of the band
pub record IsRun (band : ℤ × ℤ) (es : List ℤ) (r : RectModel) : Type 0 where
  pub low : r.y1 ≡ band.0
  pub high : r.y2 ≡ band.1
  pub west : Contains es r.x1
  pub wide : r.x1 <ℤ r.x2

pub run_is : (band : ℤ × ℤ) (es : List ℤ) (r : RectModel) → Rise es → Contains (runs band es) r → IsRun band es r
run_is band [] r rise c = absurd (Contains-nil r c)
run_is band (a ∷ []) r rise c = absurd (Contains-nil r c)
run_is band (a ∷ b ∷ es) r rise c =
    elim (Contains-cons_cases (record { x1 = a; y1 = band.0; x2 = b; y2 = band.1 }) (runs band es) r c) [
      | inl here ↦ record {
        low = ap (λ q. q.y1) (sym here);
        high = ap (λ q. q.y2) (sym here);
        west = rw (← here) (Contains-here a (b ∷ es));
        wide = rw (← here) (above_first a (b ∷ es) b rise (Contains-here b es));
      }
      | inr later ↦
          let rest = run_is band es r (rest_rises b es (rest_rises a (b ∷ es) rise)) later in
          record { low = rest.low; high = rest.high; west = Contains-there a (b ∷ es) r.x1 (Contains-there b es r.x1 rest.west); wide = rest.wide }
    ]

-- they stand from west to east, with gaps
pub runs_order : (band : ℤ × ℤ) (es : List ℤ) → Rise es → AllPairs ComesBefore (runs band es)
runs_order band [] rise = AllPairs-nil ComesBefore
runs_order band (a ∷ []) rise = AllPairs-nil ComesBefore
runs_order band (a ∷ b ∷ es) rise =
    let rise_b : Rise (b ∷ es) = rest_rises a (b ∷ es) rise in
    let rise_es : Rise es = rest_rises b es rise_b in
    let first : RectModel = record { x1 = a; y1 = band.0; x2 = b; y2 = band.1 } in
    let before : (r : RectModel) → Contains (runs band es) r → ComesBefore first r =
    λ r c. let run = run_is band es r rise_es c in inr (sym run.low, above_first b es r.x1 rise_b run.west) in
    AllPairs-cons ComesBefore first (runs band es) (All-from_contains (ComesBefore first) (runs band es) before) (runs_order band es rise_es)

-- no edge stands at or to the west of a place that is to the west of the first
module _ (x : ℤ) where
  not_upto : (e : ℤ) → x <ℤ e → int_le e x ≡ false
  not_upto e less = grind (arith, ints)

  none_upto : (a : ℤ) (es : List ℤ) → Rise (a ∷ es) → x <ℤ a → is_odd (λ e. int_le e x) (a ∷ es) ≡ false
  none_upto a es rise less =
      is_odd-none (λ e. int_le e x) (a ∷ es)
      (All-cons (λ e. int_le e x ≡ false) a es (not_upto a less)
      (All-weaker (λ e. a <ℤ e) (λ e. int_le e x ≡ false) (λ e more. not_upto e (lt_trans_z x a e less more)) es (AllPairs-head (λ y z. y <ℤ z) a es rise)))

  two_upto : (a b : ℤ) (es : List ℤ) → a ≤ℤ x → b ≤ℤ x → is_odd (λ e. int_le e x) (a ∷ b ∷ es) ≡ is_odd (λ e. int_le e x) es
  two_upto a b es first second =
      is_odd-cons (λ e. int_le e x) a (b ∷ es)
      ∙ ap (differ (int_le a x)) (is_odd-cons (λ e. int_le e x) b es)
      ∙ rw (le_test a x first, le_test b x second) (differ_twice true (is_odd (λ e. int_le e x) es))

two_even : (a b : ℤ) (es : List ℤ) → is_odd (λ e. true) (a ∷ b ∷ es) ≡ is_odd (λ e. true) es
two_even a b es =
    is_odd-cons (λ e. true) a (b ∷ es) ∙ ap (differ true) (is_odd-cons (λ e. true) b es) ∙ differ_twice true (is_odd (λ e. true) es)

-- a place between the edges of a rectangle of the band
pub record HasPlace (rects : List RectModel) (x : ℤ) : Type 0 where
  pub rect : RectModel
  pub given : Contains rects rect
  pub west : rect.x1 ≤ℤ x
  pub east : x <ℤ rect.x2

pub place_has : (band : ℤ × ℤ) (es : List ℤ) (x : ℤ) → Rise es → is_odd (λ e. true) es ≡ false → is_odd (λ e. int_le e x) es ≡ true
    → HasPlace (runs band es) x
place_has band [] x rise even odd = absurd (false≢true (sym (is_odd-nil (λ e. int_le e x)) ∙ odd))
place_has band (a ∷ []) x rise even odd =
    absurd (true≢false (sym (is_odd-cons (λ e. true) a [] ∙ ap (differ true) (is_odd-nil {X = ℤ} (λ e. true))) ∙ even))
place_has band (a ∷ b ∷ es) x rise even odd =
    let first : RectModel = record { x1 = a; y1 = band.0; x2 = b; y2 = band.1 } in
    elim (cases_lt_z x a) [
      | inl west ↦ absurd (false≢true (sym (none_upto x a (b ∷ es) rise west) ∙ odd))
      | inr upto ↦ elim (cases_lt_z x b) [
        | inl east ↦ record { rect = first; given = Contains-here first (runs band es); west = upto; east = east }
        | inr beyond ↦
            let rest =
            place_has band es x (rest_rises b es (rest_rises a (b ∷ es) rise)) (sym (two_even a b es) ∙ even) (sym (two_upto x a b es upto beyond) ∙ odd) in
            record { rect = rest.rect; given = Contains-there first (runs band es) rest.rect rest.given; west = rest.west; east = rest.east }
      ]
    ]

pub place_odd : (band : ℤ × ℤ) (es : List ℤ) (x : ℤ) (r : RectModel) → Rise es → Contains (runs band es) r → r.x1 ≤ℤ x → x <ℤ r.x2
    → is_odd (λ e. int_le e x) es ≡ true
place_odd band [] x r rise c west east = absurd (Contains-nil r c)
place_odd band (a ∷ []) x r rise c west east = absurd (Contains-nil r c)
place_odd band (a ∷ b ∷ es) x r rise c west east =
    let rise_b : Rise (b ∷ es) = rest_rises a (b ∷ es) rise in
    let rise_es : Rise es = rest_rises b es rise_b in
    elim (Contains-cons_cases (record { x1 = a; y1 = band.0; x2 = b; y2 = band.1 }) (runs band es) r c) [
      | inl here ↦
          let low : a ≤ℤ x = rw (← here) at west in
          let high : x <ℤ b = rw (← here) at east in
          is_odd-cons (λ e. int_le e x) a (b ∷ es) ∙ rw (le_test a x low, none_upto x b es rise_b high) refl
      | inr later ↦
          let run = run_is band es r rise_es later in
          let above_b : b <ℤ r.x1 = above_first b es r.x1 rise_b run.west in
          let above_a : a <ℤ b = above_first a (b ∷ es) b rise (Contains-here b es) in
          let first : a ≤ℤ x = omega (arith, ints) in
          let second : b ≤ℤ x = omega (arith, ints) in
          two_upto x a b es first second ∙ place_odd band es x r rise_es later west east
    ]
