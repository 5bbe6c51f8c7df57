-- How far the sites of a row are from a point: the distance falls up to one site, and rises from it on.
use Rattle.std.proofs.Common.{◌≡◌, ℕ, ◌+◌, ◌-◌, ◌*◌, ◌/◌, ◌%◌, ◌<◌, ◌≤◌, pos, ◌+ℤ◌, ◌*ℤ◌, inl, inr, ap, ◌∙◌, arith}
use Rattle.std.proofs.Math.IntN.{pos-*ℤ-pos}
use Rattle.std.proofs.lemmas.Bool.{cases_eq}
use Rattle.std.proofs.lemmas.Int.{ints}
use Rattle.leg_legal_sites.specs.declared.nearest.Pitch.{Pitch}
use Rattle.leg_legal_sites.specs.Steps.Nearest.{x_away, IsValley}

pub step_up : (j k n : ℕ) → j < k → j * n + n ≤ k * n
step_up j k n order = grind arith

-- a number is so many times another, and a rest
pub parts : (offset width : ℕ) → 1 ≤ width → (offset / width) * width + offset % width ≡ offset
parts offset width some = omega arith

-- the distance of two numbers
abbrev pub between_ℕ : ℕ → ℕ → ℕ
between_ℕ m n = (m - n) + (n - m)

-- what a site's distance is, for a start that lies so far to the right of the row's left edge
pub x_away_is : (pitch : Pitch) (width offset : ℕ) → pitch.width ≡ pos width → pitch.start ≡ pitch.left +ℤ pos offset → (k : ℕ)
    → x_away pitch k ≡ between_ℕ (k * width) offset
x_away_is pitch width offset wide start k =
    let product : pos k *ℤ pitch.width ≡ pos (k * width) = ap (λ z. pos k *ℤ z) wide ∙ pos-*ℤ-pos k width in
    omega (arith, ints, product, start)

module _ (width offset below rest : ℕ) (some : 1 ≤ width) (sum : below * width + rest ≡ offset) (part : rest < width) where
  -- the site below the start is as near as the one above it
  pub valley_below : rest + rest ≤ width → IsValley (λ k. between_ℕ (k * width) offset) below
  valley_below near = record {
    falls = λ j k order upto.
        let up = step_up j k width order in
        elim (cases_eq k below) [
          | inl same ↦ let e : k * width ≡ below * width = ap (λ n. n * width) same in omega arith
          | inr differ ↦ let more = step_up k below width (omega arith) in omega arith
        ];
    rises = λ j k from order.
        elim (cases_eq j k) [
          | inl same ↦ let e : j * width ≡ k * width = ap (λ n. n * width) same in omega arith
          | inr differ ↦
              let up = step_up j k width (omega arith) in
              elim (cases_eq below j) [
                | inl same ↦ let e : below * width ≡ j * width = ap (λ n. n * width) same in omega arith
                | inr more ↦ let beyond = step_up below j width (omega arith) in omega arith
              ]
        ];
  }

  -- the site above the start is nearer than the one below it
  pub valley_above : width < rest + rest → IsValley (λ k. between_ℕ (k * width) offset) (below + 1)
  valley_above near =
      let next : (below + 1) * width ≡ below * width + width = grind arith in
      record {
        falls = λ j k order upto.
            let up = step_up j k width order in
            elim (cases_eq k (below + 1)) [
              | inl same ↦
                  let e : k * width ≡ (below + 1) * width = ap (λ n. n * width) same in
                  elim (cases_eq j below) [
                    | inl last ↦ let f : j * width ≡ below * width = ap (λ n. n * width) last in omega arith
                    | inr earlier ↦ let more = step_up j below width (omega arith) in omega arith
                  ]
              | inr differ ↦
                  elim (cases_eq k below) [
                    | inl same ↦ let e : k * width ≡ below * width = ap (λ n. n * width) same in omega arith
                    | inr earlier ↦ let more = step_up k below width (omega arith) in omega arith
                  ]
            ];
        rises = λ j k from order.
            let beyond = step_up below j width (omega arith) in
            elim (cases_eq j k) [
              | inl same ↦ let e : j * width ≡ k * width = ap (λ n. n * width) same in omega arith
              | inr differ ↦ let up = step_up j k width (omega arith) in omega arith
            ];
      }

-- the same of the distances of sites
pub valley_same : (pitch : Pitch) (width offset lowest : ℕ) → pitch.width ≡ pos width → pitch.start ≡ pitch.left +ℤ pos offset
    → IsValley (λ k. between_ℕ (k * width) offset) lowest → IsValley (x_away pitch) lowest
valley_same pitch width offset lowest wide start valley = record {
  falls = λ j k order upto. rw (x_away_is pitch width offset wide start j, x_away_is pitch width offset wide start k) (valley.falls j k order upto);
  rises = λ j k from order. rw (x_away_is pitch width offset wide start j, x_away_is pitch width offset wide start k) (valley.rises j k from order);
}
