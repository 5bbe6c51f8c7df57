-- The nearest is the last one up to the lowest place of a valley, or the first one from there on.
use Rattle.std.proofs.Common.{◌≡◌, ℕ, ◌<◌, ◌≤◌, inl, inr, arith}
use Rattle.std.proofs.lemmas.Bool.{cases_lt, cases_eq}
use Rattle.leg_legal_sites.specs.Steps.Nearest.{IsValley, IsLeastOf}

-- the last up to the middle, and the first from there on
pub record IsLeft (middle : ℕ) (P : ℕ → Type 0) (left : ℕ) : Type 0 where
  pub holds : P left
  pub upto : left ≤ middle
  pub last : (k : ℕ) → P k → k ≤ middle → k ≤ left

pub record IsRight (middle : ℕ) (P : ℕ → Type 0) (right : ℕ) : Type 0 where
  pub holds : P right
  pub from : middle ≤ right
  pub first : (k : ℕ) → P k → middle ≤ k → right ≤ k

module _ (away : ℕ → ℕ) (middle : ℕ) (valley : IsValley away middle) (P : ℕ → Type 0) where
  falls_upto : (j k : ℕ) → j ≤ k → k ≤ middle → away k ≤ away j
  falls_upto j k order upto =
      elim (cases_eq j k) [
        | inl same ↦ rw same (omega arith)
        | inr differ ↦ let fall = valley.falls j k (omega arith) upto in omega arith
      ]

  pub right_nearer : (left right : ℕ) → IsLeft middle P left → IsRight middle P right → away right < away left → IsLeastOf away P right
  right_nearer left right l r nearer = record {
    holds = r.holds;
    near = λ j has.
        elim (cases_lt middle j) [
          | inl beyond ↦ valley.rises right j r.from (r.first j has (omega arith))
          | inr upto ↦ let fall = falls_upto j left (l.last j has upto) l.upto in omega arith
        ];
    first = λ j has near.
        elim (cases_lt middle j) [
          | inl beyond ↦ r.first j has (omega arith)
          | inr upto ↦ let fall = falls_upto j left (l.last j has upto) l.upto in absurd (omega arith)
        ];
  }

  pub left_nearer : (left right : ℕ) → IsLeft middle P left → IsRight middle P right → away left ≤ away right → IsLeastOf away P left
  left_nearer left right l r nearer = record {
    holds = l.holds;
    near = λ j has.
        elim (cases_lt middle j) [
          | inl beyond ↦ let rise = valley.rises right j r.from (r.first j has (omega arith)) in omega arith
          | inr upto ↦ falls_upto j left (l.last j has upto) l.upto
        ];
    first = λ j has near.
        elim (cases_lt j left) [
          | inl before ↦
              let upto = l.upto in
              let fall = valley.falls j left before l.upto in
              absurd (omega arith)
          | inr after ↦ after
        ];
  }

  pub left_alone : (left : ℕ) → IsLeft middle P left → ((k : ℕ) → P k → middle ≤ k → ⊥) → IsLeastOf away P left
  left_alone left l never = record {
    holds = l.holds;
    near = λ j has.
        elim (cases_lt middle j) [
          | inl beyond ↦ absurd (never j has (omega arith))
          | inr upto ↦ falls_upto j left (l.last j has upto) l.upto
        ];
    first = λ j has near.
        elim (cases_lt j left) [
          | inl before ↦
              let upto = l.upto in
              let fall = valley.falls j left before l.upto in
              absurd (omega arith)
          | inr after ↦ after
        ];
  }

  -- none is nearer than the lowest place itself
  pub lowest_nearest : (left : ℕ) → IsLeft middle P left → left ≡ middle → IsLeastOf away P left
  lowest_nearest left l same = record {
    holds = l.holds;
    near = λ j has.
        elim (cases_lt middle j) [
          | inl beyond ↦ valley.rises left j (omega arith) (omega arith)
          | inr upto ↦ falls_upto j left (l.last j has upto) l.upto
        ];
    first = λ j has near.
        elim (cases_lt j left) [
          | inl before ↦
              let upto = l.upto in
              let fall = valley.falls j left before l.upto in
              absurd (omega arith)
          | inr after ↦ after
        ];
  }

  pub right_alone : (right : ℕ) → IsRight middle P right → ((k : ℕ) → P k → k ≤ middle → ⊥) → IsLeastOf away P right
  right_alone right r never = record {
    holds = r.holds;
    near = λ j has.
        elim (cases_lt middle j) [
          | inl beyond ↦ valley.rises right j r.from (r.first j has (omega arith))
          | inr upto ↦ absurd (never j has upto)
        ];
    first = λ j has near.
        elim (cases_lt middle j) [
          | inl beyond ↦ r.first j has (omega arith)
          | inr upto ↦ absurd (never j has upto)
        ];
  }
