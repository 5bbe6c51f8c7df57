-- The best position in the rows that were looked at.
use Rattle.std.proofs.Common.{◌≡◌, ◌⊎◌, Bool, true, false, Option, None, Some, IsTrue, inl, inr, refl, sym, ◌∙◌, arith}
use Rattle.std.proofs.lemmas.Bool.{false≢true}
use Rattle.leg_rules.specs.declared.position.Candidate.{Candidate}
use Rattle.leg_legal_sites.specs.Steps.BestPosition.{IsBestOf, IsBetterOf}
use Rattle.leg_rules.specs.Legalise.Preference.{IsNoWorse}

same_flag : (a b : Bool) → (IsTrue a → IsTrue b) → (IsTrue b → IsTrue a) → a ≡ b
same_flag true true up down = refl
same_flag true false up down = absurd (false≢true (up refl))
same_flag false true up down = absurd (false≢true (down refl))
same_flag false false up down = refl

pub no_worse_itself : (c : Candidate) → IsNoWorse c c
no_worse_itself c = record {
  distance = omega arith;
  turned = λ tie t. t;
  row = λ tie turn. omega arith;
  first = λ tie turn level. omega arith;
}

pub no_worse_than_worse : (a b c : Candidate) → IsNoWorse a b → IsNoWorse b c → IsNoWorse a c
no_worse_than_worse a b c ab bc =
    let near_ab = ab.distance in
    let near_bc = bc.distance in
    record {
      distance = omega arith;
      turned = λ tie t. bc.turned (omega arith) (ab.turned (omega arith) t);
      row = λ tie turn.
          let flags : a.turned ≡ b.turned = same_flag a.turned b.turned (ab.turned (omega arith)) (λ t. rw turn (bc.turned (omega arith) t)) in
          let row_ab = ab.row (omega arith) flags in
          let row_bc = bc.row (omega arith) (sym flags ∙ turn) in
          omega arith;
      first = λ tie turn level.
          let flags : a.turned ≡ b.turned = same_flag a.turned b.turned (ab.turned (omega arith)) (λ t. rw turn (bc.turned (omega arith) t)) in
          let row_ab = ab.row (omega arith) flags in
          let row_bc = bc.row (omega arith) (sym flags ∙ turn) in
          let first_ab = ab.first (omega arith) flags (omega arith) in
          let first_bc = bc.first (omega arith) (sym flags ∙ turn) (omega arith) in
          omega arith;
    }

-- the better of the best of two kinds is the best of both
pub best_of_both : (P Q R : Candidate → Type 0) → ((d : Candidate) → P d → R d) → ((d : Candidate) → Q d → R d) → ((d : Candidate) → R d → P d ⊎ Q d)
    → (a b r : Option Candidate) → IsBestOf P a → IsBestOf Q b → IsBetterOf a b r → IsBestOf R r
best_of_both P Q R from_p from_q split None None r no_p no_q is =
    rw is (λ d has. elim (split d has) [
      | inl p ↦ no_p d p
      | inr q ↦ no_q d q
    ])
best_of_both P Q R from_p from_q split None (Some b) r no_p best_q is =
    rw is (
      from_q b best_q.0,
      λ d has.
          elim (split d has) [
            | inl p ↦ absurd (no_p d p)
            | inr q ↦ best_q.1 d q
          ],
    )
best_of_both P Q R from_p from_q split (Some a) None r best_p no_q is =
    rw is (
      from_p a best_p.0,
      λ d has.
          elim (split d has) [
            | inl p ↦ best_p.1 d p
            | inr q ↦ absurd (no_q d q)
          ],
    )
best_of_both P Q R from_p from_q split (Some a) (Some b) r best_p best_q is =
    elim is [
      | inl first ↦
          rw first.0 (
            from_p a best_p.0,
            λ d has.
                elim (split d has) [
                  | inl p ↦ best_p.1 d p
                  | inr q ↦ no_worse_than_worse a b d first.1 (best_q.1 d q)
                ],
          )
      | inr second ↦
          rw second.0 (
            from_q b best_q.0,
            λ d has.
                elim (split d has) [
                  | inl p ↦ no_worse_than_worse b a d second.1 (best_p.1 d p)
                  | inr q ↦ best_q.1 d q
                ],
          )
    ]

pub best_of_same : (P R : Candidate → Type 0) → ((d : Candidate) → P d → R d) → ((d : Candidate) → R d → P d) → (best : Option Candidate) → IsBestOf P best
    → IsBestOf R best
best_of_same P R from_p from_r None no_p = λ d has. no_p d (from_r d has)
best_of_same P R from_p from_r (Some c) is = (from_p c is.0, λ d has. is.1 d (from_r d has))
