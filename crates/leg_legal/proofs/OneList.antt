-- Two lists of the same violations are equal.
use Rattle.std.proofs.Common.{◌≡◌, List, refl, arith}
use Rattle.std.proofs.lemmas.List.Elements.{All-contains}
use Rattle.leg_lemmas.proofs.RisingLists.{same_rising}
use Rattle.leg_design_records.specs.declared.fault.Fault.{Fault}
use Rattle.leg_design_records.specs.Violation.{kind_number, numbers_of, ComesBefore, IsListOf}

ComesBefore-irreflexive : (v : Fault) → ComesBefore v v → ⊥
ComesBefore-irreflexive v before = omega (arith, before.second refl refl)

module _ (u v w : Fault) (one : ComesBefore u v) (two : ComesBefore v w) where
  -- of one kind, if the outer two are
  inner_kinds : kind_number u ≡ kind_number w → (kind_number u ≡ kind_number v) × (kind_number v ≡ kind_number w)
  inner_kinds same = (omega (arith, same, one.kind, two.kind), omega (arith, same, one.kind, two.kind))

  inner_numbers : kind_number u ≡ kind_number w → (numbers_of u).0 ≡ (numbers_of w).0
      → ((numbers_of u).0 ≡ (numbers_of v).0) × ((numbers_of v).0 ≡ (numbers_of w).0)
  inner_numbers same first =
      let kinds = inner_kinds same in
      let a = one.first kinds.0 in
      let b = two.first kinds.1 in
      (omega (arith, first, a, b), omega (arith, first, a, b))

  ComesBefore-transitive : ComesBefore u w
  ComesBefore-transitive = record {
    kind = omega (arith, one.kind, two.kind);
    first = λ same. (let kinds = inner_kinds same in omega (arith, one.first kinds.0, two.first kinds.1));
    second =
        λ same first. (let kinds = inner_kinds same in let numbers = inner_numbers same first in
        omega (arith, one.second kinds.0 numbers.0, two.second kinds.1 numbers.1));
  }

pub one_list : (Holds : Fault → Type 0) (xs ys : List Fault) → IsListOf Holds xs → IsListOf Holds ys → xs ≡ ys
one_list Holds xs ys one two =
    same_rising ComesBefore ComesBefore-irreflexive ComesBefore-transitive xs ys one.increasing two.increasing
    (λ v has. two.all v (All-contains Holds xs v one.each has)) (λ v has. one.all v (All-contains Holds ys v two.each has))
