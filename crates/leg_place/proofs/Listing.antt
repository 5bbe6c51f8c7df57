-- How the list of violations goes on.
use Rattle.std.proofs.Common.{◌≡◌, ℕ, Bool, ◌+◌, List, [], ◌∷◌, ◌++◌, length, ◌⊎◌, inl, inr, arith}
use Rattle.std.proofs.lemmas.Bool.{cases_lt, cases_eq}
use Rattle.std.proofs.lemmas.List.Elements.{All-push, All-weaker, Contains-append_left, Contains-push}
use Rattle.std.proofs.lemmas.List.Quantifiers.{all_pairs_push}
use Rattle.leg_design_records.specs.Records.{DesignModel}
use Rattle.leg_design_records.specs.declared.fault.Fault.{Fault}
use Rattle.leg_design_records.specs.Violation.{kind_number, numbers_of, ComesBefore, IsListOf}
use Rattle.leg_place.specs.declared.component_fault.ComponentFault.{ComponentFault}
use Rattle.leg_place.specs.Among.{IsViolationAmong}
use Rattle.leg_place.specs.Steps.ComponentFault.{fault_of}
use Rattle.leg_place.specs.Steps.ListPrefix.{IsViolationBefore, IsListBefore}
use Rattle.leg_place.proofs.PlaceFaults.{placement_end, kind_below, component_below, same_list}
use Rattle.leg_place.proofs.ComponentFaults.{number_of_kind, of_component, is_of_component}

module _ (design : DesignModel) (marks : List Bool) where
  -- behind the last component the next kind begins
  pub listing_end : (kind c : ℕ) → c ≡ length design.components → (found : List Fault)
      → IsListBefore design marks kind c found → IsListBefore design marks (kind + 1) 0 found
  listing_end kind c last found done =
      same_list (IsViolationBefore design marks kind c) (IsViolationBefore design marks (kind + 1) 0)
      (λ v held. record { holds = held.holds; upto = omega (arith, held.upto); below = λ same. absurd (omega (arith, held.upto, same)) })
      (λ v held. record {
        holds = held.holds;
        upto = elim (cases_eq (kind_number v) (kind + 1)) [
          | inl same ↦ absurd (let first = held.below same in omega (arith, first))
          | inr apart ↦ omega (arith, held.upto, apart)
        ];
        below = λ same. (let within = component_below design v held.holds.holds in omega (arith, within, last));
      })
      found done

  -- at the end of the kinds of placement the list is whole
  pub listing_whole : (found : List Fault) → IsListBefore design marks placement_end 0 found → IsListOf (IsViolationAmong design marks) found
  listing_whole found done =
      same_list (IsViolationBefore design marks placement_end 0) (IsViolationAmong design marks)
      (λ v held. held.holds)
      (λ v holds.
      let below = kind_below design v holds.holds in
      record { holds = holds; upto = omega (arith, below); below = λ same. absurd (omega (arith, below, same)) })
      found done

  module _ (kind : ComponentFault) (c : ℕ) where
    -- what comes before the violation of the next component is that of this one, or comes before it
    this_or_before : (v : Fault) → IsViolationBefore design marks (number_of_kind kind) (c + 1) v
        → IsViolationBefore design marks (number_of_kind kind) c v ⊎ (v ≡ fault_of kind c)
    this_or_before v held =
        elim (cases_eq (kind_number v) (number_of_kind kind)) [
          | inr apart ↦ inl (record { holds = held.holds; upto = held.upto; below = λ same. absurd (apart same) })
          | inl same ↦ elim (cases_lt (numbers_of v).0 c) [
            | inl lower ↦ inl (record { holds = held.holds; upto = held.upto; below = λ _. lower })
            | inr late ↦
                let below = held.below same in
                let here : (numbers_of v).0 ≡ c = omega (arith, below, late) in
                inr (rw here at (is_of_component kind v same))
          ]
        ]

    -- the violation of one component comes behind those before it
    behind : (v : Fault) → IsViolationBefore design marks (number_of_kind kind) c v → ComesBefore v (fault_of kind c)
    behind v held =
        let this = of_component kind c in
        record {
          kind = omega (arith, held.upto, this.0);
          first = λ same. (let lower = held.below (omega (arith, same, this.0)) in omega (arith, lower, this.1));
          second = λ same equal. absurd (let lower = held.below (omega (arith, same, this.0)) in omega (arith, lower, this.1, equal));
        }

    onward : (v : Fault) → IsViolationBefore design marks (number_of_kind kind) c v → IsViolationBefore design marks (number_of_kind kind) (c + 1) v
    onward v held = record { holds = held.holds; upto = held.upto; below = λ same. (let lower = held.below same in omega (arith, lower)) }

    -- one more violation that holds
    pub listing_more : (found : List Fault) → IsViolationAmong design marks (fault_of kind c)
        → IsListBefore design marks (number_of_kind kind) c found
        → IsListBefore design marks (number_of_kind kind) (c + 1) (found ++ fault_of kind c ∷ [])
    listing_more found holds done =
        let v = fault_of kind c in
        let this = of_component kind c in
        let before = IsViolationBefore design marks (number_of_kind kind) c in
        let after = IsViolationBefore design marks (number_of_kind kind) (c + 1) in
        record {
          increasing = all_pairs_push ComesBefore found v done.increasing (All-weaker before (λ w. ComesBefore w v) behind found done.each);
          each =
              All-push after found v (All-weaker before after onward found done.each)
              (record { holds = holds; upto = omega (arith, this.0); below = λ _. omega (arith, this.1) });
          all = λ w held. elim (this_or_before w held) [
            | inl earlier ↦ Contains-append_left found (v ∷ []) w (done.all w earlier)
            | inr same ↦ rw same (Contains-push found v)
          ];
        }

    -- it doesn't hold
    pub listing_skip : (found : List Fault) → (IsViolationAmong design marks (fault_of kind c) → ⊥)
        → IsListBefore design marks (number_of_kind kind) c found
        → IsListBefore design marks (number_of_kind kind) (c + 1) found
    listing_skip found never done =
        same_list (IsViolationBefore design marks (number_of_kind kind) c) (IsViolationBefore design marks (number_of_kind kind) (c + 1)) onward
        (λ v held. elim (this_or_before v held) [ inl earlier ↦ earlier | inr same ↦ absurd (never (rw same at held.holds)) ])
        found done
