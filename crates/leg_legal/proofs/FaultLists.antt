-- The list of the violations of placement with a property that holds or doesn't of each.
use Rattle.std.proofs.Common.{◌≡◌, ◌≢◌, ℕ, ◌<◌, List, length, inl, inr, refl, sym, ap, subst, ◌∙◌, arith}
use Rattle.std.proofs.lemmas.Bool.{cases_eq}
use Rattle.std.proofs.lemmas.Option.{slice_get_within}
use Rattle.leg_design_records.specs.Records.{DesignModel}
use Rattle.leg_design_records.specs.declared.fault.Fault.{Fault}
use Rattle.leg_design_records.specs.declared.fault.Fault.TheVariants.{Overlap}
use Rattle.leg_design_records.specs.Violation.{kind_number, numbers_of, ComesBefore, IsListOf}
use Rattle.leg_design_records.proofs.FaultNumbers.{lower_kind_first}
use Rattle.leg_rules.specs.Placement.Violations.{IsPlacementViolation}
use Rattle.leg_place.specs.Steps.ComponentFault.{fault_of}
use Rattle.leg_place.proofs.PlaceFaults.{placement_end, kind_below, component_below, overlap_there}
use Rattle.leg_place.proofs.ComponentFaults.{ComponentKind, number_of_kind, overlap_kind, of_component, is_of_component, is_overlap, component_or_overlap, kind_or_none}
use Rattle.leg_legal.proofs.Decisions.{HoldsOrNot}
use Rattle.leg_legal.proofs.Listings.{HasListing, IsOfKind, listing_of_none, listing_of_one, listing_below, listing_same}

-- violations of one kind come in the order of their numbers
module _ (v w : Fault) (kinds : kind_number v ≡ kind_number w) where
  by_first : (numbers_of v).0 < (numbers_of w).0 → ComesBefore v w
  by_first below = record { kind = omega arith; first = λ same. omega arith; second = λ same firsts. absurd (omega arith) }

  by_second : (numbers_of v).0 ≡ (numbers_of w).0 → (numbers_of v).1 < (numbers_of w).1 → ComesBefore v w
  by_second firsts below = record { kind = omega arith; first = λ same. omega arith; second = λ same also. below }

module _ (design : DesignModel) (P : Fault → Type 0) (holds : (fault : Fault) → P fault → IsPlacementViolation design fault)
    (each : (fault : Fault) → HoldsOrNot (P fault)) where
  abbrev count : ℕ
  count = length design.components

  -- it is this one
  record IsThis (this fault : Fault) : Type 0 where
    is : fault ≡ this
    has : P fault

  list_of_this : (this : Fault) → HasListing ComesBefore (IsThis this)
  list_of_this this =
      elim (each this) [
        | inl p ↦ listing_of_one ComesBefore (IsThis this) this (inl (record { is = refl; has = p })) (λ fault t. t.is)
        | inr never ↦ listing_of_none ComesBefore (IsThis this) (λ fault t. never (subst P t.is t.has))
      ]

  -- of one kind that names one component
  list_of_one_number : (make : ℕ → Fault) → ((j k : ℕ) → j < k → ComesBefore (make j) (make k)) → HasListing ComesBefore (IsOfKind (λ c. IsThis (make c)) count)
  list_of_one_number make rising =
      listing_below ComesBefore (λ c. IsThis (make c)) (λ c. list_of_this (make c))
      (λ j k v w below s t. rw (s.is, t.is) (rising j k below)) count

  -- and of the kind that names two
  AreOverlapsOf : ℕ → Fault → Type 0
  AreOverlapsOf a = IsOfKind (λ b. IsThis (Overlap a b)) count

  overlaps_of : (a : ℕ) → HasListing ComesBefore (AreOverlapsOf a)
  unfolding AreOverlapsOf
  overlaps_of a =
      listing_below ComesBefore (λ b. IsThis (Overlap a b)) (λ b. list_of_this (Overlap a b))
      (λ j k v w below s t. rw (s.is, t.is) (by_second (Overlap a j) (Overlap a k) refl refl below)) count

  overlaps : HasListing ComesBefore (IsOfKind AreOverlapsOf count)
  unfolding AreOverlapsOf
  overlaps =
      listing_below ComesBefore AreOverlapsOf overlaps_of
      (λ j k v w below s t. rw (s.holds.is, t.holds.is) (by_first (Overlap j s.kind) (Overlap k t.kind) refl below)) count

  -- of the kind of this number
  record IsOfNumber (number : ℕ) (fault : Fault) : Type 0 where
    is : kind_number fault ≡ number
    has : P fault

  below_count : (fault : Fault) → P fault → (numbers_of fault).0 < count
  below_count fault p = component_below design fault (holds fault p)

  -- the list of one kind that names one component, by its number
  of_one_component : (kind : ComponentKind) → HasListing ComesBefore (IsOfNumber (number_of_kind kind))
  of_one_component kind =
      listing_same ComesBefore (IsOfKind (λ c. IsThis (fault_of kind c)) count) (IsOfNumber (number_of_kind kind))
      (λ fault k. record { is = ap kind_number k.holds.is ∙ (of_component kind k.kind).0; has = k.holds.has })
      (λ fault n. record { kind = (numbers_of fault).0; below = below_count fault n.has; holds = record { is = is_of_component kind fault n.is; has = n.has } })
      (list_of_one_number (fault_of kind) rising)
    where
      rising : (j k : ℕ) → j < k → ComesBefore (fault_of kind j) (fault_of kind k)
      rising j k below =
          let one = of_component kind j in
          let other = of_component kind k in
          by_first (fault_of kind j) (fault_of kind k) (one.0 ∙ sym other.0) (rw (one.1, other.1) below)

  overlap_below : (fault : Fault) → kind_number fault ≡ overlap_kind → P fault → (numbers_of fault).1 < count
  overlap_below fault is p =
      let first = (numbers_of fault).0 in
      let second = (numbers_of fault).1 in
      let h : IsPlacementViolation design (Overlap first second) = subst (IsPlacementViolation design) (is_overlap fault is) (holds fault p) in
      let o = overlap_there design first second h in
      slice_get_within design.components second o.stands_b.component o.stands_b.there

  of_overlaps : HasListing ComesBefore (IsOfNumber overlap_kind)
  unfolding AreOverlapsOf
  of_overlaps =
      listing_same ComesBefore (IsOfKind AreOverlapsOf count) (IsOfNumber overlap_kind)
      (λ fault k. record { is = ap kind_number k.holds.holds.is; has = k.holds.holds.has })
      (λ fault n. record {
        kind = (numbers_of fault).0;
        below = below_count fault n.has;
        holds = record {
          kind = (numbers_of fault).1;
          below = overlap_below fault n.is n.has;
          holds = record { is = is_overlap fault n.is; has = n.has };
        };
      })
      overlaps

  -- no violation of placement is of another kind
  of_no_other : (number : ℕ) → ((kind : ComponentKind) → number ≢ number_of_kind kind) → number ≢ overlap_kind → HasListing ComesBefore (IsOfNumber number)
  of_no_other number no_component no_overlap =
      listing_of_none ComesBefore (IsOfNumber number) (λ fault n. elim (component_or_overlap design fault (holds fault n.has)) [
        | inl (kind, same) ↦ no_component kind (sym n.is ∙ same)
        | inr same ↦ no_overlap (sym n.is ∙ same)
      ])

  of_each_kind : (number : ℕ) → HasListing ComesBefore (IsOfNumber number)
  of_each_kind number =
      elim (kind_or_none number) [
        | inl (kind, is) ↦ subst (λ (n : ℕ). HasListing ComesBefore (IsOfNumber n)) (sym is) (of_one_component kind)
        | inr no_component ↦ elim (cases_eq number overlap_kind) [
          | inl is ↦ subst (λ (n : ℕ). HasListing ComesBefore (IsOfNumber n)) (sym is) of_overlaps
          | inr no_overlap ↦ of_no_other number no_component no_overlap
        ]
      ]

  all_kinds : HasListing ComesBefore P
  all_kinds =
      listing_same ComesBefore (IsOfKind IsOfNumber placement_end) P
      (λ fault k. k.holds.has)
      (λ fault p. record { kind = kind_number fault; below = kind_below design fault (holds fault p); holds = record { is = refl; has = p } })
      (listing_below ComesBefore IsOfNumber of_each_kind
      (λ j k v w below s t. lower_kind_first v w (let s_is = s.is in let t_is = t.is in omega arith)) placement_end)

  pub list_of : (faults : List Fault) × IsListOf P faults
  list_of = let found = all_kinds in (found.0, record { increasing = found.1.rising; each = found.1.each; all = found.1.all })
