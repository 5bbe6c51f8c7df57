-- Lists of violations of some kinds, one behind the other, are the list of all.
use Rattle.std.proofs.Common.{◌≡◌, ◌<◌, ◌≤◌, List, ◌++◌, ◌⊎◌, inl, inr, subst, arith}
use Rattle.std.proofs.lemmas.List.Elements.{All-append, All-weaker, Contains-append_left, Contains-append_right}
use Rattle.leg_lemmas.proofs.RisingLists.{AllPairs-append_by}
use Rattle.leg_lib_records.specs.Records.{LibraryModel}
use Rattle.leg_design_records.specs.Records.{DesignModel}
use Rattle.leg_design_records.specs.declared.fault.Fault.{Fault}
use Rattle.leg_design_records.specs.declared.fault.Fault.TheVariants.{Short, OpenNet}
use Rattle.leg_design_records.specs.Violation.{kind_number, ComesBefore, IsListOf}
use Rattle.leg_design_records.proofs.FaultNumbers.{lower_kind_first}
use Rattle.leg_rules.specs.Metal.Flat.{FlatModel, IsFlatOf}
use Rattle.leg_flat.proofs.OneFlat.{one_flat}
use Rattle.leg_rules.specs.Placement.Violations.{IsPlacementViolation}
use Rattle.leg_place.proofs.PlaceFaults.{kind_below, same_list}
use Rattle.leg_rules.specs.Spacing.Violations.{IsSpacingViolation}
use Rattle.leg_rules.specs.Spacing.Violations.IsSpacingViolation.{short, too_near}
use Rattle.leg_rules.specs.Joins.Violations.{IsOpenViolation}
use Rattle.leg_rules.specs.Joins.Violations.IsOpenViolation.{open_net}
use Rattle.leg_rules.specs.Violations.{IsInFlat, IsOfMetal, IsViolation, IsOtherThanOpen}

-- two lists, of which the first has the lower kinds
both_lists : (P Q : Fault → Type 0) (xs ys : List Fault) → ((v w : Fault) → P v → Q w → kind_number v < kind_number w) → IsListOf P xs → IsListOf Q ys
    → IsListOf (λ v. P v ⊎ Q v) (xs ++ ys)
both_lists P Q xs ys lower first second = record {
  increasing =
      AllPairs-append_by ComesBefore P Q (λ v w p q. lower_kind_first v w (lower v w p q)) xs ys first.each second.each first.increasing second.increasing;
  each = All-append (λ v. P v ⊎ Q v) xs ys (All-weaker P (λ v. P v ⊎ Q v) (λ v p. inl p) xs first.each)
      (All-weaker Q (λ v. P v ⊎ Q v) (λ v q. inr q) ys second.each);
  all = λ v h. elim h [ inl p ↦ Contains-append_left xs ys v (first.all v p) | inr q ↦ Contains-append_right xs ys v (second.all v q) ];
}

-- shorts come after the kinds of placement and before open pieces
spacing_after : (library : LibraryModel) (flat : FlatModel) (v : Fault) → IsSpacingViolation library flat v → kind_number (Short 0 0) ≤ kind_number v
spacing_after library flat v (short h) = omega arith
spacing_after library flat v (too_near h) = omega arith

spacing_before : (library : LibraryModel) (flat : FlatModel) (v : Fault) → IsSpacingViolation library flat v → kind_number v < kind_number (OpenNet 0 0)
spacing_before library flat v (short h) = omega arith
spacing_before library flat v (too_near h) = omega arith

open_last : (design : DesignModel) (flat : FlatModel) (v : Fault) → IsOpenViolation design flat v → kind_number (OpenNet 0 0) ≤ kind_number v
open_last design flat v (open_net h) = omega arith

-- the violations of placement and those of two shapes
pub without_open : (library : LibraryModel) (design : DesignModel) (flat : FlatModel) (xs ys : List Fault) → library ≡ design.library
    → IsListOf (IsPlacementViolation design) xs
    → IsListOf (IsSpacingViolation library flat) ys → IsListOf (IsOtherThanOpen design flat) (xs ++ ys)
without_open library design flat xs ys same placed spaced =
    subst (λ (l : LibraryModel). IsListOf (λ v. IsPlacementViolation design v ⊎ IsSpacingViolation l flat v) (xs ++ ys)) same
    (both_lists (IsPlacementViolation design) (IsSpacingViolation library flat) xs ys
    (λ v w p s. omega (arith, kind_below design v p, spacing_after library flat w s)) placed spaced)

module _ (design : DesignModel) (flat : FlatModel) (is_flat : IsFlatOf design flat) where
  -- what holds in a flat of the design holds in this one, since the design has one flat
  in_this_flat : (v : Fault) → IsOfMetal design v → IsInFlat design flat v
  in_this_flat v h = subst (λ f. IsInFlat design f v) (one_flat design h.flat flat h.is_flat is_flat) h.holds

  others_first : (v w : Fault) → IsOtherThanOpen design flat v → IsOpenViolation design flat w → kind_number v < kind_number w
  others_first v w other o =
      elim other [
        | inl p ↦ omega (arith, kind_below design v p, open_last design flat w o)
        | inr s ↦ omega (arith, spacing_before design.library flat v s, open_last design flat w o)
      ]

  -- the violations of all kinds but open nets, and then the open nets, are the list of all violations
  pub all_violations : (xs ys : List Fault) → IsListOf (IsOtherThanOpen design flat) xs → IsListOf (IsOpenViolation design flat) ys
      → IsListOf (IsViolation design) (xs ++ ys)
  all_violations xs ys others opened =
      same_list (λ v. IsOtherThanOpen design flat v ⊎ IsOpenViolation design flat v) (IsViolation design)
      (λ v h. elim h [
        | inl other ↦ elim other [ inl p ↦ inl p | inr s ↦ inr (record { flat = flat; is_flat = is_flat; holds = inl s }) ]
        | inr o ↦ inr (record { flat = flat; is_flat = is_flat; holds = inr o })
      ])
      (λ v h. elim h [ inl p ↦ inl (inl p) | inr m ↦ elim (in_this_flat v m) [ inl s ↦ inl (inr s) | inr o ↦ inr o ] ]) (xs ++ ys)
      (both_lists (IsOtherThanOpen design flat) (IsOpenViolation design flat) xs ys others_first others opened)
