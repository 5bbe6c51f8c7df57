-- Violations of placement: their kinds, and the components that they name.
use Rattle.std.proofs.Common.{◌∙◌, ap, ℕ, ◌+◌, ◌<◌, true, Some, List, [], ◌∷◌, length, replicate, All, arith}
use Rattle.std.proofs.lemmas.List.{get_or-replicate, length-replicate}
use Rattle.std.proofs.lemmas.List.Elements.{All-nil, All-cons, All-weaker}
use Rattle.std.proofs.lemmas.Option.{slice_get_within, slice_get-get_or}
use Rattle.leg_design_records.specs.Records.{DesignModel}
use Rattle.leg_design_records.specs.declared.fault.Fault.{Fault}
use Rattle.leg_design_records.specs.declared.fault.Fault.TheVariants.{Unplaced, Outside, OffSite, Overlap, Blocked}
use Rattle.leg_design_records.specs.Violation.{kind_number, numbers_of, components_of, IsListOf}
use Rattle.leg_rules.specs.Placement.Sites.{IsOffSite}
use Rattle.leg_rules.specs.Placement.Violations.{IsUnplaced, IsOutside, DoOverlap, IsBlocked, IsPlacementViolation}
use Rattle.leg_place.specs.Among.{IsMarked, IsViolationAmong}
use Rattle.leg_rules.specs.Placement.Violations.IsPlacementViolation.{unplaced, outside, off_site, overlap, blocked}

-- a list of the violations for which one property holds is that of another one, which holds of the same
pub same_list : (P Q : Fault → Type 0) → ((v : Fault) → P v → Q v) → ((v : Fault) → Q v → P v) → (found : List Fault) → IsListOf P found → IsListOf Q found
same_list P Q onward back found list = record {
  increasing = list.increasing;
  each = All-weaker P Q onward found list.each;
  all = λ v q. list.all v (back v q);
}

-- the numbers of the kinds of placement lie below this one
abbrev pub placement_end : ℕ
placement_end = kind_number (Blocked 0) + 1

module _ (design : DesignModel) where
  pub kind_below : (v : Fault) → IsPlacementViolation design v → kind_number v < placement_end
  kind_below v (unplaced h) = omega arith
  kind_below v (outside h) = omega arith
  kind_below v (off_site h) = omega arith
  kind_below v (overlap h) = omega arith
  kind_below v (blocked h) = omega arith

  -- the first number that one names is that of a component of the design
  pub component_below : (v : Fault) → IsPlacementViolation design v → (numbers_of v).0 < length design.components
  component_below v (unplaced {c = c} h) = slice_get_within design.components c h.component h.there
  component_below v (outside {c = c} h) = slice_get_within design.components c h.stands.component h.stands.there
  component_below v (off_site {c = c} h) = slice_get_within design.components c h.component h.there
  component_below v (overlap {a = a} h) = slice_get_within design.components a h.stands_a.component h.stands_a.there
  component_below v (blocked {c = c} h) = slice_get_within design.components c h.stands.component h.stands.there

  one_below : (c : ℕ) → c < length design.components → All (λ d. d < length design.components) (c ∷ [])
  one_below c below = All-cons (λ d. d < length design.components) c [] below (All-nil (λ d. d < length design.components))

  -- and each component that it names is one
  pub components_below : (v : Fault) → IsPlacementViolation design v → All (λ c. c < length design.components) (components_of v)
  components_below v (unplaced {c = c} h) = one_below c (slice_get_within design.components c h.component h.there)
  components_below v (outside {c = c} h) = one_below c (slice_get_within design.components c h.stands.component h.stands.there)
  components_below v (off_site {c = c} h) = one_below c (slice_get_within design.components c h.component h.there)
  components_below v (overlap {a = a} {b = b} h) =
      All-cons (λ c. c < length design.components) a (b ∷ []) (slice_get_within design.components a h.stands_a.component h.stands_a.there)
      (one_below b (slice_get_within design.components b h.stands_b.component h.stands_b.there))
  components_below v (blocked {c = c} h) = one_below c (slice_get_within design.components c h.stands.component h.stands.there)

  -- what holds where a violation of one component does
  pub unplaced_there : (c : ℕ) → IsPlacementViolation design (Unplaced c) → IsUnplaced design c
  unplaced_there c (unplaced h) = h

  pub outside_there : (c : ℕ) → IsPlacementViolation design (Outside c) → IsOutside design c
  outside_there c (outside h) = h

  pub off_site_there : (c : ℕ) → IsPlacementViolation design (OffSite c) → IsOffSite design c
  off_site_there c (off_site h) = h

  pub blocked_there : (c : ℕ) → IsPlacementViolation design (Blocked c) → IsBlocked design c
  blocked_there c (blocked h) = h

  -- and where one of two does
  pub overlap_there : (a b : ℕ) → IsPlacementViolation design (Overlap a b) → DoOverlap design a b
  overlap_there a b (overlap h) = h

  -- each mark of as many as there are components
  pub marked_by_all : (c : ℕ) → c < length design.components → IsMarked (replicate (length design.components) true) c
  marked_by_all c below =
      let n = length design.components in
      slice_get-get_or (replicate n true) c true (rw (length-replicate n true) below) ∙ ap Some (get_or-replicate n c true true below)

  -- where all components are marked, the violations among them are all
  pub list_of_all : (found : List Fault) → IsListOf (IsViolationAmong design (replicate (length design.components) true)) found
      → IsListOf (IsPlacementViolation design) found
  list_of_all found list =
      let marks = replicate (length design.components) true in
      same_list (IsViolationAmong design marks) (IsPlacementViolation design) (λ v held. held.holds)
      (λ v holds. record {
        holds = holds;
        marked = All-weaker (λ c. c < length design.components) (IsMarked marks) marked_by_all (components_of v) (components_below v holds);
      })
      found list
