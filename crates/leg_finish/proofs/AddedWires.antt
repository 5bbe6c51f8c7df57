-- What entries of nets get that get the wires of lists: how many, how long they are together, and which entries stay as they are.
use Rattle.std.proofs.Common.{◌≡◌, ◌≢◌, ◌+◌, ℕ, zero, suc, cond, List, [], ◌∷◌, ◌++◌, length, drop, sum_by, count_by, Option, None, Some, slice_get, refl, sym, ap, ◌∙◌, arith}
use Rattle.std.proofs.Math.Seq.{drop-append_seam}
use Rattle.std.proofs.lemmas.List.{append-nil, length-append}
use Rattle.std.proofs.lemmas.List.Sums.{sum_by-cons, sum_by-append}
use Rattle.std.proofs.lemmas.Option.{none-some}
use Rattle.leg_design_records.specs.declared.records.Wire.{Wire}
use Rattle.leg_design_records.specs.MoreWires.{each_with, with_more_wires}
use Rattle.leg_design_records.specs.Records.{NetModel, DesignModel, wire_count}
use Rattle.leg_rules.specs.Metal.Flat.{FlatModel, IsFlatOf}
use Rattle.leg_rules.specs.Joins.Violations.{IsOpenNet}
use Rattle.leg_route_laws.specs.FinishedDesign.{finished}
use Rattle.leg_rules.specs.Finish.Wires.{AddsToOpenNets, added_wires, wire_length, is_via, HaveTotals}

pub sum_added : (f : Wire → ℕ) (nets : List NetModel) (lists : List (List Wire)) → length lists ≡ length nets
    → sum_by f (added_wires nets (with_more_wires nets lists)) ≡ sum_by (λ (wires : List Wire). sum_by f wires) lists
unfolding each_with
sum_added f [] [] long = refl
sum_added f [] (wires ∷ lists) long = absurd (omega (arith, long))
sum_added f (net ∷ nets) [] long = absurd (omega (arith, long))
sum_added f (net ∷ nets) (wires ∷ lists) long =
    let rest = sum_added f nets lists (omega (arith, long)) in
    let both = sum_by-append f (drop (length net.wires) (net.wires ++ wires)) (added_wires nets (with_more_wires nets lists)) in
    let own : sum_by f (drop (length net.wires) (net.wires ++ wires)) ≡ sum_by f wires = ap (sum_by f) (drop-append_seam net.wires wires) in
    let then = sum_by-cons (λ (ws : List Wire). sum_by f ws) wires lists in
    omega (arith, rest, both, own, then)

pub wires_more : (nets : List NetModel) (lists : List (List Wire)) → length lists ≡ length nets
    → wire_count (with_more_wires nets lists) ≡ wire_count nets + sum_by (λ (wires : List Wire). length wires) lists
unfolding each_with
wires_more [] [] long = refl
wires_more [] (wires ∷ lists) long = absurd (omega (arith, long))
wires_more (net ∷ nets) [] long = absurd (omega (arith, long))
wires_more (net ∷ nets) (wires ∷ lists) long =
    let rest = wires_more nets lists (omega (arith, long)) in
    let own = length-append net.wires wires in
    let then = sum_by-cons (λ (ws : List Wire). length ws) wires lists in
    omega (arith, rest, own, then)

-- an entry whose list is empty stays as it is
pub stays : (nets : List NetModel) (lists : List (List Wire)) (n : ℕ) → ((wires : List Wire) → slice_get lists n ≡ Some wires → wires ≡ [])
    → slice_get (with_more_wires nets lists) n ≡ slice_get nets n
unfolding each_with
stays [] lists n none = refl
stays (net ∷ nets) [] n none = refl
stays (net ∷ nets) (wires ∷ lists) zero none =
    ap (λ (ws : List Wire). Some (record net { wires = ws })) (ap (λ (ws : List Wire). net.wires ++ ws) (none wires refl) ∙ append-nil net.wires)
stays (net ∷ nets) (wires ∷ lists) (suc n) none = stays nets lists n none

abbrev pub HasOneFlat : Type 0
HasOneFlat = (design : DesignModel) (a b : FlatModel) → IsFlatOf design a → IsFlatOf design b → a ≡ b

-- so only open nets get wires, if only their lists have some
pub adds_to_open : HasOneFlat → (design : DesignModel) (lists : List (List Wire)) (flat : FlatModel) → IsFlatOf design flat
    → ((n : ℕ) (wires : List Wire) → slice_get lists n ≡ Some wires → wires ≢ [] → IsOpenNet design flat n) → AddsToOpenNets design (finished design lists)
adds_to_open one_flat design lists flat is_flat open_only other is_other n differ =
    rw (one_flat design other flat is_other is_flat) (by (slice_get lists n) refl) where
      of_list : (wires : List Wire) → slice_get lists n ≡ Some wires → IsOpenNet design flat n
      of_list [] there = absurd (differ (stays design.nets lists n (λ ws is. same_wires ws (sym there ∙ is)))) where
        same_wires : (ws : List Wire) → Some [] ≡ Some ws → ws ≡ []
        same_wires ws same = cc
      of_list (wire ∷ wires) there = open_only n (wire ∷ wires) there (λ same. let e : ⊥ = cc in e)

      by : (o : Option (List Wire)) → slice_get lists n ≡ o → IsOpenNet design flat n
      by None there = absurd (differ (stays design.nets lists n (λ ws is. absurd (none-some ws (sym there ∙ is)))))
      by (Some wires) there = of_list wires there

pub have_totals : (design : DesignModel) (lists : List (List Wire)) (length_is vias_are : ℕ) → length lists ≡ length design.nets
    → length_is ≡ sum_by (λ (wires : List Wire). sum_by wire_length wires) lists → vias_are ≡ sum_by (λ (wires : List Wire). count_by is_via wires) lists
    → HaveTotals design (finished design lists) length_is vias_are
have_totals design lists length_is vias_are long total count = record {
  length_is = total ∙ sym (sum_added wire_length design.nets lists long);
  vias_are = count ∙ sym (sum_added (λ (wire : Wire). cond (is_via wire) 1 0) design.nets lists long);
}
