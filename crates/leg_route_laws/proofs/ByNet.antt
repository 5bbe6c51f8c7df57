-- Lists that keep the added wires net by net.
use Rattle.std.proofs.Common.{◌≡◌, ℕ, ◌<◌, List, [], ◌∷◌, ◌++◌, length, set, replicate, All, ◌⊎◌, inl, inr, Some, slice_get, sym, ap, ◌∙◌}
use Rattle.std.proofs.lemmas.List.{length-set, length-replicate, append-nil, get_or-replicate}
use Rattle.std.proofs.lemmas.List.Elements.{All-nil, All-cons, All-append}
use Rattle.std.proofs.lemmas.Option.{slice_get-get_or, same_Some}
use Rattle.leg_lemmas.proofs.Places.{set_here, set_elsewhere}
use Rattle.leg_design_records.specs.declared.records.Wire.{Wire}
use Rattle.leg_route_laws.specs.Growth.{AddedWire, of_net, wires_added}
use Rattle.leg_route_laws.specs.FinishedDesign.{AreByNet}
use Rattle.leg_route_laws.proofs.Growth.{same_number, added_then, added_of_net, added_of_other}

abbrev IsBelow : ℕ → AddedWire → Type 0
IsBelow count one = one.net < count

abbrev empty_lists : ℕ → List (List Wire)
empty_lists count = replicate count []

how_many : (count : ℕ) → length (empty_lists count) ≡ count
how_many count = length-replicate count []

empty_at : (count net : ℕ) → net < count → slice_get (empty_lists count) net ≡ Some []
empty_at count net within =
    slice_get-get_or (empty_lists count) net [] (rw (how_many count) within) ∙ ap Some (get_or-replicate count net [] [] within)

pub by_net_none : (count : ℕ) → AreByNet count [] (replicate count [])
by_net_none count = record { nets = All-nil (IsBelow count); one_each = how_many count; each = empty_at count }

all_below : (count net : ℕ) (wires : List Wire) → net < count → All (IsBelow count) (of_net net wires)
all_below count net [] within = All-nil (IsBelow count)
all_below count net (wire ∷ wires) within =
    All-cons (IsBelow count) (record { net = net; wire = wire }) (of_net net wires) within (all_below count net wires within)

pub by_net_more : (count : ℕ) (added : List AddedWire) (lists : List (List Wire)) (net : ℕ) (before wires : List Wire) → AreByNet count added lists
    → net < count
    → slice_get lists net ≡ Some before → AreByNet count (added ++ of_net net wires) (set lists net (before ++ wires))
by_net_more count added lists net before wires are within there = record {
  nets = All-append (IsBelow count) added (of_net net wires) are.nets (all_below count net wires within);
  one_each = length-set lists net (before ++ wires) ∙ are.one_each;
  each = each;
} where
  each : (other : ℕ) → other < count → slice_get (set lists net (before ++ wires)) other ≡ Some (wires_added other (added ++ of_net net wires))
  each other less = by (same_number net other) where
    by : (net ≡ other) ⊎ (¬ (net ≡ other)) → slice_get (set lists net (before ++ wires)) other ≡ Some (wires_added other (added ++ of_net net wires))
    by (inl same) =
        let had : before ≡ wires_added net added = same_Some before (wires_added net added) (sym there ∙ are.each net within) in
        let now : wires_added net (added ++ of_net net wires) ≡ wires_added net added ++ wires =
        added_then net added (of_net net wires) ∙ ap (λ ws. wires_added net added ++ ws) (added_of_net net wires) in
        ap (slice_get (set lists net (before ++ wires))) (sym same)
        ∙ set_here lists net before (before ++ wires) there
        ∙ ap Some (ap (λ ws. ws ++ wires) had ∙ sym now ∙ ap (λ n. wires_added n (added ++ of_net net wires)) same)
    by (inr differ) =
        set_elsewhere lists net other (before ++ wires) differ
        ∙ are.each other less
        ∙ ap Some (sym (added_then other added (of_net net wires) ∙ ap (λ ws. wires_added other added ++ ws) (added_of_other other net wires differ)
        ∙ append-nil (wires_added other added)))
