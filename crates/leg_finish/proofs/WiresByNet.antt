-- Wires that are laid out net by net.
use Rattle.std.proofs.Common.{◌≡◌, ◌≢◌, ◌<◌, ℕ, zero, suc, false, List, [], ◌++◌, All, length, replicate, Some, slice_get, slice_set, Contains, ◌⊎◌, inl, inr, refl, sym, ap, subst, ◌∙◌}
use Rattle.std.proofs.lemmas.Bool.{cases_eq}
use Rattle.std.proofs.lemmas.List.Elements.{All-nil, All-append, All-set, All-replicate, All-contains}
use Rattle.std.proofs.lemmas.Option.{none-some, same_Some, slice_get_within, get_or_from_slice_get}
use Rattle.leg_lemmas.proofs.Places.{set_elsewhere}
use Rattle.leg_design_records.specs.declared.records.Wire.{Wire}
use Rattle.leg_design_records.specs.Records.{DesignModel}
use Rattle.leg_design_records.specs.WellFormedNets.{IsWire}
use Rattle.leg_rules.specs.Metal.Flat.{FlatModel}
use Rattle.leg_rules.specs.Joins.Violations.{IsOpenNet}
use Rattle.leg_rules.specs.Finish.Wires.{AreWiresOfWalks}
use Rattle.leg_route_laws.specs.FinishedDesign.{AreByNet}
use Rattle.leg_route_laws.specs.Growth.{AddedWire, Grows, of_net}
use Rattle.leg_finish.specs.Steps.Judgement.{IsLaidOut, IsMoreLaid}
use Rattle.leg_finish.proofs.WalkWires.{none_of_walks, walks_append}

abbrev pub NoWiresByNet : Type 0
NoWiresByNet = (count : ℕ) → AreByNet count [] (replicate count [])

abbrev pub GrowthGoesOn : Type 0
GrowthGoesOn =
    (design : DesignModel) (first then : List AddedWire) (before between after : FlatModel) → Grows design first before between → Grows design
    then between after
    → Grows design (first ++ then) before after

abbrev pub MoreWiresByNet : Type 0
MoreWiresByNet =
    (count : ℕ) (added : List AddedWire) (lists : List (List Wire)) (net : ℕ) (before wires : List Wire) → AreByNet count added lists → net < count
    → slice_get lists net ≡ Some before → AreByNet count (added ++ of_net net wires) (slice_set lists net (before ++ wires))

replicated : {X : Type 0} (count n : ℕ) (x y : X) → slice_get (replicate count x) n ≡ Some y → y ≡ x
replicated zero n x y there = absurd (none-some y there)
replicated (suc count) zero x y there = same_Some y x (sym there)
replicated (suc count) (suc n) x y there = replicated count n x y there

-- nothing is laid out yet
pub laid_first : NoWiresByNet → (design : DesignModel) (flat : FlatModel) (lists : List (List Wire)) → lists ≡ replicate (length design.nets) []
    → IsLaidOut design flat flat lists
laid_first none design flat lists is = record {
  added = [];
  grows = refl;
  by_net = rw is (none (length design.nets));
  walks = rw is (All-replicate (AreWiresOfWalks design) (length design.nets) [] none_of_walks);
  spelled = rw is (All-replicate (All (IsWire design.library design.vias false)) (length design.nets) [] (All-nil (IsWire design.library design.vias false)));
  open_only =
      λ n wires there some. absurd (some (replicated (length design.nets) n [] wires (ap (λ (ls : List (List Wire)). slice_get ls n) (sym is) ∙ there)));
}

-- one net more
pub laid_next : GrowthGoesOn → MoreWiresByNet → (design : DesignModel) (first before after : FlatModel) (net : ℕ) (lists more : List (List Wire))
    → IsLaidOut design first before lists
    → IsOpenNet design first net → IsMoreLaid design net before after lists more → IsLaidOut design first after more
laid_next goes_on by_net design first before after net lists more laid is_open step = record {
  added = laid.added ++ of_net net step.wires;
  grows = goes_on design laid.added (of_net net step.wires) first before after laid.grows step.grows;
  by_net = rw step.is (by_net (length design.nets) laid.added lists net step.had step.wires laid.by_net is_open.1.net step.there);
  walks = rw step.is (All-set (AreWiresOfWalks design) lists net (step.had ++ step.wires) (walks_append had_walks step.walks) laid.walks);
  spelled = rw step.is (All-set IsSpelled lists net (step.had ++ step.wires) (All-append IsOne step.had step.wires had_spelled step.spelled) laid.spelled);
  open_only = open_only;
}
  where
    IsOne : Wire → Type 0
    IsOne wire = IsWire design.library design.vias false wire

    IsSpelled : List Wire → Type 0
    IsSpelled wires = All IsOne wires

    contains : Contains lists step.had
    contains = (net, slice_get_within lists net step.had step.there, get_or_from_slice_get lists net step.had step.had step.there)

    had_walks : AreWiresOfWalks design step.had
    had_walks = All-contains (AreWiresOfWalks design) lists step.had laid.walks contains

    had_spelled : All (IsWire design.library design.vias false) step.had
    had_spelled = All-contains (All (IsWire design.library design.vias false)) lists step.had laid.spelled contains

    open_only : (n : ℕ) (wires : List Wire) → slice_get more n ≡ Some wires → wires ≢ [] → IsOpenNet design first n
    open_only n wires there some = by (cases_eq net n) where
      by : (net ≡ n) ⊎ (net ≢ n) → IsOpenNet design first n
      by (inl same) = subst (IsOpenNet design first) same is_open
      by (inr other) =
          let unchanged = set_elsewhere lists net n (step.had ++ step.wires) other in
          laid.open_only n wires (sym unchanged ∙ ap (λ (ls : List (List Wire)). slice_get ls n) (sym step.is) ∙ there) some
