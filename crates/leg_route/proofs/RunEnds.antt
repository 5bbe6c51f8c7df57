-- The design that got the wires of a run which came to its end.
use Rattle.std.proofs.Common.{◌≡◌, ℕ, zero, suc, List, [], ◌∷◌, ◌++◌, length, inl, inr, Some, slice_get, refl, sym, ap, ◌∙◌}
use Rattle.std.proofs.lemmas.Option.{same_Some, none-some, slice_get_within}
use Rattle.leg_lib_records.specs.Sound.{IsSound}
use Rattle.leg_design_records.specs.declared.fault.Fault.{Fault}
use Rattle.leg_design_records.specs.declared.records.Wire.{Wire}
use Rattle.leg_design_records.specs.MoreWires.{each_with, with_more_wires}
use Rattle.leg_design_records.specs.Records.{DesignModel, NetModel}
use Rattle.leg_design_records.specs.WellFormed.{IsWellFormed}
use Rattle.leg_rules.specs.Metal.Metal.{metal_of}
use Rattle.leg_rules.specs.Metal.Flat.{FlatModel, IsFlatOf}
use Rattle.leg_rules.specs.Route.Run.{NetWires, RouteRun, IsDone}
use Rattle.leg_rules.specs.Violations.{IsViolationIn, IsViolation, IsOtherThanOpen}
use Rattle.leg_route_laws.specs.FinishedDesign.{finished, AreByNet, IsFinishedFrom}
use Rattle.leg_rules.specs.Route.Result.{wires_for, HasAdded, IsRouted}
use Rattle.leg_route.specs.Steps.NetLists.{AreListsOf}
use Rattle.leg_route.proofs.GrownLaws.{RunOfCleanWires, CleanWiresStay, GrowthGoesOn, FinishedIsLegal, PlacementStays, ShapesStayAsMany}
use Rattle.leg_route.proofs.RunFacts.{told, added_for, run_grows, run_nets, run_clean}

entry_count : (nets : List NetModel) (lists : List (List Wire)) → length (with_more_wires nets lists) ≡ length nets
unfolding each_with
entry_count [] lists = refl
entry_count (net ∷ nets) [] = refl
entry_count (net ∷ nets) (wires ∷ lists) = ap suc (entry_count nets lists)

entry_with : (nets : List NetModel) (lists : List (List Wire)) (n : ℕ) (net : NetModel) (wires : List Wire) → slice_get nets n ≡ Some net
    → slice_get lists n ≡ Some wires → slice_get (with_more_wires nets lists) n ≡ Some (record net { wires = net.wires ++ wires })
unfolding each_with
entry_with [] lists n net wires there list = absurd (none-some net there)
entry_with (first ∷ nets) [] n net wires there list = absurd (none-some wires list)
entry_with (first ∷ nets) (own ∷ lists) zero net wires there list =
    ap (λ (it : NetModel). Some (record it { wires = it.wires ++ own })) (same_Some first net there)
    ∙ ap (λ ws. Some (record net { wires = net.wires ++ ws })) (same_Some own wires list)
entry_with (first ∷ nets) (own ∷ lists) (suc n) net wires there list = entry_with nets lists n net wires there list

pub has_added : (design : DesignModel) (added : List NetWires) (lists : List (List Wire)) → AreListsOf (length design.nets) added lists
    → HasAdded design added (finished design lists)
has_added design added lists are = record {
  rest = refl;
  count = entry_count design.nets lists;
  each = λ n net there. entry_with design.nets lists n net (wires_for n added) there (are.each n (slice_get_within design.nets n net there));
}

-- each entry has the wires that the flat got for it
pub by_net : (goes_on : GrowthGoesOn) (design : DesignModel) (flat grown : FlatModel) (added : List NetWires) (lists : List (List Wire))
    → RouteRun design flat added grown → AreListsOf (length design.nets) added lists → AreByNet (length design.nets) (told added) lists
by_net goes_on design flat grown added lists run are = record {
  nets = run_nets goes_on design flat grown added run;
  one_each = are.one_each;
  each = λ net less. are.each net less ∙ ap Some (sym (added_for net added));
}

-- from a flat of the design a run has come to its end, and each entry of NETS has a list of the wires that it got
pub record IsRunToEnd (design : DesignModel) (flat grown : FlatModel) (added : List NetWires) (lists : List (List Wire)) : Type 0 where
  pub is_flat : IsFlatOf design flat
  pub run : RouteRun design flat added grown
  pub done : IsDone design grown
  pub lists_are : AreListsOf (length design.nets) added lists

module _ (run_of : RunOfCleanWires) (stay : CleanWiresStay) (goes_on : GrowthGoesOn) (is_legal : FinishedIsLegal) (placement : PlacementStays) where
  -- no violation of the finished design holds
  pub legal_then : (design : DesignModel) (flat grown : FlatModel) (added : List NetWires) (lists : List (List Wire))
      → IsSound design.library → IsWellFormed design → IsWellFormed (finished design lists)
      → ((fault : Fault) → ¬ IsOtherThanOpen design flat fault) → IsRunToEnd design flat grown added lists
      → (fault : Fault) → ¬ IsViolation (finished design lists) fault
  legal_then design flat grown added lists sound proper proper_then clean it fault holds =
      elim holds [
        | inl placed ↦ clean fault (inl ((placement design lists fault).1 placed))
        | inr metal ↦ in_flat metal.flat metal.is_flat fault (inr metal.holds)
      ] where
        from : (end : FlatModel) → IsFlatOf (finished design lists) end → IsFinishedFrom design (told added) grown lists end
        from end is_end = record {
          flat = flat;
          is_flat = it.is_flat;
          proper = proper;
          grows = run_grows goes_on design flat grown added it.run;
          by_net = by_net goes_on design flat grown added lists it.run it.lists_are;
          proper_end = proper_then;
          is_end = is_end;
        }

        in_flat : (end : FlatModel) → IsFlatOf (finished design lists) end → (fault : Fault) → ¬ IsViolationIn (finished design lists) end fault
        in_flat end is_end =
            is_legal design (told added) grown lists end (from end is_end) (λ fault holds. clean fault (inl holds))
            (run_clean run_of stay design flat grown added sound (λ fault holds. clean fault (inr holds)) it.run) it.done

pub routed_then : (design : DesignModel) (flat grown : FlatModel) (added : List NetWires) (lists : List (List Wire)) → IsFlatOf design flat
    → RouteRun design flat added grown → IsDone design grown → AreListsOf (length design.nets) added lists → IsRouted design (finished design lists)
routed_then design flat grown added lists is_flat run done are =
    record { flat = flat; is_flat = is_flat; added = added; grown = grown; run = run; done = done; wires = has_added design added lists are }

pub as_many : GrowthGoesOn → ShapesStayAsMany → (design : DesignModel) (flat grown : FlatModel) (added : List NetWires) (lists : List (List Wire))
    → IsFlatOf design flat → RouteRun design flat added grown → AreListsOf (length design.nets) added lists
    → length (metal_of (finished design lists)) ≡ length grown.shapes
as_many goes_on stay design flat grown added lists is_flat run are =
    stay design flat grown (told added) lists is_flat (run_grows goes_on design flat grown added run) (by_net goes_on design flat grown added lists run are)
