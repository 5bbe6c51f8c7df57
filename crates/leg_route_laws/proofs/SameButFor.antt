-- A design that got wires is the same but for them.
use Rattle.std.proofs.Common.{List, [], ◌∷◌, refl, sym, ap}
use Rattle.std.proofs.lemmas.List.{append-nil}
use Rattle.leg_lib_records.specs.Scale.{OneForOne}
use Rattle.leg_design_records.specs.declared.records.Wire.{Wire}
use Rattle.leg_design_records.specs.MoreWires.{each_with, with_more_wires}
use Rattle.leg_design_records.specs.Records.{DesignModel, NetModel}
use Rattle.leg_route_laws.specs.FinishedDesign.{finished}
use Rattle.leg_rules.specs.Route.SameButForWires.{IsSameNetButForWires, IsSameButForWires}

-- each entry is as it was, with wires behind its own
one_for_one : (nets : List NetModel) (lists : List (List Wire)) → OneForOne IsSameNetButForWires nets (with_more_wires nets lists)
unfolding each_with
one_for_one [] lists = tt
one_for_one (net ∷ nets) [] = (record { more = []; is = ap (λ wires. record net { wires = wires }) (sym (append-nil net.wires)) }, all_same nets) where
  all_same : (nets : List NetModel) → OneForOne IsSameNetButForWires nets nets
  all_same [] = tt
  all_same (net ∷ nets) = (record { more = []; is = ap (λ wires. record net { wires = wires }) (sym (append-nil net.wires)) }, all_same nets)
one_for_one (net ∷ nets) (wires ∷ lists) = (record { more = wires; is = refl }, one_for_one nets lists)

pub same_but_for_wires : (design : DesignModel) (lists : List (List Wire)) → IsSameButForWires design (finished design lists)
same_but_for_wires design lists = record { rest = refl; nets = one_for_one design.nets lists }
