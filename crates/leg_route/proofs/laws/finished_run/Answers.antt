use Rattle.leg_route.proofs.RunEnds.{routed_then, legal_then, as_many}
use Rattle.leg_route.proofs.laws.finished_run.Goals as goal

pub returns : goal.returns
returns c = record {
  same = c.finished_design_is_same.ensures.same;
  routed = routed_then;
  legal = λ design flat grown added lists sound proper proper_then is_flat clean run done are.
      legal_then c.run_of_clean_wires_is_clean.ensures c.clean_wires_stay_clean.ensures c.growth_goes_on.ensures c.finished_design_is_legal.ensures
      c.placement_stays.ensures design flat grown added lists sound proper proper_then clean
      (record { is_flat = is_flat; run = run; done = done; lists_are = are });
  shapes = as_many c.growth_goes_on.ensures c.shapes_stay_as_many.ensures;
  wires = c.finished_design_is_same.ensures.wires;
}
