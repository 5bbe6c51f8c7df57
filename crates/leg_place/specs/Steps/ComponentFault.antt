-- The violations that are asked of one component by itself.
use Rattle.std.specs.Prelude.{ℕ}
use Rattle.leg_design_records.specs.declared.fault.Fault.{Fault}
use Rattle.leg_design_records.specs.declared.fault.Fault.TheVariants as faults
use Rattle.leg_place.specs.declared.component_fault.ComponentFault.{ComponentFault}
use Rattle.leg_place.specs.declared.component_fault.ComponentFault.TheVariants.{Unplaced, Outside, OffSite, Blocked}

-- the violation of this kind that names component c
abbrev pub fault_of : ComponentFault → ℕ → Fault
fault_of Unplaced c = faults.Unplaced c
fault_of Outside c = faults.Outside c
fault_of OffSite c = faults.OffSite c
fault_of Blocked c = faults.Blocked c
