-- Violations appended to others.
use Rattle.std.specs.Prelude.{◌≡◌, ◌++◌, List}
use Rattle.leg_design_records.specs.declared.fault.Fault.{Fault}
use Rattle.leg_design_records.specs.Violation.{IsListOf}

-- after the violations that were listed before come those for which this holds: all of them, each once, in order
pub record AreAdded (Added : Fault → Type 0) (before after : List Fault) : Type 0 where
  pub more : List Fault
  pub is : after ≡ before ++ more
  pub list : IsListOf Added more
