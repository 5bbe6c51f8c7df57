-- The wires of a run, entry by entry.
use Rattle.std.specs.Prelude.{◌≡◌, ◌<◌, ℕ, List, length, Some, slice_get}
use Rattle.leg_design_records.specs.declared.records.Wire.{Wire}
use Rattle.leg_rules.specs.Route.Run.{NetWires}
use Rattle.leg_rules.specs.Route.Result.{wires_for}

-- for each of this many entries of NETS a list of the wires that a run added to it
pub record AreListsOf (count : ℕ) (added : List NetWires) (lists : List (List Wire)) : Type 0 where
  pub one_each : length lists ≡ count
  pub each : (n : ℕ) → n < count → slice_get lists n ≡ Some (wires_for n added)
