-- The pins so far.
use Rattle.std.proofs.Common.{◌≡◌, ℕ, List, take}
use Rattle.leg_lex.specs.NameLookup.{place_of}
use Rattle.leg_design_nets.specs.Steps.Pins.{place_in_table}
use Rattle.leg_design_nets.proofs.PinTables.{pin_names}
use Rattle.leg_design_nets.proofs.pin_index.pin_places.Given as goal

abbrev pub invariant-loop-k : goal.invariant-loop-k
invariant-loop-k g l = (name : List ℕ) → place_in_table l.places name ≡ place_of name (pin_names (take l.k l.pins))
