-- The pins so far.
use Rattle.std.proofs.Common.{◌≡◌, ℕ, true, is_some, List, take}
use Rattle.leg_lex.specs.NameLookup.{place_of}
use Rattle.leg_design_nets.specs.Steps.Pins.{is_in, numbers_under}
use Rattle.leg_design_nets.proofs.PinTables.{pin_names}
use Rattle.leg_design_nets.proofs.pin_index.add_master.Given as goal

abbrev pub invariant-loop-pin : goal.invariant-loop-pin
invariant-loop-pin g l = record {
  added : (name : List ℕ) → is_some (place_of name (pin_names (take l.pin-index l.pins))) ≡ true → is_in l.number (numbers_under l.table name) ≡ true;
  kept : (name : List ℕ) (m : ℕ) → is_in m (numbers_under l.fn.table name) ≡ true → is_in m (numbers_under l.table name) ≡ true;
}
