use Rattle.std.proofs.Common.{◌+◌, ◌≤◌, length, take}
use Rattle.leg_flat.specs.Steps.PlacesBelow.{ArePiecesAdded}
use Rattle.leg_flat.proofs.nets.add_terminals.Given as goal

abbrev pub invariant-loop-terminal : goal.invariant-loop-terminal
invariant-loop-terminal g l = record {
  added : ArePiecesAdded l.net (take l.terminal-index l.terminals) l.initial.places l.initial.pieces.items l.places l.pieces.items;
  few : length l.pieces.items ≤ length l.initial.pieces.items + l.terminal-index;
}
