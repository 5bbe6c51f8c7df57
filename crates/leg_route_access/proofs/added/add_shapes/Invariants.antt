-- The shapes so far are told.
use Rattle.std.proofs.Common.{◌≡◌, ◌++◌, List, length, take}
use Rattle.leg_rules.specs.declared.shape.Shape.{Shape}
use Rattle.leg_rules.specs.Metal.Flat.{FlatModel}
use Rattle.leg_route_access.specs.Steps.AccessTable.{IsAccessTable}
use Rattle.leg_route_access.proofs.added.add_shapes.Given as goal

abbrev pub invariant-loop-k : goal.invariant-loop-k
invariant-loop-k g l = record {
  count : length l.slots ≡ length l.fn.slots;
  told : (before : List Shape) → ((flat : FlatModel) → flat.shapes ≡ before → IsAccessTable l.grid flat l.fn.slots)
      → (flat : FlatModel) → flat.shapes ≡ before ++ take l.k l.shapes → IsAccessTable l.grid flat l.slots;
}
