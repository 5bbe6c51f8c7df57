-- The first entries have the wires of the lists so far.
use Rattle.std.proofs.Common.{◌≡◌, ◌++◌, length, map}
use Rattle.leg_design_records.specs.MoreWires.{with_more_wires}
use Rattle.leg_design_records.proofs.design_change.append_in_turn.Given as goal

abbrev pub invariant-loop-wires : goal.invariant-loop-wires
invariant-loop-wires g l =
    (l.nets ≡ with_more_wires l.fn.nets (map (λ w. w.items) l.yielded)) × (l.n ≡ length l.yielded) ×
    (l.yielded ++ l.wires-iterator.rest.items ≡ l.fn.lists.items)
