-- The walks of the nets so far are laid out.
use Rattle.std.proofs.Common.{◌≡◌, length, map}
use Rattle.leg_finish.specs.Steps.Judgement.{IsLaidOut}
use Rattle.leg_finish.proofs.layout.lay_out.Given as goal

abbrev pub invariant-loop-place : goal.invariant-loop-place
invariant-loop-place g l = record {
  count : length l.lists.items ≡ length l.design.nets;
  laid : IsLaidOut l.design l.fn.flat l.flat (map (λ wires. wires.items) l.lists.items);
  nets : length l.flat.pieces ≡ length l.fn.flat.pieces;
}
