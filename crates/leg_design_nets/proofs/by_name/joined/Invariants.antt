-- The lists so far.
use Rattle.std.proofs.Common.{◌≡◌, [], get_or, take}
use Rattle.std.specs.List.{flat_map}
use Rattle.leg_design_nets.proofs.by_name.joined.Given as goal

abbrev pub invariant-loop-place : goal.invariant-loop-place
invariant-loop-place g l = l.numbers.items ≡ flat_map (λ place. get_or l.lists place []) (take l.place-index l.places)
