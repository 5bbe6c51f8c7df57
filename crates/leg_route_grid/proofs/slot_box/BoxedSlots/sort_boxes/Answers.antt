use Rattle.std.proofs.lemmas.List.Sorted.{Contains-permutation, IsPermutation-sym}
use Rattle.leg_route_grid.proofs.SlotBoxes.{boxed_as}
use Rattle.leg_route_grid.proofs.slot_box.BoxedSlots.sort_boxes.Goals as goal

pub returns-then-len-gt-FEW_BOXES-clause-boxed : goal.returns-then-len-gt-FEW_BOXES-clause-boxed
returns-then-len-gt-FEW_BOXES-clause-boxed g c grid boxed =
    let before = c.args.self.now.boxes.items in
    let after = c.sort_unstable_by_key.new.self.items in
    let moved = c.sort_unstable_by_key.ensures.permutation in
    boxed_as grid before after c.args.self.now.slots.items (λ ends has. Contains-permutation before after ends moved has)
    (λ ends has. Contains-permutation after before ends (IsPermutation-sym before after moved) has) boxed
