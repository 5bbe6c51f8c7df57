-- One shape more.
use Rattle.std.proofs.Common.{◌≡◌, ◌+◌, ◌++◌, ◌∷◌, [], take, sym, ap, ◌∙◌, arith}
use Rattle.std.proofs.lemmas.List.{take_more, take_all}
use Rattle.leg_wire.specs.declared.piece_shape.PieceShape.{PieceShape}
use Rattle.leg_route_grid.specs.Steps.NodesInRect.{LiesInRect}
use Rattle.leg_route.specs.Steps.JoinedPart.{HaveGotSlots}
use Rattle.leg_route.proofs.JoinedSlots.{metal_none, metal_more}
use Rattle.leg_route.proofs.joined_part.add_metal.Goals as goal

pub loop-shape-init : goal.loop-shape-init
loop-shape-init g c = metal_none c.args.grid.now c.args.found.now.boxes.items c.args.found.now.slots.items

pub loop-shape-preserved : goal.loop-shape-preserved
loop-shape-preserved g c =
    let metal = c.args.metal.now in
    let i = c.loop-shape.shape-index in
    let shape = c.shape-item.result in
    let boxes = c.loop-shape.found.boxes.items in
    let slots = c.loop-shape.found.slots.items in
    let after = c.add_slots_in.new.found in
    let next : take (i + 1) metal ≡ take i metal ++ shape ∷ [] =
    take_more metal i shape (omega arith) ∙ ap (λ (s : PieceShape). take i metal ++ s ∷ []) (sym c.shape-item.is) in
    let got : HaveGotSlots c.args.grid.now (LiesInRect shape.layer shape.rect) boxes slots after.boxes.items after.slots.items = record {
      are = c.in_ok-add_slots_in.ensures.added;
      within = λ all. rw c.in_ok-add_slots_in.was at (c.add_slots_in.ensures.within all);
      boxed = λ all. rw c.in_ok-add_slots_in.was at (c.add_slots_in.ensures.boxed all);
      more = c.in_ok-add_slots_in.ensures.after.0;
      behind = c.in_ok-add_slots_in.ensures.after.1;
    } in
    rw next
    (metal_more c.args.grid.now (take i metal) shape c.args.found.now.boxes.items boxes after.boxes.items c.args.found.now.slots.items slots
    after.slots.items c.loop-shape.invariant got)

pub returns : goal.returns
returns g c = rw (take_all c.loop-shape.shape-index c.args.metal.now (omega arith)) at c.loop-shape.invariant
