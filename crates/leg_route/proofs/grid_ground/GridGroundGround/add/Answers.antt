use Rattle.std.proofs.Common.{◌≡◌, [], ◌++◌, length, take, drop, refl, sym, ap, ◌∙◌, arith}
use Rattle.std.proofs.Math.Seq.{take-append_seam}
use Rattle.std.proofs.lemmas.List.{get_or_read}
use Rattle.leg_route.specs.Steps.JoinedPart.{part_in}
use Rattle.leg_route.proofs.Ready.{ready_more}
use Rattle.leg_route.proofs.grid_ground.GridGroundGround.add.Goals as goal

pub add_shapes-requires-clause-count : goal.add_shapes-requires-clause-count
add_shapes-requires-clause-count g c = rw c.deref_mut.ensures.value (c.requires.ready.told c.args.self.now.flat refl).count

pub returns-clause-ready : goal.returns-clause-ready
returns-clause-ready g c =
    let ground = c.args.self.now in
    let lists = ground.numbers.items in
    let net = c.args.net in
    let ready = c.requires.ready in
    let told = rw c.deref_mut.ensures.value at c.add_shapes.ensures.told in
    let new = c.add_shapes.new.slots in
    let rest = drop (length new) ground.slots.items in
    let long : length new ≡ ground.slots.len = c.add_shapes.ensures.count ∙ c.deref_mut.ensures.len in
    let kept : take ground.slots.len (new ++ rest) ≡ new = ap (λ n. take n (new ++ rest)) (sym long) ∙ take-append_seam new rest in
    rw kept
    (ready_more ground.design.now net c.args.wire ground.flat c.add_wire.new.self c.in_ok-add_wire.ensures.added c.own_numbers_grow.ensures
    c.other_numbers_stay.ensures ground.grid ground.slots.items new lists c.index_mut.result.now c.note_numbers.new.numbers ground.marks
    (part_in ground.part) ground.joins c.in_ok-self.field-0
    c.shapes-shapes.result.now c.shapes-before.result.now c.shapes-shapes.ensures.is c.shapes-before.ensures.is c.requires.in_range ready
    (get_or_read lists net c.index_mut.result.now (omega (arith, c.requires.in_range, ready.numbers.one_each)) c.index_mut.ensures.value [])
    (record {
      told = told;
      numbers = c.in_ok-note_numbers.ensures;
      kept = rw (← c.take-kept.ensures.value) c.in_ok-self.ensures;
    }))
