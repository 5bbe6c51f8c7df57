use Rattle.std.proofs.Common.{◌≡◌, sym, zero-add, rules, arith}
use Rattle.leg_lemmas.proofs.Places.{read_at}
use Rattle.leg_flat.proofs.MoreMetal.{adds_at, adds_all}
use Rattle.leg_flat.proofs.MetalWalks.{one_special, specials_walk}
use Rattle.leg_flat.proofs.MetalSizes.{wires_within, terminals_few, regular_wires_few, special_wires_few, special_is_number, special_below, special_count, counts_length}
use Rattle.leg_flat.proofs.metal_wires.add_specials.Goals as goal

pub overflow_cast-before : goal.overflow_cast-before
overflow_cast-before g c =
    let few = regular_wires_few c.args.design.now c.special-net-items.ensures.proper.nets c.number_of_special-n.result in
    omega (arith, few, c.regular_wire_count-before.ensures)

pub terminal_count-requires : goal.terminal_count-requires
terminal_count-requires g c =
    let there = read_at _ c.args.design.now.special c.loop-k.k c.net-item.result c.special-net-items.ensures.is c.loop-k-test.true c.net-item.is in
    omega (
      arith,
      special_below c.args.design.now c.args.nets.now c.requires.nets c.loop-k.k c.number_of_special-n.result c.net-item.result there
          c.number_of_special-n.ensures,
      counts_length c.args.design.now c.args.nets.now c.requires.nets,
    )

pub overflow_add-first : goal.overflow_add-first
overflow_add-first g c =
    let there = read_at _ c.args.design.now.special c.loop-k.k c.net-item.result c.special-net-items.ensures.is c.loop-k-test.true c.net-item.is in
    let count =
    special_count c.args.design.now c.args.nets.now c.requires.nets c.loop-k.k c.number_of_special-n.result c.terminal_count.result c.net-item.result there
    c.number_of_special-n.ensures c.terminal_count.ensures in
    let has = c.special-net-items.ensures.proper.nets in
    omega (
      arith,
      count,
      c.regular_wire_count-before.ensures,
      terminals_few c.args.design.now has c.number_of_special-n.result,
      regular_wires_few c.args.design.now has c.number_of_special-n.result,
    )

pub add_wires-requires-clause-within : goal.add_wires-requires-clause-within
add_wires-requires-clause-within g c =
    let there = read_at _ c.args.design.now.special c.loop-k.k c.net-item.result c.special-net-items.ensures.is c.loop-k-test.true c.net-item.is in
    wires_within c.args.design.now _ c.args.design.now.special c.loop-k.k c.net-item.result c.as_slice.result.now c.requires.sound
    c.special-net-items.ensures.proper.nets.special.each there (search rules)

pub add_wires-requires-clause-few : goal.add_wires-requires-clause-few
add_wires-requires-clause-few g c =
    let there = read_at _ c.args.design.now.special c.loop-k.k c.net-item.result c.special-net-items.ensures.is c.loop-k-test.true c.net-item.is in
    let count =
    special_count c.args.design.now c.args.nets.now c.requires.nets c.loop-k.k c.number_of_special-n.result c.terminal_count.result c.net-item.result there
    c.number_of_special-n.ensures c.terminal_count.ensures in
    let wires : c.as_slice.result.now ≡ c.net-item.result.wires = search rules in
    let has = c.special-net-items.ensures.proper.nets in
    rw wires (omega (
      arith,
      count,
      c.regular_wire_count-before.ensures,
      terminals_few c.args.design.now has c.number_of_special-n.result,
      regular_wires_few c.args.design.now has c.number_of_special-n.result,
      special_wires_few c.args.design.now has c.loop-k.k c.net-item.result there,
    ))

pub loop-k-preserved : goal.loop-k-preserved
loop-k-preserved g c =
    let there = read_at _ c.args.design.now.special c.loop-k.k c.net-item.result c.special-net-items.ensures.is c.loop-k-test.true c.net-item.is in
    let number =
    special_is_number c.args.design.now c.args.nets.now c.requires.nets c.loop-k.k c.number_of_special-n.result c.net-item.result there
    c.number_of_special-n.ensures in
    let count =
    special_count c.args.design.now c.args.nets.now c.requires.nets c.loop-k.k c.number_of_special-n.result c.terminal_count.result c.net-item.result there
    c.number_of_special-n.ensures c.terminal_count.ensures in
    let wires : c.as_slice.result.now ≡ c.net-item.result.wires = search rules in
    adds_at (one_special c.args.design.now) 0 c.args.design.now.special c.args.shapes.now.items c.loop-k.k c.loop-k.k c.net-item.result c.loop-k.shapes.items
    _ (sym (zero-add _)) there c.loop-k.invariant (rw (wires, count, c.regular_wire_count-before.ensures, number) at c.in_ok-add_wires.ensures)

pub returns : goal.returns
returns g c =
    let past = rw c.special-net-items.ensures.is at c.loop-k-test.false in
    adds_all (one_special c.args.design.now) 0 c.args.design.now.special c.args.shapes.now.items c.loop-k.k c.loop-k.shapes.items _ past
    (specials_walk _ _ _) c.loop-k.invariant
