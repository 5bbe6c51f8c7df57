use Rattle.std.proofs.Common.{◌≡◌, ◌≤◌, ◌+◌, length, refl, ap, ◌∙◌, arith}
use Rattle.leg_design_records.specs.declared.limits.TheConstants.{PART_LIMIT}
use Rattle.leg_rules.specs.Metal.Nets.{special_entry, regular_entry, entry_terminals, entry_wires}
use Rattle.leg_flat.proofs.NetSizes.{once_special, few_terminals, few_wires}
use Rattle.leg_flat.proofs.NetPieces.{first_count, all_pieces, net_made, net_counted, net_fits, net_placed}
use Rattle.leg_flat.proofs.nets.net_pieces.Goals as goal

pub add_terminals-requires-clause-few : goal.add_terminals-requires-clause-few
add_terminals-requires-clause-few g c =
    let few : length c.entry_terminals.result.now + length (entry_terminals (special_entry c.args.index.now c.args.n)) ≤ PART_LIMIT =
    few_terminals c.args.index.now c.regular_entry-regular.ensures.proper c.args.n c.entry_terminals.result.now
    (entry_terminals (special_entry c.args.index.now c.args.n))
    (c.entry_terminals.ensures ∙ ap entry_terminals {y = regular_entry c.args.index.now c.args.n} c.regular_entry-regular.ensures.is) refl in
    omega (arith, ap length c.new-pieces.ensures.items, few)

pub add_terminals-requires-2-clause-once : goal.add_terminals-requires-2-clause-once
add_terminals-requires-2-clause-once g c =
    once_special c.args.index.now c.regular_entry-regular.ensures.proper c.args.n c.entry_terminals-2.result.now
    (c.entry_terminals-2.ensures ∙ ap entry_terminals {y = special_entry c.args.index.now c.args.n} c.special_entry-special.ensures)

pub add_terminals-requires-2-clause-few : goal.add_terminals-requires-2-clause-few
add_terminals-requires-2-clause-few g c =
    let few : length c.entry_terminals.result.now + length c.entry_terminals-2.result.now ≤ PART_LIMIT =
    few_terminals c.args.index.now c.regular_entry-regular.ensures.proper c.args.n c.entry_terminals.result.now c.entry_terminals-2.result.now
    (c.entry_terminals.ensures ∙ ap entry_terminals {y = regular_entry c.args.index.now c.args.n} c.regular_entry-regular.ensures.is)
    (c.entry_terminals-2.ensures ∙ ap entry_terminals {y = special_entry c.args.index.now c.args.n} c.special_entry-special.ensures) in
    let first : length c.add_terminals.new.pieces.items ≤ length c.entry_terminals.result.now =
    first_count c.args.n c.entry_terminals.result.now c.args.places.now c.add_terminals.new.places c.new-pieces.result.items c.add_terminals.new.pieces.items
    c.new-pieces.ensures.items c.in_ok-add_terminals.ensures in
    omega (arith, few, first)

pub overflow_add-wires : goal.overflow_add-wires
overflow_add-wires g c =
    omega (
      arith,
      few_wires c.args.index.now c.regular_entry-regular.ensures.proper c.args.n c.wire_count.result c.wire_count-2.result
          (c.wire_count.ensures ∙ ap (λ o. length (entry_wires o)) c.regular_entry-regular.ensures.is)
          (c.wire_count-2.ensures ∙ ap (λ o. length (entry_wires o)) c.special_entry-special.ensures),
    )

pub overflow_cast-wires : goal.overflow_cast-wires
overflow_cast-wires g c =
    omega (
      arith,
      few_wires c.args.index.now c.regular_entry-regular.ensures.proper c.args.n c.wire_count.result c.wire_count-2.result
          (c.wire_count.ensures ∙ ap (λ o. length (entry_wires o)) c.regular_entry-regular.ensures.is)
          (c.wire_count-2.ensures ∙ ap (λ o. length (entry_wires o)) c.special_entry-special.ensures),
    )

pub overflow_cast-terminals : goal.overflow_cast-terminals
overflow_cast-terminals g c =
    let count : c.len-terminals.result ≡ length c.add_terminals-2.new.pieces.items = omega arith in
    net_fits c.args.index.now c.regular_entry-regular.ensures.proper c.args.n c.entry_terminals.result.now c.entry_terminals-2.result.now
    (c.entry_terminals.ensures ∙ ap entry_terminals {y = regular_entry c.args.index.now c.args.n} c.regular_entry-regular.ensures.is)
    (c.entry_terminals-2.ensures ∙ ap entry_terminals {y = special_entry c.args.index.now c.args.n} c.special_entry-special.ensures)
    c.new-pieces.result.items c.add_terminals.new.pieces.items c.add_terminals-2.new.pieces.items c.new-pieces.ensures.items c.args.places.now
    c.add_terminals.new.places c.add_terminals-2.new.places c.requires.below c.in_ok-add_terminals.ensures c.in_ok-add_terminals-2.ensures
    c.len-terminals.result count

pub returns-clause-pieces : goal.returns-clause-pieces
returns-clause-pieces g c =
    all_pieces c.args.index.now c.args.n c.wire_count.result c.wire_count-2.result c.add_terminals-2.new.pieces.items c.add_wires.new.pieces.items
    (net_made c.args.index.now c.regular_entry-regular.ensures.proper c.args.n c.entry_terminals.result.now c.entry_terminals-2.result.now
    (c.entry_terminals.ensures ∙ ap entry_terminals {y = regular_entry c.args.index.now c.args.n} c.regular_entry-regular.ensures.is)
    (c.entry_terminals-2.ensures ∙ ap entry_terminals {y = special_entry c.args.index.now c.args.n} c.special_entry-special.ensures)
    c.new-pieces.result.items c.add_terminals.new.pieces.items c.add_terminals-2.new.pieces.items c.new-pieces.ensures.items c.args.places.now
    c.add_terminals.new.places c.add_terminals-2.new.places c.requires.below c.in_ok-add_terminals.ensures c.in_ok-add_terminals-2.ensures)
    (c.wire_count.ensures ∙ ap (λ o. length (entry_wires o)) c.regular_entry-regular.ensures.is)
    (c.wire_count-2.ensures ∙ ap (λ o. length (entry_wires o)) c.special_entry-special.ensures) c.in_ok-add_wires.ensures

pub returns-clause-count : goal.returns-clause-count
returns-clause-count g c =
    let count : c.len-terminals.result ≡ length c.add_terminals-2.new.pieces.items = omega arith in
    net_counted c.args.index.now c.regular_entry-regular.ensures.proper c.args.n c.entry_terminals.result.now c.entry_terminals-2.result.now
    (c.entry_terminals.ensures ∙ ap entry_terminals {y = regular_entry c.args.index.now c.args.n} c.regular_entry-regular.ensures.is)
    (c.entry_terminals-2.ensures ∙ ap entry_terminals {y = special_entry c.args.index.now c.args.n} c.special_entry-special.ensures)
    c.new-pieces.result.items c.add_terminals.new.pieces.items c.add_terminals-2.new.pieces.items c.new-pieces.ensures.items c.args.places.now
    c.add_terminals.new.places c.add_terminals-2.new.places c.requires.below c.in_ok-add_terminals.ensures c.in_ok-add_terminals-2.ensures
    c.len-terminals.result count

pub returns-clause-places : goal.returns-clause-places
returns-clause-places g c =
    net_placed c.args.index.now c.regular_entry-regular.ensures.proper c.args.n c.entry_terminals.result.now c.entry_terminals-2.result.now
    (c.entry_terminals.ensures ∙ ap entry_terminals {y = regular_entry c.args.index.now c.args.n} c.regular_entry-regular.ensures.is)
    (c.entry_terminals-2.ensures ∙ ap entry_terminals {y = special_entry c.args.index.now c.args.n} c.special_entry-special.ensures)
    c.new-pieces.result.items c.add_terminals.new.pieces.items c.add_terminals-2.new.pieces.items c.new-pieces.ensures.items c.args.places.now
    c.add_terminals.new.places c.add_terminals-2.new.places c.requires.below c.in_ok-add_terminals.ensures c.in_ok-add_terminals-2.ensures
