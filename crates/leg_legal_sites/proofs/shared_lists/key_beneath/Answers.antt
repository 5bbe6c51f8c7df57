-- The leaf lies beneath the node.
use Rattle.std.proofs.Common.{◌≡◌, ◌+◌, ◌-◌, length, pos, arith}
use Rattle.std.proofs.lemmas.Option.{slice_get-get_or}
use Rattle.leg_legal_sites.specs.declared.row_keys.RowKey.{RowKey}
use Rattle.leg_legal_sites.proofs.SharedLists.{way_begins, way_goes_left}
use Rattle.leg_legal_sites.proofs.shared_lists.key_beneath.Goals as goal

abbrev nowhere : RowKey
nowhere = record { site = 0; y = pos 0; x = pos 0; row = 0 }

pub loop-leaf-init : goal.loop-leaf-init
loop-leaf-init c = way_begins (length c.args.order.now) c.args.node c.requires.first c.requires.there

pub loop-leaf-preserved : goal.loop-leaf-preserved
loop-leaf-preserved c = way_goes_left (length c.args.order.now) c.args.node c.loop-leaf.leaf c.loop-leaf.invariant c.loop-leaf-test.true

pub returns : goal.returns
returns c =
    let way = c.loop-leaf.invariant in
    let order = c.args.order.now in
    let place = c.loop-leaf.leaf - length order in
    let within = way.within in
    let from = c.loop-leaf-test.false in
    let here : length order + place ≡ c.loop-leaf.leaf = omega (arith, from) in
    record { place = place; there = slice_get-get_or order place nowhere (omega (arith, within, from)); levels = way.levels; beneath = rw here way.beneath }
