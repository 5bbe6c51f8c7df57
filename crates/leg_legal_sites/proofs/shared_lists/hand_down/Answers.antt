-- The list is that of both nodes below now.
use Rattle.std.proofs.Common.{◌≡◌, ◌+◌, ◌*◌, ◌/◌, ◌<◌, length, get_or, set, None, Some, pos, inl, inr, refl, ◌∙◌, arith, length-set, get_or-set_other}
use Rattle.std.proofs.lemmas.List.{get_or_default}
use Rattle.std.proofs.lemmas.Option.{slice_get-get_or}
use Rattle.leg_legal_sites.specs.declared.bounds.Bounds.{Bounds}
use Rattle.leg_legal_sites.specs.Steps.FreeListSharing.{row_lists}
use Rattle.leg_legal_sites.proofs.SharedLists.{own_is}
use Rattle.leg_legal_sites.proofs.ListMoves.{handed_shared, handed_same, handed_none, handed_before, rows_narrowed}
use Rattle.leg_legal_sites.proofs.shared_lists.hand_down.Goals as goal

abbrev none : Bounds
none = record { least_row = 0; least_site = 0; most_site = 0; low = pos 0; high = pos 0; top = pos 0; left = pos 0; right = pos 0; corner = pos 0; longest = 0 }

pub returns-in_default-clause-none : goal.returns-in_default-clause-none
returns-in_default-clause-none g c =
    let lists = c.args.lists.now in
    let node = c.args.node in
    let left = c.requires.left in
    own_is lists (node / 2) node c.requires.first refl c.requires.alone ∙ get_or_default lists node None c.index-lists-node.result (omega (arith, left))
    ∙ c.in_default.is

pub returns : goal.returns
returns g c =
    let lists = c.args.lists.now in
    let nodes = c.args.nodes.now in
    let order = c.args.order.now in
    let node = c.args.node in
    let first = c.requires.first in
    let inner = c.requires.there in
    let room = c.requires.left in
    let count = c.requires.nodes in
    let list = c.in-Some.list in
    let within : node < length lists = omega (arith, room) in
    let had : get_or lists node None ≡ Some list = get_or_default lists node None c.index-lists-node.result within ∙ c.in-Some.is in
    let copy : c.in_ok-copy.copy ≡ list = c.in_ok-copy.ensures in
    let gone : c.take-list.new.self ≡ None = c.take-list.ensures.after in
    let taken : c.take-list.result ≡ Some list =
    c.take-list.ensures.value ∙ get_or-set_other lists (2 * node + 1) node (Some c.in_ok-copy.copy) c.index-lists-node-3.result (λ same. omega (arith, same))
    ∙ get_or_default lists node c.index-lists-node-3.result None within ∙ had in
    let mid = set nodes (2 * node) c.within.result in
    let long : length mid ≡ length nodes = length-set nodes (2 * node) c.within.result in
    record {
      shared = rw (copy, gone, taken) (handed_shared order node first inner list lists c.requires.shared c.requires.alone had);
      same = rw (copy, gone, taken) (handed_same order node first inner list lists c.requires.shared c.requires.alone had);
      rows = λ design rows.
          rows_narrowed design order (row_lists order lists) mid node (2 * node + 1) (get_or mid (2 * node + 1) none)
          (get_or mid node none) c.within-2.result first (inr refl)
          (slice_get-get_or mid (2 * node + 1) none (omega (arith, long, count, inner)))
          (slice_get-get_or mid node none (omega (arith, long, count, inner))) c.within-2.ensures
          (rows_narrowed design order (row_lists order lists) nodes node (2 * node) (get_or nodes (2 * node) none)
          (get_or nodes node none) c.within.result first (inl refl)
          (slice_get-get_or nodes (2 * node) none (omega (arith, count, inner)))
          (slice_get-get_or nodes node none (omega (arith, count, inner))) c.within.ensures rows);
      none = rw (copy, gone, taken) (handed_none order node first inner list lists c.requires.shared c.requires.alone had);
      before = rw (copy, gone, taken) (handed_before order node first inner list lists c.requires.shared c.requires.alone had);
    }
