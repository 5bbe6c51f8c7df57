-- Both nodes have the same list, and a row beneath each is like one beneath the other.
use Rattle.std.proofs.Common.{◌≡◌, ◌+◌, ◌*◌, None, Some, get_or, w64, to_z, of_z, sym, ap, ◌∙◌, arith, rules}
use Rattle.leg_legal_sites.proofs.SharedLists.{node_read}
use Rattle.leg_legal_sites.proofs.ListMoves.{alike_both}
use Rattle.leg_legal_sites.proofs.shared_lists.is_shareable.Goals as goal

pub returns-then-a-b-2 : goal.returns-then-a-b-2
returns-then-a-b-2 g c same =
    let lists = c.args.lists.now in
    let order = c.args.order.now in
    let node = c.args.node in
    let inner = c.requires.there in
    let first = c.requires.first in
    let count = c.requires.shared.count in
    let a = c.key_beneath-a.result in
    let b = c.key_beneath-b.result in
    let a_passed : to_z w64 (of_z w64 a.x) ≡ a.x = search rules in
    let b_passed : to_z w64 (of_z w64 b.x) ≡ b.x = search rules in
    let x : a.x ≡ b.x = sym a_passed ∙ ap (to_z w64) c.if-a-b-2.true.0 ∙ b_passed in
    let left : get_or lists (2 * node) None ≡ Some c.in-Some.left =
    node_read lists (2 * node) (omega (arith, inner, count)) c.index-lists-node.result c.index-lists-node.is ∙ c.in-Some.is in
    let right : get_or lists (2 * node + 1) None ≡ Some c.in-Some-lists.right =
    node_read lists (2 * node + 1) (omega (arith, inner, count)) c.index-lists-node-2.result c.index-lists-node-2.is ∙ c.in-Some-lists.is in
    record {
      list = c.in-Some.left;
      left = left;
      right = right ∙ ap Some (sym (c.is_same.ensures same));
      alike = alike_both order node inner (c.requires.shared.alike (2 * node) c.in-Some.left (omega (arith, first)) left)
          (c.requires.shared.alike (2 * node + 1) c.in-Some-lists.right (omega arith) right)
          (record { a = a; b = b; on_left = c.key_beneath-a.ensures; on_right = c.key_beneath-b.ensures; x = x; site = c.if-a-b-2.true.1 });
    }
