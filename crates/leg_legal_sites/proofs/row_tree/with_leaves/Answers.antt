-- The leaf of one more row.
use Rattle.std.proofs.Common.{◌≡◌, ℕ, ◌+◌, length, get_or, subst, arith, rules}
use Rattle.std.proofs.lemmas.Option.{slice_get-get_or}
use Rattle.leg_legal_sites.specs.Steps.FreeLists.{DoBoundRow, DoFit}
use Rattle.leg_legal_sites.specs.Steps.FreeListSharing.{row_lists}
use Rattle.leg_legal_sites.specs.Steps.RowTree.{AreLeavesUpTo}
use Rattle.leg_legal_sites.specs.Steps.SharedLists.{own_list}
use Rattle.leg_legal_sites.proofs.RowTree.{leaves_none, leaves_more}
use Rattle.leg_legal_sites.proofs.TakenRows.{nowhere, key_within}
use Rattle.leg_legal_sites.proofs.LeafLists.{leaf_in_die, leaf_fits}
use Rattle.leg_legal_sites.proofs.row_tree.with_leaves.Goals as goal

pub loop-key-init : goal.loop-key-init
loop-key-init g c = leaves_none c.args.order.now (DoFit c.args.design.now (row_lists c.args.order.now c.args.lists.now)) _ (search rules)

pub bounds_at-requires-clause-there : goal.bounds_at-requires-clause-there
bounds_at-requires-clause-there g c = key_within c.args.design.now.rows c.args.order.now c.loop-key.key-index c.requires.order (omega arith)

pub bounds_at-requires-clause-node : goal.bounds_at-requires-clause-node
bounds_at-requires-clause-node g c =
    let lists = c.requires.lists.count in
    let nodes = c.loop-key.invariant.count in
    let leaf : c.len-leaf.result ≡ length c.loop-key.nodes.items = search rules in
    omega (arith, lists, nodes, leaf)

pub bounds_at-requires-clause-inside : goal.bounds_at-requires-clause-inside
bounds_at-requires-clause-inside g c =
    let order = c.args.order.now in
    let i = c.loop-key.key-index in
    let leaf : c.len-leaf.result ≡ length c.loop-key.nodes.items = search rules in
    let nodes = c.loop-key.invariant.count in
    let here : c.len-leaf.result ≡ length order + i = omega (arith, leaf, nodes) in
    rw here (leaf_in_die c.args.design.now order c.requires.order c.args.lists.now c.requires.lists i (get_or order i nowhere)
    (slice_get-get_or order i nowhere (omega arith)))

pub loop-key-preserved : goal.loop-key-preserved
loop-key-preserved g c =
    let order = c.args.order.now in
    let i = c.loop-key.key-index in
    let design = c.args.design.now in
    let lists = c.args.lists.now in
    let leaf : c.len-leaf.result ≡ length c.loop-key.nodes.items = search rules in
    let nodes = c.loop-key.invariant.count in
    let here : c.len-leaf.result ≡ length order + i = omega (arith, leaf, nodes) in
    let bound : DoBoundRow design c.bounds_at.result (get_or order i nowhere).row (own_list lists (length order + i)) = rw here at c.bounds_at.ensures in
    let fits =
    leaf_fits design order c.requires.order lists c.requires.lists i (get_or order i nowhere) c.bounds_at.result
    (slice_get-get_or order i nowhere (omega arith)) bound in
    rw c.in_ok-push.ensures.items (leaves_more order (DoFit design (row_lists order lists)) i
    (get_or order i nowhere) c.loop-key.nodes.items c.bounds_at.result (slice_get-get_or order i nowhere (omega arith)) fits c.loop-key.invariant)

pub returns : goal.returns
returns g c =
    let all : c.loop-key.key-index ≡ length c.args.order.now = omega arith in
    let P : ℕ → Type 0 = λ n. AreLeavesUpTo c.args.order.now (DoFit c.args.design.now (row_lists c.args.order.now c.args.lists.now)) n c.loop-key.nodes.items in
    subst P all c.loop-key.invariant
