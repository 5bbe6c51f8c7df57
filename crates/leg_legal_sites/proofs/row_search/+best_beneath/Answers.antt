-- None beneath the node is better, or its leaf has the row's best position, or the best is that of the nodes below it.
use Rattle.std.proofs.Common.{◌≡◌, ℕ, ◌+◌, ◌*◌, ◌-◌, ◌<◌, length, subst, arith, rules}
use Rattle.leg_legal_sites.specs.Steps.BestPosition.{IsBestOf}
use Rattle.leg_legal_sites.specs.Steps.FreeListSharing.{row_lists}
use Rattle.leg_legal_sites.specs.Steps.RowPositions.{IsBestOrBeneath}
use Rattle.leg_legal_sites.specs.Steps.Branches.{IsBranch}
use Rattle.leg_legal_sites.proofs.Branches.{first_is, last_is, first_further, last_further, sides_below}
use Rattle.leg_legal_sites.proofs.BestBeneath.{best_kept, best_of_two}
use Rattle.leg_legal_sites.proofs.row_search.+best_beneath.Goals as goal

pub returns-then-are_no_better : goal.returns-then-are_no_better
returns-then-are_no_better g t c =
    let branch = c.args.branch.now in
    best_kept c.args.design.now c.rows-rows.ensures.proper.rows
    (row_lists c.args.order.now c.args.lists.now) c.args.order.now c.args.wanted.now c.requires.ready c.requires.sized
    branch.node branch.bounds c.args.best c.requires.branch.fits (c.are_no_better.ensures c.if-are_no_better.true)

pub best_at_leaf-requires-clause-there : goal.best_at_leaf-requires-clause-there
best_at_leaf-requires-clause-there g t c =
    let from = c.if-branch-order.true in
    let within = c.requires.branch.within in
    omega (arith, from, within)

pub best_at_leaf-requires-clause-within : goal.best_at_leaf-requires-clause-within
best_at_leaf-requires-clause-within g t c =
    let owned = c.requires.branch.owned in
    let count = c.requires.count in
    omega (arith, owned, count)

pub best_at_leaf-requires-clause-owner : goal.best_at_leaf-requires-clause-owner
best_at_leaf-requires-clause-owner g t c =
    let order = c.args.order.now in
    let node = c.args.branch.now.node in
    let from = c.if-branch-order.true in
    let here : node ≡ length order + (node - length order) = omega (arith, from) in
    rw (← here) c.requires.branch.owner

pub best_beneath-best-requires : goal.best_beneath-best-requires
best_beneath-best-requires g t c =
    let above = c.args.branch.now in
    let near = c.nearer_first.result.0 in
    let far = c.nearer_first.result.1 in
    let branch : IsBranch c.args.design.now c.args.order.now c.args.lists.now near =
    first_is c.args.design.now c.args.order.now c.args.lists.now c.args.nodes.now c.requires.rows above near far c.requires.branch c.if-branch-order.false
    c.nearer_first.ensures in
    let further : above.node < near.node = first_further c.args.lists.now c.args.nodes.now above near far c.requires.branch.first c.nearer_first.ensures in
    let within : near.node < 2 * length c.args.order.now = branch.within in
    search (rules, branch, further, within)

pub best_beneath-requires : goal.best_beneath-requires
best_beneath-requires g t c =
    let above = c.args.branch.now in
    let near = c.nearer_first.result.0 in
    let far = c.nearer_first.result.1 in
    let branch : IsBranch c.args.design.now c.args.order.now c.args.lists.now far =
    last_is c.args.design.now c.args.order.now c.args.lists.now c.args.nodes.now c.requires.rows above near far c.requires.branch c.if-branch-order.false
    c.nearer_first.ensures in
    let further : above.node < far.node = last_further c.args.lists.now c.args.nodes.now above near far c.requires.branch.first c.nearer_first.ensures in
    let within : far.node < 2 * length c.args.order.now = branch.within in
    search (rules, branch, further, within)

pub returns-then-branch-order : goal.returns-then-branch-order
returns-then-branch-order g t c =
    let order = c.args.order.now in
    let node = c.args.branch.now.node in
    let from = c.if-branch-order.true in
    let here : length order + (node - length order) ≡ node = omega (arith, from) in
    let P : ℕ → Type 0 =
    λ n. IsBestOf (IsBestOrBeneath c.args.design.now.rows order (row_lists order c.args.lists.now) c.args.wanted.now n c.args.best) c.best_at_leaf.result in
    subst P here c.best_at_leaf.ensures

pub returns : goal.returns
returns g t c =
    best_of_two c.args.design.now c.rows-rows.ensures.proper.rows
    (row_lists c.args.order.now c.args.lists.now) c.args.order.now c.args.wanted.now c.requires.ready c.requires.sized
    c.args.branch.now.node c.nearer_first.result.0.node c.nearer_first.result.1.node c.args.best c.best_beneath-best.result c.best_beneath.result
    c.if-branch-order.false
    (sides_below c.args.lists.now c.args.nodes.now c.args.branch.now c.nearer_first.result.0 c.nearer_first.result.1 c.nearer_first.ensures)
    c.best_beneath-best.ensures c.best_beneath.ensures
