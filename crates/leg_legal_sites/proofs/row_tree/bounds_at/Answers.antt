-- The node's own list is bounded.
use Rattle.std.proofs.Common.{◌≡◌, [], ap, ◌∙◌}
use Rattle.std.specs.Prelude.{unwrap_or}
use Rattle.std.proofs.lemmas.Option.{none-some}
use Rattle.leg_legal_sites.specs.Steps.SharedLists.{own_list}
use Rattle.leg_legal_sites.proofs.SharedLists.{node_read}
use Rattle.leg_legal_sites.proofs.RowBounds.{bound_nothing}
use Rattle.leg_legal_sites.proofs.row_tree.bounds_at.Goals as goal

pub returns-in_default : goal.returns-in_default
returns-in_default g c row site at =
    let none : own_list c.args.lists.now c.args.node ≡ [] =
    ap (λ o. unwrap_or o []) (node_read c.args.lists.now c.args.node c.requires.node c.index-lists-node.result c.index-lists-node.is ∙ c.in_default.is) in
    bound_nothing c.args.number row site.size c.of_nothing.result (own_list c.args.lists.now c.args.node)
    (λ k free. let there = free.there in none-some free.stretch (rw none at there))

pub bounds_of-requires-clause-inside : goal.bounds_of-requires-clause-inside
bounds_of-requires-clause-inside g c =
    let had : own_list c.args.lists.now c.args.node ≡ c.in-Some.list =
    ap (λ o. unwrap_or o []) (node_read c.args.lists.now c.args.node c.requires.node c.index-lists-node.result c.index-lists-node.is ∙ c.in-Some.is) in
    rw had at c.requires.inside

pub returns : goal.returns
returns g c =
    let had : own_list c.args.lists.now c.args.node ≡ c.in-Some.list =
    ap (λ o. unwrap_or o []) (node_read c.args.lists.now c.args.node c.requires.node c.index-lists-node.result c.index-lists-node.is ∙ c.in-Some.is) in
    rw had c.bounds_of.ensures
