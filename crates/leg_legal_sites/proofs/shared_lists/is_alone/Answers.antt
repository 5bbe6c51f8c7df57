-- No node above has a list.
use Rattle.std.proofs.Common.{◌≡◌, ◌≤◌, None, get_or, sym, ap, ◌∙◌, arith}
use Rattle.std.specs.Prelude.{is_some}
use Rattle.leg_legal_sites.proofs.ListMoves.{none_before}
use Rattle.leg_legal_sites.proofs.SharedLists.{node_has, alone_begins, alone_higher, alone_found}
use Rattle.leg_legal_sites.proofs.shared_lists.is_alone.Goals as goal

pub loop-above-init : goal.loop-above-init
loop-above-init g c = alone_begins c.args.lists.now c.args.node c.requires.there

pub loop-above-preserved : goal.loop-above-preserved
loop-above-preserved g c =
    let lists = c.args.lists.now in
    let above = c.loop-above.above in
    let so_far = c.loop-above.invariant in
    let some : 1 ≤ above = let test = c.loop-above-test.true in omega (arith, test, c.max-least.ensures) in
    let has : c.is_some.result ≡ is_some (get_or lists above None) =
    node_has lists above so_far.before c.index-lists-above.result c.is_some.result (c.is_some.ensures ∙ ap is_some c.index-lists-above.is) in
    alone_higher lists c.args.node above some (sym has ∙ c.if-is_some.false) so_far

pub returns : goal.returns
returns g c is =
    let test = c.loop-above-test.false in
    let none = none_before c.args.lists.now c.args.highest c.loop-above.above c.requires.none (omega (arith, test, c.max-least.ensures)) in
    alone_found c.args.lists.now c.args.node c.loop-above.above none c.loop-above.invariant
