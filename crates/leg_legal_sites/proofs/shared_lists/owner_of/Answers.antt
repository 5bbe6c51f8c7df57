-- The highest node with a list owns it.
use Rattle.std.proofs.Common.{◌≡◌, ◌≤◌, None, get_or, sym, ap, ◌∙◌, arith}
use Rattle.std.specs.Prelude.{is_some}
use Rattle.leg_legal_sites.proofs.ListMoves.{none_before}
use Rattle.leg_legal_sites.proofs.SharedLists.{node_has, owner_begins, owner_higher, owner_stays, owner_found}
use Rattle.leg_legal_sites.proofs.shared_lists.owner_of.Goals as goal
use Rattle.leg_legal_sites.proofs.shared_lists.owner_of.Goals.{then-is_some, else-is_some}

pub loop-above-init : goal.loop-above-init
loop-above-init g c = owner_begins c.args.lists.now c.args.node c.requires.first c.requires.there

pub loop-above-preserved : goal.loop-above-preserved
loop-above-preserved g c =
    let lists = c.args.lists.now in
    let node = c.args.node in
    let above = c.loop-above.above in
    let so_far = c.loop-above.invariant in
    let some : 1 ≤ above = let test = c.loop-above-test.true in omega (arith, test, c.max-least.ensures) in
    let has : c.is_some.result ≡ is_some (get_or lists above None) =
    node_has lists above so_far.before c.index-lists-above.result c.is_some.result (c.is_some.ensures ∙ ap is_some c.index-lists-above.is) in
    elim c.if-is_some.branch [
      | then-is_some w ↦ rw (w.owner-is) (owner_higher lists node c.loop-above.owner above some (sym has ∙ w.if-is_some.true) so_far)
      | else-is_some w ↦ rw (w.owner-is) (owner_stays lists node c.loop-above.owner above some (sym has ∙ w.if-is_some.false) so_far)
    ]

pub returns : goal.returns
returns g c =
    let so_far = c.loop-above.invariant in
    let test = c.loop-above-test.false in
    let none = none_before c.args.lists.now c.args.highest c.loop-above.above c.requires.none (omega (arith, test, c.max-least.ensures)) in
    record { within = so_far.within; owner = owner_found c.args.lists.now c.args.node c.loop-above.owner c.loop-above.above none so_far }
