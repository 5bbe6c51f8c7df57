-- One more node has no list.
use Rattle.std.proofs.Common.{◌<◌, length, None, get_or, inl, inr, sym, ap, ◌∙◌, arith}
use Rattle.std.specs.Prelude.{is_some}
use Rattle.std.proofs.lemmas.Bool.{cases_eq}
use Rattle.leg_legal_sites.proofs.SharedLists.{node_has, none_from}
use Rattle.leg_legal_sites.proofs.shared_lists.highest_from.Goals as goal

pub loop-node-preserved : goal.loop-node-preserved
loop-node-preserved g c k below =
    let lists = c.args.lists.now in
    let node = c.loop-node.node in
    let test = c.loop-node-test.true in
    let within : node < length lists = omega (arith, test, c.requires.count) in
    elim (cases_eq k node) [
      | inl same ↦
          ap (λ n. get_or lists n None) same
          ∙ none_from (get_or lists node None) (sym (node_has lists node within c.index-lists-node.result c.is_some.result
          (c.is_some.ensures ∙ ap is_some c.index-lists-node.is)) ∙ c.if-is_some.false)
      | inr differ ↦ c.loop-node.invariant k (omega (arith, below, differ))
    ]
