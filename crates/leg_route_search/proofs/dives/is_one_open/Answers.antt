use Rattle.std.proofs.Common.{sym, ◌∙◌, arith}
use Rattle.std.proofs.lemmas.Bool.{false≢true}
use Rattle.std.proofs.lemmas.List.{take_all}
use Rattle.std.proofs.lemmas.List.Elements.{All-more}
use Rattle.leg_route_search.proofs.dives.is_one_open.Goals as goal

pub loop-end-preserved : goal.loop-end-preserved
loop-end-preserved g c =
    All-more (λ a. ¬ g.G.Graph.OpenNode c.args.graph.now a) c.args.ends.now c.loop-end.end-index 0 (omega arith) c.loop-end.invariant
    (λ is_open. false≢true (sym c.if-is_open_node.false ∙ c.is_open_node.ensures.1 is_open))

pub returns : goal.returns
returns g c = λ _. rw (take_all c.loop-end.end-index c.args.ends.now (omega arith)) at c.loop-end.invariant
