use Rattle.std.proofs.Common.{◌<◌, ◌∙◌}
use Rattle.std.proofs.lemmas.List.Elements.{All-push}
use Rattle.leg_finish_search.specs.Slots.{AreSlots}
use Rattle.leg_finish_search.specs.declared.tree.Source.{Source}
use Rattle.leg_finish_search.proofs.Elements.{all_before}
use Rattle.leg_finish_search.proofs.turn.join_all.Goals as goal

pub next_way-requires-clause-sources : goal.next_way-requires-clause-sources
next_way-requires-clause-sources g c =
    let size = g.L.Lattice.size_of c.args.ground.now.lattice.now in
    all_before (λ n. n < size) (λ (s : Source). s.slot) c.sources.result.now (rw c.sources.ensures c.loop.invariant.tree.sources)

pub loop-preserved : goal.loop-preserved
loop-preserved g c =
    let size = g.L.Lattice.size_of c.args.ground.now.lattice.now in
    let tree = c.in_ok-use_way.ensures in
    record {
      same = c.in_ok-way.ensures.same ∙ c.set_waiting_ends.ensures ∙ c.loop.invariant.same;
      tree = rw c.in_ok-push_walk.ensures (record {
        count = rw c.deref-in-loop-2.ensures.value at tree.count;
        sources = tree.sources;
        walks = All-push (AreSlots size) c.use_way.new.tree.walks c.in-Some-2.way.items tree.walks (rw c.in-Some-2.is at c.in_ok-way.ensures.way);
      });
    }
