use Rattle.std.proofs.Common.{◌≡◌, [], ◌∷◌, ◌++◌, ◌∙◌, arith}
use Rattle.std.proofs.Math.ListN.{length-set}
use Rattle.std.proofs.lemmas.List.{nil_from_length}
use Rattle.std.proofs.lemmas.List.Elements.{Contains-push}
use Rattle.leg_route_search.specs.declared.mark.Mark.TheVariants.{Unseen}
use Rattle.leg_route_search.proofs.NewMarks.{noted_pop, unseen_from_noted}
use Rattle.leg_route_search.proofs.marks.Marks.reset.Goals as goal

pub index_mut-requires : goal.index_mut-requires
index_mut-requires g c =
    let fields = c.loop-node.self-inside in
    let popped : fields.noted.items ≡ c.pop.new.self.items ++ c.in-Some.node ∷ [] = c.in-Some.ensures.items in
    let within = c.loop-node.invariant.noted.within c.in-Some.node (rw popped (Contains-push c.pop.new.self.items c.in-Some.node)) in
    omega (arith, within, fields.of_nodes.ok.0)

pub loop-node-preserved : goal.loop-node-preserved
loop-node-preserved g c =
    let fields = c.loop-node.self-inside in
    let popped : fields.noted.items ≡ c.pop.new.self.items ++ c.in-Some.node ∷ [] = c.in-Some.ensures.items in
    record {
      noted = noted_pop fields.of_nodes.items c.pop.new.self.items c.in-Some.node (rw popped at c.loop-node.invariant.noted);
      count = length-set fields.of_nodes.items c.in-Some.node Unseen ∙ c.loop-node.invariant.count;
    }

pub returns-clause-unseen : goal.returns-clause-unseen
returns-clause-unseen g c =
    let fields = c.loop-node.self-inside in
    let empty : fields.noted.items ≡ [] = nil_from_length fields.noted.items (omega (arith, fields.noted.ok.0, c.in_default.ensures.cases.0)) in
    unseen_from_noted fields.of_nodes.items (rw empty at c.loop-node.invariant.noted)
