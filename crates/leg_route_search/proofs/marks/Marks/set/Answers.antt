use Rattle.leg_route_search.proofs.NewMarks.{noted_push_mark}
use Rattle.leg_route_search.proofs.marks.Marks.set.Goals as goal

pub invariant_of-self-2 : goal.invariant_of-self-2
invariant_of-self-2 g c =
    let fields = c.self.inside in
    rw c.in_ok-push.ensures.items
    (noted_push_mark fields.of_nodes.items fields.noted.items c.args.node c.args.mark (rw (← c.self.view_is) at c.requires) c.self.invariant)
