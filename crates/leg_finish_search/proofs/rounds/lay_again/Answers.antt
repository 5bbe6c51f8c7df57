use Rattle.std.proofs.Common.{◌∙◌}
use Rattle.std.proofs.lemmas.List.Elements.{All-get_or, All-set}
use Rattle.leg_finish_search.specs.declared.net.NetToJoin.{NetToJoin}
use Rattle.leg_finish_search.specs.Slots.{AreSlotLists}
use Rattle.leg_finish_search.specs.Steps.NetWalks.{IsLaidIn}
use Rattle.leg_finish_search.proofs.rounds.lay_again.Goals as goal

pub lift-requires : goal.lift-requires
lift-requires g c =
    rw c.requires.size (All-get_or (IsLaidIn (g.L.Lattice.size_of c.args.board.now.ground.lattice.now)) c.args.laid.now c.args.place c.index-laid-place.result
    c.requires.there c.requires.laid)

pub lay-requires-clause-groups : goal.lay-requires-clause-groups
lay-requires-clause-groups g c =
    let size = g.L.Lattice.size_of c.args.board.now.ground.lattice.now in
    All-get_or (λ (net : NetToJoin g.row.A.Denot). AreSlotLists size net.groups.items) c.args.board.now.nets.now c.args.place c.index-board-place.result
    (rw c.requires.count at c.requires.there) c.args.board.now.nets_within

pub new-requires-clause-clashes : goal.new-requires-clause-clashes
new-requires-clause-clashes g c = rw c.deref.ensures.value c.args.board.now.clashes_within

pub put_back-requires : goal.put_back-requires
put_back-requires g c =
    let size = g.L.Lattice.size_of c.args.board.now.ground.lattice.now in
    let same = c.in_ok-walks.ensures.same ∙ c.lift.ensures ∙ c.requires.size in
    rw same (All-get_or (IsLaidIn size) c.args.laid.now c.args.place c.index-laid-place-in-None.result c.requires.there c.requires.laid)

pub returns-in_ok-net-in-Some-clause-laid : goal.returns-in_ok-net-in-Some-clause-laid
returns-in_ok-net-in-Some-clause-laid g c =
    rw c.put.ensures (All-set (IsLaidIn (g.L.Lattice.size_of c.args.board.now.ground.lattice.now)) c.args.laid.now c.args.place c.in_ok-net-in-Some.net
    c.in_ok-net-in-Some.ensures.laid c.requires.laid)
