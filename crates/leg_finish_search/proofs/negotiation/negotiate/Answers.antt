use Rattle.std.proofs.Common.{length, ap, ◌∙◌}
use Rattle.std.proofs.lemmas.List.Elements.{All-map, All-weaker}
use Rattle.leg_finish_search.specs.Slots.{AreSlotLists}
use Rattle.leg_finish_search.specs.Steps.NetWalks.{LaidModel, IsLaidIn}
use Rattle.leg_finish_search.proofs.Elements.{written}
use Rattle.leg_finish_search.proofs.negotiation.negotiate.Goals as goal

pub lay_all-requires-clause-laid : goal.lay_all-requires-clause-laid
lay_all-requires-clause-laid g c = rw c.deref_mut.ensures.value (c.in_ok-laid.ensures.laid (g.L.Lattice.size_of c.in_ok-board.board.ground.lattice.now))

pub left_after-requires-clause-laid : goal.left_after-requires-clause-laid
left_after-requires-clause-laid g c =
    let same =
    written c.in_ok-laid.laid.len c.lay_all.new.laid c.in_ok-laid.laid.items c.in_ok-laid.laid.ok.0
    (c.in_ok-is_done.ensures.count ∙ ap length c.deref_mut.ensures.value) in
    rw (c.deref.ensures.value, same) c.in_ok-is_done.ensures.laid

pub returns-clause-walks : goal.returns-clause-walks
returns-clause-walks g c =
    let size = g.L.Lattice.size_of c.in_ok-board.board.ground.lattice.now in
    let laid = c.lay_all.new.laid in
    let same =
    written c.in_ok-laid.laid.len laid c.in_ok-laid.laid.items c.in_ok-laid.laid.ok.0 (c.in_ok-is_done.ensures.count ∙ ap length c.deref_mut.ensures.value) in
    let walks = All-map (AreSlotLists size) (λ (net : LaidModel). net.walks) laid
    (All-weaker (IsLaidIn size) (λ (net : LaidModel). AreSlotLists size net.walks) (λ net it. it.walks) laid c.in_ok-is_done.ensures.laid) in
    rw (c.in_ok-walks_of.ensures, same, ← c.in_ok-board.ensures.lattice) walks
