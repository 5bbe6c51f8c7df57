use Rattle.leg_lemmas.proofs.Places.{all_read}
use Rattle.leg_finish_search.specs.Steps.NetWalks.{IsLaidIn}
use Rattle.leg_finish_search.proofs.rounds.count_conflicts.Goals as goal

pub is_in_conflict-requires-clause-laid : goal.is_in_conflict-requires-clause-laid
is_in_conflict-requires-clause-laid g c =
    all_read (IsLaidIn (g.L.Lattice.size_of c.args.board.now.ground.lattice.now)) c.args.laid.now c.loop-net.net-index c.net-item.result c.requires.laid
    c.loop-net-test.true c.net-item.is
