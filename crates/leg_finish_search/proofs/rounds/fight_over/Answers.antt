use Rattle.leg_lemmas.proofs.Places.{all_read}
use Rattle.leg_finish_search.specs.Steps.NetWalks.{IsLaidIn}
use Rattle.leg_finish_search.proofs.rounds.fight_over.Goals as goal

pub note_conflicts-requires-clause-laid : goal.note_conflicts-requires-clause-laid
note_conflicts-requires-clause-laid g c =
    all_read (IsLaidIn (g.L.Lattice.size_of c.args.board.now.ground.lattice.now)) c.args.laid.now c.loop-net.net-index c.net-item.result c.requires.laid
    c.loop-net-test.true c.net-item.is
