use Rattle.std.proofs.lemmas.List.Elements.{All-get_or}
use Rattle.leg_finish_search.specs.Steps.NetWalks.{IsLaidIn}
use Rattle.leg_finish_search.proofs.rounds.take_turn.Goals as goal

pub is_in_conflict-requires-clause-laid : goal.is_in_conflict-requires-clause-laid
is_in_conflict-requires-clause-laid g c =
    All-get_or (IsLaidIn (g.L.Lattice.size_of c.args.board.now.ground.lattice.now)) c.args.laid.now c.args.place _ c.requires.there c.requires.laid
