use Rattle.std.proofs.Common.{arith}
use Rattle.std.proofs.lemmas.List.Elements.{Contains-get_or}
use Rattle.leg_route_search.proofs.dives.dive_from_ends.Goals as goal

pub dive_from-requires-clause-within : goal.dive_from-requires-clause-within
dive_from-requires-clause-within g c = c.requires.within _ (Contains-get_or c.args.ends.now c.loop-end.end-index 0 (omega arith))
