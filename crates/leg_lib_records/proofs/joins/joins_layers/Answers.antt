use Rattle.std.proofs.Common.{map, sym}
use Rattle.leg_lib_records.proofs.JoinLayers.{two_join_none}
use Rattle.leg_lib_records.proofs.joins.joins_layers.Goals as goal

pub returns-in-None : goal.returns-in-None
returns-in-None g c =
    sym (two_join_none (map g.L.ViaLayer.use_of c.args.layers.now) c.args.parts.now c.in-Some.low c.in-Some.high c.in-Some.ensures c.in-None.ensures)
