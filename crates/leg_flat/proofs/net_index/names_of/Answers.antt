use Rattle.std.proofs.Common.{◌∙◌, rules}
use Rattle.leg_flat.proofs.NetIndexes.{new_name, names_more}
use Rattle.leg_flat.proofs.net_index.names_of.Goals as goal

pub push-requires : goal.push-requires
push-requires g c =
    new_name c.args.nets.now c.loop-net.net-index c.net-item.result c.bytes.result.now c.loop-net.names c.requires c.loop-net-test.true c.net-item.is
    (search rules) c.loop-net.invariant

pub loop-net-preserved : goal.loop-net-preserved
loop-net-preserved g c =
    c.in_ok-push.ensures.pushed ∙ names_more c.args.nets.now c.loop-net.net-index c.net-item.result c.bytes.result.now c.loop-net.names c.loop-net-test.true
    c.net-item.is (search rules) c.loop-net.invariant
