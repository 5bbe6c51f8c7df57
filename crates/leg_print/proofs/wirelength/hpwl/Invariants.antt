use Rattle.std.proofs.Common.{◌*◌, ◌≤◌}
use Rattle.leg_geom.specs.declared.limits.TheConstants.{COORDINATE_LIMIT}
use Rattle.leg_print.proofs.NetCentres.{AreLengths}
use Rattle.leg_print.proofs.wirelength.hpwl.Given as goal

abbrev pub invariant-loop-net : goal.invariant-loop-net
invariant-loop-net g l = record {
  lengths : AreLengths l.design l.net-index l.total;
  small : l.total ≤ 4 * COORDINATE_LIMIT * l.net-index;
}
