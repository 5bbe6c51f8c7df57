-- The node has as many members as follow it.
use Rattle.std.proofs.Common.{refl, arith}
use Rattle.leg_sweep.specs.declared.node.Content.TheVariants.{Group}
use Rattle.leg_sweep.proofs.groups.close_group.Goals as goal

pub returns : goal.returns
returns c = record {
  node = record { bounds = c.args.bounds; content = Group c.min-members.result };
  is = refl;
  around = refl;
  members = omega (arith, c.min-members.ensures);
  group = refl;
  right = λ rects. tt;
}
