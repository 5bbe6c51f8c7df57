use Rattle.std.proofs.Common.{◌<◌}
use Rattle.std.proofs.lemmas.List.Elements.{All-push}
use Rattle.leg_finish.proofs.grid_lattice.push_via.Goals as goal

pub loop-shape-preserved : goal.loop-shape-preserved
loop-shape-preserved g c =
    λ levels low before. rw c.in_ok-push.ensures.items
    (All-push (λ part. part.level < levels) c.loop-shape.parts.items _ (c.loop-shape.invariant levels low before) low)
