use Rattle.std.proofs.Common.{take}
use Rattle.leg_lib_records.specs.Scale.{IsSiteAt, OneForOne}
use Rattle.leg_lib_records.proofs.scale.sites_at.Given as goal

abbrev pub invariant-loop-site : goal.invariant-loop-site
invariant-loop-site g l = OneForOne (IsSiteAt l.n) (take l.site-index l.site-items) l.sites.items
