use Rattle.leg_rules.specs.Metal.Outline.Outline.{Shifted}
use Rattle.leg_wire_spacing.specs.Access.{alone}
use Rattle.leg_route_access.proofs.Squares.{open_is_clean, clean_is_open}
use Rattle.leg_route_access.proofs.patch.patch_beside.Goals as goal

pub returns : goal.returns
returns g c net =
    let clean = rw c.library.ensures.is at (c.access_beside.ensures net) in (
      λ is. clean_is_open c.args.design.now (alone c.args.shape.now) net c.args.layer
          (Shifted c.args.at.now c.args.rect.now) c.shifted-metal.result c.shifted-metal.ensures (clean.0 is),
      λ is_open. clean.1 (open_is_clean c.args.design.now (alone c.args.shape.now) net c.args.layer
          (Shifted c.args.at.now c.args.rect.now) c.shifted-metal.result c.shifted-metal.ensures is_open),
    )
