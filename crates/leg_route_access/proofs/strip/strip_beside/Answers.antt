use Rattle.std.proofs.Common.{ap, ◌∙◌, w64}
use Rattle.std.proofs.lemmas.Int.{to_z-of_z}
use Rattle.leg_rules.specs.Metal.Outline.Outline.{Line}
use Rattle.leg_wire_spacing.specs.Access.{alone}
use Rattle.leg_rules.specs.Route.StepWires.{half}
use Rattle.leg_route_access.proofs.Squares.{open_is_clean, clean_is_open}
use Rattle.leg_route_access.proofs.Strips.{strip_of, points_forth, points_back}
use Rattle.leg_route_access.proofs.strip.strip_beside.Goals as goal

pub returns-clause-forth : goal.returns-clause-forth
returns-clause-forth g c net =
    let low = c.args.low.now in
    let high = c.args.high.now in
    let width = c.args.width in
    let flat = alone c.args.shape.now in
    let clean = rw c.library.ensures.is at (c.access_beside.ensures net) in
    let is = c.strip-metal.ensures ∙ ap (strip_of low high) (to_z-of_z w64 width c.ranges.width) in
    let points = points_forth low high width c.requires.width c.strip-metal.result is c.requires.stretch in (
      λ admits. clean_is_open c.args.design.now flat net c.args.layer (Line low high width (half width) (half width)) c.strip-metal.result points
          (clean.0 admits),
      λ is_open. clean.1 (open_is_clean c.args.design.now flat net c.args.layer
          (Line low high width (half width) (half width)) c.strip-metal.result points is_open),
    )

pub returns-clause-back : goal.returns-clause-back
returns-clause-back g c net =
    let low = c.args.low.now in
    let high = c.args.high.now in
    let width = c.args.width in
    let flat = alone c.args.shape.now in
    let clean = rw c.library.ensures.is at (c.access_beside.ensures net) in
    let is = c.strip-metal.ensures ∙ ap (strip_of low high) (to_z-of_z w64 width c.ranges.width) in
    let points = points_back low high width c.requires.width c.strip-metal.result is c.requires.stretch in (
      λ admits. clean_is_open c.args.design.now flat net c.args.layer (Line high low width (half width) (half width)) c.strip-metal.result points
          (clean.0 admits),
      λ is_open. clean.1 (open_is_clean c.args.design.now flat net c.args.layer
          (Line high low width (half width) (half width)) c.strip-metal.result points is_open),
    )
