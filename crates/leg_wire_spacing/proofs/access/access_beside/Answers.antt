-- A near shape is an obstacle to all nets but its own.
use Rattle.std.proofs.Common.{sym}
use Rattle.leg_wire_spacing.proofs.AccessBeside.{IsNear, clean_only, not_clean_near}
use Rattle.leg_wire_spacing.proofs.access.access_beside.Goals as goal

pub returns-in-Net : goal.returns-in-Net
returns-in-Net g c =
    let library = c.args.library.now in
    let close = rw c.greatest_spacing_on-spacing.ensures.is at (c.are_close.ensures.0 c.if-not-are_close.false) in
    let near : IsNear library c.args.shape.now c.args.layer c.args.rect.now = record { layer_is = c.if-layer-shape.false; close = close } in
    clean_only library c.args.shape.now c.args.layer c.args.rect.now near c.in-Net.net c.in-Net.is

pub returns-in_default : goal.returns-in_default
returns-in_default g c net =
    let library = c.args.library.now in
    let close = rw c.greatest_spacing_on-spacing.ensures.is at (c.are_close.ensures.0 c.if-not-are_close.false) in
    let near : IsNear library c.args.shape.now c.args.layer c.args.rect.now = record { layer_is = c.if-layer-shape.false; close = close } in (
      λ none. absurd none,
      not_clean_near library c.args.shape.now c.args.layer c.args.rect.now near net (λ own. c.in_default.not-Net net (sym own)),
    )
