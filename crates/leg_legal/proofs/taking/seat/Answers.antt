-- The best place, and its box.
use Rattle.std.proofs.Common.{◌≡◌, refl}
use Rattle.leg_rules.specs.Placement.Box.{placed_box}
use Rattle.leg_legal.specs.Steps.Seats.{IsBestAmong}
use Rattle.leg_legal.proofs.taking.seat.Goals as goal

pub returns-in-Ok-clause-seated : goal.returns-in-Ok-clause-seated
returns-in-Ok-clause-seated g c =
    λ boxes known.
    let best : IsBestAmong c.args.design.now boxes c.args.number c.in-Some.place =
    c.in-Some.ensures.best c.args.number boxes c.wanted_of-wanted.ensures known in
    let stands = best.free.stands in
    let rect_is : c.box_at-rect.result ≡ placed_box stands.master.size c.in-Some.place =
    c.box_at-rect.ensures stands.component stands.master stands.there stands.is_master in
    record { best = best; known = rw rect_is at (c.in-Ok.ensures boxes known) }

pub returns-in-None-clause-refused : goal.returns-in-None-clause-refused
returns-in-None-clause-refused g c = λ boxes known. (refl, c.in-None.ensures.best c.args.number boxes c.wanted_of-wanted.ensures known)
