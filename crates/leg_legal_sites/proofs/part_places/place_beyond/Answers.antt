-- The part in the middle begins beyond the site, and so do those after it.
use Rattle.std.proofs.Common.{◌+◌, ◌-◌, ◌/◌, ◌<◌, length, refl, arith}
use Rattle.std.proofs.lemmas.Option.{slice_get_read}
use Rattle.leg_legal_sites.proofs.PartPlaces.{beyond_less}
use Rattle.leg_legal_sites.proofs.part_places.place_beyond.Goals as goal

pub halves-preserved-then-begin_beyond : goal.halves-preserved-then-begin_beyond
halves-preserved-then-begin_beyond g c =
    let parts = c.args.parts.now in
    let middle = c.halves.low + (c.halves.high - c.halves.low) / 2 in
    let p = c.index-parts-middle.result in
    let within : middle < length parts = omega arith in
    let at = slice_get_read parts _ middle p refl within c.index-parts-middle.is in record {
      beyond = beyond_less parts c.requires middle c.args.site p at (c.begin_beyond.ensures c.if-begin_beyond.true);
      order = omega arith;
      within = omega arith;
    }
