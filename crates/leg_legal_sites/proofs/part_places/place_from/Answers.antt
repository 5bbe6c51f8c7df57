-- The part in the middle ends before the site, and so do those before it.
use Rattle.std.proofs.Common.{◌+◌, ◌-◌, ◌/◌, ◌<◌, length, refl, arith}
use Rattle.std.proofs.lemmas.Option.{slice_get_read}
use Rattle.leg_legal_sites.proofs.PartPlaces.{before_more}
use Rattle.leg_legal_sites.proofs.part_places.place_from.Goals as goal

pub halves-preserved-then-end_by : goal.halves-preserved-then-end_by
halves-preserved-then-end_by g c =
    let parts = c.args.parts.now in
    let middle = c.halves.low + (c.halves.high - c.halves.low) / 2 in
    let p = c.index-parts-middle.result in
    let within : middle < length parts = omega arith in
    let at = slice_get_read parts _ middle p refl within c.index-parts-middle.is in record {
      before = before_more parts c.requires middle c.args.site p at (c.end_by.ensures c.if-end_by.true);
      order = omega arith;
      within = c.halves.invariant.within;
    }
