-- The key is that of a row.
use Rattle.std.proofs.Common.{refl}
use Rattle.std.proofs.lemmas.Option.{slice_get_within}
use Rattle.leg_legal_sites.proofs.RowPlaces.{key_there}
use Rattle.leg_legal_sites.proofs.rows_taken.row_beneath.Goals as goal

pub returns : goal.returns
returns g c =
    let leaf = c.key_beneath.ensures in
    let of = key_there c.args.design.now.rows c.args.order.now c.requires.order leaf.place c.key_beneath.result leaf.there in
    record { within = slice_get_within c.args.design.now.rows c.key_beneath.result.row of.row of.there; leaf = (c.key_beneath.result, leaf, refl) }
