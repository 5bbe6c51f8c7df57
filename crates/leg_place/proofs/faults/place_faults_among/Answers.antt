-- Behind the last kind of placement the list is whole.
use Rattle.leg_place.proofs.Listing.{listing_whole}
use Rattle.leg_place.proofs.faults.place_faults_among.Goals as goal

pub returns : goal.returns
returns g c =
    listing_whole c.args.design.now c.args.marks.now c.push_each-4.new.found.items c.in_ok-push_each-4.ensures
