-- The list's own sites are bounded.
use Rattle.leg_legal_sites.proofs.rows_taken.bounds_of_list.Goals as goal

pub returns-in-Some : goal.returns-in-Some
returns-in-Some g c = rw c.in-Some.is c.with_sites.ensures
