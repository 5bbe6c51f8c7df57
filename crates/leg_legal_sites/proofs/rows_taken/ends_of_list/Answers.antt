-- The list's own sites have them.
use Rattle.leg_legal_sites.proofs.rows_taken.ends_of_list.Goals as goal

pub returns-in-Some : goal.returns-in-Some
returns-in-Some g c = rw c.in-Some.is c.ends.ensures
