use Rattle.leg_route_search.proofs.dives.dive_from.Goals as goal

pub dive-requires-clause-known : goal.dive-requires-clause-known
dive-requires-clause-known g c = c.in_ok-is_open.ensures.known

pub returns-clause-found : goal.returns-clause-found
returns-clause-found g c = c.in_ok-walk.ensures.found

pub returns-clause-known : goal.returns-clause-known
returns-clause-known g c = c.in_ok-walk.ensures.known

pub returns-in_err-walk-clause-known : goal.returns-in_err-walk-clause-known
returns-in_err-walk-clause-known g c = c.in_err-walk.ensures.known
