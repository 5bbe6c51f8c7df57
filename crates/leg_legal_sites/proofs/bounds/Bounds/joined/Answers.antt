use Rattle.std.proofs.Common.{rules}
use Rattle.leg_legal_sites.proofs.bounds.Bounds.joined.Goals as goal

pub returns-clause-this : goal.returns-clause-this
returns-clause-this c = record {
  least_row = search rules;
  least_site = search rules;
  most_site = search rules;
  low = search rules;
  high = search rules;
  top = search rules;
  left = search rules;
  right = search rules;
  corner = search rules;
  longest = search rules;
}

pub returns-clause-other : goal.returns-clause-other
returns-clause-other c = record {
  least_row = search rules;
  least_site = search rules;
  most_site = search rules;
  low = search rules;
  high = search rules;
  top = search rules;
  left = search rules;
  right = search rules;
  corner = search rules;
  longest = search rules;
}
