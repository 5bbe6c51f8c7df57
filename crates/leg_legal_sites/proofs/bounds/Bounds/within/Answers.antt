use Rattle.std.proofs.Common.{rules}
use Rattle.leg_legal_sites.proofs.bounds.Bounds.within.Goals as goal

pub returns : goal.returns
returns c = record {
  least_row = search rules;
  least_site = search rules;
  most_site = search rules;
  low = search rules;
  high = search rules;
  top = search rules;
  left = search rules;
  right = search rules;
  corner = search rules;
  longest = search rules;
}
