-- There is one part.
use Rattle.std.proofs.Common.{◌≡◌, [], ◌∷◌, rules}
use Rattle.leg_legal_sites.proofs.Parts.{only_part}
use Rattle.leg_legal_sites.proofs.row_parts.RowParts.new.Goals as goal

pub returns : goal.returns
returns g c k =
    let is : c.push.new.self.items ≡ c.in_ok-sites.sites ∷ [] = search rules in
    let only = only_part c.in_ok-sites.sites k in
    let sites = c.in_ok-sites.ensures.sites k in
    rw is (λ site. sites.0 (only.0 site), λ both. only.1 (sites.1 both))
