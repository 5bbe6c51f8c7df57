-- Those that have a stretch are left.
use Rattle.std.proofs.Common.{◌≡◌, rules}
use Rattle.std.specs.List.{filter}
use Rattle.std.proofs.lemmas.List.Elements.{filter_from_retain}
use Rattle.leg_legal_sites.specs.Steps.Parts.{has_any}
use Rattle.leg_legal_sites.proofs.Parts.{all_of_some, in_row_some}
use Rattle.leg_legal_sites.proofs.take_parts.drop_empty.Goals as goal

pub returns-clause-kept : goal.returns-clause-kept
returns-clause-kept g c =
    let old = c.args.parts.now.items in
    let new = c.retain.new.self.items in
    let left : new ≡ filter has_any old = filter_from_retain _ has_any (λ p x b q k. search rules) _ old new c.retain.ensures.filtered in
    rw left (all_of_some old)

pub returns-clause-in_row : goal.returns-clause-in_row
returns-clause-in_row g c =
    let old = c.args.parts.now.items in
    let new = c.retain.new.self.items in
    let left : new ≡ filter has_any old = filter_from_retain _ has_any (λ p x b q k. search rules) _ old new c.retain.ensures.filtered in
    rw left (in_row_some old c.requires)
