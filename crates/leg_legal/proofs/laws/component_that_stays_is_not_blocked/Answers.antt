-- A component that is blocked may be moved.
use Rattle.std.proofs.Common.{[]}
use Rattle.std.proofs.lemmas.List.Elements.{All-head}
use Rattle.leg_design_records.specs.Movable.{IsMovable}
use Rattle.leg_place.proofs.PlaceFaults.{blocked_there}
use Rattle.leg_legal.proofs.laws.component_that_stays_is_not_blocked.Goals as goal

pub returns : goal.returns
returns c = λ design component h. All-head (λ d. IsMovable design d → ⊥) component [] h.staying (blocked_there design component h.holds).movable
