-- What a search comes to.
use Rattle.std.specs.Prelude.{ℕ, map}
use Rattle.leg_design_records.specs.Records.{DesignModel}
use Rattle.leg_finish.specs.declared.found.Found.{Found}
use Rattle.leg_finish.specs.declared.found.Found.TheVariants.{Wires, Left}
use Rattle.leg_finish.specs.Steps.Judgement.{AreFinishing}
use Rattle.leg_finish.specs.Steps.Places.{ArePlacesIn}

-- wires with which the design is finished, or places of open nets, of which there are so many, that are left
abbrev pub IsFinding : {A : Type 0} → DesignModel → ℕ → Found A → Type 0
IsFinding design count (Wires lists) = AreFinishing design (map (λ wires. wires.items) lists.items)
IsFinding design count (Left places) = ArePlacesIn count places.items
