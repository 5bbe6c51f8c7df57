-- There is no metal but what is drawn.
use Rattle.std.proofs.Common.{◌+◌, Contains, length, refl}
use Rattle.leg_design_records.specs.Records.{DesignModel}
use Rattle.leg_design_records.specs.WellFormed.{IsWellFormed}
use Rattle.leg_rules.specs.Metal.Nets.{terminals_of}
use Rattle.leg_rules.specs.Metal.Metal.{Metal, metal_of}
use Rattle.leg_flat.specs.Sources.{HasSource}
use Rattle.leg_flat.specs.Sources.HasSource.{obstruction, blockage, terminal, wire}
use Rattle.leg_flat.proofs.MetalCases.{each_metal}

pub metal_source : (design : DesignModel) → IsWellFormed design → (m : Metal) → Contains (metal_of design) m → HasSource design m
metal_source design proper =
    each_metal design proper.nets (HasSource design)
    (λ c shape is. obstruction c shape is refl)
    (λ k shape is. blockage k shape is refl)
    (λ t shape is. terminal t shape is refl)
    (λ n w shape is. wire n (length (terminals_of design n) + w) w shape is refl)
