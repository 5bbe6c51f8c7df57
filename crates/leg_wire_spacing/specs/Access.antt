-- Which nets' metal may lie somewhere (lefdef's own rule).
use Rattle.std.specs.Prelude.{◌≡◌, ℕ, [], ◌∷◌}
use Rattle.leg_rules.specs.declared.shape.Shape.{Shape}
use Rattle.leg_rules.specs.Metal.Flat.{FlatModel}
use Rattle.leg_wire_spacing.specs.declared.access.Access.{Access}
use Rattle.leg_wire_spacing.specs.declared.access.Access.TheVariants.{Free, Only, Blocked}

-- metal of this net is admitted
abbrev pub Admits : Access → ℕ → Type 0
Admits Free net = Unit {0}
Admits (Only owner) net = net ≡ owner
Admits Blocked net = ⊥

-- a flat of this shape alone
abbrev pub alone : Shape → FlatModel
alone shape = record { shapes = shape ∷ []; pieces = [] }
