-- Lines of metal over several points, and the lines from each of these points to the next.
use Rattle.std.specs.Prelude.{◌≡◌, ◌⊎◌, ℤ, List, [], ◌∷◌}
use Rattle.leg_geom.specs.Plane.{PointModel}
use Rattle.leg_rules.specs.Metal.Outline.{Outline}
use Rattle.leg_rules.specs.Metal.Outline.Outline.{Line}

-- it holds from each point to the next: from the first one to the first of the others, and so on
abbrev pub EachStep : (PointModel → PointModel → Type 0) → PointModel → List PointModel → Type 0
EachStep Step from [] = Unit {0}
EachStep Step from (to ∷ spots) = Step from to × EachStep Step to spots

-- the last of the points
abbrev pub last_spot : PointModel → List PointModel → PointModel
last_spot from [] = from
last_spot from (to ∷ spots) = last_spot to spots

-- All the points lie on one horizontal line, or all on one vertical line.
abbrev pub AreInLine : PointModel → List PointModel → Type 0
AreInLine from spots = EachStep (λ a b. a.y ≡ b.y) from spots ⊎ EachStep (λ a b. a.x ≡ b.x) from spots

-- a line of this width that reaches equally far beyond both its ends
abbrev pub line_outline : ℤ → ℤ → PointModel → PointModel → Outline
line_outline width reach from to = Line from to width reach reach
