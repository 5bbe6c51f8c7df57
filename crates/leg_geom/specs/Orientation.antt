-- Component orientation: how a box is turned or mirrored and then placed, and where its points go (LEF/DEF 5.8, "Component orientation").
use Rattle.std.specs.Prelude.{◌≡◌, ◌↔◌, ℤ, pos, ◌+ℤ◌, ◌-ℤ◌}
use Rattle.leg_geom.specs.declared.orient.Orient.{Orient}
use Rattle.leg_geom.specs.declared.orient.Orient.TheVariants.{N, S, W, E, FN, FS, FW, FE}
use Rattle.leg_geom.specs.Plane.{PointModel, RectModel, IsSpot, HasPoint}
use Rattle.leg_geom.specs.Line.{between}

-- where a point of a box w wide and h high goes; the lower left corner is the origin, before and after
abbrev pub turned : Orient → ℤ → ℤ → PointModel → PointModel
turned N w h p = record { x = p.x; y = p.y }
turned S w h p = record { x = w -ℤ p.x; y = h -ℤ p.y }
turned W w h p = record { x = h -ℤ p.y; y = p.x }
turned E w h p = record { x = p.y; y = w -ℤ p.x }
turned FN w h p = record { x = w -ℤ p.x; y = p.y }
turned FS w h p = record { x = p.x; y = h -ℤ p.y }
turned FW w h p = record { x = p.y; y = p.x }
turned FE w h p = record { x = h -ℤ p.y; y = w -ℤ p.x }

-- the left and the right edge of the oriented box together: they lie at the images of two opposite corners
abbrev pub both_edges : Orient → ℤ → ℤ → ℤ
both_edges o w h = (turned o w h (record { x = pos 0; y = pos 0 })).x +ℤ (turned o w h (record { x = w; y = h })).x

-- the second orientation is the first followed by the mirroring of x in the oriented box, which exchanges its left
-- and its right edge
abbrev pub IsMirrored : Orient → Orient → Type 0
IsMirrored o mirrored =
    (w h : ℤ) (p : PointModel)
    → turned mirrored w h p ≡ record { x = both_edges o w h -ℤ (turned o w h p).x; y = (turned o w h p).y }

-- the point moved by the coordinates of another
abbrev pub moved : PointModel → PointModel → PointModel
moved by p = record { x = by.x +ℤ p.x; y = by.y +ℤ p.y }

-- where a point of the box lies once the box is oriented and its lower left corner is at a point
abbrev pub placed : PointModel → Orient → ℤ → ℤ → PointModel → PointModel
placed at o w h p = moved at (turned o w h p)

-- the map takes each point of the rectangle to a point within the limit
abbrev pub StaysWithin : (PointModel → PointModel) → RectModel → Type 0
StaysWithin map r = (p : PointModel) → HasPoint r p → IsSpot (map p)

-- the map takes some point of the rectangle to this point
pub record ComesFrom (map : PointModel → PointModel) (r : RectModel) (q : PointModel) : Type 0 where
  pub from : PointModel
  pub in_r : HasPoint r from
  pub is : map from ≡ q

-- the points of the second rectangle are exactly those to which the map takes a point of the first
abbrev pub IsImage : (PointModel → PointModel) → RectModel → RectModel → Type 0
IsImage map r image = (q : PointModel) → HasPoint image q ↔ ComesFrom map r q

-- the rectangle between two opposite corners
abbrev pub opposite : PointModel → PointModel → RectModel
opposite p q = record { x1 = (between p.x q.x).low; y1 = (between p.y q.y).low; x2 = (between p.x q.x).high; y2 = (between p.y q.y).high }

-- where a rectangle of the box lies then: between the images of its lower left and its upper right corner
abbrev pub placed_rect : PointModel → Orient → ℤ → ℤ → RectModel → RectModel
placed_rect at o w h r = opposite (placed at o w h (record { x = r.x1; y = r.y1 })) (placed at o w h (record { x = r.x2; y = r.y2 }))
