-- From where a component is moved, and how far (lefdef's own rules).
use Rattle.std.specs.Prelude.{ℕ, ◌+◌, Option, None, Some}
use Rattle.leg_geom.specs.Plane.{PointModel, RectModel}
use Rattle.leg_geom.specs.Gap.{apart}
use Rattle.leg_geom.specs.declared.place.Place.{Place}
use Rattle.leg_design_records.specs.declared.records.Component.{Component}

-- a component starts where it is placed, and one without a place at the lower left corner of the die
abbrev pub start_of : RectModel → Option Place → PointModel
start_of die None = record { x = die.x1; y = die.y1 }
start_of die (Some place) = place.at

-- how far two points are apart along x and along y together
abbrev pub distance : PointModel → PointModel → ℕ
distance p q = apart p.x q.x + apart p.y q.y

-- how far a component is from its start when it has this place, or stays without one
abbrev pub distance_to : PointModel → Option Place → ℕ
distance_to start None = 0
distance_to start (Some place) = distance place.at start

-- how far a component has moved, by what it was and what it is
abbrev pub moved_by : RectModel → Component → Component → ℕ
moved_by die before after = distance_to (start_of die before.place) after.place
