-- Points, rectangles and places that are read are of numbers within their limit.
use Rattle.std.proofs.Common.{ℤ, Bool, true, false, cond, ◌&&◌, int_lt, Some, codes}
use Rattle.std.proofs.lemmas.Bool.{and_parts}
use Rattle.leg_lemmas.proofs.Integers.{lt_from_test}
use Rattle.leg_lex.specs.Number.{IsNumber}
use Rattle.leg_lex.specs.Words.{Words, is_at, whole_at}
use Rattle.leg_geom.specs.Plane.{PointModel}
use Rattle.leg_geom.specs.declared.place.Place.{Place}
use Rattle.leg_lib_records.specs.Measure.{sides_between, rect_between}
use Rattle.leg_design_records.specs.declared.records.Status.{Status}
use Rattle.leg_design_records.specs.declared.records.Status.TheVariants.{Placed, Fixed, Cover}
use Rattle.leg_grammar.specs.Def.Placement.{spot_at, rect_at, place_at, place_as, placed_in}
use Rattle.leg_design_records.specs.WellFormedParts.{IsPosition, IsArea, IsPlaced}
use Rattle.leg_design_common.proofs.Numbers.{whole_is_number}
use Rattle.leg_design_common.proofs.Gives.{Gives, gives_none, gives_some, gives_bind, gives_skip, gives_choice, gives_if}

pub whole_gives : (words : Words) → Gives (λ said. IsNumber said.0) (whole_at words)
whole_gives words = record { given = λ y is. whole_is_number words y.0 y.1 is }

pub spot_gives : (words : Words) → Gives (λ said. IsPosition said.0) (spot_at words)
unfolding spot_at
spot_gives words =
    gives_skip _ (λ open_.
    gives_bind (whole_gives open_.1) (λ x wide.
    gives_bind (whole_gives x.1) (λ y high.
    gives_skip _ (λ close.
    gives_some _ (record { x = wide; y = high })))))

one_of : (choice : Bool) (x y : ℤ) → IsNumber x → IsNumber y → IsNumber (cond choice x y)
one_of true x y a b = a
one_of false x y a b = b

-- the rectangle between two corners
pub between_gives : (p q : PointModel) → IsPosition p → IsPosition q → Gives IsArea (rect_between p q)
unfolding rect_between
between_gives p q at_p at_q =
    gives_choice (int_lt (sides_between p q).x1 (sides_between p q).x2 && int_lt (sides_between p q).y1 (sides_between p q).y2)
    (λ some.
    let parts = and_parts (int_lt (sides_between p q).x1 (sides_between p q).x2) (int_lt (sides_between p q).y1 (sides_between p q).y2) some in
    gives_some (sides_between p q) (record {
      x1 = one_of (int_lt q.x p.x) q.x p.x at_q.x at_p.x;
      y1 = one_of (int_lt q.y p.y) q.y p.y at_q.y at_p.y;
      x2 = one_of (int_lt q.x p.x) p.x q.x at_p.x at_q.x;
      y2 = one_of (int_lt q.y p.y) p.y q.y at_p.y at_q.y;
      proper = record {
        wide = lt_from_test (sides_between p q).x1 (sides_between p q).x2 parts.0;
        high = lt_from_test (sides_between p q).y1 (sides_between p q).y2 parts.1;
      };
    }))
    (λ none. gives_none)

pub rect_gives : (words : Words) → Gives (λ said. IsArea said.0) (rect_at words)
unfolding rect_at
rect_gives words =
    gives_bind (spot_gives words) (λ p at_p.
    gives_bind (spot_gives p.1) (λ q at_q.
    gives_bind (between_gives p.0 q.0 at_p at_q) (λ rect area.
    gives_some _ area)))

place_gives : (words : Words) → Gives (λ said. IsPosition said.0.at) (place_at words)
unfolding place_at
place_gives words =
    gives_bind (spot_gives words) (λ at position.
    gives_skip _ (λ orient.
    gives_some _ position))

place_as_gives : (status : Status) → ((place : Place) → IsPosition place.at → IsPlaced status (Some place)) → (clause : Words)
    → Gives (λ said. IsPlaced said.0 (Some said.1)) (place_as status clause)
unfolding place_as
place_as_gives status placed clause =
    gives_skip _ (λ start.
    gives_bind (place_gives start.1) (λ place position.
    gives_skip _ (λ end.
    gives_some (status, place.0) (placed place.0 position))))

-- a clause that says a place
pub placed_gives : (clause : Words) → Gives (λ said. IsPlaced said.0 (Some said.1)) (placed_in clause)
unfolding placed_in
placed_gives clause =
    gives_if (is_at (codes "PLACED") clause) (place_as_gives Placed (λ place position. position) clause)
    (gives_if (is_at (codes "FIXED") clause) (place_as_gives Fixed (λ place position. position) clause)
    (gives_if (is_at (codes "COVER") clause) (place_as_gives Cover (λ place position. position) clause) gives_none))
