-- What can be drawn is a rectangle: there is one with exactly the points of its outline.
use Rattle.std.proofs.Common.{◌≡◌, ◌≢◌, ◌↔◌, inl, inr, ℤ, ◌+ℤ◌, ◌-ℤ◌, ◌<ℤ◌, ◌≤ℤ◌, refl, pos, arith}
use Rattle.std.proofs.lemmas.Int.{ints, by_lt_z}
use Rattle.leg_lex.specs.Number.{IsNumber}
use Rattle.leg_geom.specs.declared.orient.Orient.{Orient}
use Rattle.leg_geom.specs.declared.orient.Orient.TheVariants.{N, S, W, E, FN, FS, FW, FE}
use Rattle.leg_geom.specs.declared.place.Place.{Place}
use Rattle.leg_geom.specs.Plane.{PointModel, RectModel, IsCoordinate, IsSpot, IsRect, HasPoint}
use Rattle.leg_geom.specs.Line.{Interval, between}
use Rattle.leg_geom.specs.Orientation.{placed, placed_rect, opposite, IsImage}
use Rattle.leg_geom.specs.Steps.Intervals.{IsSpan}
use Rattle.leg_geom.proofs.Points.{same_spot}
use Rattle.leg_lib_records.specs.Measure.{ExtentModel, IsProper}
use Rattle.leg_design_records.specs.WellFormedParts.{IsPosition, IsArea}
use Rattle.leg_rules.specs.Metal.Outline.{Outline, HasPointOf}
use Rattle.leg_rules.specs.Metal.Outline.Outline.{Drawn, Line, Shifted, Rectangle}
use Rattle.leg_flat.specs.Steps.Bounds.{IsMetalReach, IsWidthWithin, IsLineWithin, IsDrawnWithin}
use Rattle.leg_flat.proofs.Outlines.{StaysWithin-drawn}
use Rattle.leg_flat.proofs.OutlineLines.{ends, RunsAlong, RunsAcross, along_up, along_down, sides_of, IsRect-sides_of, horizontal_points, vertical_points}

-- some rectangle has exactly the points of the outline
pub record HasRect (outline : Outline) : Type 0 where
  pub rect : RectModel
  pub proper : IsRect rect
  pub points : (p : PointModel) → HasPoint rect p ↔ HasPointOf outline p

-- some interval has exactly the numbers along a line
record HasAlong (from to ext_from ext_to : ℤ) : Type 0 where
  pub interval : Interval
  pub span : IsSpan interval
  pub runs : RunsAlong from to ext_from ext_to interval

-- some interval has exactly the numbers across a line
record HasAcross (line width : ℤ) : Type 0 where
  pub interval : Interval
  pub span : IsSpan interval
  pub runs : RunsAcross line width interval

span_along : (low high ext_low ext_high : ℤ) → IsNumber low → IsNumber high → low <ℤ high → IsMetalReach ext_low → IsMetalReach ext_high
    → IsSpan (ends (low -ℤ ext_low) (high +ℤ ext_high))
span_along low high ext_low ext_high a b less before behind = record { low = omega (arith, ints); high = omega (arith, ints); long = omega (arith, ints) }

below : (a b : ℤ) → a ≢ b → b ≤ℤ a → b <ℤ a
below a b differ most = grind (arith, ints)

has_along : (from to ext_from ext_to : ℤ) → IsNumber from → IsNumber to → from ≢ to → IsMetalReach ext_from → IsMetalReach ext_to
    → HasAlong from to ext_from ext_to
has_along from to ext_from ext_to a b differ before behind =
    by_lt_z from to
    (λ up. record {
      interval = ends (from -ℤ ext_from) (to +ℤ ext_to);
      span = span_along from to ext_from ext_to a b up before behind;
      runs = along_up from to ext_from ext_to _ _ up refl refl;
    })
    (λ most.
    let down = below from to differ most in
    record {
      interval = ends (to -ℤ ext_to) (from +ℤ ext_from);
      span = span_along to from ext_to ext_from b a down behind before;
      runs = along_down from to ext_from ext_to _ _ down refl refl;
    })

span_across : (line width half : ℤ) → IsNumber line → IsWidthWithin width → width ≡ half +ℤ half → IsSpan (ends (line -ℤ half) (line +ℤ half))
span_across line width half near is twice =
    record { low = omega (arith, ints, is.some, is.within); high = omega (arith, ints, is.some, is.within); long = omega (arith, ints, is.some) }

runs_across : (line width half : ℤ) → width ≡ half +ℤ half → RunsAcross line width (ends (line -ℤ half) (line +ℤ half))
runs_across line width half twice z = (
  λ m.
      let above = m.above in
      let under = m.below in
      grind (arith, ints),
  λ a. record { above = grind (arith, ints); below = grind (arith, ints) },
)

has_across : (line width : ℤ) → IsNumber line → IsWidthWithin width → HasAcross line width
has_across line width near is =
    let half = is.even.0 in
    record {
      interval = ends (line -ℤ half) (line +ℤ half);
      span = span_across line width half near is is.even.1;
      runs = runs_across line width half is.even.1;
    }

-- a horizontal or vertical line
pub line_has : (from to : PointModel) (width ext_from ext_to : ℤ) → IsLineWithin from to width ext_from ext_to → HasRect (Line from to width ext_from ext_to)
line_has from to width ext_from ext_to is =
    elim is.line.straight [
      | inl upright ↦
          let differ : from.y ≢ to.y = λ level. is.line.long (same_spot from.x from.y to.x to.y upright level) in
          let x = has_across from.x width is.begins.x is.wide in
          let y = has_along from.y to.y ext_from ext_to is.begins.y is.ends.y differ is.before is.behind in
          record {
            rect = sides_of x.interval y.interval;
            proper = IsRect-sides_of x.interval y.interval x.span y.span;
            points = vertical_points from to width ext_from ext_to _ upright differ x.runs y.runs;
          }
      | inr level ↦
          let differ : from.x ≢ to.x = λ upright. is.line.long (same_spot from.x from.y to.x to.y upright level) in
          let x = has_along from.x to.x ext_from ext_to is.begins.x is.ends.x differ is.before is.behind in
          let y = has_across from.y width is.begins.y is.wide in
          record {
            rect = sides_of x.interval y.interval;
            proper = IsRect-sides_of x.interval y.interval x.span y.span;
            points = horizontal_points from to width ext_from ext_to _ is.line.long level x.runs y.runs;
          }
    ]

-- the law of leg_geom: the rectangle between the images of two opposite corners has exactly the images of the points
abbrev pub ArePlacedImages : Type 0
ArePlacedImages = (at : PointModel) (o : Orient) (w h : ℤ) (r : RectModel) → IsRect r → IsImage (placed at o w h) r (placed_rect at o w h r)

abbrev lower_left : RectModel → PointModel
lower_left r = record { x = r.x1; y = r.y1 }

abbrev upper_right : RectModel → PointModel
upper_right r = record { x = r.x2; y = r.y2 }

has_lower_left : (r : RectModel) → IsProper r → HasPoint r (lower_left r)
has_lower_left r is = record { left = omega (arith, ints); right = omega (arith, ints); bottom = omega (arith, ints); top = omega (arith, ints) }

has_upper_right : (r : RectModel) → IsProper r → HasPoint r (upper_right r)
has_upper_right r is = record { left = omega (arith, ints); right = omega (arith, ints); bottom = omega (arith, ints); top = omega (arith, ints) }

-- points that lie apart along both axes
record AreApart (p q : PointModel) : Type 0 where
  pub x : p.x ≢ q.x
  pub y : p.y ≢ q.y

span_between : (a b : ℤ) → IsCoordinate a → IsCoordinate b → a ≢ b → IsSpan (between a b)
span_between a b near close differ = record { low = grind (arith, ints); high = grind (arith, ints); long = grind (arith, ints) }

rect_opposite : (p q : PointModel) → IsSpot p → IsSpot q → AreApart p q → IsRect (opposite p q)
rect_opposite p q of_p of_q differ = IsRect-sides_of _ _ (span_between p.x q.x of_p.x of_q.x differ.x) (span_between p.y q.y of_p.y of_q.y differ.y)

-- the images of two opposite corners lie apart
corners_apart : (o : Orient) (at : PointModel) (w h : ℤ) (r : RectModel) → IsProper r
    → AreApart (placed at o w h (lower_left r)) (placed at o w h (upper_right r))
corners_apart N at w h r is = record { x = λ e. omega (arith, ints); y = λ e. omega (arith, ints) }
corners_apart S at w h r is = record { x = λ e. omega (arith, ints); y = λ e. omega (arith, ints) }
corners_apart W at w h r is = record { x = λ e. omega (arith, ints); y = λ e. omega (arith, ints) }
corners_apart E at w h r is = record { x = λ e. omega (arith, ints); y = λ e. omega (arith, ints) }
corners_apart FN at w h r is = record { x = λ e. omega (arith, ints); y = λ e. omega (arith, ints) }
corners_apart FS at w h r is = record { x = λ e. omega (arith, ints); y = λ e. omega (arith, ints) }
corners_apart FW at w h r is = record { x = λ e. omega (arith, ints); y = λ e. omega (arith, ints) }
corners_apart FE at w h r is = record { x = λ e. omega (arith, ints); y = λ e. omega (arith, ints) }

-- a rectangle that has area, and that a place or a point can move
pub record IsBox (r : RectModel) : Type 0 where
  pub within : IsDrawnWithin r
  pub proper : IsProper r

rect_of_box : (r : RectModel) → IsBox r → IsRect r
rect_of_box r is = record {
  x1 = omega (arith, is.within.x1);
  y1 = omega (arith, is.within.y1);
  x2 = omega (arith, is.within.x2);
  y2 = omega (arith, is.within.y2);
  wide = is.proper.wide;
  high = is.proper.high;
}

rect_placed : (o : Orient) (at : PointModel) (w h : ℤ) (r : RectModel) → IsPosition at → IsNumber w → IsNumber h → IsBox r → IsRect (placed_rect at o w h r)
rect_placed o at w h r there wide high is =
    let stays = StaysWithin-drawn o at w h r there wide high is.within in
    rect_opposite _ _ (stays (lower_left r) (has_lower_left r is.proper)) (stays (upper_right r) (has_upper_right r is.proper))
    (corners_apart o at w h r is.proper)

-- a rectangle of a box that is at a place
pub drawn_has : ArePlacedImages → (place : Place) (size : ExtentModel) (r : RectModel) → IsPosition place.at → IsNumber size.width → IsNumber size.height
    → IsBox r → HasRect (Drawn place size r)
drawn_has images place size r there wide high is = record {
  rect = placed_rect place.at place.orient size.width size.height r;
  proper = rect_placed place.orient place.at size.width size.height r there wide high is;
  points = images place.at place.orient size.width size.height r (rect_of_box r is);
}

pub zero_number : IsNumber (pos 0)
zero_number = omega (arith, ints)

-- a rectangle that is given from a point: one of a box at that point which is not turned, whatever the box's size
pub shifted_has : ArePlacedImages → (at : PointModel) (r : RectModel) → IsPosition at → IsBox r → HasRect (Shifted at r)
shifted_has images at r there is = record {
  rect = placed_rect at N (pos 0) (pos 0) r;
  proper = rect_placed N at (pos 0) (pos 0) r there zero_number zero_number is;
  points = images at N (pos 0) (pos 0) r (rect_of_box r is);
}

pub rect_of_area : (r : RectModel) → IsArea r → IsRect r
rect_of_area r is = record {
  x1 = omega (arith, is.x1);
  y1 = omega (arith, is.y1);
  x2 = omega (arith, is.x2);
  y2 = omega (arith, is.y2);
  wide = is.proper.wide;
  high = is.proper.high;
}

-- a rectangle as it is
pub rectangle_has : (r : RectModel) → IsArea r → HasRect (Rectangle r)
rectangle_has r is = record { rect = r; proper = rect_of_area r is; points = λ p. (λ h. h, λ h. h) }
