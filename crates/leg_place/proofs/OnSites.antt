-- The rectangles whose unit squares are those of consecutive sites of a row.
use Rattle.std.proofs.Common.{◌≡◌, ℕ, ◌+◌, ◌-◌, ◌*◌, ◌/◌, ◌<◌, ◌≤◌, ℤ, pos, ◌+ℤ◌, ◌-ℤ◌, ◌*ℤ◌, ◌≤ℤ◌, ◌<ℤ◌, unsigned_abs, inl, inr, arith}
use Rattle.std.proofs.Math.IntN.{pos-*ℤ-pos}
use Rattle.std.proofs.Math.Nat.{div-mul-le_self, lt-div-mul-add, mul-le-mul_right}
use Rattle.std.proofs.lemmas.Bool.{cases_lt}
use Rattle.std.proofs.lemmas.Int.{ints}
use Rattle.std.proofs.lemmas.Nat.{div_below, le-div}
use Rattle.leg_lemmas.proofs.Naturals.{product_more}
use Rattle.leg_geom.specs.Plane.{PointModel, RectModel, HasSquare}
use Rattle.leg_lib_records.specs.Measure.{ExtentModel, HasArea}
use Rattle.leg_design_records.specs.declared.records.Row.{Row}
use Rattle.leg_rules.specs.Placement.Sites.{SitesHave, IsOnSites}

-- a rectangle has area
pub record IsWide (box : RectModel) : Type 0 where
  pub wide : box.x1 <ℤ box.x2
  pub high : box.y1 <ℤ box.y2

-- the box reaches from the lower edge of the row's sites to their upper one
pub record IsLevel (row : Row) (size : ExtentModel) (box : RectModel) : Type 0 where
  pub bottom : box.y1 ≡ row.at.y
  pub top : box.y2 ≡ row.at.y +ℤ size.height

-- a site of the row begins or ends at this x: so many sites lie to the left of it
pub record IsEdge (row : Row) (size : ExtentModel) (x : ℤ) : Type 0 where
  pub k : ℕ
  pub is : x ≡ row.at.x +ℤ pos k *ℤ size.width
  pub within : pos k ≤ℤ row.count

-- so many sites, as a length: the left edge of the site behind them
pub sites_long : (size : ExtentModel) (n : ℕ) → size.width ≡ pos n → (k : ℕ) → pos k *ℤ size.width ≡ pos (k * n)
sites_long size n width k = rw width (pos-*ℤ-pos k n)

module _ (row : Row) (size : ExtentModel) (box : RectModel) (n : ℕ) (width : size.width ≡ pos n) (some : 0 < n) where
  module _ (f l : ℕ) (left : box.x1 ≡ row.at.x +ℤ pos (f * n)) (right : box.x2 ≡ row.at.x +ℤ pos (l * n))
      (bottom : box.y1 ≡ row.at.y) (top : box.y2 ≡ row.at.y +ℤ size.height) (order : f < l) where
    -- a unit square of the rectangle is one of a site
    site_of_square : (square : PointModel) → HasSquare box square → SitesHave row size f (l - f) square
    site_of_square square c =
        let d = unsigned_abs (square.x -ℤ row.at.x) in
        let apart : square.x ≡ row.at.x +ℤ pos d = omega (arith, ints, c.left, left) in
        let from : f * n ≤ d = omega (arith, ints, c.left, left, apart) in
        let upto : d < l * n = omega (arith, ints, c.right, right, apart) in
        let k = d / n in
        record {
          k = k;
          from = le-div f d n some from;
          below = omega (arith, div_below d n l some upto, order);
          inside = record {
            left = rw (sites_long size n width k) (omega (arith, ints, apart, div-mul-le_self d n));
            right = rw (sites_long size n width (k + 1)) (omega (arith, ints, apart, lt-div-mul-add {a = d} {b = n} some, product_more k n));
            bottom = omega (arith, ints, c.bottom, bottom);
            top = omega (arith, ints, c.top, top);
          };
        }

    -- and the other way round
    square_of_site : (square : PointModel) → SitesHave row size f (l - f) square → HasSquare box square
    square_of_site square s =
        let inside_left = rw (sites_long size n width s.k) at s.inside.left in
        let inside_right = rw (sites_long size n width (s.k + 1)) at s.inside.right in
        let last : s.k + 1 ≤ l = omega (arith, s.below, order) in
        record {
          left = omega (arith, ints, inside_left, left, mul-le-mul_right n s.from);
          right = omega (arith, ints, inside_right, right, mul-le-mul_right n last);
          bottom = omega (arith, ints, s.inside.bottom, bottom);
          top = omega (arith, ints, s.inside.top, top);
        }

  -- edges of sites bound a rectangle that stands on them
  pub sites_between : (f l : ℕ) → box.x1 ≡ row.at.x +ℤ pos (f * n) → box.x2 ≡ row.at.x +ℤ pos (l * n) → box.y1 ≡ row.at.y → box.y2 ≡ row.at.y +ℤ size.height
      → f < l → pos l ≤ℤ row.count → IsOnSites row size box
  sites_between f l left right bottom top order within = record {
    first = f;
    many = l - f;
    within = let all : f + (l - f) ≡ l = omega arith in rw all within;
    squares = λ square. (site_of_square f l left right bottom top order square, square_of_site f l left right bottom top order square);
  }

  module _ (proper : IsWide box) (on : IsOnSites row size box) where
    abbrev corner : PointModel
    corner = record { x = box.x1; y = box.y1 }

    abbrev opposite : PointModel
    opposite = record { x = box.x2 -ℤ pos 1; y = box.y2 -ℤ pos 1 }

    in_sites : SitesHave row size on.first on.many corner
    in_sites = (on.squares corner).0 (record { left = omega (arith, ints); right = proper.wide; bottom = omega (arith, ints); top = proper.high })

    last_in_sites : SitesHave row size on.first on.many opposite
    last_in_sites =
        (on.squares opposite).0 (record {
          left = omega (arith, ints, proper.wide);
          right = omega (arith, ints);
          bottom = omega (arith, ints, proper.high);
          top = omega (arith, ints);
        })

    -- the first unit square of the first site, and the last one of the last
    first_square : HasSquare box (record { x = row.at.x +ℤ pos (on.first * n); y = row.at.y })
    first_square =
        let s = in_sites in
        (on.squares (record { x = row.at.x +ℤ pos (on.first * n); y = row.at.y })).1 (record {
          k = on.first;
          from = omega arith;
          below = omega (arith, s.from, s.below);
          inside = record {
            left = rw (sites_long size n width on.first) (omega (arith, ints));
            right = rw (sites_long size n width (on.first + 1)) (omega (arith, ints, product_more on.first n, some));
            bottom = omega (arith, ints);
            top = omega (arith, ints, s.inside.bottom, s.inside.top);
          };
        })

    last_square : (l : ℕ) → on.first + on.many ≡ l + 1
        → HasSquare box (record { x = row.at.x +ℤ pos (l * n) +ℤ pos n -ℤ pos 1; y = row.at.y +ℤ size.height -ℤ pos 1 })
    last_square l is =
        let s = in_sites in
        (on.squares (record { x = row.at.x +ℤ pos (l * n) +ℤ pos n -ℤ pos 1; y = row.at.y +ℤ size.height -ℤ pos 1 })).1 (record {
          k = l;
          from = omega (arith, s.from, s.below, is);
          below = omega (arith, is);
          inside = record {
            left = rw (sites_long size n width l) (omega (arith, ints, some));
            right = rw (sites_long size n width (l + 1)) (omega (arith, ints, product_more l n));
            bottom = omega (arith, ints, s.inside.bottom, s.inside.top);
            top = omega (arith, ints);
          };
        })

    left_is : box.x1 ≡ row.at.x +ℤ pos (on.first * n)
    left_is =
        let s = in_sites in
        let inside = rw (sites_long size n width s.k) at s.inside.left in
        omega (arith, ints, inside, mul-le-mul_right n s.from, first_square.left)

    right_is : (l : ℕ) → on.first + on.many ≡ l + 1 → box.x2 ≡ row.at.x +ℤ pos ((l + 1) * n)
    right_is l is =
        let s = last_in_sites in
        let inside = rw (sites_long size n width (s.k + 1)) at s.inside.right in
        let last : s.k + 1 ≤ l + 1 = omega (arith, s.below, is) in
        omega (arith, ints, inside, mul-le-mul_right n last, product_more l n, (last_square l is).right)

    pub left_edge : IsEdge row size box.x1
    left_edge =
        record { k = on.first; is = rw (sites_long size n width on.first) left_is; within = omega (arith, ints, on.within) }

    pub right_edge : IsEdge row size box.x2
    right_edge =
        let s = in_sites in
        let l = on.first + on.many - 1 in
        let is : on.first + on.many ≡ l + 1 = omega (arith, s.from, s.below) in
        record {
          k = on.first + on.many;
          is = let right : box.x2 ≡ row.at.x +ℤ pos ((on.first + on.many) * n) = rw is (right_is l is) in rw
              (sites_long size n width (on.first + on.many)) right;
          within = on.within;
        }

    pub top_is : box.y2 ≡ row.at.y +ℤ size.height
    top_is =
        let s = in_sites in
        let l = on.first + on.many - 1 in
        let is : on.first + on.many ≡ l + 1 = omega (arith, s.from, s.below) in
        omega (arith, ints, last_in_sites.inside.top, (last_square l is).top)

-- the lower edges are the same
pub bottom_is : (row : Row) (size : ExtentModel) (box : RectModel) → IsWide box → IsOnSites row size box → box.y1 ≡ row.at.y
bottom_is row size box proper on =
    let s =
    (on.squares (record { x = box.x1; y = box.y1 })).0
    (record { left = omega (arith, ints); right = proper.wide; bottom = omega (arith, ints); top = proper.high }) in
    let lower =
    (on.squares (record { x = box.x1; y = row.at.y })).1 (record {
      k = s.k;
      from = s.from;
      below = s.below;
      inside = record {
        left = s.inside.left;
        right = s.inside.right;
        bottom = omega (arith, ints);
        top = omega (arith, ints, s.inside.bottom, s.inside.top);
      };
    }) in
    omega (arith, ints, s.inside.bottom, lower.bottom)

-- a rectangle stands on sites just where its sides are those of sites
module _ (row : Row) (size : ExtentModel) (box : RectModel) (area : HasArea size) (proper : IsWide box) where
  pub on_sites_from_edges : IsLevel row size box → IsEdge row size box.x1 → IsEdge row size box.x2 → IsOnSites row size box
  on_sites_from_edges level left right =
      let n = unsigned_abs size.width in
      let width : size.width ≡ pos n = omega (arith, ints, area.wide) in
      let some : 0 < n = omega (arith, ints, area.wide) in
      let left_at = rw (sites_long size n width left.k) at left.is in
      let right_at = rw (sites_long size n width right.k) at right.is in
      let order : left.k < right.k =
      elim (cases_lt left.k right.k) [
        | inl low ↦ low
        | inr high ↦ absurd (omega (arith, ints, left_at, right_at, proper.wide, mul-le-mul_right n high))
      ] in
      sites_between row size box n width some left.k right.k left_at right_at level.bottom level.top order right.within

  pub level_from_on_sites : IsOnSites row size box → IsLevel row size box
  level_from_on_sites on =
      let n = unsigned_abs size.width in
      record {
        bottom = bottom_is row size box proper on;
        top = top_is row size box n (omega (arith, ints, area.wide)) (omega (arith, ints, area.wide)) proper on;
      }

  pub left_from_on_sites : IsOnSites row size box → IsEdge row size box.x1
  left_from_on_sites on =
      let n = unsigned_abs size.width in
      left_edge row size box n (omega (arith, ints, area.wide)) (omega (arith, ints, area.wide)) proper on

  pub right_from_on_sites : IsOnSites row size box → IsEdge row size box.x2
  right_from_on_sites on =
      let n = unsigned_abs size.width in
      right_edge row size box n (omega (arith, ints, area.wide)) (omega (arith, ints, area.wide)) proper on
