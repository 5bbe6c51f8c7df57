-- A box stands on sites of a row just where the row's span has all sites of the box's, and the box is whole.
use Rattle.std.proofs.Common.{◌≡◌, ◌↔◌, ℕ, ◌+◌, ◌-◌, ◌*◌, ◌/◌, ◌%◌, ◌<◌, ◌≤◌, IsTrue, ℤ, pos, ◌+ℤ◌, ◌-ℤ◌, ◌*ℤ◌, ◌≤ℤ◌, unsigned_abs, FitsSigned, w64, inl, inr, refl, sym, ap, ◌∙◌, arith}
use Rattle.std.proofs.Math.IntN.{pos-*ℤ-pos}
use Rattle.std.proofs.lemmas.Bool.{cases_lt}
use Rattle.std.proofs.Math.Nat.{add-mul, mul-pos, mul-mod_left, mul-le-mul_right}
use Rattle.std.proofs.lemmas.Nat.{div-add-mod'}
use Rattle.std.proofs.lemmas.Int.{ints, fits_signed_from_abs}
use Rattle.leg_lex.specs.Number.{IsNumber}
use Rattle.leg_geom.specs.Plane.{RectModel, IsRect}
use Rattle.leg_geom.specs.declared.orient.Orient.{Orient}
use Rattle.leg_lib_records.specs.Measure.{ExtentModel, HasArea, IsExtent}
use Rattle.leg_design_records.specs.WellFormedParts.{IsPosition}
use Rattle.leg_design_records.specs.declared.records.Row.{Row}
use Rattle.leg_rules.specs.Placement.Sites.{IsOnSites}
use Rattle.leg_place.specs.Steps.SiteSpan.{span_of, row_box, covers}
use Rattle.leg_place.specs.Steps.RowSpans.{IsWhole}
use Rattle.leg_place.proofs.Mirrors.{same_rank}
use Rattle.leg_place.proofs.OnSites.{IsWide, IsLevel, IsEdge, on_sites_from_edges, level_from_on_sites, left_from_on_sites, right_from_on_sites, sites_long}
use Rattle.leg_place.proofs.Shift.{same_shift, steps_between}
use Rattle.leg_place.proofs.SpanOrder.{Reaches, same_parts, reaches_from_covers, covers_from_reaches}

-- a box as high as a site is whole just where no part of a site remains of its width
pub whole_test : (size : ExtentModel) (box : RectModel) (d n : ℕ) → HasArea size → IsWide box → d ≡ unsigned_abs (box.x2 -ℤ box.x1)
    → n ≡ unsigned_abs size.width → box.y2 ≡ box.y1 +ℤ size.height → (d % n ≡ 0) ↔ IsWhole size box
whole_test size box d n area proper apart is_width high =
    let width : size.width ≡ pos n = omega (arith, ints, is_width, area.wide) in
    let long : (k : ℕ) → pos k *ℤ size.width ≡ pos (k * n) = λ k. ap (λ w. pos k *ℤ w) width ∙ pos-*ℤ-pos k n in (
      λ exact. record {
        high = high;
        many = d / n;
        wide = rw (long (d / n)) (omega (arith, ints, apart, proper.wide, exact, div-add-mod' d n));
      },
      λ whole.
          let wide : box.x2 ≡ box.x1 +ℤ pos (whole.many * n) = whole.wide ∙ ap (λ l. box.x1 +ℤ l) (long whole.many) in
          let is : d ≡ whole.many * n = omega (arith, ints, apart, wide) in
          rw is (mul-mod_left whole.many n),
    )

-- what lies between two numbers fits
pub between_fits : (x p : ℤ) → IsNumber x → IsNumber (x +ℤ p) → FitsSigned w64 p
between_fits x p one other = fits_signed_from_abs w64 p (omega (arith, ints, one, other))

pub sum_fits : (x y : ℤ) → IsNumber x → IsNumber y → FitsSigned w64 (x +ℤ y)
sum_fits x y one other = fits_signed_from_abs w64 (x +ℤ y) (omega (arith, ints, one, other))

-- the box of all sites of a row is a rectangle
pub row_box_proper : (row : Row) (size : ExtentModel) → IsPosition row.at → pos 1 ≤ℤ row.count → IsNumber (row.at.x +ℤ row.count *ℤ size.width)
    → IsExtent size → IsRect (row_box row size)
row_box_proper row size at some end extent =
    let m = unsigned_abs row.count in
    let n = unsigned_abs size.width in
    let count : row.count ≡ pos m = omega (arith, ints, some) in
    let width : size.width ≡ pos n = omega (arith, ints, extent.area.wide) in
    let all : row.count *ℤ size.width ≡ pos (m * n) = ap (λ c. c *ℤ size.width) count ∙ ap (λ w. pos m *ℤ w) width ∙ pos-*ℤ-pos m n in
    let sites : 0 < m = omega (arith, ints, some) in
    let wide : 0 < n = omega (arith, ints, extent.area.wide) in
    let long : 0 < m * n = mul-pos sites wide in
    record {
      x1 = omega (arith, at.x);
      y1 = omega (arith, at.y);
      x2 = omega (arith, end);
      y2 = omega (arith, ints, at.y, extent.height);
      wide = omega (arith, ints, all, long);
      high = omega (arith, ints, extent.area.high);
    }

module _ (row : Row) (size : ExtentModel) (box : RectModel) (n : ℕ) (width : size.width ≡ pos n) (some : 0 < n) where
  -- the sides of a box on sites, by how many sites lie to the left of each
  module _ (level : IsLevel row size box) (left : IsEdge row size box.x1) (right : IsEdge row size box.x2) (proper : IsWide box) where
    left_at : box.x1 ≡ row.at.x +ℤ pos (left.k * n)
    left_at = left.is ∙ ap (λ l. row.at.x +ℤ l) (sites_long size n width left.k)

    right_at : box.x2 ≡ row.at.x +ℤ pos (right.k * n)
    right_at = right.is ∙ ap (λ l. row.at.x +ℤ l) (sites_long size n width right.k)

    edges_apart : left.k < right.k
    edges_apart =
        elim (cases_lt left.k right.k) [
          | inl below ↦ below
          | inr above ↦ absurd (omega (arith, ints, left_at, right_at, proper.wide, mul-le-mul_right n above))
        ]

    whole_between : IsWhole size box
    whole_between =
        let many = right.k - left.k in
        let sum : many + left.k ≡ right.k = omega (arith, edges_apart) in
        let parts : right.k * n ≡ many * n + left.k * n = ap (λ k. k * n) (sym sum) ∙ add-mul many left.k n in
        record {
          high = omega (arith, ints, level.bottom, level.top);
          many = many;
          wide = rw (sites_long size n width many) (omega (arith, ints, left_at, right_at, parts));
        }

    covers_between : IsTrue (covers (span_of row.site size row.orient (row_box row size)) (span_of row.site size row.orient box))
    covers_between =
        let m = unsigned_abs row.count in
        let count : row.count ≡ pos m = omega (arith, ints, right.within) in
        let few : right.k ≤ m = omega (arith, ints, right.within, count) in
        let all : row.count *ℤ size.width ≡ pos (m * n) = ap (λ c. c *ℤ size.width) count ∙ sites_long size n width m in
        covers_from_reaches (span_of row.site size row.orient (row_box row size)) (span_of row.site size row.orient box) (record {
          line = same_parts _ _ refl refl (sym level.bottom) (same_shift size.width n some width row.at.x box.x1 left.k left_at);
          left = omega (arith, ints, left_at);
          right = omega (arith, ints, right_at, all, mul-le-mul_right n few);
        })

  -- and the other way round: the row has the sites over which a whole box reaches
  module _ (number : ℕ) (orient : Orient) (there : IsTrue (covers (span_of row.site size row.orient (row_box row size)) (span_of number size orient box)))
      (some_sites : pos 1 ≤ℤ row.count) (whole : IsWhole size box) where
    reach : Reaches (span_of row.site size row.orient (row_box row size)) (span_of number size orient box)
    reach = reaches_from_covers (span_of row.site size row.orient (row_box row size)) (span_of number size orient box) there

    bottoms : row.at.y ≡ box.y1
    bottoms = ap (λ l. l.bottom) reach.line

    level_there : IsLevel row size box
    level_there = record { bottom = sym bottoms; top = omega (arith, ints, whole.high, bottoms) }

    steps : (k : ℕ) × (box.x1 ≡ row.at.x +ℤ pos (k * n))
    steps = steps_between size.width n some width row.at.x box.x1 (ap (λ l. l.shift) reach.line) reach.left

    right_end : box.x2 ≡ row.at.x +ℤ pos ((whole.many + steps.0) * n)
    right_end =
        let wide : box.x2 ≡ box.x1 +ℤ pos (whole.many * n) = whole.wide ∙ ap (λ l. box.x1 +ℤ l) (sites_long size n width whole.many) in
        omega (arith, ints, wide, steps.1, add-mul whole.many steps.0 n)

    within_count : pos (whole.many + steps.0) ≤ℤ row.count
    within_count =
        let m = unsigned_abs row.count in
        let count : row.count ≡ pos m = omega (arith, ints, some_sites) in
        let all : row.count *ℤ size.width ≡ pos (m * n) = ap (λ c. c *ℤ size.width) count ∙ sites_long size n width m in
        let reached : (whole.many + steps.0) * n ≤ m * n = omega (arith, ints, reach.right, right_end, all) in
        elim (cases_lt m (whole.many + steps.0)) [
          | inl beyond ↦
              absurd (omega (arith, mul-le-mul_right {m = m + 1} {n = whole.many + steps.0} n (omega (arith, beyond)), add-mul m 1 n, reached, some))
          | inr within ↦ omega (arith, ints, count, within)
        ]

    left_edge : IsEdge row size box.x1
    left_edge = record {
      k = steps.0;
      is = steps.1 ∙ ap (λ l. row.at.x +ℤ l) (sym (sites_long size n width steps.0));
      within = omega (arith, ints, within_count);
    }

    right_edge : IsEdge row size box.x2
    right_edge = record {
      k = whole.many + steps.0;
      is = right_end ∙ ap (λ l. row.at.x +ℤ l) (sym (sites_long size n width (whole.many + steps.0)));
      within = within_count;
    }

module _ (row : Row) (size : ExtentModel) (box : RectModel) (area : HasArea size) (proper : IsWide box) where
  wide_sites : size.width ≡ pos (unsigned_abs size.width)
  wide_sites = omega (arith, ints, area.wide)

  some_width : 0 < unsigned_abs size.width
  some_width = omega (arith, ints, area.wide)

  pub whole_on_sites : IsOnSites row size box → IsWhole size box
  whole_on_sites on =
      whole_between row size box (unsigned_abs size.width) wide_sites some_width (level_from_on_sites row size box area proper on)
      (left_from_on_sites row size box area proper on) (right_from_on_sites row size box area proper on) proper

  pub covers_on_sites : IsOnSites row size box → IsTrue (covers (span_of row.site size row.orient (row_box row size)) (span_of row.site size row.orient box))
  covers_on_sites on =
      covers_between row size box (unsigned_abs size.width) wide_sites some_width (level_from_on_sites row size box area proper on)
      (left_from_on_sites row size box area proper on) (right_from_on_sites row size box area proper on) proper

  module _ (number : ℕ) (orient : Orient) (there : IsTrue (covers (span_of row.site size row.orient (row_box row size)) (span_of number size orient box))) where
    pub orient_of_covering : row.orient ≡ orient
    orient_of_covering =
        same_rank row.orient orient (ap (λ l. l.orient)
        (reaches_from_covers (span_of row.site size row.orient (row_box row size)) (span_of number size orient box) there).line)

    pub on_covering : pos 1 ≤ℤ row.count → IsWhole size box → IsOnSites row size box
    on_covering some whole =
        on_sites_from_edges row size box area proper
        (level_there row size box (unsigned_abs size.width) wide_sites some_width number orient there some whole)
        (left_edge row size box (unsigned_abs size.width) wide_sites some_width number orient there some whole)
        (right_edge row size box (unsigned_abs size.width) wide_sites some_width number orient there some whole)
