-- Only one list of rectangles is that of a polygon's slabs.
use Rattle.std.proofs.Common.{◌≡◌, ℤ, pos, ◌-ℤ◌, ◌≤ℤ◌, ◌<ℤ◌, true, List, get_or, AllPairs, Contains, inl, inr, sym, ap, ◌∙◌, arith}
use Rattle.std.specs.Prelude.{◌⊎◌}
use Rattle.std.proofs.lemmas.Bool.{cases_order}
use Rattle.std.proofs.lemmas.Int.{ints}
use Rattle.std.proofs.lemmas.List.{get_or_default}
use Rattle.std.proofs.lemmas.List.Elements.{All-contains}
use Rattle.leg_lemmas.proofs.Integers.{cases_lt_z}
use Rattle.leg_lemmas.proofs.RisingLists.{same_rising}
use Rattle.leg_geom.specs.Plane.{PointModel, RectModel, HasSquare}
use Rattle.leg_polygon.specs.Walk.{corners, walk}
use Rattle.leg_polygon.specs.Inside.{is_inside}
use Rattle.leg_polygon.specs.Slab.{slabs, IsSlab, ComesBefore, AreSlabs}
use Rattle.leg_polygon.proofs.SlabSquares.{AreSlabs-slabs}

-- of two elements of a list in which each stands in R to those behind it
pair_cases : {X : Type 0} (R : X → X → Type 0) (xs : List X) (a b : X) → AllPairs R xs → Contains xs a → Contains xs b → (a ≡ b) ⊎ (R a b ⊎ R b a)
pair_cases R xs a b order a_in b_in =
    let a_there : get_or xs a_in.0 a ≡ a = a_in.2 in
    let b_there : get_or xs b_in.0 a ≡ b = get_or_default xs b_in.0 a b b_in.1 ∙ b_in.2 in
    elim (cases_order a_in.0 b_in.0) [
      | inl same ↦ inl (sym a_there ∙ ap (λ k. get_or xs k a) same ∙ b_there)
      | inr apart ↦ inr (elim apart [
        | inl before ↦ inl (rw (a_there, b_there) at (order a_in.0 b_in.0 a before b_in.1))
        | inr behind ↦ inr (rw (b_there, a_there) at (order b_in.0 a_in.0 a behind a_in.1))
      ])
    ]

same_rect : (a b : RectModel) → a.x1 ≡ b.x1 → a.y1 ≡ b.y1 → a.x2 ≡ b.x2 → a.y2 ≡ b.y2 → a ≡ b
same_rect a b left bottom right top =
    let x1_same : a ≡ record a { x1 = b.x1 } = ap (λ z. record a { x1 = z }) left in
    let y1_same : record a { x1 = b.x1 } ≡ record { x1 = b.x1; y1 = b.y1; x2 = a.x2; y2 = a.y2 } =
    ap (λ z. record { x1 = b.x1; y1 = z; x2 = a.x2; y2 = a.y2 }) bottom in
    let x2_same : record { x1 = b.x1; y1 = b.y1; x2 = a.x2; y2 = a.y2 } ≡ record { x1 = b.x1; y1 = b.y1; x2 = b.x2; y2 = a.y2 } =
    ap (λ z. record { x1 = b.x1; y1 = b.y1; x2 = z; y2 = a.y2 }) right in
    let y2_same : record { x1 = b.x1; y1 = b.y1; x2 = b.x2; y2 = a.y2 } ≡ b = ap (λ z. record { x1 = b.x1; y1 = b.y1; x2 = b.x2; y2 = z }) top in
    x1_same ∙ y1_same ∙ x2_same ∙ y2_same

-- the order of slabs by their lower left corners
abbrev Lower : RectModel → RectModel → Type 0
Lower a b = (a.y1 <ℤ b.y1) ⊎ ((a.y1 ≡ b.y1) × (a.x1 <ℤ b.x1))

not_lower : (a : RectModel) → Lower a a → ⊥
not_lower a (inl less) = omega (arith, ints)
not_lower a (inr (same, less)) = omega (arith, ints)

lower_trans : (a b c : RectModel) → Lower a b → Lower b c → Lower a c
lower_trans a b c (inl ab) (inl bc) = inl (omega (arith, ints))
lower_trans a b c (inl ab) (inr (same, bc)) = inl (omega (arith, ints))
lower_trans a b c (inr (same, ab)) (inl bc) = inl (omega (arith, ints))
lower_trans a b c (inr (same_ab, ab)) (inr (same_bc, bc)) = inr (same_ab ∙ same_bc, omega (arith, ints))

lower_before : (points : List PointModel) (a b : RectModel) → IsSlab points a → IsSlab points b → ComesBefore a b → Lower a b
lower_before points a b a_is b_is (inl above) = let high = a_is.high in inl (omega (arith, ints))
lower_before points a b a_is b_is (inr (same, gap)) = let wide = a_is.wide in inr (same, omega (arith, ints))

-- the slab has the unit square in its lower left corner, and the others of its lowest row
row_square : (points : List PointModel) (r : RectModel) (x : ℤ) → IsSlab points r → r.x1 ≤ℤ x → x <ℤ r.x2 → HasSquare r (record { x = x; y = r.y1 })
row_square points r x is left right = let high = is.high in record { left = left; right = right; bottom = omega (arith, ints); top = high }

-- slabs in which the lowest row of one meets the other are of one band
record SameBand (a b : RectModel) : Type 0 where
  bottom : a.y1 ≡ b.y1
  top : a.y2 ≡ b.y2

same_band : (points : List PointModel) (a b : RectModel) → IsSlab points a → IsSlab points b → b.y1 ≤ℤ a.y1 → a.y1 <ℤ b.y2 → SameBand a b
same_band points a b a_is b_is low high =
    let a_high = a_is.high in
    let bottom : a.y1 ≡ b.y1 = elim (b_is.whole a.y1 a_is.bottom) [ inl under ↦ omega (arith, ints) | inr over ↦ absurd (omega (arith, ints)) ] in
    let down : b.y2 ≤ℤ a.y2 = elim (b_is.whole a.y2 a_is.top) [ inl under ↦ absurd (omega (arith, ints)) | inr over ↦ over ] in
    let up : a.y2 ≤ℤ b.y2 = elim (a_is.whole b.y2 b_is.top) [ inl under ↦ absurd (omega (arith, ints)) | inr over ↦ over ] in
    record { bottom = bottom; top = omega (arith, ints) }

module _ (points : List PointModel) where
  -- of slabs in one list, one that meets the lowest row of another is that one, or stands to the west or the east with a gap
  apart : (rects : List RectModel) → AreSlabs points rects → (a b : RectModel) → Contains rects a → Contains rects b → b.y1 ≤ℤ a.y1 → a.y1 <ℤ b.y2
      → (a ≡ b) ⊎ ((a.x2 <ℤ b.x1) ⊎ (b.x2 <ℤ a.x1))
  apart rects are a b a_in b_in low high =
      let a_high = (All-contains (IsSlab (corners points)) rects a are.each a_in).high in
      elim (pair_cases ComesBefore rects a b are.order a_in b_in) [
        | inl same ↦ inl same
        | inr either ↦ inr (elim either [
          | inl before ↦ elim before [ inl above ↦ absurd (omega (arith, ints)) | inr gap ↦ inl gap.1 ]
          | inr behind ↦ elim behind [ inl above ↦ absurd (omega (arith, ints)) | inr gap ↦ inr gap.1 ]
        ])
      ]

  -- the unit squares to the west and to the east of a slab's lowest row are not inside
  west_out : (rects : List RectModel) → AreSlabs points rects → (r : RectModel) → Contains rects r
      → is_inside (walk points) (record { x = r.x1 -ℤ pos 1; y = r.y1 }) ≡ true → ⊥
  west_out rects are r r_in inside =
      let cover = (are.squares (record { x = r.x1 -ℤ pos 1; y = r.y1 })).0 inside in
      let wide = (All-contains (IsSlab (corners points)) rects r are.each r_in).wide in
      let left = cover.has.left in
      let right = cover.has.right in
      elim (apart rects are r cover.rect r_in cover.given cover.has.bottom cover.has.top) [
        | inl same ↦ let first : r.x1 ≡ cover.rect.x1 = ap (λ q. q.x1) same in omega (arith, ints)
        | inr either ↦ elim either [ inl gap ↦ omega (arith, ints) | inr gap ↦ omega (arith, ints) ]
      ]

  east_out : (rects : List RectModel) → AreSlabs points rects → (r : RectModel) → Contains rects r
      → is_inside (walk points) (record { x = r.x2; y = r.y1 }) ≡ true → ⊥
  east_out rects are r r_in inside =
      let cover = (are.squares (record { x = r.x2; y = r.y1 })).0 inside in
      let wide = (All-contains (IsSlab (corners points)) rects r are.each r_in).wide in
      let left = cover.has.left in
      let right = cover.has.right in
      elim (apart rects are r cover.rect r_in cover.given cover.has.bottom cover.has.top) [
        | inl same ↦ let last : r.x2 ≡ cover.rect.x2 = ap (λ q. q.x2) same in omega (arith, ints)
        | inr either ↦ elim either [ inl gap ↦ omega (arith, ints) | inr gap ↦ omega (arith, ints) ]
      ]

  -- a slab of one list is one of the other
  in_other : (some others : List RectModel) → AreSlabs points some → AreSlabs points others → (r : RectModel) → Contains some r → Contains others r
  in_other some others some_are others_are r r_in =
      let r_is = All-contains (IsSlab (corners points)) some r some_are.each r_in in
      let r_wide = r_is.wide in
      let inside_r : (x : ℤ) → r.x1 ≤ℤ x → x <ℤ r.x2 → is_inside (walk points) (record { x = x; y = r.y1 }) ≡ true =
      λ x left right. (some_are.squares (record { x = x; y = r.y1 })).1
      (record { rect = r; given = r_in; has = row_square (corners points) r x r_is left right }) in
      let cover = (others_are.squares (record { x = r.x1; y = r.y1 })).0 (inside_r r.x1 (omega (arith, ints)) r_wide) in
      let q = cover.rect in
      let q_is = All-contains (IsSlab (corners points)) others q others_are.each cover.given in
      let inside_q : (x : ℤ) → q.x1 ≤ℤ x → x <ℤ q.x2 → is_inside (walk points) (record { x = x; y = q.y1 }) ≡ true =
      λ x left right. (others_are.squares (record { x = x; y = q.y1 })).1
      (record { rect = q; given = cover.given; has = row_square (corners points) q x q_is left right }) in
      let band = same_band (corners points) r q r_is q_is cover.has.bottom cover.has.top in
      let in_row : (x : ℤ) → is_inside (walk points) (record { x = x; y = r.y1 }) ≡ is_inside (walk points) (record { x = x; y = q.y1 }) =
      λ x. ap (λ y. is_inside (walk points) (record { x = x; y = y })) band.bottom in
      let left : q.x1 ≤ℤ r.x1 = cover.has.left in
      let right : r.x1 <ℤ q.x2 = cover.has.right in
      let x1_same : r.x1 ≡ q.x1 = elim (cases_lt_z q.x1 r.x1) [
        | inl less ↦ absurd (west_out some some_are r r_in (in_row (r.x1 -ℤ pos 1) ∙ inside_q (r.x1 -ℤ pos 1) (omega (arith, ints)) (omega (arith, ints))))
        | inr more ↦ omega (arith, ints)
      ] in
      let x2_same : r.x2 ≡ q.x2 = elim (cases_lt_z r.x2 q.x2) [
        | inl less ↦ absurd (east_out some some_are r r_in (in_row r.x2 ∙ inside_q r.x2 (omega (arith, ints)) less))
        | inr more ↦ elim (cases_lt_z q.x2 r.x2) [
          | inl less ↦ absurd (east_out others others_are q cover.given (sym (in_row q.x2) ∙ inside_r q.x2 (omega (arith, ints)) less))
          | inr no_more ↦ omega (arith, ints)
        ]
      ] in
      let same : r ≡ q = same_rect r q x1_same band.bottom x2_same band.top in
      rw same cover.given

  lower_all : (rects : List RectModel) → AreSlabs points rects → AllPairs Lower rects
  lower_all rects are i j d before within =
      lower_before (corners points) (get_or rects i d) (get_or rects j d) (are.each i d (omega (arith, before, within))) (are.each j d within)
      (are.order i j d before within)

  pub one_list : (some others : List RectModel) → AreSlabs points some → AreSlabs points others → some ≡ others
  one_list some others some_are others_are =
      same_rising Lower not_lower lower_trans some others (lower_all some some_are) (lower_all others others_are)
      (in_other some others some_are others_are) (in_other others some others_are some_are)

  pub only_slabs : (rects : List RectModel) → AreSlabs points rects → rects ≡ slabs points
  only_slabs rects are = one_list rects (slabs points) are (AreSlabs-slabs points)
