-- The rows of a polygon from the bottom up: the ends of sides that were passed, and the edges of the row above them.
use Rattle.std.proofs.Common.{◌≡◌, ℕ, ◌+◌, ◌<◌, ℤ, ◌<ℤ◌, ◌≤ℤ◌, false, List, [], ◌∷◌, ◌++◌, length, take, drop, get_or, All, AllPairs, fold, map, flat_map, refl, sym, ap, ◌∙◌, append_assoc, arith}
use Rattle.std.specs.Prelude.{int_le}
use Rattle.std.specs.List.{AllWithin, filter}
use Rattle.std.proofs.lemmas.Int.{ints}
use Rattle.std.proofs.lemmas.List.{append-nil, drop_more, get_or-take, get_or-drop, length-take, length-drop, map-append, take-append-drop, take_more, flat_map_more}
use Rattle.std.proofs.lemmas.List.Elements.{All-append, All-head, All-tail, All-weaker, filter-append}
use Rattle.std.proofs.lemmas.List.Folds.{length-flat_map-take}
use Rattle.std.proofs.lemmas.List.Sums.{fold-append}
use Rattle.leg_lemmas.proofs.Integers.{le_test}
use Rattle.leg_lemmas.proofs.RisingLists.{AllPairs-head, AllPairs-tail}
use Rattle.leg_geom.specs.Plane.{PointModel, RectModel}
use Rattle.leg_polygon.specs.Slab.{toggle}
use Rattle.leg_polygon.specs.Steps.Sweep.{ArePartedAt, DoClimb, DoStack, is_upto, odd_upto}

-- the points on the line or below it, where all are, and where none is
kept_all : (line : ℤ) (points : List PointModel) → All (λ p. p.y ≤ℤ line) points → filter (is_upto line) points ≡ points
kept_all line [] all = refl
kept_all line (p ∷ points) all =
    rw (le_test p.y line (All-head (λ (q : PointModel). q.y ≤ℤ line) p points all))
    (ap (λ qs. p ∷ qs) (kept_all line points (All-tail (λ (q : PointModel). q.y ≤ℤ line) p points all)))

kept_none : (line : ℤ) (points : List PointModel) → All (λ p. line <ℤ p.y) points → filter (is_upto line) points ≡ []
kept_none line [] none = refl
kept_none line (p ∷ points) none =
    rw (not_upto p.y (All-head (λ (q : PointModel). line <ℤ q.y) p points none))
    (kept_none line points (All-tail (λ (q : PointModel). line <ℤ q.y) p points none))
  where
    not_upto : (y : ℤ) → line <ℤ y → int_le y line ≡ false
    not_upto y over = grind (arith, ints)

-- what holds of the elements before a place, and behind it
all_before : {X : Type 0} (P : X → Type 0) (xs : List X) (n : ℕ) → AllWithin P xs 0 n → All P (take n xs)
all_before P xs n all k d within =
    let before : k < n = omega (arith, within, length-take n xs) in
    rw (get_or-take n xs k d before) (all k d (omega arith) before)

all_behind : {X : Type 0} (P : X → Type 0) (xs : List X) (n : ℕ) → AllWithin P xs n (length xs) → All P (drop n xs)
all_behind P xs n all k d within =
    rw (get_or-drop n xs k d) (all (n + k) d (omega arith) (omega (arith, within, length-drop n xs)))

-- points that were parted at a place
pub parted_at : (line : ℤ) (points lower upper : List PointModel) (n : ℕ) → lower ≡ take n points → upper ≡ drop n points
    → AllWithin (λ p. p.y ≤ℤ line) points 0 n → AllWithin (λ p. line <ℤ p.y) points n (length points) → ArePartedAt line points lower upper
parted_at line points lower upper n front back upto above = record {
  whole = rw (front, back) (take-append-drop n points);
  upto = rw front (all_before (λ p. p.y ≤ℤ line) points n upto);
  above = rw back (all_behind (λ p. line <ℤ p.y) points n above);
}

rises_behind : {X : Type 0} (R : X → X → Type 0) (xs ys : List X) → AllPairs R (xs ++ ys) → AllPairs R ys
rises_behind R [] ys rise = rise
rises_behind R (x ∷ xs) ys rise = rises_behind R xs ys (AllPairs-tail R x (xs ++ ys) rise)

above_all_later : (a b c : ℤ) → a ≤ℤ b → b <ℤ c → a ≤ℤ c
above_all_later a b c under over = omega (arith, ints)

-- Of the points some were passed, and the others are left. The edges are the places at which an odd number of those passed stand,
-- and none of them stands above the lower line of a band that is to come.
pub record ArePassed (points left : List PointModel) (edges : List ℤ) (bands : List (ℤ × ℤ)) : Type 0 where
  pub passed : List PointModel
  pub whole : passed ++ left ≡ points
  pub odd : edges ≡ fold toggle [] (map (λ p. p.x) passed)
  pub upto : All (λ band. All (λ p. p.y ≤ℤ band.0) passed) bands

pub left_climb : (points left : List PointModel) (edges : List ℤ) (bands : List (ℤ × ℤ)) → DoClimb points → ArePassed points left edges bands → DoClimb left
left_climb points left edges bands climb are =
    let all : DoClimb (are.passed ++ left) = rw are.whole climb in
    rises_behind (λ a b. a.y ≤ℤ b.y) are.passed left all

odd_more : (passed more : List PointModel) (edges made : List ℤ) → edges ≡ fold toggle [] (map (λ p. p.x) passed)
    → made ≡ fold toggle edges (map (λ p. p.x) more) → made ≡ fold toggle [] (map (λ p. p.x) (passed ++ more))
odd_more passed more edges made odd is =
    is ∙ ap (λ es. fold toggle es (map (λ p. p.x) more)) odd
    ∙ sym (fold-append toggle [] (map (λ (p : PointModel). p.x) passed) (map (λ (p : PointModel). p.x) more))
    ∙ ap (fold toggle []) (sym (map-append (λ (p : PointModel). p.x) passed more))

module _ (points left lower upper : List PointModel) (edges made : List ℤ) (band : ℤ × ℤ) (bands : List (ℤ × ℤ))
    (are : ArePassed points left edges (band ∷ bands)) (parted : ArePartedAt band.0 left lower upper)
    (is : made ≡ fold toggle edges (map (λ p. p.x) lower)) where
  now_passed : All (λ p. p.y ≤ℤ band.0) (are.passed ++ lower)
  now_passed =
      All-append (λ p. p.y ≤ℤ band.0) are.passed lower (All-head (λ (b : ℤ × ℤ). All (λ p. p.y ≤ℤ b.0) are.passed) band bands are.upto) parted.upto

  now_whole : (are.passed ++ lower) ++ upper ≡ points
  now_whole = append_assoc are.passed lower upper ∙ ap (λ ps. are.passed ++ ps) parted.whole ∙ are.whole

  more_passed : All (λ b. band.0 <ℤ b.0) bands → ArePassed points upper made bands
  more_passed over = record {
    passed = are.passed ++ lower;
    whole = now_whole;
    odd = odd_more are.passed lower edges made are.odd is;
    upto =
        All-weaker (λ (b : ℤ × ℤ). band.0 <ℤ b.0) (λ b. All (λ p. p.y ≤ℤ b.0) (are.passed ++ lower))
        (λ b higher. All-weaker (λ (p : PointModel). p.y ≤ℤ band.0) (λ p. p.y ≤ℤ b.0) (λ p under. above_all_later p.y band.0 b.0 under higher)
        (are.passed ++ lower) now_passed) bands over;
  }

  edges_made : made ≡ odd_upto points band.0
  edges_made =
      let now : List PointModel = are.passed ++ lower in
      let kept : filter (is_upto band.0) points ≡ now =
      ap (filter (is_upto band.0)) (sym now_whole)
      ∙ filter-append (is_upto band.0) now upper
      ∙ ap (λ ps. ps ++ filter (is_upto band.0) upper) (kept_all band.0 now now_passed)
      ∙ ap (λ ps. now ++ ps) (kept_none band.0 upper parted.above)
      ∙ append-nil now in
      odd_more are.passed lower edges made are.odd is ∙ ap (λ ps. fold toggle [] (map (λ (p : PointModel). p.x) ps)) (sym kept)

-- the bands from a place on
from_place : (bands : List (ℤ × ℤ)) (i : ℕ) (band : ℤ × ℤ) → i < length bands → band ≡ get_or bands i band → drop i bands ≡ band ∷ drop (i + 1) bands
from_place bands i band within is = drop_more bands i band within ∙ ap (λ b. b ∷ drop (i + 1) bands) (sym is)

-- those behind a place begin above the one there
stacked : (bands : List (ℤ × ℤ)) (i : ℕ) (band : ℤ × ℤ) → DoStack bands → drop i bands ≡ band ∷ drop (i + 1) bands
    → All (λ b. band.0 <ℤ b.0) (drop (i + 1) bands)
stacked bands i band stack there =
    let all : DoStack (take i bands ++ drop i bands) = rw (take-append-drop i bands) stack in
    let rest : DoStack (drop i bands) = rises_behind (λ a b. a.0 <ℤ b.0) (take i bands) (drop i bands) all in
    let here : DoStack (band ∷ drop (i + 1) bands) = rw there at rest in
    AllPairs-head (λ a b. a.0 <ℤ b.0) band (drop (i + 1) bands) here

module _ (points left lower upper : List PointModel) (edges made : List ℤ) (bands : List (ℤ × ℤ)) (i : ℕ) (band : ℤ × ℤ) (within : i < length bands)
    (is : band ≡ get_or bands i band) (are : ArePassed points left edges (drop i bands)) (parted : ArePartedAt band.0 left lower upper)
    (made_is : made ≡ fold toggle edges (map (λ p. p.x) lower)) where
  here_passed : ArePassed points left edges (band ∷ drop (i + 1) bands)
  here_passed = rw (from_place bands i band within is) at are

  -- the points up to the band's lower line are passed
  pub row_passed : DoStack bands → ArePassed points upper made (drop (i + 1) bands)
  row_passed stack =
      more_passed points left lower upper edges made band (drop (i + 1) bands) here_passed parted made_is
      (stacked bands i band stack (from_place bands i band within is))

  -- and the edges are those of the band's row
  pub row_edges : made ≡ odd_upto points band.0
  row_edges = edges_made points left lower upper edges made band (drop (i + 1) bands) here_passed parted made_is

module _ (f : ℤ × ℤ → List RectModel) (bands : List (ℤ × ℤ)) (i : ℕ) (band : ℤ × ℤ) (so_far : List RectModel) (within : i < length bands)
    (is : band ≡ get_or bands i band) (before : so_far ≡ flat_map f (take i bands)) where
  -- the rectangles of one band more
  pub row_kept : (now : List RectModel) → now ≡ so_far ++ f band → now ≡ flat_map f (take (i + 1) bands)
  row_kept now more =
      more ∙ ap (λ rs. rs ++ f band) before ∙ flat_map_more f [] (take i bands) band
      ∙ ap (λ b. flat_map f (take i bands ++ b ∷ [])) is
      ∙ ap (flat_map f) (sym (take_more bands i band within))

  -- where they are too many, so are those of all bands
  pub row_over : (limit : ℕ) → limit < length so_far + length (f band) → limit < length (flat_map f bands)
  row_over limit over =
      let long = ap length before in
      let last = ap (λ b. length (f b)) is in
      let upto = length-flat_map-take f bands i band within in
      omega (arith, long, last, upto, over)
