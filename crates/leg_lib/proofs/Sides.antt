-- The sides of slabs stand at coordinates of the polygon's points.
use Rattle.std.proofs.Common.{◌≡◌, ℕ, ◌+◌, ◌<◌, ◌≤◌, ℤ, true, false, List, [], ◌∷◌, ◌++◌, All, Contains, drop, get_or, length, map, Some, inl, inr, sym, ◌∙◌}
use Rattle.std.specs.Prelude.{nat_le}
use Rattle.std.specs.Ordering.{int_eq}
use Rattle.std.specs.List.{list_all, filter}
use Rattle.std.proofs.lemmas.Bool.{true≢false}
use Rattle.std.proofs.lemmas.Bool.Decides.{Decides-int_eq}
use Rattle.std.proofs.lemmas.List.{drop_all}
use Rattle.std.proofs.lemmas.List.Elements.{All-contains}
use Rattle.leg_lemmas.proofs.Contents.{Contains-nil, Contains-here, Contains-there, Contains-cons_cases, Contains-from_filter, Contains-map, All-from_contains}
use Rattle.leg_lemmas.proofs.Integers.{eq_from_test}
use Rattle.leg_lex.proofs.EachElement.{at_front}
use Rattle.leg_lex.proofs.Gives.{Gives, gives_none, gives_some, gives_if}
use Rattle.leg_geom.specs.Plane.{PointModel, RectModel}
use Rattle.leg_polygon.specs.Walk.{steps_from, round, sides, turns, corners, walk, is_straight}
use Rattle.leg_polygon.specs.Inside.{crosses}
use Rattle.leg_polygon.specs.Slab.{heights, bands, edges, runs, slabs, unless_empty, IsSlab}
use Rattle.leg_polygon.proofs.NumberFolds.{odd_from}
use Rattle.leg_polygon.proofs.ClosedWalk.{side_ends}
use Rattle.leg_polygon.proofs.Bands.{from_flat_map}
use Rattle.leg_polygon.proofs.SlabSquares.{AreSlabs-slabs}
use Rattle.leg_grammar.specs.declared.limits.TheConstants.{POLYGON_SLABS}
use Rattle.leg_grammar.specs.Lef.Polygon.{slabs_within}
use Rattle.leg_lib.specs.Steps.Sides.{StandsAt}

-- a length that is looked for stands behind those that are others
pub later : (xs : List ℤ) (i : ℕ) (x z : ℤ) → i < length xs → x ≡ get_or xs i x → int_eq x z ≡ false → Contains (drop i xs) z → Contains (drop (i + 1) xs) z
later xs i x z less is other there = elim (Contains-cons_cases x (drop (i + 1) xs) z (rw (at_front xs i x less is) at there)) [
  | inl here ↦ absurd (true≢false (sym ((Decides-int_eq x z).1 here) ∙ other))
  | inr behind ↦ behind
]

pub is_found : (x z : ℤ) → int_eq x z ≡ true → x ≡ z
is_found x z same = eq_from_test x z same

pub none_left : (xs : List ℤ) (i : ℕ) (z : ℤ) → length xs ≤ i → Contains (drop i xs) z → ⊥
none_left xs i z past there = Contains-nil z (rw (drop_all i xs past) at there)

-- what is in a list that was mapped came from the list
from_map : {X Y : Type 0} (f : X → Y) (xs : List X) (y : Y) → Contains (map f xs) y → (x : X) × Contains xs x × (f x ≡ y)
from_map f [] y has = absurd (Contains-nil y has)
from_map f (x ∷ xs) y has = elim (Contains-cons_cases (f x) (map f xs) y has) [
  | inl same ↦ (x, Contains-here x xs, same)
  | inr later ↦ let rest = from_map f xs y later in (rest.0, Contains-there x xs rest.0 rest.1, rest.2)
]

map_in : {X Y : Type 0} (f : X → Y) (xs ys : List X) (y : Y) → ((x : X) → Contains xs x → Contains ys x) → Contains (map f xs) y → Contains (map f ys) y
map_in f xs ys y within has =
    let from = from_map f xs y has in
    rw (from.2) at (Contains-map f ys from.0 (within from.0 from.1))

-- each step begins at an element
step_begins : {X : Type 0} (x : X) (xs : List X) (last : X) (two : X × X) → Contains (steps_from x (xs ++ last ∷ [])) two → Contains (x ∷ xs) two.0
step_begins x [] last two has = elim (Contains-cons_cases (x, last) [] two has) [
  | inl here ↦ rw (← here) (Contains-here x [])
  | inr none ↦ absurd (Contains-nil two none)
]
step_begins x (y ∷ xs) last two has = elim (Contains-cons_cases (x, y) (steps_from y (xs ++ last ∷ [])) two has) [
  | inl here ↦ rw (← here) (Contains-here x (y ∷ xs))
  | inr rest ↦ Contains-there x (y ∷ xs) two.0 (step_begins y xs last two rest)
]

round_begins : {X : Type 0} (xs : List X) (two : X × X) → Contains (round xs) two → Contains xs two.0
round_begins [] two has = absurd (Contains-nil two has)
round_begins (x ∷ xs) two has = step_begins x xs x two has

-- each edge between rectangles of a band is one of its edges
run_ends : (band : ℤ × ℤ) (es : List ℤ) (r : RectModel) → Contains (runs band es) r → Contains es r.x1 × Contains es r.x2
run_ends band [] r has = absurd (Contains-nil r has)
run_ends band (a ∷ []) r has = absurd (Contains-nil r has)
run_ends band (a ∷ b ∷ es) r has =
    elim (Contains-cons_cases (record { x1 = a; y1 = band.0; x2 = b; y2 = band.1 }) (runs band es) r has) [
      | inl here ↦ (rw (← here) (Contains-here a (b ∷ es)), rw (← here) (Contains-there a (b ∷ es) b (Contains-here b es)))
      | inr rest ↦
          let ends = run_ends band es r rest in
          (Contains-there a (b ∷ es) r.x1 (Contains-there b es r.x1 ends.0), Contains-there a (b ∷ es) r.x2 (Contains-there b es r.x2 ends.1))
    ]

some_give : {X : Type 0} (P : X → Type 0) (xs : List X) → All P xs → Gives (All P) (unless_empty xs)
some_give P [] all = gives_none
some_give P (x ∷ xs) all = gives_some (x ∷ xs) all

module _ (points : List PointModel) where
  corner_is_point : (p : PointModel) → Contains (corners points) p → Contains points p
  corner_is_point p has =
      let from = from_map (λ two. two.0.1) (filter turns (round (sides points))) p has in
      let turn = Contains-from_filter turns (round (sides points)) from.0 from.1 in
      let ends = side_ends points from.0.0 (round_begins (sides points) from.0 turn.0) in
      rw (from.2) at ends.1

  -- a vertical side that a row crosses stands at the x coordinate of a point
  edge_is_x : (line x : ℤ) → Contains (edges (walk points) line) x → Contains (map (λ p. p.x) points) x
  edge_is_x line x has =
      let from = from_map (λ side. side.0.x) (filter (crosses line) (walk points)) x
      (odd_from (map (λ side. side.0.x) (filter (crosses line) (walk points))) x has) in
      let side = Contains-from_filter (crosses line) (walk points) from.0 from.1 in
      let ends = side_ends (corners points) from.0 side.0 in
      rw (from.2) at (Contains-map (λ (p : PointModel). p.x) points from.0.0 (corner_is_point from.0.0 ends.0))

  height_is_y : (y : ℤ) → Contains (map (λ p. p.y) (corners points)) y → Contains (map (λ p. p.y) points) y
  height_is_y y has = map_in (λ (p : PointModel). p.y) (corners points) points y corner_is_point has

  abbrev Stands : RectModel → Type 0
  Stands = StandsAt (map (λ p. p.x) points) (map (λ p. p.y) points)

  slab_stands : (r : RectModel) → Contains (slabs points) r → IsSlab (corners points) r → Stands r
  slab_stands r has is =
      let from = from_flat_map (λ band. runs band (edges (walk points) band.0)) (bands (heights (corners points))) r has in
      let ends = run_ends from.0 (edges (walk points) from.0.0) r from.2 in
      record {
        proper = record { wide = is.wide; high = is.high };
        west = edge_is_x from.0.0 r.x1 ends.0;
        east = edge_is_x from.0.0 r.x2 ends.1;
        bottom = height_is_y r.y1 is.bottom;
        top = height_is_y r.y2 is.top;
      }

  slabs_stand : All Stands (slabs points)
  slabs_stand =
      All-from_contains Stands (slabs points) (λ r has.
      slab_stands r has (All-contains (IsSlab (corners points)) (slabs points) r (AreSlabs-slabs points).each has))

  slabs_give : Gives (All Stands) (slabs_within points)
  unfolding slabs_within
  slabs_give =
      gives_if (nat_le (length (slabs points)) POLYGON_SLABS)
      (gives_if (list_all is_straight (walk points)) (some_give Stands (slabs points) slabs_stand) gives_none)
      gives_none

  -- The slabs of a polygon that is read have area, and their sides stand at coordinates of its points.
  pub all_stand : (rects : List RectModel) → slabs_within points ≡ Some rects → All Stands rects
  all_stand rects said = slabs_give.given rects said
