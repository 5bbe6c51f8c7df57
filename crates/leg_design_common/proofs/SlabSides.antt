-- The sides of slabs stand at coordinates of the polygon's points, so what holds of these holds of those.
use Rattle.std.proofs.Common.{◌≡◌, ◌≤◌, ℤ, ◌<ℤ◌, List, [], ◌∷◌, ◌++◌, length, All, Contains, map, inl, inr, arith}
use Rattle.std.specs.List.{list_all, filter}
use Rattle.std.proofs.lemmas.List.Elements.{All-contains}
use Rattle.leg_lemmas.proofs.Contents.{Contains-nil, Contains-here, Contains-there, Contains-cons_cases, Contains-from_filter, All-from_contains}
use Rattle.leg_lex.proofs.Gives.{Gives, gives_none, gives_some, gives_if}
use Rattle.leg_geom.specs.Plane.{PointModel, RectModel}
use Rattle.leg_polygon.specs.Walk.{steps_from, round, sides, turns, corners, walk, is_straight}
use Rattle.leg_polygon.specs.Inside.{crosses}
use Rattle.leg_polygon.specs.Slab.{heights, bands, edges, runs, slabs, unless_empty, slabs_of, IsSlab}
use Rattle.leg_polygon.proofs.NumberFolds.{odd_from}
use Rattle.leg_polygon.proofs.ClosedWalk.{side_ends}
use Rattle.leg_polygon.proofs.Bands.{from_flat_map}
use Rattle.leg_polygon.proofs.SlabSquares.{AreSlabs-slabs}

-- a rectangle with area, of whose coordinates each is of a kind
pub record IsOf (P : ℤ → Type 0) (r : RectModel) : Type 0 where
  pub x1 : P r.x1
  pub y1 : P r.y1
  pub x2 : P r.x2
  pub y2 : P r.y2
  pub wide : r.x1 <ℤ r.x2
  pub high : r.y1 <ℤ r.y2

-- what is in a list that was mapped came from the list
from_map : {X Y : Type 0} (f : X → Y) (xs : List X) (y : Y) → Contains (map f xs) y → (x : X) × Contains xs x × (f x ≡ y)
from_map f [] y has = absurd (Contains-nil y has)
from_map f (x ∷ xs) y has = elim (Contains-cons_cases (f x) (map f xs) y has) [
  | inl same ↦ (x, Contains-here x xs, same)
  | inr later ↦ let rest = from_map f xs y later in (rest.0, Contains-there x xs rest.0 rest.1, rest.2)
]

-- each step begins at an element
step_begins : {X : Type 0} (x : X) (xs : List X) (last : X) (two : X × X) → Contains (steps_from x (xs ++ last ∷ [])) two → Contains (x ∷ xs) two.0
step_begins x [] last two has = elim (Contains-cons_cases (x, last) [] two has) [
  | inl here ↦ rw (← here) (Contains-here x [])
  | inr none ↦ absurd (Contains-nil two none)
]
step_begins x (y ∷ xs) last two has = elim (Contains-cons_cases (x, y) (steps_from y (xs ++ last ∷ [])) two has) [
  | inl here ↦ rw (← here) (Contains-here x (y ∷ xs))
  | inr rest ↦ Contains-there x (y ∷ xs) two.0 (step_begins y xs last two rest)
]

round_begins : {X : Type 0} (xs : List X) (two : X × X) → Contains (round xs) two → Contains xs two.0
round_begins [] two has = absurd (Contains-nil two has)
round_begins (x ∷ xs) two has = step_begins x xs x two has

-- each edge between rectangles of a band is one of its edges
run_ends : (band : ℤ × ℤ) (es : List ℤ) (r : RectModel) → Contains (runs band es) r → Contains es r.x1 × Contains es r.x2
run_ends band [] r has = absurd (Contains-nil r has)
run_ends band (a ∷ []) r has = absurd (Contains-nil r has)
run_ends band (a ∷ b ∷ es) r has =
    elim (Contains-cons_cases (record { x1 = a; y1 = band.0; x2 = b; y2 = band.1 }) (runs band es) r has) [
      | inl here ↦ (rw (← here) (Contains-here a (b ∷ es)), rw (← here) (Contains-there a (b ∷ es) b (Contains-here b es)))
      | inr rest ↦
          let ends = run_ends band es r rest in
          (Contains-there a (b ∷ es) r.x1 (Contains-there b es r.x1 ends.0), Contains-there a (b ∷ es) r.x2 (Contains-there b es r.x2 ends.1))
    ]

some_give : {X : Type 0} (P : X → Type 0) (xs : List X) → All P xs → Gives (λ ys. All P ys × (1 ≤ length ys)) (unless_empty xs)
some_give P [] all = gives_none
some_give P (x ∷ xs) all = gives_some (x ∷ xs) (all, omega arith)

module _ (P : ℤ → Type 0) (points : List PointModel) (each : All (λ p. P p.x × P p.y) points) where
  corner_holds : (p : PointModel) → Contains (corners points) p → P p.x × P p.y
  corner_holds p has =
      let from = from_map (λ two. two.0.1) (filter turns (round (sides points))) p has in
      let turn = Contains-from_filter turns (round (sides points)) from.0 from.1 in
      let ends = side_ends points from.0.0 (round_begins (sides points) from.0 turn.0) in
      All-contains (λ (q : PointModel). P q.x × P q.y) points p each (rw (from.2) at ends.1)

  edge_holds : (line x : ℤ) → Contains (edges (walk points) line) x → P x
  edge_holds line x has =
      let from = from_map (λ side. side.0.x) (filter (crosses line) (walk points)) x
      (odd_from (map (λ side. side.0.x) (filter (crosses line) (walk points))) x has) in
      let side = Contains-from_filter (crosses line) (walk points) from.0 from.1 in
      let ends = side_ends (corners points) from.0 side.0 in
      rw (from.2) at (corner_holds from.0.0 ends.0).0

  height_holds : (y : ℤ) → Contains (map (λ p. p.y) (corners points)) y → P y
  height_holds y has =
      let from = from_map (λ (p : PointModel). p.y) (corners points) y has in
      rw (from.2) at (corner_holds from.0 from.1).1

  slab_holds : (r : RectModel) → Contains (slabs points) r → IsSlab (corners points) r → IsOf P r
  slab_holds r has is =
      let from = from_flat_map (λ band. runs band (edges (walk points) band.0)) (bands (heights (corners points))) r has in
      let ends = run_ends from.0 (edges (walk points) from.0.0) r from.2 in
      record {
        x1 = edge_holds from.0.0 r.x1 ends.0;
        y1 = height_holds r.y1 is.bottom;
        x2 = edge_holds from.0.0 r.x2 ends.1;
        y2 = height_holds r.y2 is.top;
        wide = is.wide;
        high = is.high;
      }

  slabs_hold : All (IsOf P) (slabs points)
  slabs_hold =
      All-from_contains (IsOf P) (slabs points) (λ r has.
      slab_holds r has (All-contains (IsSlab (corners points)) (slabs points) r (AreSlabs-slabs points).each has))

  -- A polygon has a slab; its slabs have area, and their coordinates are of a kind of which those of its points are.
  pub slabs_give : Gives (λ rects. All (IsOf P) rects × (1 ≤ length rects)) (slabs_of points)
  slabs_give = gives_if (list_all is_straight (walk points)) (some_give (IsOf P) (slabs points) slabs_hold) gives_none
