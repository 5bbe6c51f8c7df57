-- The bands between heights that follow one another.
use Rattle.std.proofs.Common.{◌≡◌, ℤ, ◌≤ℤ◌, ◌<ℤ◌, List, [], ◌∷◌, AllPairs, Contains, flat_map, inl, inr, arith}
use Rattle.std.specs.Prelude.{◌⊎◌}
use Rattle.std.proofs.lemmas.Int.{ints}
use Rattle.std.proofs.lemmas.List.Elements.{Contains-append_left, Contains-append_right, Contains-append_cases}
use Rattle.std.proofs.lemmas.List.Kept.{AllPairs-cons}
use Rattle.leg_lemmas.proofs.Contents.{Contains-nil, Contains-here, Contains-there, Contains-cons_cases, All-from_contains}
use Rattle.leg_lemmas.proofs.Integers.{cases_lt_z}
use Rattle.leg_lemmas.proofs.RisingLists.{AllPairs-nil, AllPairs-append_by}
use Rattle.leg_geom.specs.Plane.{RectModel}
use Rattle.leg_polygon.specs.Walk.{steps_from}
use Rattle.leg_polygon.specs.Slab.{bands, runs, ComesBefore}
use Rattle.leg_polygon.specs.Steps.Sweep.{DoStack}
use Rattle.leg_polygon.proofs.RisingNumbers.{Rise, above_first, rest_rises}
use Rattle.leg_polygon.proofs.RunSquares.{run_is, runs_order}

-- the band lies between two heights, and no height lies within it
pub record IsBand (heights : List ℤ) (band : ℤ × ℤ) : Type 0 where
  pub high : band.0 <ℤ band.1
  pub bottom : Contains heights band.0
  pub top : Contains heights band.1
  pub whole : (y : ℤ) → Contains heights y → (y ≤ℤ band.0) ⊎ (band.1 ≤ℤ y)

at_least_first : (a : ℤ) (zs : List ℤ) (z : ℤ) → Rise (a ∷ zs) → Contains (a ∷ zs) z → a ≤ℤ z
at_least_first a zs z rise c = elim (Contains-cons_cases a zs z c) [
  | inl is ↦ omega (arith, ints, is)
  | inr later ↦ let less : a <ℤ z = above_first a zs z rise later in omega (arith, ints)
]

steps_bands : (y : ℤ) (ys : List ℤ) (band : ℤ × ℤ) → Rise (y ∷ ys) → Contains (steps_from y ys) band → IsBand (y ∷ ys) band
steps_bands y [] band rise c = absurd (Contains-nil band c)
steps_bands y (z ∷ zs) band rise c = elim (Contains-cons_cases (y, z) (steps_from z zs) band c) [
  | inl here ↦ rw (← here) (record {
    high = above_first y (z ∷ zs) z rise (Contains-here z zs);
    bottom = Contains-here y (z ∷ zs);
    top = Contains-there y (z ∷ zs) z (Contains-here z zs);
    whole = λ v there. elim (Contains-cons_cases y (z ∷ zs) v there) [
      | inl is ↦ inl (omega (arith, ints, is))
      | inr later ↦ inr (at_least_first z zs v (rest_rises y (z ∷ zs) rise) later)
    ];
  })
  | inr later ↦
      let rest = steps_bands z zs band (rest_rises y (z ∷ zs) rise) later in
      let below : y <ℤ band.0 = above_first y (z ∷ zs) band.0 rise rest.bottom in
      record {
        high = rest.high;
        bottom = Contains-there y (z ∷ zs) band.0 rest.bottom;
        top = Contains-there y (z ∷ zs) band.1 rest.top;
        whole = λ v there. elim (Contains-cons_cases y (z ∷ zs) v there) [
          | inl is ↦ inl (omega (arith, ints, is, below))
          | inr others ↦ rest.whole v others
        ];
      }
]

pub band_is : (hs : List ℤ) (band : ℤ × ℤ) → Rise hs → Contains (bands hs) band → IsBand hs band
band_is [] band rise c = absurd (Contains-nil band c)
band_is (y ∷ ys) band rise c = steps_bands y ys band rise c

-- each band begins above the one before
steps_stack : (y : ℤ) (ys : List ℤ) → Rise (y ∷ ys) → DoStack (steps_from y ys)
steps_stack y [] rise = AllPairs-nil (λ a b. a.0 <ℤ b.0)
steps_stack y (z ∷ zs) rise =
    let rest : Rise (z ∷ zs) = rest_rises y (z ∷ zs) rise in
    AllPairs-cons (λ a b. a.0 <ℤ b.0) (y, z) (steps_from z zs)
    (All-from_contains (λ b. y <ℤ b.0) (steps_from z zs) (λ b c. above_first y (z ∷ zs) b.0 rise (steps_bands z zs b rest c).bottom))
    (steps_stack z zs rest)

pub bands_stack : (hs : List ℤ) → Rise hs → DoStack (bands hs)
bands_stack [] rise = AllPairs-nil (λ a b. a.0 <ℤ b.0)
bands_stack (y ∷ ys) rise = steps_stack y ys rise

-- a band that has the row on a line
pub record HasRow (list : List (ℤ × ℤ)) (y : ℤ) : Type 0 where
  pub band : ℤ × ℤ
  pub given : Contains list band
  pub low : band.0 ≤ℤ y
  pub high : y <ℤ band.1

step_has : (first : ℤ) (ys : List ℤ) (y top : ℤ) → first ≤ℤ y → Contains ys top → y <ℤ top → HasRow (steps_from first ys) y
step_has first [] y top low there high = absurd (Contains-nil top there)
step_has first (z ∷ zs) y top low there high = elim (cases_lt_z y z) [
  | inl here ↦ record { band = (first, z); given = Contains-here (first, z) (steps_from z zs); low = low; high = here }
  | inr beyond ↦ elim (Contains-cons_cases z zs top there) [
    | inl is ↦ absurd (omega (arith, ints, is, beyond, high))
    | inr later ↦
        let rest = step_has z zs y top beyond later high in
        record { band = rest.band; given = Contains-there (first, z) (steps_from z zs) rest.band rest.given; low = rest.low; high = rest.high }
  ]
]

pub row_has : (hs : List ℤ) (y bottom top : ℤ) → Rise hs → Contains hs bottom → bottom ≤ℤ y → Contains hs top → y <ℤ top → HasRow (bands hs) y
row_has [] y bottom top rise low_in low high_in high = absurd (Contains-nil bottom low_in)
row_has (h ∷ hs) y bottom top rise low_in low high_in high =
    let least : h ≤ℤ bottom = at_least_first h hs bottom rise low_in in
    let first : h ≤ℤ y = omega (arith, ints) in
    elim (Contains-cons_cases h hs top high_in) [
      | inl is ↦ absurd (omega (arith, ints, is, first, high))
      | inr later ↦ step_has h hs y top first later high
    ]

-- what a list of lists contains is in one of them
pub Contains-flat_map : {X Y : Type 0} (f : X → List Y) (xs : List X) (x : X) (y : Y) → Contains xs x → Contains (f x) y → Contains (flat_map f xs) y
Contains-flat_map f [] x y has there = absurd (Contains-nil x has)
Contains-flat_map f (z ∷ xs) x y has there = elim (Contains-cons_cases z xs x has) [
  | inl same ↦ Contains-append_left (f z) (flat_map f xs) y (rw same there)
  | inr later ↦ Contains-append_right (f z) (flat_map f xs) y (Contains-flat_map f xs x y later there)
]

pub from_flat_map : {X Y : Type 0} (f : X → List Y) (xs : List X) (y : Y) → Contains (flat_map f xs) y → (x : X) × Contains xs x × Contains (f x) y
from_flat_map f [] y has = absurd (Contains-nil y has)
from_flat_map f (z ∷ xs) y has = elim (Contains-append_cases (f z) (flat_map f xs) y has) [
  | inl here ↦ (z, Contains-here z xs, here)
  | inr later ↦ let rest = from_flat_map f xs y later in (rest.0, Contains-there z xs rest.0 rest.1, rest.2)
]

-- the rectangles of all bands stand from the bottom up
module _ (edges_of : ℤ × ℤ → List ℤ) (rise_in : (band : ℤ × ℤ) → Rise (edges_of band)) where
  above_line : (z : ℤ) (zs : List ℤ) (r : RectModel) → Rise (z ∷ zs) → Contains (flat_map (λ band. runs band (edges_of band)) (steps_from z zs)) r → z ≤ℤ r.y1
  above_line z zs r rise c =
      let from = from_flat_map (λ band. runs band (edges_of band)) (steps_from z zs) r c in
      let run = run_is from.0 (edges_of from.0) r (rise_in from.0) from.2 in
      let low : z ≤ℤ from.0.0 = at_least_first z zs from.0.0 rise (steps_bands z zs from.0 rise from.1).bottom in
      rw run.low low

  steps_order : (y : ℤ) (ys : List ℤ) → Rise (y ∷ ys) → AllPairs ComesBefore (flat_map (λ band. runs band (edges_of band)) (steps_from y ys))
  steps_order y [] rise = AllPairs-nil ComesBefore
  steps_order y (z ∷ zs) rise =
      let rest : Rise (z ∷ zs) = rest_rises y (z ∷ zs) rise in
      let here = runs (y, z) (edges_of (y, z)) in
      let there = flat_map (λ band. runs band (edges_of band)) (steps_from z zs) in
      let below : (r : RectModel) → Contains here r → r.y2 ≡ z = λ r c. (run_is (y, z) (edges_of (y, z)) r (rise_in (y, z)) c).high in
      AllPairs-append_by ComesBefore (λ r. r.y2 ≡ z) (λ r. z ≤ℤ r.y1) (λ a b at above. inl (rw at above)) here there
      (All-from_contains (λ r. r.y2 ≡ z) here below) (All-from_contains (λ r. z ≤ℤ r.y1) there (λ r c. above_line z zs r rest c))
      (runs_order (y, z) (edges_of (y, z)) (rise_in (y, z))) (steps_order z zs rest)

  pub bands_order : (hs : List ℤ) → Rise hs → AllPairs ComesBefore (flat_map (λ band. runs band (edges_of band)) (bands hs))
  bands_order [] rise = AllPairs-nil ComesBefore
  bands_order (y ∷ ys) rise = steps_order y ys rise
