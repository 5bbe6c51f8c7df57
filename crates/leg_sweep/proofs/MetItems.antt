-- The items that a new one meets in its bands.
use Rattle.std.proofs.Common.{◌≡◌, ◌≢◌, ℕ, zero, suc, ◌+◌, ◌-◌, ◌<◌, ◌≤◌, Bool, true, List, [], ◌∷◌, ◌++◌, length, set, filter, count_by, AllPairs, Contains, cond, ◌⊎◌, inl, inr, refl, sym, ap, ◌∙◌, eqb, arith}
use Rattle.std.specs.List.{IsDistinct}
use Rattle.std.proofs.lemmas.Bool.{cases_lt, cases_eq, ne_eqb}
use Rattle.std.proofs.lemmas.Bool.Decides.{Decides-eqb}
use Rattle.std.proofs.lemmas.Cmp.{nat_eq_equiv}
use Rattle.std.proofs.lemmas.List.{get_or-set_same, get_or-set_other, length-set, length-append, length_push}
use Rattle.std.proofs.lemmas.List.Elements.{Contains-append_left, Contains-append_right, Contains-append_cases}
use Rattle.std.proofs.lemmas.List.Kept.{AllPairs-filter}
use Rattle.std.proofs.lemmas.List.Sums.{length-filter, sum_by-cons, sum_by-set, sum_by-append}
use Rattle.std.proofs.lemmas.Map.Keys.{IsDistinct-from_apart}
use Rattle.std.proofs.lemmas.Map.Made.{is_member-Decides, length-le_from_is_member}
use Rattle.leg_lemmas.proofs.Contents.{All-from_contains, Contains-filter, Contains-from_filter}
use Rattle.leg_lemmas.proofs.RisingLists.{AllPairs-append_by}
use Rattle.leg_sweep.specs.Steps.Bands.{Waiting, empty_band, waiting_at, after_begin, after_pass, met, waiting_count, AreEmpty, AreVisited}
use Rattle.leg_sweep.proofs.SweepSoFar.{VisitedBy, AreMet}

-- the bands' lists as functions of their numbers
abbrev pub begun_in : List Waiting → ℕ → List ℕ
begun_in bands k = (waiting_at bands k).begun

abbrev pub passing_in : List Waiting → ℕ → List ℕ
passing_in bands k = (waiting_at bands k).passing

-- a visit, said of the lists
pub visited_by : (narrow : ℕ → Bool) (first last new : ℕ) (before after : List Waiting) → AreVisited narrow first last new before after
    → VisitedBy narrow first last new (begun_in before) (passing_in before) (begun_in after) (passing_in after)
visited_by narrow first last new before after visited = record {
  begun_first = ap (λ (w : Waiting). w.begun) visited.begun;
  passing_first = ap (λ (w : Waiting). w.passing) visited.begun;
  begun_through = λ k low high. ap (λ (w : Waiting). w.begun) (visited.passed k low high);
  passing_through = λ k low high. ap (λ (w : Waiting). w.passing) (visited.passed k low high);
  begun_out = λ k out. elim out [
    | inl below ↦ ap (λ (w : Waiting). w.begun) (visited.below k below)
    | inr above ↦ ap (λ (w : Waiting). w.begun) (visited.above k above)
  ];
  passing_out = λ k out. elim out [
    | inl below ↦ ap (λ (w : Waiting). w.passing) (visited.below k below)
    | inr above ↦ ap (λ (w : Waiting). w.passing) (visited.above k above)
  ];
}

module _ (bands : List Waiting) (first : ℕ) where
  -- what is met began in one of the bands or passes through the first
  pub met_each : (count x : ℕ) → Contains (met bands first count) x
      → ((k : ℕ) × (first ≤ k) × (k ≤ first + count) × Contains (begun_in bands k) x) ⊎ Contains (passing_in bands first) x
  met_each zero x c =
      elim (Contains-append_cases (begun_in bands first) (passing_in bands first) x c) [
        | inl begins ↦ inl (first, omega arith, omega arith, begins)
        | inr passes ↦ inr passes
      ]
  met_each (suc count) x c =
      elim (Contains-append_cases (met bands first count) (begun_in bands (first + suc count)) x c) [
        | inl earlier ↦ elim (met_each count x earlier) [
          | inl (k, low, high, there) ↦ inl (k, low, omega (arith, high), there)
          | inr passes ↦ inr passes
        ]
        | inr here ↦ inl (first + suc count, omega arith, omega arith, here)
      ]

  pub met_begun : (count k x : ℕ) → first ≤ k → k ≤ first + count → Contains (begun_in bands k) x → Contains (met bands first count) x
  met_begun zero k x low high c =
      let k_is : k ≡ first = omega (arith, low, high) in
      Contains-append_left (begun_in bands first) (passing_in bands first) x (rw k_is at c)
  met_begun (suc count) k x low high c =
      elim (cases_lt (first + count) k) [
        | inl last ↦
            let k_is : k ≡ first + suc count = omega (arith, high, last) in
            Contains-append_right (met bands first count) (begun_in bands (first + suc count)) x (rw k_is at c)
        | inr earlier ↦ Contains-append_left (met bands first count) (begun_in bands (first + suc count)) x (met_begun count k x low earlier c)
      ]

  pub met_passing : (count x : ℕ) → Contains (passing_in bands first) x → Contains (met bands first count) x
  met_passing zero x c = Contains-append_right (begun_in bands first) (passing_in bands first) x c
  met_passing (suc count) x c = Contains-append_left (met bands first count) (begun_in bands (first + suc count)) x (met_passing count x c)

  -- with one band more
  pub met_next : (k : ℕ) → first ≤ k → met bands first (k + 1 - first) ≡ met bands first (k - first) ++ begun_in bands (k + 1)
  met_next k low =
      let count : k + 1 - first ≡ suc (k - first) = omega (arith, low) in
      let number : first + suc (k - first) ≡ k + 1 = omega (arith, low) in
      rw count (ap (λ n. met bands first (k - first) ++ begun_in bands n) number)

  -- no fewer with more bands
  pub met_longer : (count total : ℕ) → count ≤ total → length (met bands first count) ≤ length (met bands first total)
  met_longer count zero low = let none : count ≡ 0 = omega (arith, low) in rw none (omega arith)
  met_longer count (suc total) low =
      elim (cases_lt total count) [
        | inl whole ↦ let same : count ≡ suc total = omega (arith, low, whole) in rw same (omega arith)
        | inr within ↦ omega (arith, met_longer count total within, length-append (met bands first total) (begun_in bands (first + suc total)))
      ]

  pub are_met : (last : ℕ) → first ≤ last → AreMet first last (begun_in bands) (passing_in bands) (met bands first (last - first))
  are_met last upward =
      let end : first + (last - first) ≡ last = omega (arith, upward) in
      record {
        each = λ x c. elim (met_each (last - first) x c) [
          | inl (k, low, high, there) ↦ inl (k, low, omega (arith, high, end), there)
          | inr passes ↦ inr passes
        ];
        has_begun = λ k x low high c. met_begun (last - first) k x low (omega (arith, high, end)) c;
        has_passing = λ x c. met_passing (last - first) x c;
      }

  module _ (end : ℕ) (begun_apart : (k : ℕ) → first ≤ k → k ≤ end → AllPairs (λ x y. x ≢ y) (begun_in bands k))
      (passing_apart : AllPairs (λ x y. x ≢ y) (passing_in bands first))
      (between : (j k x : ℕ) → first ≤ j → j < k → k ≤ end → Contains (begun_in bands j) x → Contains (begun_in bands k) x → ⊥)
      (from_passing : (k x : ℕ) → first ≤ k → k ≤ end → Contains (begun_in bands k) x → Contains (passing_in bands first) x → ⊥) where
    -- a later band's items weren't met before
    pub met_new : (count x : ℕ) → first + suc count ≤ end → Contains (met bands first count) x → Contains (begun_in bands (first + suc count)) x → ⊥
    met_new count x within earlier here =
        elim (met_each count x earlier) [
          | inl (k, low, high, there) ↦ between k (first + suc count) x low (omega (arith, high)) within there here
          | inr passes ↦ from_passing (first + suc count) x (omega arith) within here passes
        ]

    -- none is met twice
    pub met_apart : (count : ℕ) → first + count ≤ end → AllPairs (λ x y. x ≢ y) (met bands first count)
    met_apart zero within =
        AllPairs-append_by (λ x y. x ≢ y) (Contains (begun_in bands first)) (Contains (passing_in bands first))
        (λ x y begins passes same. from_passing first x (omega arith) (omega (arith, within)) begins (rw (sym same) at passes))
        (begun_in bands first) (passing_in bands first)
        (All-from_contains (Contains (begun_in bands first)) (begun_in bands first) (λ x c. c))
        (All-from_contains (Contains (passing_in bands first)) (passing_in bands first) (λ x c. c))
        (begun_apart first (omega arith) (omega (arith, within))) passing_apart
    met_apart (suc count) within =
        AllPairs-append_by (λ x y. x ≢ y) (Contains (met bands first count)) (Contains (begun_in bands (first + suc count)))
        (λ x y earlier here same. met_new count x within earlier (rw (sym same) at here))
        (met bands first count) (begun_in bands (first + suc count))
        (All-from_contains (Contains (met bands first count)) (met bands first count) (λ x c. c))
        (All-from_contains (Contains (begun_in bands (first + suc count))) (begun_in bands (first + suc count)) (λ x c. c))
        (met_apart count (omega (arith, within))) (begun_apart (first + suc count) (omega arith) within)

-- of numbers that differ and are all in a list, no more pass a test than pass another one in the list, which holds where the first does
pub count_by-le_within : (p q : ℕ → Bool) (xs ys : List ℕ) → AllPairs (λ x y. x ≢ y) xs
    → ((x : ℕ) → Contains xs x → p x ≡ true → Contains ys x × (q x ≡ true)) → count_by p xs ≤ count_by q ys
count_by-le_within p q xs ys apart inside =
    let kept = filter p xs in
    let differ = AllPairs-filter (λ x y. x ≢ y) p xs apart in
    let distinct : IsDistinct eqb kept = IsDistinct-from_apart eqb kept (λ i j d low high. ne_eqb _ _ (λ same. differ i j d low high same)) in
    let few = length-le_from_is_member nat_eq_equiv kept (filter q ys) distinct
    (λ x member.
    let c = Contains-from_filter p xs x ((is_member-Decides Decides-eqb kept x).0 member) in
    let there = inside x c.0 c.1 in
    (is_member-Decides Decides-eqb (filter q ys) x).1 (Contains-filter q x ys there.1 there.0)) in
    omega (arith, few, length-filter p xs, length-filter q ys)

-- one band of a list is another one
pub waiting_at-set : (bands : List Waiting) (number : ℕ) (band : Waiting) → number < length bands → waiting_at (set bands number band) number ≡ band
waiting_at-set bands number band within = get_or-set_same bands number band (empty_band 0) within

pub waiting_at-set_other : (bands : List Waiting) (number k : ℕ) (band : Waiting) → k ≢ number → waiting_at (set bands number band) k ≡ waiting_at bands k
waiting_at-set_other bands number k band other = get_or-set_other bands number k band (empty_band 0) other

-- how many items wait after a band became another one
pub waiting_count-set : (bands : List Waiting) (number : ℕ) (band : Waiting) → number < length bands
    → waiting_count (set bands number band) + (length (begun_in bands number) + length (passing_in bands number)) ≡ waiting_count bands +
    (length band.begun + length band.passing)
waiting_count-set bands number band within = sum_by-set (λ (w : Waiting). length w.begun + length w.passing) bands number band (empty_band 0) within

module _ (narrow : ℕ → Bool) (new : ℕ) (bands : List Waiting) (number : ℕ) (within : number < length bands) where
  -- how many items wait after a new one began in a band
  pub count_begin : waiting_count (set bands number (after_begin narrow new (waiting_at bands number))) + length
      (met bands number 0) ≡ waiting_count bands + count_by narrow (met bands number 0) + 1
  count_begin =
      let band = waiting_at bands number in
      omega (
        arith,
        waiting_count-set bands number (after_begin narrow new band) within,
        length_push (filter narrow band.begun) new,
        length-filter narrow band.begun,
        length-filter narrow band.passing,
        length-append band.begun band.passing,
        sum_by-append (λ x. cond (narrow x) 1 0) band.begun band.passing,
      )

  -- how many items wait after a new one passed through it
  pub count_pass : waiting_count (set bands number (after_pass narrow new (waiting_at bands number))) + length
      (begun_in bands number) ≡ waiting_count bands + count_by narrow (begun_in bands number) + 1
  count_pass =
      let band = waiting_at bands number in
      omega (
        arith,
        waiting_count-set bands number (after_pass narrow new band) within,
        length_push band.passing new,
        length-filter narrow band.begun,
      )

  -- a visit to the first band
  pub visited_first : AreVisited narrow number number new bands (set bands number (after_begin narrow new (waiting_at bands number)))
  visited_first =
      let band = after_begin narrow new (waiting_at bands number) in
      record {
        count = length-set bands number band;
        begun = waiting_at-set bands number band within;
        passed = λ k low high. absurd (omega (arith, low, high));
        below = λ k low. waiting_at-set_other bands number k band (λ same. omega (arith, same, low));
        above = λ k high. waiting_at-set_other bands number k band (λ same. omega (arith, same, high));
      }

-- a visit to one band more
pub visited_more : (narrow : ℕ → Bool) (first last new : ℕ) (before bands : List Waiting) → first ≤ last → last + 1 < length before
    → AreVisited narrow first last new before bands
    → AreVisited narrow first (last + 1) new before (set bands (last + 1) (after_pass narrow new (waiting_at bands (last + 1))))
visited_more narrow first last new before bands upward within visited =
    let here : waiting_at bands (last + 1) ≡ waiting_at before (last + 1) = visited.above (last + 1) (omega arith) in
    let band = after_pass narrow new (waiting_at bands (last + 1)) in
    let inside : last + 1 < length bands = omega (arith, visited.count, within) in
    let other = λ (k : ℕ) (differs : k ≢ last + 1). waiting_at-set_other bands (last + 1) k band differs in
    record {
      count = length-set bands (last + 1) band ∙ visited.count;
      begun = other first (λ same. omega (arith, same, upward)) ∙ visited.begun;
      passed = λ k low high. elim (cases_eq k (last + 1)) [
        | inl same ↦ rw same (waiting_at-set bands (last + 1) band inside ∙ ap (λ w. after_pass narrow new w) here)
        | inr differs ↦ other k differs ∙ visited.passed k low (omega (arith, high, differs))
      ];
      below = λ k low. other k (λ same. omega (arith, same, low, upward)) ∙ visited.below k low;
      above = λ k high. other k (λ same. omega (arith, same, high)) ∙ visited.above k (omega (arith, high));
    }

-- in empty bands no item waits
pub waiting_none : (bands : List Waiting) → AreEmpty bands → waiting_count bands ≡ 0
waiting_none [] empty = refl
waiting_none (band ∷ bands) empty =
    let first : band ≡ empty_band band.reach = empty 0 in
    let begun : length band.begun ≡ 0 = ap (λ (w : Waiting). length w.begun) first in
    let passing : length band.passing ≡ 0 = ap (λ (w : Waiting). length w.passing) first in
    omega (arith, begun, passing, waiting_none bands (λ k. empty (suc k)), sum_by-cons (λ (w : Waiting). length w.begun + length w.passing) band bands)
