-- The pairs of a few items, each two of them looked at.
use Rattle.std.proofs.Common.{◌≡◌, ◌≢◌, ℕ, ◌+◌, ◌*◌, ◌<◌, ◌≤◌, Bool, true, false, ◌&&◌, cond, List, [], ◌∷◌, ◌++◌, length, get_or, take, count_by, All, AllPairs, Contains, inl, inr, sym, ap, subst, ◌∙◌, arith}
use Rattle.std.specs.List.{range_with_len}
use Rattle.std.proofs.lemmas.Bool.{cases_lt}
use Rattle.std.proofs.lemmas.List.{length-append, take_more}
use Rattle.std.proofs.lemmas.List.Elements.{All-nil, All-append, All-weaker, Contains-append_left, Contains-append_right}
use Rattle.std.proofs.lemmas.Option.{slice_get_cases, slice_get_within}
use Rattle.leg_lemmas.proofs.RisingLists.{AllPairs-nil, AllPairs-append_by}
use Rattle.leg_lemmas.proofs.Ranges.{in_range, range_within}
use Rattle.leg_sweep.specs.Pairs.{TakesAll, TookPairs}
use Rattle.leg_geom.specs.Pairs.{IsPair}
use Rattle.leg_sweep.specs.Pairs.TakesAll.{none}
use Rattle.leg_sweep.specs.Counts.{count_pairs}
use Rattle.leg_sweep.specs.Steps.Sweep.{ordered, AreNewPairs}
use Rattle.leg_sweep.proofs.Counts.{count_pairs_push}
use Rattle.leg_sweep.proofs.SinkPairs.{takes_append}
use Rattle.leg_sweep.proofs.Turns.{ordered_below}

-- The sink took the pairs of numbers below n, each once. They are no more than the tests that were made.
pub record FoundBelow {Sink : Type 0} (Takes : Sink → ℕ × ℕ → Sink → Type 0) (IsOne : ℕ × ℕ → Type 0) (n tests : ℕ) (before after : Sink) : Type 0 where
  pub found : List (ℕ × ℕ)
  pub taken : TakesAll Takes before found after
  pub each : All IsOne found
  pub below : All (λ p. p.1 < n) found
  pub distinct : AllPairs (λ p q. p ≢ q) found
  pub all : (p : ℕ × ℕ) → IsOne p → p.1 < n → Contains found p
  pub enough : length found ≤ tests

-- the first n numbers are those below n
pub number_below : (n x : ℕ) → Contains (range_with_len 0 n) x → x < n
number_below n x has = omega (arith, (range_within 0 n x has).1)

pub below_number : (n x : ℕ) → x < n → Contains (range_with_len 0 n) x
below_number n x below = in_range 0 n x (omega arith) (omega (arith, below))

module _ {X : Type 0} (test : X → X → Bool) (xs : List X) (i : ℕ) (x : X) (within : i < length xs) (is : x ≡ get_or xs i x) where
  -- the pairs that one more element makes with those before it
  pub pairs_more : count_pairs test (take (i + 1) xs) ≡ count_pairs test (take i xs) + count_by (λ y. test y x) (take i xs)
  pairs_more =
      let grown : take (i + 1) xs ≡ take i xs ++ x ∷ [] = rw (← is) at (take_more xs i x within) in
      rw grown (count_pairs_push test (take i xs) x)

-- one more element leaves the pairs that there are
pub pairs_grow : {X : Type 0} (test : X → X → Bool) (xs : List X) (i : ℕ) → i < length xs → count_pairs test (take i xs) ≤ count_pairs test (take (i + 1) xs)
pairs_grow test xs i within =
    elim (slice_get_cases xs i).1 [
      | inl (x, inside, there, is) ↦ omega (arith, pairs_more test xs i x within (sym is))
      | inr past ↦ absurd (omega (arith, past.0, within))
    ]

-- two tests that both pass count no more often than the first one
pub cond_both : (a b : Bool) → cond (a && b) 1 0 ≤ cond a 1 0
cond_both true true = omega arith
cond_both true false = omega arith
cond_both false b = omega arith

-- a test counts once at most
pub cond_once : (a : Bool) → cond a 1 0 ≤ 1
cond_once true = omega arith
cond_once false = omega arith

-- The numbers below n make n (n - 1) / 2 pairs, and the next one makes n more.
pub looks_more : (looks more n : ℕ) → looks + looks + n ≤ n * n → more ≤ looks + n → more + more + (n + 1) ≤ (n + 1) * (n + 1)
looks_more looks more n so_far step =
    let square : n * n + (n + n + 1) ≡ (n + 1) * (n + 1) = grind arith in
    omega (arith, square, so_far, step)

module _ {Sink : Type 0} (Takes : Sink → ℕ × ℕ → Sink → Type 0) (IsOne : ℕ × ℕ → Type 0) (before : Sink) where
  -- before the first item
  pub found_below_none : FoundBelow Takes IsOne 0 0 before before
  found_below_none = record {
    found = [];
    taken = none;
    each = All-nil IsOne;
    below = All-nil (λ p. p.1 < 0);
    distinct = AllPairs-nil (λ p q. p ≢ q);
    all = λ p h below. absurd (omega (arith, below));
    enough = omega arith;
  }

  -- a pair that the item n makes with an earlier one
  second_of_new : (n : ℕ) (p : ℕ × ℕ) → (x : ℕ) × Contains (range_with_len 0 n) x × (p ≡ ordered x n) → p.1 ≡ n
  second_of_new n p (x, c, is) = ap (λ (q : ℕ × ℕ). q.1) (is ∙ ordered_below x n (number_below n x c))

  -- one more item
  pub found_below_more : (n tests added later : ℕ) (between after : Sink) → ((p : ℕ × ℕ) → IsOne p → p.0 < p.1) → tests + added ≤ later
      → FoundBelow Takes IsOne n tests before between → AreNewPairs Takes IsOne (range_with_len 0 n) n added between after
      → FoundBelow Takes IsOne (n + 1) later before after
  found_below_more n tests added later between after upward grown so_far turned = record {
    found = so_far.found ++ turned.more;
    taken = takes_append Takes before so_far.found between turned.more after so_far.taken turned.taken;
    each = All-append IsOne so_far.found turned.more so_far.each turned.each;
    below =
        All-append (λ p. p.1 < n + 1) so_far.found turned.more
        (All-weaker (λ p. p.1 < n) (λ p. p.1 < n + 1) (λ p low. omega (arith, low)) so_far.found so_far.below)
        (All-weaker (λ p. (x : ℕ) × Contains (range_with_len 0 n) x × (p ≡ ordered x n)) (λ p. p.1 < n + 1)
        (λ p named. omega (arith, second_of_new n p named)) turned.more turned.named);
    distinct =
        AllPairs-append_by (λ p q. p ≢ q) (λ p. p.1 < n) (λ p. (x : ℕ) × Contains (range_with_len 0 n) x × (p ≡ ordered x n))
        (λ p q low named same. omega (arith, low, second_of_new n q named, ap (λ (r : ℕ × ℕ). r.1) same))
        so_far.found turned.more so_far.below turned.named so_far.distinct turned.distinct;
    all = λ p h low. elim (cases_lt p.1 n) [
      | inl earlier ↦ Contains-append_left so_far.found turned.more p (so_far.all p h earlier)
      | inr here ↦
          let second : p.1 ≡ n = omega (arith, here, low) in
          let first : p.0 < n = omega (arith, second, upward p h) in
          let pair : p ≡ ordered p.0 n = ap (λ (m : ℕ). (p.0, m)) second ∙ sym (ordered_below p.0 n first) in
          let one : IsOne (ordered p.0 n) = subst IsOne pair h in
          Contains-append_right so_far.found turned.more p (subst (λ q. Contains turned.more q) (sym pair) (turned.all p.0 (below_number n p.0 first) one))
    ];
    enough = omega (arith, so_far.enough, turned.enough, grown, length-append so_far.found turned.more);
  }

-- after the last one
pub found_below_all : {Sink Item : Type 0} (Takes : Sink → ℕ × ℕ → Sink → Type 0) (Holds : Item → Item → Type 0) (items : List Item) (tests : ℕ)
    (before after : Sink)
    → FoundBelow Takes (IsPair Holds items) (length items) tests before after → TookPairs Takes Holds items tests before after
found_below_all Takes Holds items tests before after to = record {
  found = to.found;
  are = record {
    each = to.each;
    all = λ p h. to.all p h (slice_get_within items p.1 h.b h.b_at);
    distinct = to.distinct;
  };
  taken = to.taken;
  enough = to.enough;
}
