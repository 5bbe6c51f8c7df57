-- How looks and tests add up.
use Rattle.std.proofs.Common.{◌≡◌, ℕ, suc, ◌+◌, ◌-◌, ◌<◌, ◌≤◌, Bool, List, ◌++◌, length, take, cond, count_by, length-append, arith}
use Rattle.std.proofs.lemmas.List.{length-take-le}
use Rattle.std.proofs.lemmas.List.Sums.{sum_by-append, count_by-le-length}

-- looks and tests at two lists, one after the other
module _ (xs ys : List ℕ) where
  pub looks_at_first : (looks limit : ℕ) → looks + length (xs ++ ys) < limit → looks + length xs < limit
  looks_at_first looks limit less = omega (arith, length-append xs ys)

  pub looks_at_second : (looks after limit : ℕ) → looks + length (xs ++ ys) < limit → after ≡ looks + length xs → after + length ys < limit
  looks_at_second looks after limit less is = omega (arith, length-append xs ys)

  pub looks_at_both : (looks after last : ℕ) → after ≡ looks + length xs → last ≡ after + length ys → last ≡ looks + length (xs ++ ys)
  looks_at_both looks after last first second = omega (arith, length-append xs ys)

  pub tests_at_both : (counts : ℕ → Bool) (tests after last : ℕ) → after ≡ tests + count_by counts xs → last ≡ after + count_by counts ys
      → last ≡ tests + count_by counts (xs ++ ys)
  tests_at_both counts tests after last first second = omega (arith, sum_by-append (λ x. cond (counts x) 1 0) xs ys)

-- no more tests than looks
pub tests_in_looks : (counts : ℕ → Bool) (xs : List ℕ) (looks tests more_looks more_tests : ℕ) → tests ≤ looks → more_looks ≡ looks + length xs
    → more_tests ≡ tests + count_by counts xs → more_tests ≤ more_looks
tests_in_looks counts xs looks tests more_looks more_tests fewer looked tested = omega (arith, count_by-le-length counts xs)

-- one more look fits, and one more test, where all looks fit
pub look_fits : (xs : List ℕ) (i looks now limit : ℕ) → i < length xs → now ≡ looks + i → looks + length xs < limit → now < limit - 1
look_fits xs i looks now limit within is fits = omega arith

pub test_fits : (counts : ℕ → Bool) (xs : List ℕ) (i looks tests now limit : ℕ) → i < length xs → tests ≤ looks → now ≡ tests + count_by counts (take i xs)
    → looks + length xs < limit → now < limit - 1
test_fits counts xs i looks tests now limit within fewer is fits =
    let taken : length (take i xs) ≡ i = length-take-le i xs (omega arith) in
    omega (arith, count_by-le-length counts (take i xs))

-- the next band after k, on the way from the first one to the last
pub next_above : (k : ℕ) → k < k + 1
next_above k = omega arith

pub next_from_first : (first k : ℕ) → first ≤ k → first ≤ k + 1
next_from_first first k upward = omega arith

pub next_to_last : (k last : ℕ) → k < last → k + 1 ≤ last
next_to_last k last earlier = omega arith

pub next_number : (first k : ℕ) → first ≤ k → first + suc (k - first) ≡ k + 1
next_number first k upward = omega arith

pub next_there : (k last count bands : ℕ) → k < last → last < count → bands ≡ count → k + 1 < bands
next_there k last count bands earlier there same = omega arith

-- how many items wait, past one more band
pub left_at_both : (narrow : ℕ → Bool) (seen begun : List ℕ) (first k before between after : ℕ) → first ≤ k
    → between + length seen ≡ before + count_by narrow seen + (k + 1 - first) → after + length begun ≡ between + count_by narrow begun + 1
    → after + length (seen ++ begun) ≡ before + count_by narrow (seen ++ begun) + (k + 1 + 1 - first)
left_at_both narrow seen begun first k before between after upward so_far here =
    omega (arith, length-append seen begun, sum_by-append (λ x. cond (narrow x) 1 0) seen begun)

-- one more waiting item
pub look_more : (looks now next i : ℕ) → now ≡ looks + i → next ≡ now + 1 → next ≡ looks + (i + 1)
look_more looks now next i so_far is = omega arith

pub test_more : (tests now next counted one same more : ℕ) → now ≡ tests + counted → next ≡ now + same → one ≡ same → more ≡ counted + one → next ≡ tests + more
test_more tests now next counted one same more so_far is equal grown = omega arith

pub test_counts : (now next counted one same more : ℕ) → next ≡ now + same → next ≡ now + 1 → one ≡ same → more ≡ counted + one → more ≡ counted + 1
test_counts now next counted one same more is tested equal grown = omega arith

pub not_fewer : (counted one more : ℕ) → more ≡ counted + one → counted ≤ more
not_fewer counted one more grown = omega arith

-- Each look keeps an item waiting, which is a near pair, or retires it.
pub looks_in_bounds : (start looks more_looks waiting more_waiting seen near bands entries more_entries pairs more_pairs new_pairs : ℕ)
    → more_looks ≡ looks + seen → more_waiting + seen ≡ waiting + near + bands → looks + waiting ≤ start + entries + pairs → near ≤ new_pairs
    → more_pairs ≡ pairs + new_pairs → more_entries ≡ entries + bands → more_looks + more_waiting ≤ start + more_entries + more_pairs
looks_in_bounds start looks more_looks waiting more_waiting seen near bands entries more_entries pairs more_pairs new_pairs looked left so_far few grown
    stands = omega arith

pub tests_in_bounds : (tests more_tests tested pairs more_pairs new_pairs : ℕ) → more_tests ≡ tests + tested → tests ≤ pairs → tested ≤ new_pairs
    → more_pairs ≡ pairs + new_pairs → more_tests ≤ more_pairs
tests_in_bounds tests more_tests tested pairs more_pairs new_pairs is so_far few grown = omega arith
