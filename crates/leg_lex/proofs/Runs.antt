-- Runs up to the first byte that stops them.
use Rattle.std.proofs.Common.{◌≡◌, ℕ, zero, suc, ◌<◌, ◌≤◌, Bool, true, false, List, [], ◌∷◌, ◌++◌, Option, None, Some, length, take, drop, get_or, count_by, refl, arith}
use Rattle.std.specs.Option.{unwrap_or}
use Rattle.std.proofs.lemmas.Bool.{both_ways, false_from_ne_true}
use Rattle.memchr.specs.Find.{IsFirstByte}
use Rattle.leg_lex.specs.Cut.{RunsTo}

runs_by_place : (stop : ℕ → Bool) (xs : List ℕ) (n : ℕ) → n ≤ length xs → ((k : ℕ) → k < n → stop (get_or xs k 0) ≡ false)
    → (n < length xs → stop (get_or xs n 0) ≡ true) → RunsTo stop (take n xs) (drop n xs)
runs_by_place stop [] zero within before at = tt
runs_by_place stop [] (suc n) within before at = tt
runs_by_place stop (x ∷ xs) zero within before at = at (omega arith)
runs_by_place stop (x ∷ xs) (suc n) within before at =
    (before 0 (omega arith), runs_by_place stop xs n (omega arith) (λ k h. before (suc k) (omega arith)) (λ h. at (omega arith)))

-- up to the first byte that passes a test
pub runs_to_first : (stop : ℕ → Bool) (xs : List ℕ) (r : Option ℕ) → IsFirstByte stop xs r
    → RunsTo stop (take (unwrap_or r (length xs)) xs) (drop (unwrap_or r (length xs)) xs)
runs_to_first stop xs None first =
    runs_by_place stop xs (length xs) (omega arith) (λ k h. false_from_ne_true _ (first k (omega arith) h)) (λ h. absurd (omega arith))
runs_to_first stop xs (Some n) first =
    runs_by_place stop xs n (omega (arith, first.0.high)) (λ k h. false_from_ne_true _ (first.0.before k (omega arith) h)) (λ h. first.1)

-- a run is told by what it and the bytes after it are together
pub runs_same : (stop : ℕ → Bool) (p q a b : List ℕ) → RunsTo stop p a → RunsTo stop q b → p ++ a ≡ q ++ b → p ≡ q
runs_same stop [] [] a b one other same = refl
runs_same stop [] (y ∷ q) [] b one other same = cc
runs_same stop [] (y ∷ q) (x ∷ a) b one other same = let e : x ≡ y = cc in absurd (both_ways (stop y) other.0 (rw (← e) one))
runs_same stop (x ∷ p) [] a [] one other same = cc
runs_same stop (x ∷ p) [] a (y ∷ b) one other same = let e : x ≡ y = cc in absurd (both_ways (stop x) one.0 (rw e other))
runs_same stop (x ∷ p) (y ∷ q) a b one other same =
    let e : x ≡ y = cc in let tails = runs_same stop p q a b one.1 other.1 cc in cc

-- bytes that don't stop a run aren't counted by a test that only such bytes pass
pub runs_count : (stop test : ℕ → Bool) (run after : List ℕ) → ((b : ℕ) → stop b ≡ false → test b ≡ false) → RunsTo stop run after → count_by test run ≡ 0
runs_count stop test [] after fails runs = refl
runs_count stop test (b ∷ run) after fails runs =
    rw (fails b runs.0) (runs_count stop test run after fails runs.1)
