-- Words of terminals: each list is sorted, and the words of the other are looked up in it.
use Rattle.std.proofs.Common.{◌≡◌, ◌↔◌, Bool, IsTrue, ℕ, ◌+◌, ◌<◌, ◌≤◌, ◌⊎◌, inl, inr, List, length, get_or, map, Result, Ok, Err, IsPermutation, IsSorted, refl, sym, ap, ◌∙◌, subst, arith}
use Rattle.std.specs.Borrow.{Bor}
use Rattle.std.specs.List.{All, AllWithin, Contains}
use Rattle.std.specs.List.Sorted.{IsBinarySearchResult, IsSearchInRange}
use Rattle.std.specs.Ordering.{nat_cmp, ordering_then}
use Rattle.std.specs.declared.cmp.Ordering.{Ordering}
use Rattle.std.specs.declared.cmp.Ordering.TheVariants.{Less, Equal, Greater}
use Rattle.std.specs.Result.{is_ok}
use Rattle.std.specs.Cmp.{IsTotalOrder}
use Rattle.std.specs.Cmp.Lexicographic.{slice_cmp}
use Rattle.std.proofs.lemmas.Bool.{cases_lt}
use Rattle.std.proofs.lemmas.Cmp.{nat_list_cmp_total, on_total, then_total, tied_itself}
use Rattle.std.proofs.lemmas.List.{length-map, get_or-map, get_or_default}
use Rattle.std.proofs.lemmas.List.Elements.{All-contains, All-map, Contains-get_or}
use Rattle.std.proofs.lemmas.List.Sorted.{searchable_from_sorted, Contains-permutation, IsPermutation-sym}
use Rattle.std.proofs.lemmas.Map.Lookups.{exact_bytes}
use Rattle.leg_rules.specs.Compare.Spelling.{AreSameTerminals}
use Rattle.leg_compare.specs.Steps.Words.{words_cmp, words_now, AreAmong}

-- the two words of a terminal
abbrev pub Words : Type 0
Words = Bor (List ℕ) × Bor (List ℕ)

words_total : IsTotalOrder words_cmp
words_total = then_total (on_total (λ (w : Words). w.0.now) nat_list_cmp_total) (on_total (λ (w : Words). w.1.now) nat_list_cmp_total)

-- words of one rank are the same, and the same words are of one rank
same_words : (a b : Words) → words_cmp a b ≡ Equal → words_now a ≡ words_now b
same_words a b tied = by (slice_cmp nat_cmp a.0.now b.0.now) refl tied where
  by : (first : Ordering) → slice_cmp nat_cmp a.0.now b.0.now ≡ first → ordering_then first (slice_cmp nat_cmp a.1.now b.1.now) ≡ Equal
      → words_now a ≡ words_now b
  by Less is tied = absurd (let no : ⊥ = cc in no)
  by Equal is tied = let first = exact_bytes a.0.now b.0.now is in let second = exact_bytes a.1.now b.1.now tied in λ i. (first i, second i)
  by Greater is tied = absurd (let no : ⊥ = cc in no)

one_rank : (a b : Words) → words_now a ≡ words_now b → words_cmp a b ≡ Equal
one_rank a b same =
    let first : slice_cmp nat_cmp a.0.now b.0.now ≡ Equal = ap (λ (w : List ℕ × List ℕ). slice_cmp nat_cmp a.0.now w.0) (sym same)
    ∙ tied_itself nat_list_cmp_total a.0.now in
    let second : slice_cmp nat_cmp a.1.now b.1.now ≡ Equal = ap (λ (w : List ℕ × List ℕ). slice_cmp nat_cmp a.1.now w.1) (sym same)
    ∙ tied_itself nat_list_cmp_total a.1.now in
    rw first second

-- words that a binary search finds are there
found_there : (others : List Words) (x : Words) (i : ℕ) → i < length others → words_cmp (get_or others i x) x ≡ Equal
    → Contains (map words_now others) (words_now x)
found_there others x i within tied =
    (i, omega (arith, within, length-map others words_now), get_or-map words_now others i x (words_now x) within ∙ same_words (get_or others i x) x tied)

-- and words that it does not find are not there
not_there : (others : List Words) (x : Words) (i : ℕ) → AllWithin (λ y. words_cmp y x ≡ Less) others 0 i
    → AllWithin (λ y. words_cmp y x ≡ Greater) others i (length others)
    → ¬ Contains (map words_now others) (words_now x)
not_there others x i below above h = by (cases_lt h.0 i) where
  there : h.0 < length others
  there = omega (arith, h.1, length-map others words_now)

  tied : words_cmp (get_or others h.0 x) x ≡ Equal
  tied = one_rank (get_or others h.0 x) x (sym (get_or-map words_now others h.0 x (words_now x) there) ∙ h.2)

  by : (h.0 < i) ⊎ (i ≤ h.0) → ⊥
  by (inl less) = let other : words_cmp (get_or others h.0 x) x ≡ Less = below h.0 x (omega arith) less in let no : ⊥ = cc (other, tied) in no
  by (inr more) = let other : words_cmp (get_or others h.0 x) x ≡ Greater = above h.0 x more there in let no : ⊥ = cc (other, tied) in no

-- a binary search tells whether the words are there
pub search_tells : (others : List Words) (x : Words) (r : Result ℕ ℕ) → IsSorted words_cmp others → IsSearchInRange r (length others)
    → IsBinarySearchResult (λ y. words_cmp y x) others r
    → (b : Bool) → b ≡ is_ok r → IsTrue b ↔ Contains (map words_now others) (words_now x)
search_tells others x (Ok i) up within found b is = (λ e. found_there others x i within (found x), λ h. is)
search_tells others x (Err i) up within found b is =
    let halves = found (searchable_from_sorted words_total (λ w. w) others x up) in
    (λ e. absurd (let no : ⊥ = cc (e, is) in no), λ h. absurd (not_there others x i halves.0 halves.1 h))

-- each of the words so far is there, and one more
pub one_more_there : (others list : List Words) (number : ℕ) (e : Words) → number < length list
    → ((k : ℕ) (d : Words) → k < number → Contains (map words_now others) (words_now (get_or list k d)))
    → Contains (map words_now others) (words_now (get_or list number e))
    → (k : ℕ) (d : Words) → k < number + 1 → Contains (map words_now others) (words_now (get_or list k d))
one_more_there others list number e less so_far one k d within = by (cases_lt k number) where
  by : (k < number) ⊎ (number ≤ k) → Contains (map words_now others) (words_now (get_or list k d))
  by (inl before) = so_far k d before
  by (inr not) =
      let last : number ≡ k = omega (arith, not, within) in
      subst (λ n. Contains (map words_now others) (words_now (get_or list n d))) last
      (subst (λ w. Contains (map words_now others) (words_now w)) (get_or_default list number e d less) one)

-- all of the words are there where each is
pub all_there : (others list : List Words) → ((k : ℕ) (d : Words) → k < length list → Contains (map words_now others) (words_now (get_or list k d)))
    → All (Contains (map words_now others)) (map words_now list)
all_there others list each = All-map (Contains (map words_now others)) words_now list each

pub one_there : (others list : List Words) (k : ℕ) (e : Words) → k < length list → All (Contains (map words_now others)) (map words_now list)
    → Contains (map words_now others) (words_now (get_or list k e))
one_there others list k e within all =
    subst (Contains (map words_now others)) (get_or-map words_now list k e (words_now e) within)
    (all k (words_now e) (omega (arith, within, length-map list words_now)))

-- Two lists are the same sets where each element of either, sorted, is in the other.
module _ (before after sorted_before sorted_after : List (List ℕ × List ℕ)) (moved_before : IsPermutation before sorted_before)
    (moved_after : IsPermutation after sorted_after) where
  pub same_both_ways : All (Contains sorted_after) sorted_before → All (Contains sorted_before) sorted_after → AreSameTerminals before after
  same_both_ways there here t = (
    λ h. Contains-permutation sorted_after after t (IsPermutation-sym after sorted_after moved_after)
        (All-contains (Contains sorted_after) sorted_before t there (Contains-permutation before sorted_before t moved_before h)),
    λ h. Contains-permutation sorted_before before t (IsPermutation-sym before sorted_before moved_before)
        (All-contains (Contains sorted_before) sorted_after t here (Contains-permutation after sorted_after t moved_after h)),
  )

  pub same_forth : AreSameTerminals before after → All (Contains sorted_after) sorted_before
  same_forth same k d within =
      let t = get_or sorted_before k d in
      Contains-permutation after sorted_after t moved_after
      ((same t).0 (Contains-permutation sorted_before before t (IsPermutation-sym before sorted_before moved_before)
      (Contains-get_or sorted_before k d within)))

  pub same_back : AreSameTerminals before after → All (Contains sorted_before) sorted_after
  same_back same k d within =
      let t = get_or sorted_after k d in
      Contains-permutation before sorted_before t moved_before
      ((same t).1 (Contains-permutation sorted_after after t (IsPermutation-sym after sorted_after moved_after) (Contains-get_or sorted_after k d within)))

  -- so they are the same sets just where both hold
  pub both_tell : (both : Bool) → (IsTrue both ↔ (AreAmong sorted_before sorted_after × AreAmong sorted_after sorted_before))
      → IsTrue both ↔ AreSameTerminals before after
  both_tell both tells = (
    λ e. let h = tells.0 e in same_both_ways h.0.each h.1.each,
    λ same. tells.1 (record { each = same_forth same }, record { each = same_back same }),
  )
