-- What is noted of shapes, one after another: what slots tell of them, and the numbers that they get.
use Rattle.std.proofs.Common.{◌≡◌, ◌+◌, ◌-◌, ◌≤◌, ℕ, zero, suc, List, [], ◌∷◌, ◌++◌, sym, ap, ◌∙◌, arith}
use Rattle.std.specs.List.{range_with_len}
use Rattle.std.proofs.lemmas.List.{append_assoc, append-nil}

-- one number more of a row of numbers
range_last : (a n b : ℕ) → b ≡ a + n → range_with_len a (suc n) ≡ range_with_len a n ++ b ∷ []
range_last a zero b is = let same : a ≡ b = omega (arith, is) in ap (λ k. k ∷ []) same
range_last a (suc n) b is = ap (λ ks. a ∷ ks) (range_last (a + 1) n b (omega (arith, is)))

range_next : (a n b : ℕ) → b ≡ a + n → range_with_len a (n + 1) ≡ range_with_len a n ++ b ∷ []
range_next a n b is = let same : n + 1 ≡ suc n = omega arith in rw same (range_last a n b is)

-- none is noted yet
pub none_yet : (first : ℕ) (had : List ℕ) → had ≡ had ++ range_with_len first (first - first)
none_yet first had = let none : first - first ≡ 0 = omega arith in sym (ap (λ n. had ++ range_with_len first n) none ∙ append-nil had)

-- one number more is noted
pub numbers_next : (first number next : ℕ) (had numbers then : List ℕ) → first ≤ number → next ≡ number + 1
    → numbers ≡ had ++ range_with_len first (number - first) → then ≡ numbers ++ number ∷ [] → then ≡ had ++ range_with_len first (next - first)
numbers_next first number next had numbers then begun is are grown =
    let last : number ≡ first + (number - first) = omega (arith, begun) in
    let more : next - first ≡ (number - first) + 1 = omega (arith, begun, is) in
    grown ∙ ap (λ ks. ks ++ number ∷ []) are ∙ append_assoc had (range_with_len first (number - first)) (number ∷ [])
    ∙ ap (λ ks. had ++ ks) (sym (range_next first (number - first) number last) ∙ ap (λ n. range_with_len first n) (sym more))
