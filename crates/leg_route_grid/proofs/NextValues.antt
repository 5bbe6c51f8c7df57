-- Values in increasing order: which one is next.
use Rattle.std.proofs.Common.{◌≡◌, ℕ, ◌+◌, ◌<◌, ℤ, ◌<ℤ◌, ◌⊎◌, inl, inr, Some, List, All, AllPairs, Contains, length, get_or, slice_get, sym, ◌∙◌, ap, arith}
use Rattle.std.proofs.lemmas.Int.{ints}
use Rattle.std.proofs.lemmas.Option.{slice_get-get_or, slice_get_within, get_or_from_slice_get, same_Some}
use Rattle.std.proofs.lemmas.List.Elements.{All-contains}
use Rattle.std.proofs.lemmas.Bool.{cases_order}
use Rattle.leg_lemmas.proofs.RisingLists.{same_rising}

abbrev Rising : List ℤ → Type 0
Rising values = AllPairs (λ a b. a <ℤ b) values

-- two lists of the same values
pub one_list : (IsValue : ℤ → Type 0) (xs ys : List ℤ) → Rising xs → Rising ys → All IsValue xs → All IsValue ys
    → ((z : ℤ) → IsValue z → Contains xs z) → ((z : ℤ) → IsValue z → Contains ys z) → xs ≡ ys
one_list IsValue xs ys rise_x rise_y each_x each_y all_x all_y =
    same_rising (λ a b. a <ℤ b) (λ a less. omega (arith, ints)) (λ a b c first second. omega (arith, ints)) xs ys rise_x rise_y
    (λ z there. all_y z (All-contains IsValue xs z each_x there)) (λ z there. all_x z (All-contains IsValue ys z each_y there))

module _ (values : List ℤ) (rising : Rising values) where
  pub later_is_more : (i j : ℕ) (a b : ℤ) → slice_get values i ≡ Some a → slice_get values j ≡ Some b → i < j → a <ℤ b
  later_is_more i j a b at_i at_j before =
      let more = rising i j b before (slice_get_within values j b at_j) in
      let is_a : get_or values i b ≡ a = get_or_from_slice_get values i a b at_i in
      let is_b : get_or values j b ≡ b = get_or_from_slice_get values j b b at_j in
      rw is_a at (rw is_b at more)

  pub more_is_later : (i j : ℕ) (a b : ℤ) → slice_get values i ≡ Some a → slice_get values j ≡ Some b → a <ℤ b → i < j
  more_is_later i j a b at_i at_j less = elim (cases_order i j) [
    | inl same ↦ absurd (let e : a ≡ b = same_Some a b (sym at_i ∙ ap (slice_get values) same ∙ at_j) in omega (arith, ints))
    | inr (inl before) ↦ before
    | inr (inr behind) ↦ absurd (let more = later_is_more j i b a at_j at_i behind in omega (arith, ints))
  ]

  pub read_value : (z : ℤ) → (there : Contains values z) → slice_get values there.0 ≡ Some z
  read_value z there = slice_get-get_or values there.0 z there.1 ∙ ap Some there.2

  -- none lies between a value and the one behind it
  pub none_between : (i : ℕ) (a b c : ℤ) → slice_get values i ≡ Some a → slice_get values (i + 1) ≡ Some b → Contains values c → a <ℤ c → ¬ (c <ℤ b)
  none_between i a b c at_a at_b there above below =
      let after = more_is_later i there.0 a c at_a (read_value c there) above in
      let before = more_is_later there.0 (i + 1) c b (read_value c there) at_b below in
      omega arith

  -- a value is the one behind another where none lies between
  pub next_is_behind : (i j : ℕ) (a b : ℤ) → slice_get values i ≡ Some a → slice_get values j ≡ Some b → a <ℤ b
      → ((c : ℤ) → Contains values c → a <ℤ c → ¬ (c <ℤ b)) → j ≡ i + 1
  next_is_behind i j a b at_a at_b less none = by (cases_order j (i + 1)) where
    after : i < j
    after = more_is_later i j a b at_a at_b less

    by : (j ≡ i + 1) ⊎ ((j < i + 1) ⊎ (i + 1 < j)) → j ≡ i + 1
    by (inl is) = is
    by (inr (inl before)) = absurd (omega (arith, after, before))
    by (inr (inr beyond)) =
        let c = get_or values (i + 1) b in
        let within : i + 1 < length values = omega (arith, slice_get_within values j b at_b) in
        let at_c : slice_get values (i + 1) ≡ Some c = slice_get-get_or values (i + 1) b within in
        let there : Contains values c = (i + 1, within, get_or_from_slice_get values (i + 1) c c at_c) in
        absurd (none c there (later_is_more i (i + 1) a c at_a at_c (omega arith)) (later_is_more (i + 1) j c b at_c at_b beyond))
