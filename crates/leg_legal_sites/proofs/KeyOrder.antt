-- The keys of rows, and those once they are sorted.
use Rattle.std.proofs.Common.{◌≡◌, ℕ, ◌+◌, ◌<◌, Bool, false, List, [], ◌∷◌, ◌++◌, Some, slice_get, length, get_or, eqb, Ordering, IsPermutation, IsSorted, inl, inr, refl, sym, ap, ◌∙◌, arith, length-append}
use Rattle.std.specs.Ordering.{is_lt, nat_cmp, int_cmp, ordering_then}
use Rattle.std.specs.Cmp.{IsTotalOrder}
use Rattle.std.specs.List.{IsDistinct}
use Rattle.std.proofs.lemmas.Bool.{cases_lt, eqb-false, ne_eqb}
use Rattle.std.proofs.lemmas.Bool.Decides.{nat_tests}
use Rattle.std.proofs.lemmas.Cmp.{nat_eq_equiv, nat_cmp_total, int_cmp_total, on_total, then_total}
use Rattle.std.proofs.lemmas.Int.{ints}
use Rattle.std.proofs.lemmas.List.Elements.{All-push, All-contains, Contains-append_left, Contains-push}
use Rattle.std.proofs.lemmas.List.Quantifiers.{all_pairs_push}
use Rattle.std.proofs.lemmas.List.Sorted.{ranks_by, sorted_far, All-permutation, Contains-permutation}
use Rattle.std.proofs.lemmas.Map.Keys.{IsDistinct-from_apart, apart_from_distinct, IsDistinct-IsPermutation}
use Rattle.std.proofs.lemmas.Option.{same_Some, slice_get_within}
use Rattle.leg_design_records.specs.declared.records.Row.{Row}
use Rattle.leg_legal_sites.specs.declared.row_keys.RowKey.{RowKey}
use Rattle.leg_legal_sites.specs.Steps.RowOrder.{IsKeyOf, IsBefore, IsRowOrder}
use Rattle.leg_legal_sites.specs.Steps.RowKeys.{key_of, AreKeysBelow}

abbrev pub key_cmp : RowKey → RowKey → Ordering
key_cmp a b = ordering_then (nat_cmp a.site b.site) (ordering_then (int_cmp a.y b.y) (ordering_then (int_cmp a.x b.x) (nat_cmp a.row b.row)))

key_cmp_total : IsTotalOrder key_cmp
key_cmp_total =
    then_total (on_total (λ (k : RowKey). k.site) nat_cmp_total)
    (then_total (on_total (λ (k : RowKey). k.y) int_cmp_total)
    (then_total (on_total (λ (k : RowKey). k.x) int_cmp_total) (on_total (λ (k : RowKey). k.row) nat_cmp_total)))

-- keys of rows of different numbers that are not in falling order are in rising order
before_from_test : (a b : RowKey) → is_lt (key_cmp b a) ≡ false → (a.row ≡ b.row → ⊥) → IsBefore a b
before_from_test a b not_above differ = grind (arith, ints, nat_tests)

-- a key and the same number of a row make one key
same_key : (rows : List Row) (key : RowKey) (row : Row) → IsKeyOf rows key → slice_get rows key.row ≡ Some row → key ≡ key_of row key.row
same_key rows key row is there =
    let one : is.row ≡ row = same_Some is.row row (sym is.there ∙ there) in
    let site : key.site ≡ row.site = is.site ∙ ap (λ (r : Row). r.site) one in
    let bottom : key.y ≡ row.at.y = is.bottom ∙ ap (λ (r : Row). r.at.y) one in
    let left : key.x ≡ row.at.x = is.left ∙ ap (λ (r : Row). r.at.x) one in
    λ i. record { site = site i; y = bottom i; x = left i; row = key.row }

-- the key of one more row
pub keys_more : (rows : List Row) (keys : List RowKey) (i : ℕ) (row : Row) → slice_get rows i ≡ Some row → AreKeysBelow rows i keys
    → AreKeysBelow rows (i + 1) (keys ++ key_of row i ∷ [])
keys_more rows keys i row at done =
    let key : RowKey = key_of row i in
    record {
      count = length-append keys (key ∷ []) ∙ ap (λ (n : ℕ). n + 1) done.count;
      each = All-push (IsKeyOf rows) keys key done.each (record { row = row; there = at; site = refl; bottom = refl; left = refl });
      below = All-push (λ k. k.row < i + 1) keys key (λ k d within. let below : (get_or keys k d).row < i = done.below k d within in omega arith) (omega arith);
      all = λ number other below there. elim (cases_lt number i) [
        | inl earlier ↦ Contains-append_left keys (key ∷ []) (key_of other number) (done.all number other earlier there)
        | inr late ↦
            let here : number ≡ i = omega arith in
            let same : other ≡ row = same_Some other row (sym there ∙ ap (slice_get rows) here ∙ at) in
            rw (here, same) (Contains-push keys key)
      ];
      rising = all_pairs_push (λ a b. a.row < b.row) keys key done.rising (λ k d within. done.below k d within);
    }

-- the keys once they are sorted
pub order_from_sort : (rows : List Row) (keys sorted : List RowKey) → AreKeysBelow rows (length rows) keys → IsPermutation keys sorted
    → IsSorted key_cmp sorted → IsRowOrder rows sorted
order_from_sort rows keys sorted are moved up =
    let alike : RowKey → RowKey → Bool = λ a b. eqb a.row b.row in
    let start : IsDistinct alike keys =
    IsDistinct-from_apart alike keys (λ i j d order within.
    let rise = are.rising i j d order within in
    ne_eqb (get_or keys i d).row (get_or keys j d).row (λ same. omega arith)) in
    let apart = IsDistinct-IsPermutation alike (λ a b. nat_eq_equiv.symm a.row b.row) keys sorted moved start in
    record {
      rising = λ i j d order within.
          before_from_test (get_or sorted i d) (get_or sorted j d)
          (sorted_far (λ x y. is_lt (key_cmp x y)) (ranks_by key_cmp_total (λ x. x)) sorted up i j d (omega arith) within)
          (eqb-false (get_or sorted i d).row (get_or sorted j d).row (apart_from_distinct alike sorted i j d apart order within));
      keys = λ key. (
        λ has. All-contains (IsKeyOf rows) sorted key (All-permutation (IsKeyOf rows) keys sorted moved are.each) has,
        λ is.
            let found = are.all key.row is.row (slice_get_within rows key.row is.row is.there) is.there in
            let moved_found = Contains-permutation keys sorted (key_of is.row key.row) moved found in
            rw (same_key rows key is.row is is.there) moved_found,
      );
    }
