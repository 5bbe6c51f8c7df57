-- The members of sets in lists, where two sets are made one and where a number comes.
use Rattle.std.proofs.Common.{◌≡◌, ◌≢◌, ◌↔◌, ℕ, ◌+◌, ◌<◌, List, [], ◌∷◌, ◌++◌, length, get_or, set, take, drop, All, AllPairs, Contains, Some, slice_get, ◌⊎◌, inl, inr, refl, sym, ap, ◌∙◌, append_assoc, arith}
use Rattle.std.proofs.lemmas.Bool.{cases_eq, cases_lt}
use Rattle.std.proofs.lemmas.List.{append-nil, drop_all, take_all, length-set, length_push, get_or-set_same, get_or-set_other, get_or_append_left, get_or_default, get_or_at, get_or_past}
use Rattle.std.proofs.lemmas.List.Elements.{All-contains, Contains-push, Contains-push_cases, Contains-append_left, Contains-append_right, Contains-append_cases}
use Rattle.std.proofs.lemmas.Option.{same_Some, slice_get_within, slice_get-get_or, slice_get_read, get_or_from_slice_get}
use Rattle.leg_sweep.proofs.Lists.{All-from_contains, AllPairs-nil, Contains-nil}
use Rattle.leg_lemmas.proofs.RisingLists.{AllPairs-append}
use Rattle.leg_wire.specs.Steps.Kinds.{AreMembers}
use Rattle.leg_wire.specs.Steps.NumberSets.{IsMerged, AreTogether, AreGroups, HasGrown, IsOneList, AreListsMerged}
use Rattle.leg_wire.specs.Steps.NumberSets.IsOneList.{behind, before}

pub HasGrown-same : (list : List ℕ) → HasGrown list list
HasGrown-same list = record { more = []; is = sym (append-nil list) }

pub HasGrown-onward : (first mid last : List ℕ) → HasGrown first mid → HasGrown mid last → HasGrown first last
HasGrown-onward first mid last one two = record {
  more = one.more ++ two.more;
  is = two.is ∙ ap (λ xs. xs ++ two.more) one.is ∙ append_assoc first one.more two.more;
}

-- what is in one list is in one of the two, and no number is there twice if the two share none
module _ (first second both : List ℕ) (begins : Type 0) (is_one : IsOneList first second begins both) where
  in_both : (k : ℕ) → Contains both k ↔ (Contains first k ⊎ Contains second k)
  in_both k = by is_one where
    by : IsOneList first second begins both → Contains both k ↔ (Contains first k ⊎ Contains second k)
    by (behind is) = rw is (
      λ has. Contains-append_cases first second k has,
      λ has. elim has [ inl own ↦ Contains-append_left first second k own | inr other ↦ Contains-append_right first second k other ],
    )
    by (before may is) = rw is (
      λ has. elim (Contains-append_cases second first k has) [ inl other ↦ inr other | inr own ↦ inl own ],
      λ has. elim has [ inl own ↦ Contains-append_right second first k own | inr other ↦ Contains-append_left second first k other ],
    )

  once_in_both : AllPairs (λ j k. j ≢ k) first → AllPairs (λ j k. j ≢ k) second → ((k : ℕ) → Contains first k → Contains second k → ⊥)
      → AllPairs (λ j k. j ≢ k) both
  once_in_both own other apart = by is_one where
    by : IsOneList first second begins both → AllPairs (λ j k. j ≢ k) both
    by (behind is) =
        rw is
        (AllPairs-append (λ j k. j ≢ k) first second own other
        (All-from_contains (λ j. All (λ k. j ≢ k) second) first
        (λ j j_in. All-from_contains (λ k. j ≢ k) second (λ k k_in same. apart k (rw same at j_in) k_in))))
    by (before may is) =
        rw is
        (AllPairs-append (λ j k. j ≢ k) second first other own
        (All-from_contains (λ j. All (λ k. j ≢ k) first) second
        (λ j j_in. All-from_contains (λ k. j ≢ k) first (λ k k_in same. apart k k_in (rw same at j_in)))))

-- the least numbers of two that aren't together are two
pub roots_apart : (sets : List ℕ) (a b one other : ℕ) → ¬ AreTogether sets a b → slice_get sets a ≡ Some one → slice_get sets b ≡ Some other → one ≢ other
roots_apart sets a b one other apart of_a of_b same = apart (record { least = one; of_a = of_a; of_b = of_b ∙ ap Some (sym same) })

once_alone : (n : ℕ) → AllPairs (λ j k. j ≢ k) (n ∷ [])
once_alone n i j d below within = absurd (omega (arith, below, within))

-- two sets are made one
module _ (sets after : List ℕ) (lists merged : List (List ℕ)) (low high : ℕ) (order : low < high) (within : high < length sets)
    (are_merged : IsMerged low high sets after) (groups : AreGroups sets lists) (lists_merged : AreListsMerged low high lists merged) where
  abbrev are : AreMembers sets (length sets) lists
  are = groups.members

  low_within : low < length sets
  low_within = omega (arith, order, within)

  abbrev both : List ℕ
  both = get_or merged low []

  -- what the least number of a number's set was
  was : (k kind : ℕ) → slice_get after k ≡ Some kind → (slice_get sets k ≡ Some high × (kind ≡ low)) ⊎ (slice_get sets k ≡ Some kind × (kind ≢ high))
  was k kind at =
      let k_in = slice_get_within after k kind at in
      let old = get_or sets k 0 in
      let there : slice_get sets k ≡ Some old = slice_get-get_or sets k 0 (omega (arith, k_in, are_merged.count)) in
      elim (cases_eq old high) [
        | inl is ↦
            let old_at : slice_get sets k ≡ Some high = there ∙ ap Some is in
            inl (old_at, same_Some kind low (sym at ∙ are_merged.moved k old_at))
        | inr other ↦
            let same : kind ≡ old = same_Some kind old (sym at ∙ are_merged.stay k old other there) in
            inr (there ∙ ap Some (sym same), λ is. other (sym same ∙ is))
      ]

  own_apart : (k : ℕ) → Contains (get_or lists low []) k → Contains (get_or lists high []) k → ⊥
  own_apart k own other =
      let same : low ≡ high = same_Some low high (sym ((are.each low k low_within).0 own) ∙ (are.each high k within).0 other) in
      omega (arith, same, order)

  members_at : (kind k : ℕ) → kind < length sets → Contains (get_or merged kind []) k ↔ slice_get after k ≡ Some kind
  members_at kind k below = elim (cases_eq kind low) [
    | inl is_low ↦ rw is_low (
      λ has. elim ((in_both (get_or lists low []) (get_or lists high []) both (low ≡ 0) lists_merged.is_one k).0 has) [
        | inl own ↦ are_merged.stay k low (λ same. omega (arith, same, order)) ((are.each low k low_within).0 own)
        | inr other ↦ are_merged.moved k ((are.each high k within).0 other)
      ],
      λ at. (in_both (get_or lists low []) (get_or lists high []) both (low ≡ 0) lists_merged.is_one k).1 (elim (was k low at) [
        | inl moved ↦ inr ((are.each high k within).1 moved.0)
        | inr stays ↦ inl ((are.each low k low_within).1 stays.0)
      ]),
    )
    | inr not_low ↦ elim (cases_eq kind high) [
      | inl is_high ↦ rw (is_high, lists_merged.none) (
        λ has. absurd (Contains-nil k has),
        λ at. elim (was k high at) [ inl moved ↦ absurd (omega (arith, moved.1, order)) | inr stays ↦ absurd (stays.1 refl) ],
      )
      | inr not_high ↦ rw (lists_merged.others kind not_low not_high) (
        λ has. are_merged.stay k kind not_high ((are.each kind k below).0 has),
        λ at. elim (was k kind at) [ inl moved ↦ absurd (not_low moved.1) | inr stays ↦ (are.each kind k below).1 stays.0 ],
      )
    ]
  ]

  once_at : (kind : ℕ) → AllPairs (λ j k. j ≢ k) (get_or merged kind [])
  once_at kind = elim (cases_eq kind low) [
    | inl is_low ↦
        rw is_low
        (once_in_both (get_or lists low []) (get_or lists high []) both (low ≡ 0) lists_merged.is_one (are.once low) (are.once high) own_apart)
    | inr not_low ↦ elim (cases_eq kind high) [
      | inl is_high ↦ rw (is_high, lists_merged.none) (AllPairs-nil (λ j k. j ≢ k))
      | inr not_high ↦ rw (lists_merged.others kind not_low not_high) (are.once kind)
    ]
  ]

  pub groups_merged : AreGroups after merged
  groups_merged = record {
    members = record {
      many = lists_merged.count ∙ are.many ∙ sym are_merged.count;
      each = λ kind k below. members_at kind k (omega (arith, below, are_merged.count));
      once = once_at;
    };
    begins = λ some. are_merged.stay 0 0 (λ same. omega (arith, same, order)) (groups.begins (omega (arith, some, are_merged.count)));
  }

  -- the list of the number 0 has only grown
  pub first_grown : HasGrown (get_or lists 0 []) (get_or merged 0 [])
  first_grown = elim (cases_eq low 0) [
    | inl zero_low ↦ rw (← zero_low) (by lists_merged.is_one zero_low)
    | inr not_low ↦ rw (lists_merged.others 0 (λ same. not_low (sym same)) (λ same. omega (arith, same, order))) (HasGrown-same (get_or lists 0 []))
  ]
    where
      by : IsOneList (get_or lists low []) (get_or lists high []) (low ≡ 0) both → low ≡ 0 → HasGrown (get_or lists low []) both
      by (behind is) zero_low = record { more = get_or lists high []; is = is }
      by (before may is) zero_low = absurd (may zero_low)

-- the lists as they are written, one after the other
pub merged_as_written : (lists : List (List ℕ)) (low high : ℕ) (empty gone own others both d e : List ℕ) (begins : Type 0)
    → low < high → high < length lists → empty ≡ []
    → own ≡ get_or (set lists high empty) low d → others ≡ get_or lists high e → (low ≡ 0 → begins) → IsOneList own others begins both
    → AreListsMerged low high lists (set (set (set lists high empty) low gone) low both)
merged_as_written lists low high empty gone own others both d e begins order within none own_is others_is into is_one =
    let first = set lists high empty in
    let second = set first low gone in
    let first_size : length first ≡ length lists = length-set lists high empty in
    let second_size : length second ≡ length first = length-set first low gone in
    let apart : low ≢ high = λ same. omega (arith, same, order) in
    let own_at : get_or lists low [] ≡ own =
    sym (get_or-set_other lists high low empty [] apart) ∙ get_or_default first low [] d (omega (arith, first_size, order, within)) ∙ sym own_is in
    let others_at : get_or lists high [] ≡ others = get_or_default lists high [] e within ∙ sym others_is in
    let here : get_or (set second low both) low [] ≡ both = get_or-set_same second low both [] (omega (arith, second_size, first_size, order, within)) in
    record {
      count = length-set second low both ∙ second_size ∙ first_size;
      is_one = rw (here, own_at, others_at) (by is_one);
      none =
          get_or-set_other second low high both [] (λ same. apart (sym same)) ∙ get_or-set_other first low high gone [] (λ same. apart (sym same))
          ∙ get_or-set_same lists high empty [] within ∙ none;
      others = λ k not_low not_high.
          get_or-set_other second low k both [] not_low ∙ get_or-set_other first low k gone [] not_low ∙ get_or-set_other lists high k empty [] not_high;
    }
  where
    by : IsOneList own others begins both → IsOneList own others (low ≡ 0) both
    by (behind is) = behind is
    by (before may is) = before (λ same. may (into same)) is

-- a number comes, which is in a set of its own
module _ (sets : List ℕ) (lists : List (List ℕ)) (low : All (λ least. least < length sets) sets) (groups : AreGroups sets lists) where
  abbrev had : AreMembers sets (length sets) lists
  had = groups.members

  abbrev n : ℕ
  n = length sets

  abbrev sets_then : List ℕ
  sets_then = sets ++ n ∷ []

  abbrev lists_then : List (List ℕ)
  lists_then = lists ++ (n ∷ []) ∷ []

  many_then : length sets_then ≡ n + 1
  many_then = length_push sets n

  list_before : (kind : ℕ) → kind < n → get_or lists_then kind [] ≡ get_or lists kind []
  list_before kind below = get_or_append_left lists ((n ∷ []) ∷ []) [] kind (omega (arith, below, had.many))

  list_here : get_or lists_then n [] ≡ n ∷ []
  list_here = get_or_at lists (n ∷ []) [] [] n had.many

  stays_at : (k kind : ℕ) → slice_get sets k ≡ Some kind → slice_get sets_then k ≡ Some kind
  stays_at k kind at =
      let k_in = slice_get_within sets k kind at in
      slice_get_read sets_then _ k kind refl (omega (arith, k_in, many_then))
      (sym (get_or_append_left sets (n ∷ []) kind k k_in ∙ get_or_from_slice_get sets k kind kind at))

  here_at : slice_get sets_then n ≡ Some n
  here_at = slice_get_read sets_then _ n n refl (omega (arith, many_then)) (sym (get_or_at sets n [] n n refl))

  -- it was so, or is the new number
  was_at : (k kind : ℕ) → slice_get sets_then k ≡ Some kind → slice_get sets k ≡ Some kind ⊎ ((k ≡ n) × (kind ≡ n))
  was_at k kind at = elim (cases_lt k n) [
    | inl earlier ↦
        inl (slice_get_read sets _ k kind refl earlier
        (sym (sym (get_or_append_left sets (n ∷ []) kind k earlier) ∙ get_or_from_slice_get sets_then k kind kind at)))
    | inr late ↦
        let k_in = slice_get_within sets_then k kind at in
        let here : k ≡ n = omega (arith, late, k_in, many_then) in
        inr (here, same_Some kind n (sym at ∙ ap (slice_get sets_then) here ∙ here_at))
  ]

  low_at : (k kind : ℕ) → slice_get sets k ≡ Some kind → kind < n
  low_at k kind at =
      let k_in = slice_get_within sets k kind at in
      All-contains (λ least. least < n) sets kind low (k, k_in, get_or_from_slice_get sets k kind kind at)

  members_then : (kind k : ℕ) → kind < n + 1 → Contains (get_or lists_then kind []) k ↔ slice_get sets_then k ≡ Some kind
  members_then kind k below = elim (cases_lt kind n) [
    | inl earlier ↦ rw (list_before kind earlier) (
      λ has. stays_at k kind ((had.each kind k earlier).0 has),
      λ at. elim (was_at k kind at) [ inl old ↦ (had.each kind k earlier).1 old | inr new ↦ absurd (omega (arith, new.1, earlier)) ],
    )
    | inr late ↦
        let here : kind ≡ n = omega (arith, late, below) in
        rw (here, list_here) (
          λ has. elim (Contains-push_cases [] n k has) [ inl none ↦ absurd (Contains-nil k none) | inr same ↦ rw (← same) here_at ],
          λ at. elim (was_at k n at) [
            | inl old ↦ let under = low_at k n old in absurd (omega (arith, under))
            | inr new ↦ rw (new.0) (Contains-push [] n)
          ],
        )
  ]

  once_then : (kind : ℕ) → AllPairs (λ j k. j ≢ k) (get_or lists_then kind [])
  once_then kind = elim (cases_lt kind n) [
    | inl earlier ↦ rw (list_before kind earlier) (had.once kind)
    | inr late ↦ elim (cases_eq kind n) [
      | inl here ↦ rw (here, list_here) (once_alone n)
      | inr past ↦
          let size : length lists_then ≡ length lists + 1 = length_push lists (n ∷ []) in
          rw (get_or_past lists_then kind [] (omega (arith, size, had.many, late, past))) (AllPairs-nil (λ j k. j ≢ k))
    ]
  ]

  pub groups_more : AreGroups (sets ++ length sets ∷ []) (lists ++ (length sets ∷ []) ∷ [])
  groups_more = record {
    members = record {
      many = length_push lists (n ∷ []) ∙ ap (λ size. size + 1) had.many ∙ sym many_then;
      each = λ kind k below. members_then kind k (omega (arith, below, many_then));
      once = once_then;
    };
    begins = λ some. elim (cases_lt 0 n) [
      | inl some_before ↦ stays_at 0 0 (groups.begins some_before)
      | inr none ↦
          let zero_n : 0 ≡ n = omega (arith, none) in
          ap (slice_get sets_then) zero_n ∙ here_at ∙ ap Some (sym zero_n)
    ];
  }

  pub first_grown_more : HasGrown (get_or lists 0 []) (get_or (lists ++ (length sets ∷ []) ∷ []) 0 [])
  first_grown_more = elim (cases_lt 0 n) [
    | inl some ↦ rw (list_before 0 some) (HasGrown-same (get_or lists 0 []))
    | inr none ↦
        let zero_n : n ≡ 0 = omega (arith, none) in
        let empty : get_or lists 0 [] ≡ [] = get_or_past lists 0 [] (omega (arith, had.many, zero_n)) in
        rw empty (record { more = get_or lists_then 0 []; is = refl })
  ]

-- lists that were lent are written back
pub lists_back : (lists after : List (List ℕ)) (n : ℕ) → length after ≡ length lists → n ≡ length lists → take n (after ++ drop (length after) lists) ≡ after
lists_back lists after n same whole =
    rw (drop_all (length after) lists (omega (arith, same)), append-nil after) (take_all n after (omega (arith, whole, same)))
