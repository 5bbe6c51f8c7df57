-- Kinds of metal, and the shapes of each.
use Rattle.std.proofs.Common.{◌≡◌, ◌≢◌, ℕ, ◌+◌, ◌-◌, ◌<◌, ◌≤◌, ◌↔◌, List, [], ◌∷◌, ◌++◌, length, get_or, set, All, AllPairs, Contains, Some, slice_get, inl, inr, refl, sym, ap, ◌∙◌, arith, length-append}
use Rattle.std.proofs.lemmas.Bool.{cases_eq, cases_lt}
use Rattle.std.proofs.lemmas.List.{length-set, get_or-set_same, get_or-set_other, get_or_append_left, get_or-append_right}
use Rattle.std.proofs.lemmas.List.Elements.{All-append, All-push, All-weaker, Contains-append_left, Contains-get_or, Contains-push, Contains-push_cases}
use Rattle.std.proofs.lemmas.List.Quantifiers.{all_pairs_push}
use Rattle.std.proofs.lemmas.Option.{same_Some, slice_get_within, slice_get_read, get_or_from_slice_get}
use Rattle.leg_wire.specs.Steps.Kinds.{IsOfKind, AreKinds, AreMembers}

module _ {Metal : Type 0} (Alike : Metal → Metal → Type 0) where
  -- a kind keeps its number
  pub kind_kept : (kinds more : List Metal) (number : ℕ) (one : Metal) → IsOfKind Alike kinds number one → IsOfKind Alike (kinds ++ more) number one
  kind_kept kinds more number one is =
      let within : number < length kinds = slice_get_within kinds number is.kind is.at in
      let here : get_or (kinds ++ more) number is.kind ≡ is.kind =
      get_or_append_left kinds more is.kind number within ∙ get_or_from_slice_get kinds number is.kind is.kind is.at in
      record {
        kind = is.kind;
        at = slice_get_read (kinds ++ more) (length (kinds ++ more)) number is.kind refl (omega (arith, within, length-append kinds more)) (sym here);
        alike = is.alike;
      }

  -- the last one has the number of those before it
  pub kind_pushed : (kinds : List Metal) (number : ℕ) (one : Metal) → number ≡ length kinds → Alike one one → IsOfKind Alike (kinds ++ one ∷ []) number one
  kind_pushed kinds number one is alike =
      let long = length-append kinds (one ∷ []) in
      let zero_on : number - length kinds ≡ 0 = omega (arith, is) in
      let here : get_or (kinds ++ one ∷ []) number one ≡ one =
      get_or-append_right kinds (one ∷ []) (length kinds) number one refl (omega (arith, is)) ∙ rw zero_on refl in
      record {
        kind = one;
        at = slice_get_read (kinds ++ one ∷ []) (length (kinds ++ one ∷ [])) number one refl (omega (arith, is, long)) (sym here);
        alike = alike;
      }

  -- the kinds of the first shapes
  pub record AreKindsOfFirst (metal : List Metal) (end : ℕ) (kinds : List Metal) (numbers : List ℕ) : Type 0 where
    pub count : length numbers ≡ end
    pub few : length kinds ≤ end
    pub within : All (λ number. number < length kinds) numbers
    pub among : All (Contains metal) kinds
    pub each : (k : ℕ) (one : Metal) → k < end → slice_get metal k ≡ Some one → IsOfKind Alike kinds (get_or numbers k 0) one

  -- one more
  pub kinds_more : (metal : List Metal) (i : ℕ) (kinds : List Metal) (numbers : List ℕ) → AreKindsOfFirst metal i kinds numbers
      → (one : Metal) → slice_get metal i ≡ Some one → (after more : List Metal) → after ≡ kinds ++ more → length more ≤ 1 → All (λ kind. kind ≡ one) more
      → (number : ℕ) → IsOfKind Alike after number one → AreKindsOfFirst metal (i + 1) after (numbers ++ number ∷ [])
  kinds_more metal i kinds numbers done one at after more grown short own number is =
      let long : length after ≡ length kinds + length more = rw grown (length-append kinds more) in
      record {
        count = omega (arith, done.count, length-append numbers (number ∷ []));
        few = omega (arith, done.few, long, short);
        within =
            All-push (λ number. number < length after) numbers number
            (All-weaker (λ number. number < length kinds) (λ number. number < length after) (λ number less. omega (arith, less, long)) numbers done.within)
            (slice_get_within after number is.kind is.at);
        among =
            rw grown
            (All-append (Contains metal) kinds more done.among
            (All-weaker (λ kind. kind ≡ one) (Contains metal)
            (λ kind same. rw same (i, slice_get_within metal i one at, get_or_from_slice_get metal i one one at)) more own));
        each = λ k other below there. elim (cases_lt k i) [
          | inl before ↦
              let same : get_or (numbers ++ number ∷ []) k 0 ≡ get_or numbers k 0 =
              get_or_append_left numbers (number ∷ []) 0 k (omega (arith, before, done.count)) in
              rw (same, grown) (kind_kept kinds more (get_or numbers k 0) other (done.each k other before there))
          | inr late ↦
              let here : k ≡ i = omega (arith, late, below) in
              let zero_on : i - i ≡ 0 = omega arith in
              let last : get_or (numbers ++ number ∷ []) i 0 ≡ number =
              get_or-append_right numbers (number ∷ []) i i 0 done.count (omega arith) ∙ rw zero_on refl in
              let alike : one ≡ other = same_Some one other (sym at ∙ ap (slice_get metal) (sym here) ∙ there) in
              rw (here, last, ← alike) is
        ];
      }

  -- all of them
  pub kinds_all : (metal : List Metal) (end : ℕ) (kinds : List Metal) (numbers : List ℕ) → end ≡ length metal → AreKindsOfFirst metal end kinds numbers
      → AreKinds Alike metal kinds numbers
  kinds_all metal end kinds numbers all done = record {
    count = done.count ∙ all;
    few = omega (arith, done.few, all);
    within = done.within;
    among = done.among;
    each = λ k one at. done.each k one (omega (arith, slice_get_within metal k one at, all)) at;
  }

-- the members of the kinds among the first shapes
pub record AreMembersOfFirst (numbers : List ℕ) (end count : ℕ) (members : List (List ℕ)) : Type 0 where
  pub many : length members ≡ count
  pub each : (kind k : ℕ) → kind < count → Contains (get_or members kind []) k ↔ ((k < end) × (slice_get numbers k ≡ Some kind))
  pub once : (kind : ℕ) → AllPairs (λ j k. j ≢ k) (get_or members kind [])

-- one more
pub members_more : (numbers : List ℕ) (i count : ℕ) (members : List (List ℕ)) → AreMembersOfFirst numbers i count members
    → (own : ℕ) → slice_get numbers i ≡ Some own → own < count
    → AreMembersOfFirst numbers (i + 1) count (set members own (get_or members own [] ++ i ∷ []))
members_more numbers i count members done own at low = record {
  many = length-set members own longer ∙ done.many;
  each = λ kind k below. elim (cases_eq kind own) [
    | inl same ↦
        let here : get_or (set members own longer) own [] ≡ longer = get_or-set_same members own longer [] (omega (arith, done.many, low)) in
        rw (same, here) (own_member k)
    | inr other ↦
        let there : get_or (set members own longer) kind [] ≡ get_or members kind [] = get_or-set_other members own kind longer [] other in
        rw there (other_member kind k below other)
  ];
  once = λ kind. elim (cases_eq kind own) [
    | inl same ↦
        let here : get_or (set members own longer) own [] ≡ longer = get_or-set_same members own longer [] (omega (arith, done.many, low)) in
        rw (same, here)
        (all_pairs_push (λ j k. j ≢ k) (get_or members own []) i (done.once own)
        (λ k d within. λ same_number.
        let old : get_or (get_or members own []) k d < i = ((done.each own _ low).0 (Contains-get_or (get_or members own []) k d within)).0 in
        omega (arith, old, same_number)))
    | inr other ↦
        let there : get_or (set members own longer) kind [] ≡ get_or members kind [] = get_or-set_other members own kind longer [] other in
        rw there (done.once kind)
  ];
}
  where
    longer : List ℕ
    longer = get_or members own [] ++ i ∷ []

    own_member : (k : ℕ) → Contains longer k ↔ ((k < i + 1) × (slice_get numbers k ≡ Some own))
    own_member k = (
      λ has. elim (Contains-push_cases (get_or members own []) i k has) [
        | inl before ↦ let old = (done.each own k low).0 before in (omega (arith, old.0), old.1)
        | inr here ↦ (omega (arith, here), rw (← here) at)
      ],
      λ is. elim (cases_lt k i) [
        | inl before ↦ Contains-append_left (get_or members own []) (i ∷ []) k ((done.each own k low).1 (before, is.1))
        | inr late ↦
            let here : k ≡ i = omega (arith, late, is.0) in
            rw here (Contains-push (get_or members own []) i)
      ],
    )

    other_member : (kind k : ℕ) → kind < count → (kind ≡ own → ⊥) → Contains (get_or members kind []) k ↔ ((k < i + 1) × (slice_get numbers k ≡ Some kind))
    other_member kind k below other = (
      λ has. let old = (done.each kind k below).0 has in (omega (arith, old.0), old.1),
      λ is. elim (cases_lt k i) [
        | inl before ↦ (done.each kind k below).1 (before, is.1)
        | inr late ↦
            let here : k ≡ i = omega (arith, late, is.0) in
            absurd (other (same_Some kind own (sym is.1 ∙ ap (slice_get numbers) here ∙ at)))
      ],
    )

-- all of them
pub members_all : (numbers : List ℕ) (end count : ℕ) (members : List (List ℕ)) → end ≡ length numbers → AreMembersOfFirst numbers end count members
    → AreMembers numbers count members
members_all numbers end count members all done = record {
  many = done.many;
  each = λ kind k below. (
    λ has. ((done.each kind k below).0 has).1,
    λ is. (done.each kind k below).1 (omega (arith, slice_get_within numbers k kind is, all), is),
  );
  once = done.once;
}
