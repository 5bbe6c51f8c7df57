-- What the sweep knows after some of the items.
use Rattle.std.proofs.Common.{◌≡◌, ◌≢◌, ℕ, ◌+◌, ◌<◌, ◌≤◌, Bool, true, List, [], ◌∷◌, ◌++◌, length, get_or, take, filter, All, AllPairs, Contains, ◌⊎◌, inl, inr, sym, ap, ◌∙◌, arith}
use Rattle.std.proofs.lemmas.Bool.{cases_lt, cases_eq}
use Rattle.std.proofs.lemmas.List.{take_more, get_or_default}
use Rattle.std.proofs.lemmas.List.Elements.{All-append, All-weaker, Contains-append_left, Contains-append_right, Contains-push, Contains-push_cases}
use Rattle.std.proofs.lemmas.List.Kept.{AllPairs-filter}
use Rattle.std.proofs.lemmas.List.Quantifiers.{all_pairs_push}
use Rattle.leg_lemmas.proofs.RisingLists.{AllPairs-append_by}
use Rattle.leg_lemmas.proofs.Contents.{Contains-filter, Contains-from_filter}
use Rattle.leg_sweep.specs.Steps.Sweep.{ordered, AreNewPairs}
use Rattle.leg_sweep.proofs.Progress.{place_in_front}
use Rattle.leg_sweep.proofs.Turns.{ordered_below, ordered_above}

-- The items up to a place of the order are in. Those that wait in a band are of those, and stand in it; each item that is near
-- one to come waits in all of its bands. The pairs of items that are in are found, each once.
pub record SweptTo (near : ℕ → ℕ → Bool) (IsOne : ℕ × ℕ → Type 0) (first last : ℕ → ℕ) (order : List ℕ) (i : ℕ) (begun passing : ℕ → List ℕ)
    (found : List (ℕ × ℕ)) : Type 0 where
  pub begun_in : (k x : ℕ) → Contains (begun k) x → Contains (take i order) x × (first x ≡ k)
  pub passing_in : (k x : ℕ) → Contains (passing k) x → Contains (take i order) x × (first x < k) × (k ≤ last x)
  pub begun_apart : (k : ℕ) → AllPairs (λ x y. x ≢ y) (begun k)
  pub passing_apart : (k : ℕ) → AllPairs (λ x y. x ≢ y) (passing k)
  pub begun_reached : (a b : ℕ) → a < i → i ≤ b → b < length order → near (get_or order a 0) (get_or order b 0) ≡ true
      → Contains (begun (first (get_or order a 0))) (get_or order a 0)
  pub passing_reached : (a b k : ℕ) → a < i → i ≤ b → b < length order → near (get_or order a 0) (get_or order b 0) ≡ true → first (get_or order a 0) < k
      → k ≤ last (get_or order a 0) → Contains (passing k) (get_or order a 0)
  pub each : All IsOne found
  pub distinct : AllPairs (λ p q. p ≢ q) found
  pub within : All (λ p. Contains (take i order) p.0 × Contains (take i order) p.1) found
  pub all : (a b : ℕ) → a < b → b < i → IsOne (ordered (get_or order a 0) (get_or order b 0)) → Contains found (ordered (get_or order a 0) (get_or order b 0))

-- what wait in the bands after a new item visited those from its first to its last
pub record VisitedBy (narrow : ℕ → Bool) (first last new : ℕ) (begun passing begun_after passing_after : ℕ → List ℕ) : Type 0 where
  pub begun_first : begun_after first ≡ filter narrow (begun first) ++ new ∷ []
  pub passing_first : passing_after first ≡ filter narrow (passing first)
  pub begun_through : (k : ℕ) → first < k → k ≤ last → begun_after k ≡ filter narrow (begun k)
  pub passing_through : (k : ℕ) → first < k → k ≤ last → passing_after k ≡ passing k ++ new ∷ []
  pub begun_out : (k : ℕ) → (k < first) ⊎ (last < k) → begun_after k ≡ begun k
  pub passing_out : (k : ℕ) → (k < first) ⊎ (last < k) → passing_after k ≡ passing k

-- the items that the new one meets: those that began in its bands, and those that pass through its first one
pub record AreMet (first last : ℕ) (begun passing : ℕ → List ℕ) (met : List ℕ) : Type 0 where
  pub each : (x : ℕ) → Contains met x → ((k : ℕ) × (first ≤ k) × (k ≤ last) × Contains (begun k) x) ⊎ Contains (passing first) x
  pub has_begun : (k x : ℕ) → first ≤ k → k ≤ last → Contains (begun k) x → Contains met x
  pub has_passing : (x : ℕ) → Contains (passing first) x → Contains met x

module _ (narrow : ℕ → Bool) (first last new : ℕ) (upward : first ≤ last) (begun passing begun_after passing_after : ℕ → List ℕ)
    (visited : VisitedBy narrow first last new begun passing begun_after passing_after) where
  -- which part of the bands a band is of
  sides : (k : ℕ) → ((k < first) ⊎ (last < k)) ⊎ ((k ≡ first) ⊎ ((first < k) × (k ≤ last)))
  sides k =
      elim (cases_lt k first) [
        | inl below ↦ inl (inl below)
        | inr at_least ↦ elim (cases_lt last k) [
          | inl above ↦ inl (inr above)
          | inr at_most ↦ elim (cases_eq k first) [
            | inl here ↦ inr (inl here)
            | inr other ↦ inr (inr (omega (arith, other), at_most))
          ]
        ]
      ]

  begun_has : (k x : ℕ) → Contains (begun_after k) x → Contains (begun k) x ⊎ ((x ≡ new) × (k ≡ first))
  begun_has k x c =
      elim (sides k) [
        | inl out ↦ inl (rw (visited.begun_out k out) at c)
        | inr inside ↦ elim inside [
          | inl here ↦
              let c_first : Contains (filter narrow (begun first) ++ new ∷ []) x = rw (here, visited.begun_first) at c in
              elim (Contains-push_cases (filter narrow (begun first)) new x c_first) [
                | inl old ↦ inl (rw here (Contains-from_filter narrow (begun first) x old).0)
                | inr is_new ↦ inr (sym is_new, here)
              ]
          | inr through ↦ inl (Contains-from_filter narrow (begun k) x (rw (visited.begun_through k through.0 through.1) at c)).0
        ]
      ]

  passing_has : (k x : ℕ) → Contains (passing_after k) x → Contains (passing k) x ⊎ ((x ≡ new) × (first < k) × (k ≤ last))
  passing_has k x c =
      elim (sides k) [
        | inl out ↦ inl (rw (visited.passing_out k out) at c)
        | inr inside ↦ elim inside [
          | inl here ↦ inl (rw here (Contains-from_filter narrow (passing first) x (rw (here, visited.passing_first) at c)).0)
          | inr through ↦ elim (Contains-push_cases (passing k) new x (rw (visited.passing_through k through.0 through.1) at c)) [
            | inl old ↦ inl old
            | inr is_new ↦ inr (sym is_new, through.0, through.1)
          ]
        ]
      ]

  begun_stays : (k x : ℕ) → Contains (begun k) x → (first ≤ k → k ≤ last → narrow x ≡ true) → Contains (begun_after k) x
  begun_stays k x c near =
      elim (sides k) [
        | inl out ↦ rw (visited.begun_out k out) c
        | inr inside ↦ elim inside [
          | inl here ↦
              let old : Contains (begun first) x = rw here at c in
              rw (here, visited.begun_first) (Contains-append_left (filter narrow (begun first)) (new ∷ []) x
              (Contains-filter narrow x (begun first) (near (omega (arith, here)) (omega (arith, here, upward))) old))
          | inr through ↦ rw (visited.begun_through k through.0 through.1) (Contains-filter narrow x (begun k) (near (omega (arith, through.0)) through.1) c)
        ]
      ]

  passing_stays : (k x : ℕ) → Contains (passing k) x → (k ≡ first → narrow x ≡ true) → Contains (passing_after k) x
  passing_stays k x c near =
      elim (sides k) [
        | inl out ↦ rw (visited.passing_out k out) c
        | inr inside ↦ elim inside [
          | inl here ↦
              let old : Contains (passing first) x = rw here at c in
              rw (here, visited.passing_first) (Contains-filter narrow x (passing first) (near here) old)
          | inr through ↦ rw (visited.passing_through k through.0 through.1) (Contains-append_left (passing k) (new ∷ []) x c)
        ]
      ]

  new_begun : Contains (begun_after first) new
  new_begun = rw visited.begun_first (Contains-push (filter narrow (begun first)) new)

  new_passing : (k : ℕ) → first < k → k ≤ last → Contains (passing_after k) new
  new_passing k above at_most = rw (visited.passing_through k above at_most) (Contains-push (passing k) new)

  -- the lists keep their items apart
  begun_differ : ((k : ℕ) → AllPairs (λ x y. x ≢ y) (begun k)) → ((x : ℕ) → Contains (begun first) x → x ≢ new) → (k : ℕ)
      → AllPairs (λ x y. x ≢ y) (begun_after k)
  begun_differ apart others k =
      elim (sides k) [
        | inl out ↦ rw (visited.begun_out k out) (apart k)
        | inr inside ↦ elim inside [
          | inl here ↦
              rw (here, visited.begun_first)
              (all_pairs_push (λ x y. x ≢ y) (filter narrow (begun first)) new (AllPairs-filter (λ x y. x ≢ y) narrow (begun first) (apart first))
              (λ j d below same.
              let x = get_or (filter narrow (begun first)) j d in
              let there : Contains (filter narrow (begun first)) x = (j, below, get_or_default (filter narrow (begun first)) j x d below) in
              others x (Contains-from_filter narrow (begun first) x there).0 same))
          | inr through ↦ rw (visited.begun_through k through.0 through.1) (AllPairs-filter (λ x y. x ≢ y) narrow (begun k) (apart k))
        ]
      ]

  passing_differ : ((k : ℕ) → AllPairs (λ x y. x ≢ y) (passing k)) → ((k x : ℕ) → Contains (passing k) x → x ≢ new) → (k : ℕ)
      → AllPairs (λ x y. x ≢ y) (passing_after k)
  passing_differ apart others k =
      elim (sides k) [
        | inl out ↦ rw (visited.passing_out k out) (apart k)
        | inr inside ↦ elim inside [
          | inl here ↦ rw (here, visited.passing_first) (AllPairs-filter (λ x y. x ≢ y) narrow (passing first) (apart first))
          | inr through ↦
              rw (visited.passing_through k through.0 through.1)
              (all_pairs_push (λ x y. x ≢ y) (passing k) new (apart k)
              (λ j d below same.
              let there : Contains (passing k) (get_or (passing k) j d) = (j, below, get_or_default (passing k) j (get_or (passing k) j d) d below) in
              others k (get_or (passing k) j d) there same))
        ]
      ]

module _ {Sink : Type 0} (Takes : Sink → ℕ × ℕ → Sink → Type 0) (near : ℕ → ℕ → Bool) (narrow : ℕ → Bool) (IsOne : ℕ × ℕ → Type 0) (first last : ℕ → ℕ)
    (order : List ℕ)
    (differ : (a b : ℕ) → a < b → b < length order → get_or order a 0 ≡ get_or order b 0 → ⊥)
    (upward : (a : ℕ) → a < length order → first (get_or order a 0) ≤ last (get_or order a 0))
    (between : (a b c : ℕ) → a ≤ b → b ≤ c → c < length order → near (get_or order a 0) (get_or order c 0) ≡ true
    → first (get_or order a 0) ≤ last (get_or order b 0) → first (get_or order b 0) ≤ last (get_or order a 0)
    → near (get_or order a 0) (get_or order b 0) ≡ true)
    (close : (x y : ℕ) → IsOne (ordered x y) → near x y ≡ true)
    (common : (x y : ℕ) → near x y ≡ true → (first x ≤ last y) × (first y ≤ last x))
    (i : ℕ) (in_order : i < length order) (narrow_if : (a : ℕ) → a < i → near (get_or order a 0) (get_or order i 0) ≡ true → narrow (get_or order a 0) ≡ true)
    (begun passing begun_after passing_after : ℕ → List ℕ) (met : List ℕ) (found : List (ℕ × ℕ)) (tests : ℕ) (before after : Sink)
    (so_far : SweptTo near IsOne first last order i begun passing found)
    (visited : VisitedBy narrow (first (get_or order i 0)) (last (get_or order i 0)) (get_or order i 0) begun passing begun_after passing_after)
    (are_met : AreMet (first (get_or order i 0)) (last (get_or order i 0)) begun passing met)
    (turned : AreNewPairs Takes IsOne met (get_or order i 0) tests before after) where
  -- the new item is not among those that are in
  new_is_new : Contains (take i order) (get_or order i 0) → ⊥
  new_is_new c =
      let place = place_in_front order i (get_or order i 0) (omega arith) c in
      differ place.0 i place.1 in_order place.2

  -- what it meets is among them
  met_in : (x : ℕ) → Contains met x → Contains (take i order) x
  met_in x c =
      elim (are_met.each x c) [
        | inl begins ↦ (so_far.begun_in begins.0 x begins.3).0
        | inr passes ↦ (so_far.passing_in (first (get_or order i 0)) x passes).0
      ]

  -- a pair with the new item names it
  names_new : (p : ℕ × ℕ) (x : ℕ) → p ≡ ordered x (get_or order i 0) → (p.0 ≡ get_or order i 0) ⊎ (p.1 ≡ get_or order i 0)
  names_new p x is =
      let n = get_or order i 0 in
      elim (cases_lt x n) [
        | inl below ↦ inr (ap (λ (q : ℕ × ℕ). q.1) (is ∙ ordered_below x n below))
        | inr above ↦ inl (ap (λ (q : ℕ × ℕ). q.0) (is ∙ ordered_above x n above))
      ]

  -- what stands in either number of a pair with the new item
  named_within : (p : ℕ × ℕ) → (x : ℕ) × Contains met x × (p ≡ ordered x (get_or order i 0))
      → Contains (take i order ++ get_or order i 0 ∷ []) p.0 × Contains (take i order ++ get_or order i 0 ∷ []) p.1
  named_within p (x, c, is) =
      let n = get_or order i 0 in
      let done = take i order in
      let old : Contains (done ++ n ∷ []) x = Contains-append_left done (n ∷ []) x (met_in x c) in
      let new : Contains (done ++ n ∷ []) n = Contains-push done n in
      elim (cases_lt x n) [
        | inl below ↦ let p_is = is ∙ ordered_below x n below in (rw (ap (λ (q : ℕ × ℕ). q.0) p_is) old, rw (ap (λ (q : ℕ × ℕ). q.1) p_is) new)
        | inr above ↦ let p_is = is ∙ ordered_above x n above in (rw (ap (λ (q : ℕ × ℕ). q.0) p_is) new, rw (ap (λ (q : ℕ × ℕ). q.1) p_is) old)
      ]

  -- an earlier item that is near the new one is met
  meets_near : (a : ℕ) → a < i → near (get_or order a 0) (get_or order i 0) ≡ true → Contains met (get_or order a 0)
  meets_near a earlier is_near =
      let x = get_or order a 0 in
      let n = get_or order i 0 in
      let shared = common x n is_near in
      elim (cases_lt (first x) (first n)) [
        | inl below ↦ are_met.has_passing x (so_far.passing_reached a i (first n) earlier (omega arith) in_order is_near below shared.1)
        | inr above ↦ are_met.has_begun (first x) x above shared.0 (so_far.begun_reached a i earlier (omega arith) in_order is_near)
      ]

  -- one more item
  pub swept_more : SweptTo near IsOne first last order (i + 1) begun_after passing_after (found ++ turned.more)
  swept_more =
      let n = get_or order i 0 in
      let done = take i order in
      let up : first n ≤ last n = upward i in_order in
      let grown : take (i + 1) order ≡ done ++ n ∷ [] = take_more order i 0 in_order in
      let wider : (x : ℕ) → Contains done x → Contains (done ++ n ∷ []) x = λ x c. Contains-append_left done (n ∷ []) x c in
      let has_begun = begun_has narrow (first n) (last n) n up begun passing begun_after passing_after visited in
      let has_passing = passing_has narrow (first n) (last n) n up begun passing begun_after passing_after visited in
      let stays_begun = begun_stays narrow (first n) (last n) n up begun passing begun_after passing_after visited in
      let stays_passing = passing_stays narrow (first n) (last n) n up begun passing begun_after passing_after visited in
      record {
        begun_in = λ k x c. elim (has_begun k x c) [
          | inl old ↦ let was = so_far.begun_in k x old in (rw grown (wider x was.0), was.1)
          | inr is_new ↦ (rw (grown, is_new.0) (Contains-push done n), rw is_new.0 (sym is_new.1))
        ];
        passing_in = λ k x c. elim (has_passing k x c) [
          | inl old ↦ let was = so_far.passing_in k x old in (rw grown (wider x was.0), was.1, was.2)
          | inr is_new ↦ (rw (grown, is_new.0) (Contains-push done n), rw is_new.0 is_new.1, rw is_new.0 is_new.2)
        ];
        begun_apart =
            begun_differ narrow (first n) (last n) n up begun passing begun_after passing_after visited so_far.begun_apart
            (λ x c same. new_is_new (rw same at (so_far.begun_in (first n) x c).0));
        passing_apart =
            passing_differ narrow (first n) (last n) n up begun passing begun_after passing_after visited so_far.passing_apart
            (λ k x c same. new_is_new (rw same at (so_far.passing_in k x c).0));
        begun_reached = λ a b before after_it inside is_near. elim (cases_lt a i) [
          | inl earlier ↦
              let x = get_or order a 0 in
              stays_begun (first x) x (so_far.begun_reached a b earlier (omega arith) inside is_near)
              (λ low high. narrow_if a earlier (between a i b (omega arith) (omega arith) inside is_near high (omega (arith, low, upward a (omega arith)))))
          | inr here ↦ let a_is : a ≡ i = omega arith in rw a_is (new_begun narrow (first n) (last n) n up begun passing begun_after passing_after visited)
        ];
        passing_reached = λ a b k before after_it inside is_near above at_most. elim (cases_lt a i) [
          | inl earlier ↦
              let x = get_or order a 0 in
              stays_passing k x (so_far.passing_reached a b k earlier (omega arith) inside is_near above at_most)
              (λ k_is. narrow_if a earlier (between a i b (omega arith) (omega arith) inside is_near (omega (arith, above, k_is, up))
              (omega (arith, k_is, at_most))))
          | inr here ↦
              let a_is : a ≡ i = omega arith in
              rw a_is (new_passing narrow (first n) (last n) n up begun passing begun_after passing_after visited k (rw a_is at above) (rw a_is at at_most))
        ];
        each = All-append IsOne found turned.more so_far.each turned.each;
        distinct =
            AllPairs-append_by (λ p q. p ≢ q) (λ p. Contains done p.0 × Contains done p.1) (λ p. (x : ℕ) × Contains met x × (p ≡ ordered x n))
            (λ p q old new same. elim (names_new q new.0 new.2) [
              | inl named_first ↦ new_is_new (rw (ap (λ (r : ℕ × ℕ). r.0) same ∙ named_first) at old.0)
              | inr named_second ↦ new_is_new (rw (ap (λ (r : ℕ × ℕ). r.1) same ∙ named_second) at old.1)
            ]) found turned.more so_far.within turned.named so_far.distinct turned.distinct;
        within =
            rw grown
            (All-append (λ p. Contains (done ++ n ∷ []) p.0 × Contains (done ++ n ∷ []) p.1) found turned.more
            (All-weaker (λ p. Contains done p.0 × Contains done p.1) (λ p. Contains (done ++ n ∷ []) p.0 × Contains (done ++ n ∷ []) p.1)
            (λ p c. (wider p.0 c.0, wider p.1 c.1)) found so_far.within)
            (All-weaker (λ p. (x : ℕ) × Contains met x × (p ≡ ordered x n))
            (λ p. Contains (done ++ n ∷ []) p.0 × Contains (done ++ n ∷ []) p.1) named_within turned.more turned.named));
        all = λ a b before_b below is_one. elim (cases_lt b i) [
          | inl earlier ↦ Contains-append_left found turned.more _ (so_far.all a b before_b earlier is_one)
          | inr here ↦
              let b_is : b ≡ i = omega arith in
              let one_new : IsOne (ordered (get_or order a 0) n) = rw b_is at is_one in
              rw b_is
              (Contains-append_right found turned.more _
              (turned.all (get_or order a 0) (meets_near a (omega arith) (close (get_or order a 0) n one_new)) one_new))
        ];
      }
