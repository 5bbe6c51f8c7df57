-- Two sets are made one, and which numbers are with the first.
use Rattle.std.proofs.Common.{◌≡◌, ℕ, ◌+◌, ◌<◌, ◌≤◌, min, max, Bool, true, false, All, List, [], ◌∷◌, ◌++◌, length, map, get_or, set, nat_eq, Some, option_map, slice_get, ◌⊎◌, inl, inr, refl, sym, ap, ◌∙◌, arith}
use Rattle.std.proofs.lemmas.Bool.{cases_eq, cases_lt}
use Rattle.std.proofs.lemmas.Bool.Decides.{nat_tests}
use Rattle.std.proofs.lemmas.List.{length-map, length_push, get_or_append_left, get_or_at, get_or_default}
use Rattle.std.proofs.lemmas.Option.{same_Some, slice_get-map, slice_get-get_or, slice_get_within, slice_get_read, get_or_from_slice_get}
use Rattle.leg_lemmas.proofs.Places.{mapped_at}
use Rattle.leg_wire.specs.Steps.NumberSets.{AreTogether, AreUnited, IsMerged, AreParents, roots_of}
use Rattle.leg_wire.specs.Steps.Joins.{HasOneNumberMore}
use Rattle.leg_wire.specs.PieceMarks.{AreMarks, AreFirsts}
use Rattle.leg_wire.proofs.SetRoots.{length-roots_of, rooted, root_within, root_own, merged, merged-high, merged-other, forest_linked, roots_linked}

module _ (sets : List ℕ) where
  -- a number is with itself
  pub AreTogether-itself : (a : ℕ) → a < length sets → AreTogether sets a a
  AreTogether-itself a within =
      let at : slice_get sets a ≡ Some (get_or sets a 0) = slice_get-get_or sets a 0 within in
      record { least = get_or sets a 0; of_a = at; of_b = at }

  pub AreTogether-back : (a b : ℕ) → AreTogether sets a b → AreTogether sets b a
  AreTogether-back a b h = record { least = h.least; of_a = h.of_b; of_b = h.of_a }

  pub AreTogether-onward : (a b c : ℕ) → AreTogether sets a b → AreTogether sets b c → AreTogether sets a c
  AreTogether-onward a b c h next =
      let same : next.least ≡ h.least = same_Some next.least h.least (sym next.of_a ∙ h.of_b) in
      record { least = h.least; of_a = h.of_a; of_b = next.of_b ∙ ap Some same }

  -- by their least numbers
  pub AreTogether-from : (a b least other : ℕ) → slice_get sets a ≡ Some least → slice_get sets b ≡ Some other → least ≡ other → AreTogether sets a b
  AreTogether-from a b least other of_a of_b same = record { least = least; of_a = of_a; of_b = of_b ∙ ap Some (sym same) }

-- what stands in a list whose elements were changed
at_map : (f : ℕ → ℕ) (xs : List ℕ) (k x : ℕ) → slice_get xs k ≡ Some x → slice_get (map f xs) k ≡ Some (f x)
at_map f xs k x at = slice_get-map f xs k ∙ ap (option_map f) at

-- the sets of two numbers with the least numbers low and high are made one
module _ (sets : List ℕ) (low high a b : ℕ) (of_a : slice_get sets a ≡ Some low) (of_b : slice_get sets b ≡ Some high) where
  low_is : merged low high low ≡ low
  low_is = elim (cases_eq low high) [ inl same ↦ merged-high low high low same | inr other ↦ merged-other low high low other ]

  joined_cases : (x y r s : ℕ) → slice_get sets x ≡ Some r → slice_get sets y ≡ Some s → merged low high r ≡ merged low high s
      → AreTogether sets x y ⊎ ((AreTogether sets x a × AreTogether sets b y) ⊎ (AreTogether sets x b × AreTogether sets a y))
  joined_cases x y r s of_x of_y same =
      elim (cases_eq r high) [
        | inl r_high ↦ elim (cases_eq s high) [
          | inl s_high ↦ inl (AreTogether-from sets x y r s of_x of_y (r_high ∙ sym s_high))
          | inr s_other ↦
              let low_s : low ≡ s = sym (merged-high low high r r_high) ∙ same ∙ merged-other low high s s_other in
              inr (inr (AreTogether-from sets x b r high of_x of_b r_high, AreTogether-from sets a y low s of_a of_y low_s))
        ]
        | inr r_other ↦ elim (cases_eq s high) [
          | inl s_high ↦
              let r_low : r ≡ low = sym (merged-other low high r r_other) ∙ same ∙ merged-high low high s s_high in
              inr (inl (AreTogether-from sets x a r low of_x of_a r_low, AreTogether-from sets b y high s of_b of_y (sym s_high)))
          | inr s_other ↦
              inl (AreTogether-from sets x y r s of_x of_y (sym (merged-other low high r r_other) ∙ same ∙ merged-other low high s s_other))
        ]
      ]

  AreUnited-merged : AreUnited a b sets (map (merged low high) sets)
  AreUnited-merged = record {
    count = length-map sets (merged low high);
    both = record {
      least = low;
      of_a = at_map (merged low high) sets a low of_a ∙ ap Some low_is;
      of_b = at_map (merged low high) sets b high of_b ∙ ap Some (merged-high low high high refl);
    };
    kept = λ x y h. record {
      least = merged low high h.least;
      of_a = at_map (merged low high) sets x h.least h.of_a;
      of_b = at_map (merged low high) sets y h.least h.of_b;
    };
    no_more = λ x y h.
        let of_x = mapped_at (merged low high) sets x h.least h.of_a in
        let of_y = mapped_at (merged low high) sets y h.least h.of_b in
        joined_cases x y of_x.0 of_y.0 of_x.1 of_y.1 (sym of_x.2 ∙ of_y.2);
  }

-- the sets with these least numbers are made one
IsMerged-map : (sets : List ℕ) (low high : ℕ) → IsMerged low high sets (map (merged low high) sets)
IsMerged-map sets low high = record {
  count = length-map sets (merged low high);
  moved = λ k at. at_map (merged low high) sets k high at ∙ ap Some (merged-high low high high refl);
  stay = λ k least other at. at_map (merged low high) sets k least at ∙ ap Some (merged-other low high least other);
}

-- the order of the two doesn't matter
AreUnited-back : (a b : ℕ) (before after : List ℕ) → AreUnited a b before after → AreUnited b a before after
AreUnited-back a b before after h = record {
  count = h.count;
  both = AreTogether-back after a b h.both;
  kept = h.kept;
  no_more = λ x y together. elim (h.no_more x y together) [
    | inl old ↦ inl old
    | inr new ↦ elim new [ inl over ↦ inr (inr over) | inr back ↦ inr (inl back) ]
  ];
}

-- A mark for each of the first numbers, set where its root is 0.
pub record AreMarksSoFar (parents : List ℕ) (count : ℕ) (marks : List Bool) : Type 0 where
  pub many : length marks ≡ count
  pub is : (k : ℕ) → k < count → get_or marks k false ≡ nat_eq (get_or (roots_of parents) k 0) 0

module _ (parents : List ℕ) (forest : AreParents parents) where
  -- what the root of a number in the list is
  pub root_known : (k root : ℕ) → slice_get (roots_of parents) k ≡ Some root → (root < length parents) × (get_or parents root 0 ≡ root)
  root_known k root at =
      let all : length (roots_of parents) ≡ length parents = length-roots_of parents in
      let k_in : k < length (roots_of parents) = slice_get_within (roots_of parents) k root at in
      let within : k < length parents = omega (arith, all, k_in) in
      let is : get_or (roots_of parents) k 0 ≡ root = get_or_from_slice_get (roots_of parents) k root 0 at in
      let low : get_or (roots_of parents) k 0 ≤ k = root_within parents forest k within in
      (omega (arith, is, low, within), rw is at (root_own parents forest k within))

  -- the root of one is given the other as its parent
  linked_is_united : (a b low high : ℕ) → slice_get (roots_of parents) a ≡ Some low → slice_get (roots_of parents) b ≡ Some high → low ≤ high
      → AreParents (set parents high low) × AreUnited a b (roots_of parents) (roots_of (set parents high low))
  linked_is_united a b low high of_a of_b order =
      let low_root = root_known a low of_a in
      let high_root = root_known b high of_b in (
        forest_linked parents forest low high order high_root.0 low_root.1 high_root.1,
        rw (roots_linked parents forest low high order high_root.0 low_root.1 high_root.1) (AreUnited-merged (roots_of parents) low high a b of_a of_b),
      )

  pub united : (a b first second : ℕ) → slice_get (roots_of parents) a ≡ Some first → slice_get (roots_of parents) b ≡ Some second
      → AreParents (set parents (max first second) (min first second)) × AreUnited a b (roots_of parents)
      (roots_of (set parents (max first second) (min first second)))
  united a b first second of_a of_b =
      elim (cases_lt first second) [
        | inl less ↦
            let high : max first second ≡ second = omega (arith, less) in
            let low : min first second ≡ first = omega (arith, less) in
            rw (high, low) (linked_is_united a b first second of_a of_b (omega (arith, less)))
        | inr more ↦
            let high : max first second ≡ first = omega (arith, more) in
            let low : min first second ≡ second = omega (arith, more) in
            let other = linked_is_united b a second first of_b of_a more in
            rw (high, low) (other.0, AreUnited-back b a (roots_of parents) (roots_of (set parents first second)) other.1)
      ]

  -- and the lower one is the least of all then
  linked_is_merged : (a b low high : ℕ) → slice_get (roots_of parents) a ≡ Some low → slice_get (roots_of parents) b ≡ Some high → low ≤ high
      → IsMerged low high (roots_of parents) (roots_of (set parents high low))
  linked_is_merged a b low high of_a of_b order =
      let low_root = root_known a low of_a in
      let high_root = root_known b high of_b in
      rw (roots_linked parents forest low high order high_root.0 low_root.1 high_root.1) (IsMerged-map (roots_of parents) low high)

  merged_in_order : (a b first second : ℕ) → slice_get (roots_of parents) a ≡ Some first → slice_get (roots_of parents) b ≡ Some second
      → IsMerged (min first second) (max first second) (roots_of parents) (roots_of (set parents (max first second) (min first second)))
  merged_in_order a b first second of_a of_b =
      elim (cases_lt first second) [
        | inl less ↦
            let high : max first second ≡ second = omega (arith, less) in
            let low : min first second ≡ first = omega (arith, less) in
            rw (high, low) (linked_is_merged a b first second of_a of_b (omega (arith, less)))
        | inr more ↦
            let high : max first second ≡ first = omega (arith, more) in
            let low : min first second ≡ second = omega (arith, more) in
            rw (high, low) (linked_is_merged b a second first of_b of_a more)
      ]

  pub united_merged : (a b first second one other : ℕ) → slice_get (roots_of parents) a ≡ Some first → slice_get (roots_of parents) b ≡ Some second
      → slice_get (roots_of parents) a ≡ Some one → slice_get (roots_of parents) b ≡ Some other
      → IsMerged (min one other) (max one other) (roots_of parents) (roots_of (set parents (max first second) (min first second)))
  united_merged a b first second one other of_a of_b is_one is_other =
      rw (same_Some one first (sym is_one ∙ of_a), same_Some other second (sym is_other ∙ of_b)) (merged_in_order a b first second of_a of_b)

  pub root_bound : (a b first second : ℕ) → slice_get (roots_of parents) a ≡ Some first → slice_get (roots_of parents) b ≡ Some second
      → max first second < length parents
  root_bound a b first second of_a of_b = omega (arith, (root_known a first of_a).0, (root_known b second of_b).0)

  -- one more number, whose parent is below it, or isn't
  pub mark_by_parent : (k : ℕ) (marks : List Bool) → AreMarksSoFar parents k marks → k < length parents → get_or parents k 0 < k
      → get_or marks (get_or parents k 0) false ≡ nat_eq (get_or (roots_of parents) k 0) 0
  mark_by_parent k marks done within low =
      done.is (get_or parents k 0) low ∙ ap (λ n. nat_eq n 0) (sym ((rooted parents k within).below low))

  pub mark_of_own : (k : ℕ) → k < length parents → k ≤ get_or parents k 0 → nat_eq k 0 ≡ nat_eq (get_or (roots_of parents) k 0) 0
  mark_of_own k within high =
      let low : get_or parents k 0 ≤ k = forest k within in
      let own : get_or parents k 0 ≡ k = omega (arith, low, high) in
      ap (λ n. nat_eq n 0) (sym ((rooted parents k within).own own))

  pub marks_more : (k : ℕ) (marks : List Bool) (mark : Bool) → AreMarksSoFar parents k marks → mark ≡ nat_eq (get_or (roots_of parents) k 0) 0
      → AreMarksSoFar parents (k + 1) (marks ++ mark ∷ [])
  marks_more k marks mark done is = record {
    many = (let more = length_push marks mark in omega (arith, more, done.many));
    is = λ j before. elim (cases_lt j k) [
      | inl earlier ↦ get_or_append_left marks (mark ∷ []) false j (omega (arith, earlier, done.many)) ∙ done.is j earlier
      | inr late ↦
          let here : j ≡ k = omega (arith, late, before) in
          rw here (get_or_at marks mark [] false k done.many ∙ is)
    ];
  }

  -- the root of each number is the least that is with it
  pub firsts_are : AreFirsts (AreTogether (roots_of parents)) (length (roots_of parents)) (roots_of parents)
  firsts_are = record {
    count = refl;
    each = λ k first at.
        let many : length (roots_of parents) ≡ length parents = length-roots_of parents in
        let known = root_known k first at in
        let own : get_or (roots_of parents) first 0 ≡ first = (rooted parents first known.0).own known.1 in
        let itself : slice_get (roots_of parents) first ≡ Some first =
        slice_get-get_or (roots_of parents) first 0 (omega (arith, many, known.0)) ∙ ap Some own in
        record {
          within = omega (arith, many, known.0);
          joined = record { least = first; of_a = at; of_b = itself };
          least = λ j j_in h.
              let same : h.least ≡ first = same_Some h.least first (sym h.of_a ∙ at) in
              let root : get_or (roots_of parents) j 0 ≡ h.least = get_or_from_slice_get (roots_of parents) j h.least 0 h.of_b in
              let low : get_or (roots_of parents) j 0 ≤ j = root_within parents forest j (omega (arith, many, j_in)) in
              omega (arith, same, root, low);
        };
  }

  -- no least number lies behind the numbers
  pub roots_low : All (λ least. least < length (roots_of parents)) (roots_of parents)
  roots_low k least within =
      let many : length (roots_of parents) ≡ length parents = length-roots_of parents in
      let low : get_or (roots_of parents) k least ≤ k =
      rw (get_or_default (roots_of parents) k least 0 within) (root_within parents forest k (omega (arith, within, many))) in
      omega (arith, low, within)

  -- all numbers
  pub marks_done : (count : ℕ) (marks : List Bool) → count ≡ length parents → AreMarksSoFar parents count marks
      → AreMarks (AreTogether (roots_of parents) 0) (length (roots_of parents)) marks
  marks_done count marks all done = record {
    count = done.many ∙ all ∙ sym (length-roots_of parents);
    each = λ k mark at.
        let k_in : k < length marks = slice_get_within marks k mark at in
        let within : k < length parents = omega (arith, k_in, done.many, all) in
        let many : length (roots_of parents) ≡ length parents = length-roots_of parents in
        let first : slice_get (roots_of parents) 0 ≡ Some 0 = first_root k within in
        let here : slice_get (roots_of parents) k ≡ Some (get_or (roots_of parents) k 0) =
        slice_get-get_or (roots_of parents) k 0 (omega (arith, within, many)) in
        let told : mark ≡ nat_eq (get_or (roots_of parents) k 0) 0 =
        sym (get_or_from_slice_get marks k mark false at) ∙ done.is k (omega (arith, within, all)) in (
          λ yes_mark. AreTogether-from (roots_of parents) 0 k 0 (get_or (roots_of parents) k 0) first here
              (sym (from_test (get_or (roots_of parents) k 0) (sym told ∙ yes_mark))),
          λ h.
              let least : h.least ≡ 0 = same_Some h.least 0 (sym h.of_a ∙ first) in
              let root : get_or (roots_of parents) k 0 ≡ 0 = same_Some (get_or (roots_of parents) k 0) 0 (sym here ∙ h.of_b ∙ ap Some least) in
              told ∙ to_test (get_or (roots_of parents) k 0) root,
        );
  }
    where
      from_test : (n : ℕ) → nat_eq n 0 ≡ true → n ≡ 0
      from_test n test = grind (arith, nat_tests)

      to_test : (n : ℕ) → n ≡ 0 → nat_eq n 0 ≡ true
      to_test n is = grind (arith, nat_tests)

      first_root : (k : ℕ) → k < length parents → slice_get (roots_of parents) 0 ≡ Some 0
      first_root k within =
          let some : 0 < length parents = omega (arith, within) in
          let many : length (roots_of parents) ≡ length parents = length-roots_of parents in
          let low : get_or parents 0 0 ≤ 0 = forest 0 some in
          let root : get_or (roots_of parents) 0 0 ≡ 0 = (rooted parents 0 some).own (omega (arith, low)) in
          slice_get-get_or (roots_of parents) 0 0 (omega (arith, some, many)) ∙ ap Some root

-- a number more, the next one, is with itself alone
pub one_number_more : (parents : List ℕ) → AreParents parents → HasOneNumberMore (roots_of parents) (roots_of parents ++ length parents ∷ [])
one_number_more parents forest =
    let roots = roots_of parents in
    let n = length parents in
    let all : length roots ≡ n = length-roots_of parents in
    let more : length (roots ++ n ∷ []) ≡ length roots + 1 = length_push roots n in
    let left : (k least : ℕ) → slice_get roots k ≡ Some least → slice_get (roots ++ n ∷ []) k ≡ Some least =
    λ k least at.
    let k_in = slice_get_within roots k least at in
    slice_get_read (roots ++ n ∷ []) _ k least refl (omega (arith, more, k_in))
    (sym (get_or_append_left roots (n ∷ []) least k k_in ∙ get_or_from_slice_get roots k least least at)) in
    let back : (k least : ℕ) → k < n → slice_get (roots ++ n ∷ []) k ≡ Some least → slice_get roots k ≡ Some least =
    λ k least k_in at.
    slice_get_read roots _ k least refl (omega (arith, all, k_in))
    (sym (sym (get_or_append_left roots (n ∷ []) least k (omega (arith, all, k_in))) ∙ get_or_from_slice_get (roots ++ n ∷ []) k least least at)) in
    let low : (k least : ℕ) → k < n → slice_get (roots ++ n ∷ []) k ≡ Some least → least < n =
    λ k least k_in at.
    let is : get_or roots k 0 ≡ least = get_or_from_slice_get roots k least 0 (back k least k_in at) in
    let root : get_or roots k 0 ≤ k = root_within parents forest k k_in in
    omega (arith, is, root, k_in) in
    let last : (k least : ℕ) → n ≤ k → slice_get (roots ++ n ∷ []) k ≡ Some least → (k ≡ n) × (least ≡ n) =
    λ k least past at.
    let k_in = slice_get_within (roots ++ n ∷ []) k least at in
    let here : k ≡ n = omega (arith, all, more, k_in, past) in
    let is : get_or (roots ++ n ∷ []) k least ≡ least = get_or_from_slice_get (roots ++ n ∷ []) k least least at in
    (here, sym is ∙ get_or_at roots n [] least k (all ∙ sym here)) in
    record {
      count = more;
      kept = λ a b h. record { least = h.least; of_a = left a h.least h.of_a; of_b = left b h.least h.of_b };
      no_more = λ a b h. elim (cases_lt a n) [
        | inl a_in ↦ elim (cases_lt b n) [
          | inl b_in ↦ inl (record { least = h.least; of_a = back a h.least a_in h.of_a; of_b = back b h.least b_in h.of_b })
          | inr b_past ↦
              let under = low a h.least a_in h.of_a in
              let own = (last b h.least b_past h.of_b).1 in
              absurd (omega (arith, under, own))
        ]
        | inr a_past ↦ elim (cases_lt b n) [
          | inl b_in ↦
              let under = low b h.least b_in h.of_b in
              let own = (last a h.least a_past h.of_a).1 in
              absurd (omega (arith, under, own))
          | inr b_past ↦ inr ((last a h.least a_past h.of_a).0 ∙ sym (last b h.least b_past h.of_b).0)
        ]
      ];
    }
