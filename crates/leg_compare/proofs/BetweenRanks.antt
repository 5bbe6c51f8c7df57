-- What stands between two ranks: the next difference, if it is one, and otherwise nothing.
use Rattle.std.proofs.Common.{◌≡◌, ℕ, ◌+◌, ◌<◌, ◌≤◌, ◌⊎◌, inl, inr, List, [], ◌∷◌, ◌++◌, length, sym, subst, arith}
use Rattle.std.proofs.lemmas.Bool.{cases_lt}
use Rattle.std.proofs.lemmas.List.Elements.{All-weaker}
use Rattle.leg_design_records.specs.Records.{DesignModel}
use Rattle.leg_rules.specs.declared.difference.Part.{Part}
use Rattle.leg_rules.specs.declared.difference.Section.{Section}
use Rattle.leg_rules.specs.declared.difference.Difference.{Difference}
use Rattle.leg_rules.specs.declared.difference.Difference.TheVariants.{Whole, Gone, Changed, Added}
use Rattle.leg_rules.specs.Compare.Sections.{names_of, IsMissing, AreOfOneName}
use Rattle.leg_rules.specs.Compare.Differences.{IsDifference}
use Rattle.leg_rules.specs.Compare.Order.{part_number, section_number, Rank, rank, IsBelow, AreAllDifferences}
use Rattle.leg_compare.specs.Steps.Listing.{at, AreListedTo}
use Rattle.leg_compare.proofs.DifferenceLists.{listed_on, listed_more}
use Rattle.leg_compare.proofs.Ranks.{same_section, part_low, section_some, section_low, apart, change_low, same_rank, after, below_after, itself_before_after, below_or_at}

-- ranks up to the next entry
entry_on : (r : Rank) (stage n c : ℕ) → IsBelow r (at stage n c) → IsBelow r (at stage (n + 1) 0)
entry_on r stage n c h = record {
  stage = h.stage;
  entry = λ s. omega (arith, h.entry s);
  change = λ s e. absurd (omega (arith, h.entry s, e));
}

entry_or : (r : Rank) (stage n : ℕ) → IsBelow r (at stage (n + 1) 0) → IsBelow r (at stage n 0) ⊎ ((r.stage ≡ stage) × (r.entry ≡ n))
entry_or r stage n h =
    elim (cases_lt r.stage stage) [
      | inl less ↦ inl (record { stage = omega arith; entry = λ s. absurd (omega (arith, s)); change = λ s e. absurd (omega (arith, s)) })
      | inr more ↦ stage_is (omega (arith, h.stage))
    ] where
      stage_is : r.stage ≡ stage → IsBelow r (at stage n 0) ⊎ ((r.stage ≡ stage) × (r.entry ≡ n))
      stage_is s =
          elim (cases_lt r.entry n) [
            | inl less ↦ inl (record { stage = omega (arith, s); entry = λ _. omega arith; change = λ _ e. absurd (omega (arith, e)) })
            | inr more ↦ elim (cases_lt n r.entry) [
              | inl next ↦ absurd (let e : r.entry ≡ n + 1 = omega (arith, h.entry s) in omega (arith, h.change s e))
              | inr same ↦ inr (s, omega arith)
            ]
          ]

change_on : (r : Rank) (stage n c : ℕ) → IsBelow r (at stage n 0) → IsBelow r (at stage n c)
change_on r stage n c h = record { stage = h.stage; entry = h.entry; change = λ s e. absurd (omega (arith, h.change s e)) }

-- ranks up to the next stage
stage_on : (r : Rank) (stage n c : ℕ) → IsBelow r (at stage n c) → IsBelow r (at (stage + 1) 0 0)
stage_on r stage n c h = record {
  stage = omega (arith, h.stage);
  entry = λ s. absurd (omega (arith, h.stage, s));
  change = λ s e. absurd (omega (arith, h.stage, s));
}

stage_low : (r : Rank) (stage : ℕ) → IsBelow r (at (stage + 1) 0 0) → r.stage ≤ stage
stage_low r stage h =
    elim (cases_lt stage r.stage) [
      | inl more ↦ absurd (let s : r.stage ≡ stage + 1 = omega (arith, h.stage) in let e : r.entry ≡ 0 = omega (arith, h.entry s) in
          omega (arith, h.change s e))
      | inr less ↦ less
    ]

-- what is of a lower stage, or of this one and of a lower entry
in_stage : (r : Rank) (stage n : ℕ) → r.stage ≤ stage → (r.stage ≡ stage → r.entry < n) → IsBelow r (at stage n 0)
in_stage r stage n low entry = record {
  stage = low;
  entry = λ s. omega (arith, entry s);
  change = λ s e. absurd (omega (arith, entry s, e));
}

at_entry : (r : Rank) (stage n c : ℕ) → r.stage ≡ stage → r.entry ≡ n → r.change < c → IsBelow r (at stage n c)
at_entry r stage n c s e less = record { stage = omega (arith, s); entry = λ _. omega (arith, e); change = λ _ _. less }

module _ (first second : DesignModel) where
  -- the next one, where it is a difference and where it is none
  pub with_one : (new : Difference) (list : List Difference) → IsDifference first second new
      → AreListedTo first second (rank new) list → AreListedTo first second (after (rank new)) (list ++ new ∷ [])
  with_one new list is listed =
      listed_more first second (rank new) (after (rank new)) list new (λ r h. below_after r (rank new) h) (λ r h. h) (itself_before_after (rank new)) is
      (λ d is_d below. elim (below_or_at (rank d) (rank new) below) [ inl earlier ↦ inl earlier | inr same ↦ inr (same_rank d new same) ]) listed

  pub without_one : (new : Difference) (list : List Difference) → ¬ IsDifference first second new
      → AreListedTo first second (rank new) list → AreListedTo first second (after (rank new)) list
  without_one new list none listed =
      listed_on first second (rank new) (after (rank new)) list (λ r h. below_after r (rank new) h)
      (λ d is_d below. elim (below_or_at (rank d) (rank new) below)
      [ inl earlier ↦ earlier | inr same ↦ absurd (none (subst (λ e. IsDifference first second e) (same_rank d new same) is_d)) ]) listed

  -- nothing is below the first rank, and all below the last
  pub none_listed : AreListedTo first second (at 0 0 0) []
  none_listed = record {
    increasing = λ i j d less within. absurd (omega arith);
    each = λ k d within. absurd (omega arith);
    all = λ d is below. absurd (let s : (rank d).stage ≡ 0 = omega (arith, below.stage) in let e : (rank d).entry ≡ 0 = omega (arith, below.entry s) in
        omega (arith, below.change s e));
  }

  last : (d : Difference) → IsBelow (rank d) (at 11 0 0)
  last (Whole p) = in_stage (rank (Whole p)) 11 0 (omega arith) (λ s. absurd (omega (arith, s)))
  last (Gone s i) = in_stage (rank (Gone s i)) 11 0 (omega (arith, section_low s)) (λ e. absurd (omega (arith, section_low s, e)))
  last (Changed s c i) = in_stage (rank (Changed s c i)) 11 0 (omega (arith, section_low s)) (λ e. absurd (omega (arith, section_low s, e)))
  last (Added s i) = in_stage (rank (Added s i)) 11 0 (omega (arith, section_low s)) (λ e. absurd (omega (arith, section_low s, e)))

  pub all_listed : (list : List Difference) → AreListedTo first second (at 11 0 0) list → AreAllDifferences first second list
  all_listed list listed = record {
    increasing = listed.increasing;
    each = All-weaker (λ d. IsDifference first second d × IsBelow (rank d) (at 11 0 0)) (IsDifference first second) (λ d h. h.0) list listed.each;
    all = λ d is. listed.all d is (last d);
  }

  -- the parts: only parts are of stage 0
  pub part_on : (part : Part) (list : List Difference) → AreListedTo first second (at 0 (part_number part) 1) list
      → AreListedTo first second (at 0 (part_number part + 1) 0) list
  part_on part list listed = listed_on first second (at 0 n 1) (at 0 (n + 1) 0) list (λ r h. entry_on r 0 n 1 h) (λ d is_d below. by d below) listed where
    n : ℕ
    n = part_number part

    by : (d : Difference) → IsBelow (rank d) (at 0 (n + 1) 0) → IsBelow (rank d) (at 0 n 1)
    by (Whole q) below =
        elim (entry_or (rank (Whole q)) 0 n below) [
          | inl earlier ↦ change_on (rank (Whole q)) 0 n 1 earlier
          | inr this ↦ at_entry (rank (Whole q)) 0 n 1 this.0 this.1 (omega arith)
        ]
    by (Gone t j) below = absurd (omega (arith, section_some t, below.stage))
    by (Changed t c j) below = absurd (omega (arith, section_some t, below.stage))
    by (Added t j) below = absurd (omega (arith, below.stage))

  pub parts_end : (list : List Difference) → AreListedTo first second (at 0 7 0) list → AreListedTo first second (at 1 0 0) list
  parts_end list listed = listed_on first second (at 0 7 0) (at 1 0 0) list (λ r h. stage_on r 0 7 0 h)
      (λ d is_d below. by d (stage_low (rank d) 0 below)) listed where
        by : (d : Difference) → (rank d).stage ≤ 0 → IsBelow (rank d) (at 0 7 0)
        by (Whole q) low = in_stage (rank (Whole q)) 0 7 low (λ _. part_low q)
        by (Gone t j) low = absurd (omega (arith, section_some t, low))
        by (Changed t c j) low = absurd (omega (arith, section_some t, low))
        by (Added t j) low = absurd (omega (arith, low))

  module _ (section : Section) (list : List Difference) where
    n : ℕ
    n = section_number section

    -- after an entry that is gone
    pub gone_on : (i : ℕ) → IsMissing section first second i → AreListedTo first second (at (section_number section) i 1) list
        → AreListedTo first second (at (section_number section) (i + 1) 0) list
    unfolding n
    gone_on i missing listed = listed_on first second (at n i 1) (at n (i + 1) 0) list (λ r h. entry_on r n i 1 h)
        (λ d is_d below. by d is_d (entry_or (rank d) n i below)) listed where
          found : (t : Section) (j : ℕ) → t ≡ section → j ≡ i → (k : ℕ) → AreOfOneName t first second j k → ⊥
          found t j same entry k one =
              let there : AreOfOneName section first second i k = subst (λ (s : Section). AreOfOneName s first second i k) same
              (subst (λ (m : ℕ). AreOfOneName t first second m k) entry one) in
              let no : ⊥ = cc (missing.gone, there.found) in no

          by : (d : Difference) → IsDifference first second d → IsBelow (rank d) (at n i 0) ⊎ (((rank d).stage ≡ n) × ((rank d).entry ≡ i))
              → IsBelow (rank d) (at n i 1)
          by d is_d (inl earlier) = change_on (rank d) n i 1 earlier
          by (Whole q) is_d (inr this) = absurd (omega (arith, section_some section, this.0))
          by (Gone t j) is_d (inr this) = at_entry (rank (Gone t j)) n i 1 this.0 this.1 (omega arith)
          by (Changed t c j) is_d (inr this) = absurd (found t j (same_section t section this.0) this.1 is_d.j is_d.one_name)
          by (Added t j) is_d (inr this) = absurd (apart section t (sym this.0))

    -- after all changes of an entry
    pub changes_on : (i : ℕ) → AreListedTo first second (at (section_number section) i 12) list
        → AreListedTo first second (at (section_number section) (i + 1) 0) list
    unfolding n
    changes_on i listed = listed_on first second (at n i 12) (at n (i + 1) 0) list (λ r h. entry_on r n i 12 h)
        (λ d is_d below. by d (entry_or (rank d) n i below)) listed where
          by : (d : Difference) → IsBelow (rank d) (at n i 0) ⊎ (((rank d).stage ≡ n) × ((rank d).entry ≡ i)) → IsBelow (rank d) (at n i 12)
          by d (inl earlier) = change_on (rank d) n i 12 earlier
          by (Whole q) (inr this) = absurd (omega (arith, section_some section, this.0))
          by (Gone t j) (inr this) = at_entry (rank (Gone t j)) n i 12 this.0 this.1 (omega arith)
          by (Changed t c j) (inr this) = at_entry (rank (Changed t c j)) n i 12 this.0 this.1 (change_low c)
          by (Added t j) (inr this) = absurd (apart section t (sym this.0))

    -- after all entries of the first design
    pub entries_end : AreListedTo first second (at (section_number section) (length (names_of section first)) 0) list
        → AreListedTo first second (at (section_number section + 1) 0 0) list
    unfolding n
    entries_end listed = listed_on first second (at n many 0) (at (n + 1) 0 0) list (λ r h. stage_on r n many 0 h)
        (λ d is_d below. in_stage (rank d) n many (stage_low (rank d) n below) (by d is_d)) listed where
          many : ℕ
          many = length (names_of section first)

          by : (d : Difference) → IsDifference first second d → (rank d).stage ≡ n → (rank d).entry < many
          by (Whole q) is_d s = absurd (omega (arith, section_some section, s))
          by (Gone t j) is_d s = subst (λ (u : Section). j < length (names_of u first)) (same_section t section s) is_d.there
          by (Changed t c j) is_d s = subst (λ (u : Section). j < length (names_of u first)) (same_section t section s) is_d.one_name.there
          by (Added t j) is_d s = absurd (apart section t (sym s))

    -- after an entry of the second design, be it added or not
    pub added_on : (j : ℕ) → AreListedTo first second (at (section_number section + 1) j 1) list
        → AreListedTo first second (at (section_number section + 1) (j + 1) 0) list
    unfolding n
    added_on j listed = listed_on first second (at (n + 1) j 1) (at (n + 1) (j + 1) 0) list (λ r h. entry_on r (n + 1) j 1 h)
        (λ d is_d below. by d (entry_or (rank d) (n + 1) j below)) listed where
          by : (d : Difference) → IsBelow (rank d) (at (n + 1) j 0) ⊎ (((rank d).stage ≡ n + 1) × ((rank d).entry ≡ j)) → IsBelow (rank d) (at (n + 1) j 1)
          by d (inl earlier) = change_on (rank d) (n + 1) j 1 earlier
          by (Whole q) (inr this) = absurd (omega (arith, this.0))
          by (Gone t i) (inr this) = absurd (apart t section this.0)
          by (Changed t c i) (inr this) = absurd (apart t section this.0)
          by (Added t i) (inr this) = at_entry (rank (Added t i)) (n + 1) j 1 this.0 this.1 (omega arith)

    -- after all entries of the second design
    pub added_end : AreListedTo first second (at (section_number section + 1) (length (names_of section second)) 0) list
        → AreListedTo first second (at (section_number section + 2) 0 0) list
    unfolding n
    added_end listed =
        subst (λ (m : ℕ). AreListedTo first second (at m 0 0) list) (omega arith)
        (listed_on first second (at (n + 1) many 0) (at (n + 1 + 1) 0 0) list (λ r h. stage_on r (n + 1) many 0 h)
        (λ d is_d below. in_stage (rank d) (n + 1) many (stage_low (rank d) (n + 1) below) (by d is_d)) listed) where
          many : ℕ
          many = length (names_of section second)

          by : (d : Difference) → IsDifference first second d → (rank d).stage ≡ n + 1 → (rank d).entry < many
          by (Whole q) is_d s = absurd (omega (arith, s))
          by (Gone t j) is_d s = absurd (apart t section s)
          by (Changed t c j) is_d s = absurd (apart t section s)
          by (Added t j) is_d s = subst (λ (u : Section). j < length (names_of u second)) (same_section t section (omega (arith, s))) is_d.there
