-- The root of each number's tree: how it is known, and what a change of one parent makes of it.
use Rattle.std.proofs.Common.{◌≡◌, ◌≢◌, ℕ, zero, suc, ◌+◌, ◌<◌, ◌≤◌, List, [], ◌∷◌, ◌++◌, length, drop, map, get_or, set, cond, nat_eq, inl, inr, refl, sym, ap, ◌∙◌, arith}
use Rattle.std.proofs.lemmas.Bool.{cases_eq}
use Rattle.std.proofs.lemmas.Bool.Decides.{nat_tests}
use Rattle.std.proofs.lemmas.List.{length_push, length-map, length-set, drop_all, get_or_append_left, get_or_at, get_or_past, get_or_default, get_or-map, get_or-set_same, get_or-set_other, ext_get_or}
use Rattle.std.proofs.lemmas.List.FromFn.{length-range_with_len, get_or-range_with_len}
use Rattle.std.specs.List.{range_with_len}
use Rattle.leg_wire.specs.Steps.NumberSets.{AreParents, roots_after, roots_of}

length-roots_after : (roots parents : List ℕ) → length (roots_after roots parents) ≡ length roots + length parents
length-roots_after roots [] = omega arith
length-roots_after roots (p ∷ ps) =
    let more = length_push roots (get_or roots p p) in
    let rest = length-roots_after (roots ++ get_or roots p p ∷ []) ps in
    omega (arith, more, rest)

-- the roots that are known stay
known_stay : (roots parents : List ℕ) (k d : ℕ) → k < length roots → get_or (roots_after roots parents) k d ≡ get_or roots k d
known_stay roots [] k d within = refl
known_stay roots (p ∷ ps) k d within =
    let root = get_or roots p p in
    let more : length (roots ++ root ∷ []) ≡ length roots + 1 = length_push roots root in
    known_stay (roots ++ root ∷ []) ps k d (omega (arith, more, within)) ∙ get_or_append_left roots (root ∷ []) d k within

-- the root of the number behind them
next_root : (roots : List ℕ) (p : ℕ) (ps : List ℕ) (d : ℕ) → get_or (roots_after roots (p ∷ ps)) (length roots) d ≡ get_or roots p p
next_root roots p ps d =
    let root = get_or roots p p in
    let more : length (roots ++ root ∷ []) ≡ length roots + 1 = length_push roots root in
    known_stay (roots ++ root ∷ []) ps (length roots) d (omega (arith, more)) ∙ get_or_at roots root [] d (length roots) refl

-- a number that is its own parent
own_after : (roots parents : List ℕ) (k n : ℕ) → n ≡ length roots + k → k < length parents → get_or parents k 0 ≡ n → get_or (roots_after roots parents) n 0 ≡ n
own_after roots [] k n at within is = absurd (omega (arith, within))
own_after roots (p ∷ ps) zero n at within is =
    let here : n ≡ length roots = omega (arith, at) in
    let own : p ≡ length roots = omega (arith, is, here) in
    rw here (next_root roots p ps 0 ∙ get_or_past roots p p (omega (arith, own)) ∙ own)
own_after roots (p ∷ ps) (suc k) n at within is =
    let root = get_or roots p p in
    let more : length (roots ++ root ∷ []) ≡ length roots + 1 = length_push roots root in
    own_after (roots ++ root ∷ []) ps k n (omega (arith, at, more)) (omega (arith, within)) is

-- a number whose parent is below it
below_after : (roots parents : List ℕ) (k n : ℕ) → n ≡ length roots + k → k < length parents → get_or parents k 0 < n
    → get_or (roots_after roots parents) n 0 ≡ get_or (roots_after roots parents) (get_or parents k 0) 0
below_after roots [] k n at within low = absurd (omega (arith, within))
below_after roots (p ∷ ps) zero n at within low =
    let here : n ≡ length roots = omega (arith, at) in
    let under : p < length roots = omega (arith, low, here) in
    rw here (next_root roots p ps 0 ∙ get_or_default roots p p 0 under ∙ sym (known_stay roots (p ∷ ps) p 0 under))
below_after roots (p ∷ ps) (suc k) n at within low =
    let root = get_or roots p p in
    let more : length (roots ++ root ∷ []) ≡ length roots + 1 = length_push roots root in
    below_after (roots ++ root ∷ []) ps k n (omega (arith, at, more)) (omega (arith, within)) low

-- the number's root is the number where it is its own parent, and the parent's where that is below it
pub record IsRootAt (parents roots : List ℕ) (k : ℕ) : Type 0 where
  pub own : get_or parents k 0 ≡ k → get_or roots k 0 ≡ k
  pub below : get_or parents k 0 < k → get_or roots k 0 ≡ get_or roots (get_or parents k 0) 0

pub length-roots_of : (parents : List ℕ) → length (roots_of parents) ≡ length parents
unfolding roots_of
length-roots_of parents = let all = length-roots_after [] parents in omega (arith, all)

pub rooted : (parents : List ℕ) (k : ℕ) → k < length parents → IsRootAt parents (roots_of parents) k
unfolding roots_of
rooted parents k within = record {
  own = λ is. own_after [] parents k k (omega arith) within is;
  below = λ low. below_after [] parents k k (omega arith) within low;
}

pub roots_begun : (parents : List ℕ) → roots_after [] (drop 0 parents) ≡ roots_of parents
unfolding roots_of
roots_begun parents = refl

-- all numbers have theirs
pub roots_done : (parents roots : List ℕ) (i : ℕ) → length parents ≤ i → roots_after roots (drop i parents) ≡ roots_of parents → roots ≡ roots_of parents
roots_done parents roots i all so_far = rw (drop_all i parents all) at so_far

module _ (parents : List ℕ) (forest : AreParents parents) where
  -- that alone says what the roots are
  same_roots : (r s : List ℕ) → ((k : ℕ) → k < length parents → IsRootAt parents r k) → ((k : ℕ) → k < length parents → IsRootAt parents s k) → (end k : ℕ)
      → k < end → k < length parents → get_or r k 0 ≡ get_or s k 0
  same_roots r s of_r of_s zero k before within = absurd (omega (arith, before))
  same_roots r s of_r of_s (suc end) k before within =
      elim (cases_eq (get_or parents k 0) k) [
        | inl is ↦ (of_r k within).own is ∙ sym ((of_s k within).own is)
        | inr other ↦
            let parent : get_or parents k 0 ≤ k = forest k within in
            let low : get_or parents k 0 < k = omega (arith, parent, other) in
            (of_r k within).below low
            ∙ same_roots r s of_r of_s end (get_or parents k 0) (omega (arith, low, before)) (omega (arith, low, within))
            ∙ sym ((of_s k within).below low)
      ]

  pub roots_are : (roots : List ℕ) → length roots ≡ length parents → ((k : ℕ) → k < length parents → IsRootAt parents roots k) → roots_of parents ≡ roots
  roots_are roots many are =
      let all : length (roots_of parents) ≡ length parents = length-roots_of parents in
      ext_get_or 0 (roots_of parents) roots (all ∙ sym many)
      (λ k within. same_roots (roots_of parents) roots (rooted parents) are (suc k) k (omega arith) (omega (arith, all, within)))

  -- a root is no greater than the number, and its own parent
  root_and_own : (end k : ℕ) → k < end → k < length parents
      → (get_or (roots_of parents) k 0 ≤ k) × (get_or parents (get_or (roots_of parents) k 0) 0 ≡ get_or (roots_of parents) k 0)
  root_and_own zero k before within = absurd (omega (arith, before))
  root_and_own (suc end) k before within =
      elim (cases_eq (get_or parents k 0) k) [
        | inl is ↦
            let root : get_or (roots_of parents) k 0 ≡ k = (rooted parents k within).own is in
            (omega (arith, root), rw root is)
        | inr other ↦
            let parent : get_or parents k 0 ≤ k = forest k within in
            let low : get_or parents k 0 < k = omega (arith, parent, other) in
            let root : get_or (roots_of parents) k 0 ≡ get_or (roots_of parents) (get_or parents k 0) 0 = (rooted parents k within).below low in
            let above = root_and_own end (get_or parents k 0) (omega (arith, low, before)) (omega (arith, low, within)) in
            (omega (arith, root, above.0, low), rw root above.1)
      ]

  pub root_within : (k : ℕ) → k < length parents → get_or (roots_of parents) k 0 ≤ k
  root_within k within = (root_and_own (suc k) k (omega arith) within).0

  pub root_own : (k : ℕ) → k < length parents → get_or parents (get_or (roots_of parents) k 0) 0 ≡ get_or (roots_of parents) k 0
  root_own k within = (root_and_own (suc k) k (omega arith) within).1

  -- a number gets its parent's parent
  module _ (k : ℕ) (within : k < length parents) where
    abbrev parent : ℕ
    parent = get_or parents k 0

    abbrev grand : ℕ
    grand = get_or parents parent 0

    parent_low : parent ≤ k
    parent_low = forest k within

    grand_low : grand ≤ parent
    grand_low = forest parent (omega (arith, parent_low, within))

    pub forest_halved : AreParents (set parents k grand)
    forest_halved j j_in =
        let many : length (set parents k grand) ≡ length parents = length-set parents k grand in
        elim (cases_eq j k) [
          | inl same ↦
              let is : get_or (set parents k grand) k 0 ≡ grand = get_or-set_same parents k grand 0 within in
              rw same (omega (arith, is, grand_low, parent_low))
          | inr other ↦
              let is : get_or (set parents k grand) j 0 ≡ get_or parents j 0 = get_or-set_other parents k j grand 0 other in
              let low : get_or parents j 0 ≤ j = forest j (omega (arith, many, j_in)) in
              omega (arith, is, low)
        ]

    -- by which the root is the same
    pub root_by_grand : grand < k → get_or (roots_of parents) k 0 ≡ get_or (roots_of parents) grand 0
    root_by_grand low =
        elim (cases_eq parent k) [
          | inl own ↦
              let is : grand ≡ parent = ap (λ n. get_or parents n 0) own in
              absurd (omega (arith, is, own, low))
          | inr up ↦
              let parent_less : parent < k = omega (arith, parent_low, up) in
              let first : get_or (roots_of parents) k 0 ≡ get_or (roots_of parents) parent 0 = (rooted parents k within).below parent_less in
              elim (cases_eq grand parent) [
                | inl top ↦ first ∙ ap (λ n. get_or (roots_of parents) n 0) (sym top)
                | inr more ↦
                    first ∙ (rooted parents parent (omega (arith, parent_less, within))).below (omega (arith, grand_low, more))
              ]
        ]

    halved_here : IsRootAt (set parents k grand) (roots_of parents) k
    halved_here =
        let is : get_or (set parents k grand) k 0 ≡ grand = get_or-set_same parents k grand 0 within in
        record {
          own = λ own. (rooted parents k within).own (omega (arith, is, own, grand_low, parent_low));
          below = λ low. root_by_grand (omega (arith, is, low)) ∙ ap (λ n. get_or (roots_of parents) n 0) (sym is);
        }

    halved_at : (j : ℕ) → j < length (set parents k grand) → IsRootAt (set parents k grand) (roots_of parents) j
    halved_at j j_in =
        let many : length (set parents k grand) ≡ length parents = length-set parents k grand in
        elim (cases_eq j k) [
          | inl same ↦ rw same halved_here
          | inr other ↦
              let is : get_or (set parents k grand) j 0 ≡ get_or parents j 0 = get_or-set_other parents k j grand 0 other in
              let at = rooted parents j (omega (arith, many, j_in)) in
              record {
                own = λ own. at.own (sym is ∙ own);
                below = λ low. at.below (omega (arith, is, low)) ∙ ap (λ n. get_or (roots_of parents) n 0) (sym is);
              }
        ]

-- halving changes no root
pub roots_halved : (parents : List ℕ) → AreParents parents → (k : ℕ) → k < length parents
    → roots_of (set parents k (get_or parents (get_or parents k 0) 0)) ≡ roots_of parents
roots_halved parents forest k within =
    let grand = get_or parents (get_or parents k 0) 0 in
    roots_are (set parents k grand) (forest_halved parents forest k within) (roots_of parents)
    (length-roots_of parents ∙ sym (length-set parents k grand)) (halved_at parents forest k within)

-- the high number's place is taken by the low one
abbrev pub merged : ℕ → ℕ → ℕ → ℕ
merged low high root = cond (nat_eq root high) low root

pub merged-high : (low high root : ℕ) → root ≡ high → merged low high root ≡ low
merged-high low high root is = grind (arith, nat_tests)

pub merged-other : (low high root : ℕ) → root ≢ high → merged low high root ≡ root
merged-other low high root other = grind (arith, nat_tests)

-- a root gets a parent, which is a root no higher
module _ (parents : List ℕ) (forest : AreParents parents) (low high : ℕ) (order : low ≤ high) (within : high < length parents)
    (low_own : get_or parents low 0 ≡ low) (high_own : get_or parents high 0 ≡ high) where
  abbrev linked : List ℕ
  linked = set parents high low

  abbrev roots_merged : List ℕ
  roots_merged = map (merged low high) (roots_of parents)

  many_linked : length linked ≡ length parents
  many_linked = length-set parents high low

  linked_high : get_or linked high 0 ≡ low
  linked_high = get_or-set_same parents high low 0 within

  linked_other : (j : ℕ) → j ≢ high → get_or linked j 0 ≡ get_or parents j 0
  linked_other j other = get_or-set_other parents high j low 0 other

  pub forest_linked : AreParents (set parents high low)
  forest_linked j j_in =
      elim (cases_eq j high) [
        | inl same ↦ rw same (omega (arith, linked_high, order))
        | inr other ↦
            let is = linked_other j other in
            let under : get_or parents j 0 ≤ j = forest j (omega (arith, many_linked, j_in)) in
            omega (arith, is, under)
      ]

  merged_at : (j : ℕ) → j < length parents → get_or roots_merged j 0 ≡ merged low high (get_or (roots_of parents) j 0)
  merged_at j j_in = get_or-map (merged low high) (roots_of parents) j 0 0 (let all = length-roots_of parents in omega (arith, all, j_in))

  root_low : get_or (roots_of parents) low 0 ≡ low
  root_low = (rooted parents low (omega (arith, order, within))).own low_own

  root_high : get_or (roots_of parents) high 0 ≡ high
  root_high = (rooted parents high within).own high_own

  high_is_low : get_or roots_merged high 0 ≡ low
  high_is_low = merged_at high within ∙ merged-high low high (get_or (roots_of parents) high 0) root_high

  linked_here : IsRootAt linked roots_merged high
  linked_here = record {
    own = λ own. high_is_low ∙ sym linked_high ∙ own;
    below = λ less.
        let under : low < high = omega (arith, linked_high, less) in
        let stays : get_or roots_merged low 0 ≡ low =
        merged_at low (omega (arith, under, within))
        ∙ merged-other low high (get_or (roots_of parents) low 0) (λ is. absurd (omega (arith, is, root_low, under)))
        ∙ root_low in
        high_is_low ∙ sym stays ∙ ap (λ n. get_or roots_merged n 0) (sym linked_high);
  }

  linked_at : (j : ℕ) → j < length linked → IsRootAt linked roots_merged j
  linked_at j j_in =
      elim (cases_eq j high) [
        | inl same ↦ rw same linked_here
        | inr other ↦
            let j_under : j < length parents = omega (arith, many_linked, j_in) in
            let is : get_or linked j 0 ≡ get_or parents j 0 = linked_other j other in
            let at = rooted parents j j_under in
            record {
              own = λ own.
                  let root : get_or (roots_of parents) j 0 ≡ j = at.own (sym is ∙ own) in
                  merged_at j j_under ∙ merged-other low high (get_or (roots_of parents) j 0) (λ top. other (sym root ∙ top)) ∙ root;
              below = λ less.
                  let under : get_or parents j 0 < j = omega (arith, is, less) in
                  merged_at j j_under ∙ ap (merged low high) (at.below under)
                  ∙ sym (merged_at (get_or parents j 0) (omega (arith, under, j_under)))
                  ∙ ap (λ n. get_or roots_merged n 0) (sym is);
            }
      ]

  pub roots_linked : roots_of (set parents high low) ≡ map (merged low high) (roots_of parents)
  roots_linked =
      roots_are linked forest_linked roots_merged
      (length-map (roots_of parents) (merged low high) ∙ length-roots_of parents ∙ sym many_linked) linked_at

-- at first each number is its own parent
pub forest_alone : (count : ℕ) → AreParents (range_with_len 0 count)
forest_alone count k within =
    let many : length (range_with_len 0 count) ≡ count = length-range_with_len 0 count in
    let is : get_or (range_with_len 0 count) k 0 ≡ 0 + k = get_or-range_with_len 0 count k 0 (omega (arith, many, within)) in
    omega (arith, is)

pub roots_alone : (count : ℕ) → roots_of (range_with_len 0 count) ≡ range_with_len 0 count
roots_alone count =
    roots_are (range_with_len 0 count) (forest_alone count) (range_with_len 0 count) refl (λ k within. alone k within)
  where
    alone : (k : ℕ) → k < length (range_with_len 0 count) → IsRootAt (range_with_len 0 count) (range_with_len 0 count) k
    alone k within =
        let many : length (range_with_len 0 count) ≡ count = length-range_with_len 0 count in
        let is : get_or (range_with_len 0 count) k 0 ≡ 0 + k = get_or-range_with_len 0 count k 0 (omega (arith, many, within)) in
        record { own = λ own. own; below = λ low. absurd (omega (arith, is, low)) }

-- one number more, which is its own parent
roots_after_push : (roots ps : List ℕ) (q : ℕ) → roots_after roots (ps ++ q ∷ []) ≡ roots_after roots ps ++ get_or (roots_after roots ps) q q ∷ []
roots_after_push roots [] q = refl
roots_after_push roots (p ∷ ps) q = roots_after_push (roots ++ get_or roots p p ∷ []) ps q

pub roots_push : (parents : List ℕ) → roots_of (parents ++ length parents ∷ []) ≡ roots_of parents ++ length parents ∷ []
unfolding roots_of
roots_push parents =
    let many = length-roots_after [] parents in
    roots_after_push [] parents (length parents)
    ∙ ap (λ root. roots_after [] parents ++ root ∷ []) (get_or_past (roots_after [] parents) (length parents) (length parents) (omega (arith, many)))
