-- What is free once sites are taken away.
use Rattle.std.proofs.Common.{◌≡◌, ◌⊎◌, ℕ, true, ◌+◌, ◌-◌, ◌<◌, ◌≤◌, List, [], ◌∷◌, ◌++◌, Some, slice_get, take, drop, All, AllPairs, inl, inr, refl, sym, ap, ◌∙◌, arith}
use Rattle.std.specs.Prelude.{nat_lt}
use Rattle.std.proofs.lemmas.Bool.{cases_lt, cases_order}
use Rattle.std.proofs.lemmas.List.Elements.{All-append, All-take, All-drop}
use Rattle.std.proofs.lemmas.Option.{same_Some}
use Rattle.leg_lemmas.proofs.RisingLists.{AllPairs-append}
use Rattle.leg_legal_sites.specs.declared.stretch.Stretch.{Stretch}
use Rattle.leg_legal_sites.specs.Steps.Stretches.{IsFreeSite, AreFreeStretches, IsWithout}
use Rattle.leg_legal_sites.specs.Steps.TakeSites.{IsCutAt, if_any, with_rests}
use Rattle.leg_legal_sites.proofs.OneStretch.{apart_at}
use Rattle.leg_legal_sites.proofs.JoinedStretches.{FreeIn, from_free_in, to_free_in, free_append_cases, free_append_left, free_append_right, at_from_take, take_has, at_from_drop, drop_has, all_take, all_drop, pairs_take, pairs_drop, all_if_any, pairs_if_any, free_in_any, any_has}

pub without_unmet : (free : List Stretch) (from end first last : ℕ) → AreFreeStretches free → IsCutAt free from end first last → last ≤ first
    → IsWithout free from end free
without_unmet free from end first last are cut unmet = record {
  are = are;
  sites = λ k. (
    λ site. (
      site,
      elim (cases_lt site.number first) [
        | inl early ↦
            let upto = cut.before site.number site.stretch early site.there in
            let below = site.below in
            inl (omega arith)
        | inr late ↦
            let begins = cut.after site.number site.stretch (omega arith) site.there in
            let above = site.above in
            inr (omega arith)
      ],
    ),
    λ both. both.0,
  );
}

-- a stretch with two rests is replaced by both
pub both_rests : (first last : ℕ) (left right : Stretch) (free : List Stretch) → first + 1 ≡ last → nat_lt left.from left.end ≡ true
    → nat_lt right.from right.end ≡ true → take first free ++ (left ∷ right ∷ []) ++ drop (first + 1) free ≡ with_rests first last left right free
both_rests first last left right free one l r =
    rw (l, r, one) refl

module _ (free : List Stretch) (from end first last : ℕ) (are : AreFreeStretches free) (cut : IsCutAt free from end first last)
    (order : from < end) (met : first < last) (a b : Stretch) (at_a : slice_get free first ≡ Some a) (at_b : slice_get free (last - 1) ≡ Some b) where
  abbrev left : Stretch
  left = record { from = a.from; end = from }

  abbrev right : Stretch
  right = record { from = end; end = b.end }

  abbrev middle : List Stretch
  middle = if_any left ++ if_any right

  abbrev rest : List Stretch
  rest = with_rests first last left right free

  middle_all : (P : Stretch → Type 0) → P left → P right → All P middle
  middle_all P l r =
      All-append P (if_any left) (if_any right) (all_if_any P left (λ some. l)) (all_if_any P right (λ some. r))

  rest_long : All (λ s. s.from < s.end) rest
  rest_long =
      All-append (λ s. s.from < s.end) (take first free ++ middle) (drop last free)
      (All-append (λ s. s.from < s.end) (take first free) middle (All-take (λ s. s.from < s.end) first free are.long)
      (All-append (λ s. s.from < s.end) (if_any left) (if_any right) (all_if_any (λ s. s.from < s.end) left (λ some. some))
      (all_if_any (λ s. s.from < s.end) right (λ some. some))))
      (All-drop (λ s. s.from < s.end) last free are.long)

  abbrev Apart : Stretch → Stretch → Type 0
  Apart s t = s.end < t.from

  middle_apart : AllPairs Apart middle
  middle_apart =
      AllPairs-append Apart (if_any left) (if_any right) (pairs_if_any Apart left) (pairs_if_any Apart right)
      (all_if_any (λ s. All (Apart s) (if_any right)) left (λ some. all_if_any (Apart left) right (λ other. order)))

  front_apart : AllPairs Apart (take first free ++ middle)
  front_apart =
      AllPairs-append Apart (take first free) middle (pairs_take Apart first free are.apart) middle_apart
      (all_take (λ s. All (Apart s) middle) first free (λ i s before there.
      let upto = cut.before i s before there in
      middle_all (Apart s) (apart_at free are i first s a there at_a before) (omega arith)))

  rest_apart : AllPairs Apart rest
  rest_apart =
      AllPairs-append Apart (take first free ++ middle) (drop last free) front_apart (pairs_drop Apart last free are.apart)
      (All-append (λ s. All (Apart s) (drop last free)) (take first free) middle
      (all_take (λ s. All (Apart s) (drop last free)) first free (λ i s before there.
      all_drop (Apart s) last free (λ j t after at. apart_at free are i j s t there at (omega arith))))
      (middle_all (λ s. All (Apart s) (drop last free))
      (all_drop (Apart left) last free (λ j t after at. let begins = cut.after j t after at in omega arith))
      (all_drop (Apart right) last free (λ j t after at. apart_at free are (last - 1) j b t at_b at (omega arith)))))

  site_in : (k i : ℕ) (s : Stretch) → slice_get free i ≡ Some s → s.from ≤ k → k < s.end → IsFreeSite free k
  site_in k i s there above below = record { number = i; stretch = s; there = there; above = above; below = below }

  from_rest : (k : ℕ) → FreeIn rest k → IsFreeSite free k × ((k < from) ⊎ (end ≤ k))
  from_rest k lies =
      elim (free_append_cases (take first free ++ middle) (drop last free) k lies) [
        | inl front ↦
            elim (free_append_cases (take first free) middle k front) [
              | inl before ↦
                  let at = at_from_take first free before.stretch before.has in
                  let upto = cut.before at.0 before.stretch at.1 at.2.there in
                  let below = before.below in
                  (site_in k at.0 before.stretch at.2.there before.above before.below, inl (omega arith))
              | inr between ↦
                  elim (free_append_cases (if_any left) (if_any right) k between) [
                    | inl on_left ↦
                        let is = free_in_any left k on_left in
                        let beyond = cut.beyond first a (omega arith) at_a in
                        let below : k < from = is.1 in
                        (site_in k first a at_a is.0 (omega arith), inl below)
                    | inr on_right ↦
                        let is = free_in_any right k on_right in
                        let begun = cut.begun (last - 1) b (omega arith) at_b in
                        let above : end ≤ k = is.0 in
                        (site_in k (last - 1) b at_b (omega arith) is.1, inr above)
                  ]
            ]
        | inr after ↦
            let at = at_from_drop last free after.stretch after.has in
            let begins = cut.after at.0 after.stretch at.1 at.2.there in
            let above = after.above in
            (site_in k at.0 after.stretch at.2.there after.above after.below, inr (omega arith))
      ]

  below_rest : (k : ℕ) → IsFreeSite free k → k < from → FreeIn rest k
  below_rest k site below =
      let above = site.above in
      elim (cases_order site.number first) [
        | inl same ↦
            let one : site.stretch ≡ a = same_Some site.stretch a (sym site.there ∙ ap (slice_get free) same ∙ at_a) in
            let begins : site.stretch.from ≡ a.from = ap (λ t. t.from) one in
            free_append_left (take first free ++ middle) (drop last free) k
            (free_append_right (take first free) middle k
            (free_append_left (if_any left) (if_any right) k (any_has left k (omega arith) below)))
        | inr other ↦
            elim other [
              | inl before ↦
                  free_append_left (take first free ++ middle) (drop last free) k
                  (free_append_left (take first free) middle k
                  (record {
                    stretch = site.stretch;
                    has = take_has first free site.number site.stretch before site.there;
                    above = site.above;
                    below = site.below;
                  }))
              | inr after ↦
                  let apart = apart_at free are first site.number a site.stretch at_a site.there after in
                  let beyond = cut.beyond first a (omega arith) at_a in
                  absurd (omega arith)
            ]
      ]

  above_rest : (k : ℕ) → IsFreeSite free k → end ≤ k → FreeIn rest k
  above_rest k site above =
      let below = site.below in
      elim (cases_order site.number (last - 1)) [
        | inl same ↦
            let one : site.stretch ≡ b = same_Some site.stretch b (sym site.there ∙ ap (slice_get free) same ∙ at_b) in
            let ends : site.stretch.end ≡ b.end = ap (λ t. t.end) one in
            free_append_left (take first free ++ middle) (drop last free) k
            (free_append_right (take first free) middle k
            (free_append_right (if_any left) (if_any right) k (any_has right k above (omega arith))))
        | inr other ↦
            elim other [
              | inl before ↦
                  let apart = apart_at free are site.number (last - 1) site.stretch b site.there at_b before in
                  let begun = cut.begun (last - 1) b (omega arith) at_b in
                  absurd (omega arith)
              | inr after ↦
                  free_append_right (take first free ++ middle) (drop last free) k
                  (record {
                    stretch = site.stretch;
                    has = drop_has last free site.number site.stretch (omega arith) site.there;
                    above = site.above;
                    below = site.below;
                  })
            ]
      ]

  pub without_met : IsWithout free from end rest
  without_met = record {
    are = record { long = rest_long; apart = rest_apart };
    sites = λ k. (
      λ site. from_rest k (to_free_in rest k site),
      λ both.
          elim both.1 [
            | inl below ↦ from_free_in rest k (below_rest k both.0 below)
            | inr above ↦ from_free_in rest k (above_rest k both.0 above)
          ],
    );
  }

  -- where one stretch is met, and there are two rests
  pub without_both : first + 1 ≡ last → nat_lt a.from from ≡ true → nat_lt end b.end ≡ true → (new : List Stretch)
      → new ≡ take first free ++ (left ∷ right ∷ []) ++ drop (first + 1) free → IsWithout free from end new
  without_both one l r new is =
      rw (is ∙ both_rests first last left right free one l r) without_met
