-- What is left of sorted spans once those are left out that the last one kept covers.
use Rattle.std.proofs.Common.{◌≡◌, ℕ, ◌+◌, Bool, true, false, cond, IsTrue, pos, ◌≤ℤ◌, List, [], ◌∷◌, ◌++◌, Some, slice_get, length, get_or, All, AllPairs, Contains, IsPermutation, IsSorted, inl, inr, refl, sym, ap, ◌∙◌, arith}
use Rattle.std.specs.Ordering.{is_lt}
use Rattle.std.specs.List.{dedup, dedup_from}
use Rattle.std.proofs.lemmas.Bool.{cases_lt}
use Rattle.std.proofs.lemmas.List.Elements.{All-nil, All-cons, All-head, All-tail, All-push, All-weaker, Contains-append_left, Contains-push}
use Rattle.std.proofs.lemmas.List.Filters.{All-dedup}
use Rattle.std.proofs.lemmas.List.Kept.{AllPairs-cons}
use Rattle.std.proofs.lemmas.List.Sorted.{ranks_by, sorted_far, All-permutation, Contains-permutation}
use Rattle.std.proofs.lemmas.Option.{same_Some, slice_get_within, get_or_from_slice_get}
use Rattle.leg_lemmas.proofs.Contents.{Contains-nil, Contains-here, Contains-there, Contains-cons_cases}
use Rattle.leg_lemmas.proofs.RisingLists.{AllPairs-nil, AllPairs-head, AllPairs-tail}
use Rattle.leg_lemmas.proofs.Places.{place_of_contained}
use Rattle.leg_lib_records.specs.Records.{LibraryModel}
use Rattle.leg_lib_records.specs.declared.records.Site.{Site}
use Rattle.leg_design_records.specs.declared.records.Row.{Row}
use Rattle.leg_place.specs.declared.site_span.SiteSpan.{SiteSpan}
use Rattle.leg_place.specs.Steps.SiteSpan.{span_of, row_box, covers, begins_by}
use Rattle.leg_place.specs.Steps.RowSpans.{IsRowSpan, IsOfSomeRow, AreSpansBelow, Precedes, IsCovered, AreRowSpans}
use Rattle.leg_place.proofs.SpanOrder.{span_cmp, span_total, covers-itself, begins_from_sort, Precedes-itself, precedes_through}

-- a span goes where the last one kept covers it
abbrev pub goes : SiteSpan → SiteSpan → Bool
goes later last = covers last later

abbrev BeginsBy : SiteSpan → SiteSpan → Type 0
BeginsBy a b = IsTrue (begins_by a b)

-- what is left, from the last one kept on, of this one and those behind it
record AreKept (last : SiteSpan) (behind kept : List SiteSpan) : Type 0 where
  first : Contains kept last
  from : All (Precedes last) kept
  in_order : AllPairs Precedes kept
  all : (span : SiteSpan) → Contains behind span → IsCovered kept span

covered_more : (first : SiteSpan) (kept : List SiteSpan) (span : SiteSpan) → IsCovered kept span → IsCovered (first ∷ kept) span
covered_more first kept span c = record { span = c.span; has = Contains-there first kept c.span c.has; has_all = c.has_all }

covered_by : (kept : List SiteSpan) (span wanted : SiteSpan) → Contains kept span → IsTrue (covers span wanted) → IsCovered kept wanted
covered_by kept span wanted has all = record { span = span; has = has; has_all = all }

-- the next span goes, or it is the last one kept from now on
kept_step : (last next : SiteSpan) (behind without with_next : List SiteSpan) (b : Bool) → covers last next ≡ b → IsTrue (begins_by last next)
    → AreKept last behind without → AreKept next behind with_next → AreKept last (next ∷ behind) (cond b without (last ∷ with_next))
kept_step last next behind without with_next true covered begins here there = record {
  first = here.first;
  from = here.from;
  in_order = here.in_order;
  all = λ span has. elim (Contains-cons_cases next behind span has) [
    | inl same ↦ rw (← same) (covered_by without last next here.first covered)
    | inr later ↦ here.all span later
  ];
}
kept_step last next behind without with_next false covered begins here there =
    let later : All (Precedes last) with_next =
    All-weaker (Precedes next) (Precedes last) (λ span after. precedes_through last next span begins covered after) with_next there.from in
    record {
      first = Contains-here last with_next;
      from = All-cons (Precedes last) last with_next (Precedes-itself last) later;
      in_order = AllPairs-cons Precedes last with_next later there.in_order;
      all = λ span has. elim (Contains-cons_cases next behind span has) [
        | inl same ↦ rw (← same) (covered_more last with_next next (covered_by with_next next next there.first (covers-itself next)))
        | inr after ↦ covered_more last with_next span (there.all span after)
      ];
    }

kept_from : (last : SiteSpan) (behind : List SiteSpan) → All (BeginsBy last) behind → AllPairs BeginsBy behind
    → AreKept last behind (dedup_from goes last behind)
kept_from last [] begins pairs = record {
  first = Contains-here last [];
  from = All-cons (Precedes last) last [] (Precedes-itself last) (All-nil (Precedes last));
  in_order = AllPairs-cons Precedes last [] (All-nil (Precedes last)) (AllPairs-nil Precedes);
  all = λ span has. absurd (Contains-nil span has);
}
kept_from last (next ∷ behind) begins pairs =
    kept_step last next behind (dedup_from goes last behind) (dedup_from goes next behind) (covers last next) refl
    (All-head (BeginsBy last) next behind begins)
    (kept_from last behind (All-tail (BeginsBy last) next behind begins) (AllPairs-tail BeginsBy next behind pairs))
    (kept_from next behind (AllPairs-head BeginsBy next behind pairs) (AllPairs-tail BeginsBy next behind pairs))

-- the same of a whole list
record ServeAll (spans kept : List SiteSpan) : Type 0 where
  in_order : AllPairs Precedes kept
  all : (span : SiteSpan) → Contains spans span → IsCovered kept span

kept_all : (spans : List SiteSpan) → AllPairs BeginsBy spans → ServeAll spans (dedup goes spans)
kept_all [] pairs = record { in_order = AllPairs-nil Precedes; all = λ span has. absurd (Contains-nil span has) }
kept_all (first ∷ behind) pairs =
    let are = kept_from first behind (AllPairs-head BeginsBy first behind pairs) (AllPairs-tail BeginsBy first behind pairs) in
    record {
      in_order = are.in_order;
      all = λ span has. elim (Contains-cons_cases first behind span has) [
        | inl same ↦ rw (← same) (covered_by (dedup_from goes first behind) first first are.first (covers-itself first))
        | inr later ↦ are.all span later
      ];
    }

begins_sorted : (spans : List SiteSpan) → IsSorted span_cmp spans → AllPairs BeginsBy spans
begins_sorted spans up =
    λ i j d below within.
    begins_from_sort (get_or spans i d) (get_or spans j d)
    (sorted_far (λ x y. is_lt (span_cmp x y)) (ranks_by span_total (λ x. x)) spans up i j d (omega arith) within)

-- the sites of a row are told once
one_span : (library : LibraryModel) (row : Row) (a b : SiteSpan) → IsRowSpan library row a → IsRowSpan library row b → a ≡ b
one_span library row a b is_a is_b =
    let same : is_a.site ≡ is_b.site = same_Some is_a.site is_b.site (sym is_a.there ∙ is_b.there) in
    is_a.is ∙ ap (λ (site : Site). span_of row.site site.size row.orient (row_box row site.size)) same ∙ sym is_b.is

contained_at : (rows : List Row) (i : ℕ) (row : Row) → slice_get rows i ≡ Some row → Contains rows row
contained_at rows i row at = (i, slice_get_within rows i row at, get_or_from_slice_get rows i row row at)

module _ (library : LibraryModel) (rows : List Row) where
  -- the sites of one more row
  pub spans_more : (spans : List SiteSpan) (i : ℕ) (row : Row) (span : SiteSpan) → slice_get rows i ≡ Some row → pos 1 ≤ℤ row.count
      → IsRowSpan library row span → AreSpansBelow library rows i spans → AreSpansBelow library rows (i + 1) (spans ++ span ∷ [])
  spans_more spans i row span at some is done = record {
    each = All-push (IsOfSomeRow library rows) spans span done.each (record { row = row; has = contained_at rows i row at; some = some; is = is });
    all = λ number other told below there told_is. elim (cases_lt number i) [
      | inl earlier ↦ Contains-append_left spans (span ∷ []) told (done.all number other told earlier there told_is)
      | inr late ↦
          let here : number ≡ i = omega arith in
          let same : other ≡ row = same_Some other row (sym there ∙ ap (slice_get rows) here ∙ at) in
          let alike : told ≡ span = one_span library row told span (rw same at told_is) is in
          rw alike (Contains-push spans span)
    ];
  }

  -- the sites of all rows once they are sorted and those that others cover are left out
  pub spans_kept : (spans sorted kept : List SiteSpan) → AreSpansBelow library rows (length rows) spans → IsPermutation spans sorted
      → IsSorted span_cmp sorted → kept ≡ dedup goes sorted → AreRowSpans library rows kept
  spans_kept spans sorted kept are moved up is =
      let serve = kept_all sorted (begins_sorted sorted up) in
      rw is (record {
        each = All-dedup goes (IsOfSomeRow library rows) sorted (All-permutation (IsOfSomeRow library rows) spans sorted moved are.each);
        all = λ row span has told.
            let at = place_of_contained rows row has in
            serve.all span (Contains-permutation spans sorted span moved (are.all at.k row span (slice_get_within rows at.k row at.there) at.there told));
        in_order = serve.in_order;
      })
