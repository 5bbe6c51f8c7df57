-- Which of the spans of rows in order has all sites of another span: the last one that begins by it, if any.
use Rattle.std.proofs.Common.{◌≡◌, ◌↔◌, ℕ, ◌-◌, ◌<◌, ◌≤◌, true, false, IsTrue, List, length, get_or, AllPairs, sym, ap, ◌∙◌, inl, inr, arith}
use Rattle.std.specs.List.Sorted.{IsPartitionPoint}
use Rattle.std.proofs.lemmas.Bool.{cases_lt, false≢true}
use Rattle.std.proofs.lemmas.Int.{ints}
use Rattle.std.proofs.lemmas.List.{get_or_default}
use Rattle.leg_place.specs.declared.site_span.SiteSpan.{SiteSpan}
use Rattle.leg_place.specs.Steps.SiteSpan.{covers, begins_by}
use Rattle.leg_place.specs.Steps.RowSpans.{Precedes, IsCovered}
use Rattle.leg_place.proofs.SpanOrder.{reaches_from_covers, covers_from_reaches, begins_by-trans, begins_left, begins_from_left, line_between, Precedes-itself}

module _ (spans : List SiteSpan) (wanted : SiteSpan) (in_order : AllPairs Precedes spans) where
  precedes_upto : (i j : ℕ) (d : SiteSpan) → i ≤ j → j < length spans → Precedes (get_or spans i d) (get_or spans j d)
  precedes_upto i j d order within =
      elim (cases_lt i j) [
        | inl below ↦ in_order i j d below within
        | inr above ↦ let same : i ≡ j = omega arith in rw same (Precedes-itself (get_or spans j d))
      ]

  -- those that begin by a span stand first
  pub begins_partitioned : (i j : ℕ) (d : SiteSpan) → i ≤ j → j < length spans → begins_by (get_or spans j d) wanted ≡ true
      → begins_by (get_or spans i d) wanted ≡ true
  begins_partitioned i j d order within begins = begins_by-trans (get_or spans i d) (get_or spans j d) wanted (precedes_upto i j d order within).begins begins

  module _ (end : ℕ) (point : IsPartitionPoint (λ span. begins_by span wanted ≡ true) (λ span. begins_by span wanted ≡ false) spans end)
      (bound : end ≤ length spans) where
    -- what covers the span begins by it
    covering_early : (c : IsCovered spans wanted) → c.has.0 < end
    covering_early c =
        let r = reaches_from_covers c.span wanted c.has_all in
        let begins = begins_from_left c.span wanted r.line r.left in
        elim (cases_lt c.has.0 end) [
          | inl early ↦ early
          | inr late ↦
              let out : begins_by (get_or spans c.has.0 c.span) wanted ≡ false = point.1 c.has.0 c.span late c.has.1 in
              absurd (false≢true (sym out ∙ ap (λ (s : SiteSpan). begins_by s wanted) c.has.2 ∙ begins))
        ]

    pub some_begin : IsCovered spans wanted → 0 < end
    some_begin c = omega (arith, covering_early c)

    precedes_last : (c : IsCovered spans wanted) (last : SiteSpan) → c.has.0 < end → end - 1 < length spans → last ≡ get_or spans (end - 1) last
        → Precedes c.span last
    precedes_last c last early within is =
        let first : get_or spans c.has.0 last ≡ c.span = get_or_default spans c.has.0 last c.span c.has.1 ∙ c.has.2 in
        rw (first, ← is) at (precedes_upto c.has.0 (end - 1) last (omega (arith, early)) within)

    begins_last : (last : SiteSpan) → end - 1 < length spans → 0 < end → last ≡ get_or spans (end - 1) last → IsTrue (begins_by last wanted)
    begins_last last within some is = ap (λ (s : SiteSpan). begins_by s wanted) is ∙ point.0 (end - 1) last (omega arith) (omega (arith, some))

    -- and then the last one that does covers it
    last_covers : (last : SiteSpan) → last ≡ get_or spans (end - 1) last → IsCovered spans wanted → IsTrue (covers last wanted)
    last_covers last is c =
        let early = covering_early c in
        let within : end - 1 < length spans = omega (arith, early, bound) in
        let before : Precedes c.span last = precedes_last c last early within is in
        let begins : IsTrue (begins_by last wanted) = begins_last last within (omega (arith, early)) is in
        let r = reaches_from_covers c.span wanted c.has_all in
        let same = line_between c.span last wanted before.begins begins r.line in
        let line : last.line ≡ wanted.line = sym same ∙ r.line in
        covers_from_reaches last wanted (record {
          line = line;
          left = begins_left last wanted line begins;
          right = omega (arith, ints, r.right, before.reaches same);
        })

    covered_from_last : (last : SiteSpan) → 0 < end → last ≡ get_or spans (end - 1) last → IsTrue (covers last wanted) → IsCovered spans wanted
    covered_from_last last some is all = record { span = last; has = (end - 1, omega (arith, some, bound), sym is); has_all = all }

    pub last_covering : 0 < end → (d : SiteSpan) → IsTrue (covers (get_or spans (end - 1) d) wanted) ↔ IsCovered spans wanted
    last_covering some d =
        let last = get_or spans (end - 1) d in
        let is : last ≡ get_or spans (end - 1) last = get_or_default spans (end - 1) d last (omega (arith, some, bound)) in
        (λ all. covered_from_last last some is all, λ covered. last_covers last is covered)
