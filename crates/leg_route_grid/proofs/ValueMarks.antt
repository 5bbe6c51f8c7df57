-- Marks of values, set one after another.
use Rattle.std.proofs.Common.{◌≡◌, ℕ, ◌+◌, ◌<◌, ◌≤◌, ◌⊎◌, inl, inr, ℤ, ◌<ℤ◌, Bool, true, false, true≢false, List, [], ◌∷◌, ◌++◌, AllPairs, Contains, Some, slice_get, slice_set, length, length-set, take, get_or, replicate, refl, sym, ◌∙◌, arith}
use Rattle.std.proofs.lemmas.Int.{ints}
use Rattle.std.proofs.lemmas.Bool.{cases_eq}
use Rattle.std.proofs.lemmas.List.{take_more, length-replicate, get_or-replicate}
use Rattle.std.proofs.lemmas.List.Elements.{Contains-append_left, Contains-push, Contains-push_cases}
use Rattle.std.proofs.lemmas.Option.{slice_get_within, slice_get-get_or, get_or_from_slice_get}
use Rattle.leg_lemmas.proofs.Places.{slice_set_here, slice_set_elsewhere}
use Rattle.leg_design_records.specs.declared.records.Axis.{Axis}
use Rattle.leg_design_records.specs.Records.{TrackModel, DesignModel}
use Rattle.leg_geom.specs.Line.{ArePlaces}
use Rattle.leg_route_grid.specs.Steps.Lines.{IsTrackAt, HaveMarked}
use Rattle.leg_route_grid.specs.Steps.TrackMarks.{AreTrackMarks}

-- the mark of one value
module _ (values : List ℤ) (value : ℤ) (first end : ℕ) (places : ArePlaces values value value first end) (marks : List Bool) where
  one_there : (i : ℕ) → slice_get values i ≡ Some value → (first ≤ i) × (i < end)
  one_there i there = (places.first_in i value there (omega (arith, ints)), places.end_in i value there (omega (arith, ints)))

  module _ (rising : AllPairs (λ a b. a <ℤ b) values) (some : first < end) where
    -- the first of the places is the only one
    at_first : (i : ℕ) → slice_get values i ≡ Some value → i ≡ first
    at_first i there = elim (cases_eq i first) [
      | inl same ↦ same
      | inr other ↦ absurd (
          let from = (one_there i there).0 in
          let within = slice_get_within values i value there in
          let less = rising first i value (omega (arith, from, other)) within in
          let least = places.low_in first (get_or values first value) (slice_get-get_or values first value (omega (arith, from, within))) (omega arith) in
          let is : get_or values i value ≡ value = get_or_from_slice_get values i value value there in
          omega (arith, ints, less, least, is)
          )
    ]

    value_at : (z : ℤ) → slice_get values first ≡ Some z → z ≡ value
    value_at z there =
        let least = places.low_in first z there (omega arith) in
        let most = places.high_in first z there some in
        omega (arith, ints, least, most)

    pub one_marked : length marks ≡ length values → HaveMarked values (λ z. z ≡ value) marks (slice_set marks first true)
    one_marked count = record {
      count = length-set marks first true;
      each = λ i z there. elim (cases_eq i first) [
        | inl same ↦ (
          λ set. inr (value_at z (rw same at there)),
          λ either. rw same (slice_set_here marks first true (let within = places.within in omega (arith, within, some, count))),
        )
        | inr other ↦ (
          λ set. inl (sym (slice_set_elsewhere marks first i true other) ∙ set),
          elim [ inl set ↦ slice_set_elsewhere marks first i true other ∙ set | inr is ↦ absurd (other (at_first i (rw is at there))) ],
        )
      ];
    }

-- some marks after others
module _ (values : List ℤ) where
  pub marked_then : (P Q R : ℤ → Type 0) (a b c : List Bool) → ((z : ℤ) → R z → P z ⊎ Q z) → ((z : ℤ) → P z → R z) → ((z : ℤ) → Q z → R z)
      → HaveMarked values P a b → HaveMarked values Q b c → HaveMarked values R a c
  marked_then P Q R a b c from left right first then = record {
    count = then.count ∙ first.count;
    each = λ i z there. (
      λ set. elim ((then.each i z there).0 set) [
        | inl before ↦ elim ((first.each i z there).0 before) [ inl old ↦ inl old | inr p ↦ inr (left z p) ]
        | inr q ↦ inr (right z q)
      ],
      elim [
        | inl old ↦ (then.each i z there).1 (inl ((first.each i z there).1 (inl old)))
        | inr r ↦ elim (from z r) [ inl p ↦ (then.each i z there).1 (inl ((first.each i z there).1 (inr p))) | inr q ↦ (then.each i z there).1 (inr q) ]
      ],
    );
  }

-- the tracks of a design
module _ (values : List ℤ) (number : ℕ) (axis : Axis) where
  -- one of these tracks lies at z
  pub record IsTrackAmong (tracks : List TrackModel) (z : ℤ) : Type 0 where
    pub track : TrackModel
    pub given : Contains tracks track
    pub is : IsTrackAt number axis z track

  abbrev pub unset : List Bool
  unset = replicate (length values) false

  pub one_track_marked : (tracks : List TrackModel) (i : ℕ) (track : TrackModel) (mid after : List Bool) → i < length tracks → get_or tracks i track ≡ track
      → HaveMarked values (IsTrackAmong (take i tracks)) unset mid → HaveMarked values (λ z. IsTrackAt number axis z track) mid after
      → HaveMarked values (IsTrackAmong (take (i + 1) tracks)) unset after
  one_track_marked tracks i track mid after within is are more = rw longer (
      marked_then values (IsTrackAmong (take i tracks)) (λ z. IsTrackAt number axis z track) (IsTrackAmong (take i tracks ++ track ∷ [])) unset mid after
      (λ z among. elim (Contains-push_cases (take i tracks) track among.track among.given) [
        | inl old ↦ inl (record { track = among.track; given = old; is = among.is })
        | inr same ↦ inr (rw same among.is)
      ])
      (λ z among. record { track = among.track; given = Contains-append_left (take i tracks) (track ∷ []) among.track among.given; is = among.is })
      (λ z at_z. record { track = track; given = Contains-push (take i tracks) track; is = at_z })
      are more
      ) where
        longer : take (i + 1) tracks ≡ take i tracks ++ track ∷ []
        longer = take_more tracks i track within ∙ rw is refl

  never_set : (i : ℕ) → slice_get unset i ≡ Some true → ⊥
  never_set i set =
      let within = slice_get_within unset i true set in
      let below : i < length values = omega (arith, within, length-replicate (length values) false) in
      true≢false (sym (get_or_from_slice_get unset i true false set) ∙ get_or-replicate (length values) i false false below)

  pub marks_are : (design : DesignModel) (marks : List Bool) → HaveMarked values (IsTrackAmong design.tracks) unset marks
      → AreTrackMarks design number axis values marks
  marks_are design marks are = record {
    count = are.count ∙ length-replicate (length values) false;
    each = λ i z there. (
      λ set. elim ((are.each i z there).0 set) [
        | inl old ↦ absurd (never_set i old)
        | inr among ↦ record { track = among.track; given = among.given; along = among.is.along; are_for = among.is.are_for; line = among.is.line }
      ],
      λ has. (are.each i z there).1 (inr (record {
        track = has.track;
        given = has.given;
        is = record { along = has.along; are_for = has.are_for; line = has.line };
      })),
    );
  }
