-- A search on its way: how it begins, its next level, and what it finds.
use Rattle.std.proofs.Common.{◌≡◌, ℕ, ◌+◌, ◌<◌, ◌≤◌, Bool, false, List, [], length, Contains, None, inl, inr, sym, ◌∙◌, arith}
use Rattle.std.proofs.lemmas.Bool.{cases_lt, cases_eq, false≢true}
use Rattle.std.proofs.lemmas.List.Sums.{count_by-le-length}
use Rattle.leg_lemmas.proofs.Contents.{Contains-nil}
use Rattle.leg_route_search.specs.declared.mark.Mark.{Mark}
use Rattle.leg_route_search.specs.declared.mark.Mark.TheVariants.{Unseen, Shut, Reached, Far}
use Rattle.leg_route_search.specs.Steps.Marks.{is_unseen, AreUnseen, IsMark, IsAt}
use Rattle.leg_route_search.specs.Steps.Spread.{IsNew, IsSpread}
use Rattle.leg_route_search.specs.Steps.Search.{IsSearchSoFar, IsNearestSoFar, IsFound}
use Rattle.leg_route_search.proofs.NewMarks.{unseen_no_mark}
use Rattle.leg_route_search.proofs.ReachedEnds.{walk_open, bound_holds, end_reached, all_reached}

module _ (Open : ℕ → Type 0) (Step : ℕ → ℕ → Type 0) (Start End : ℕ → Type 0) (bound : ℕ → ℕ) (limit : ℕ) where
  -- an open node with a new mark is reached
  new_at : (Tried : ℕ → ℕ → Type 0) (level : ℕ) (next : List ℕ) (marks : List Mark) (a : ℕ) (m : Mark) → Open a → IsMark marks a m
      → IsNew Open Tried limit level next a m → IsAt marks a level
  new_at Tried level next marks a Unseen is_open is n = absurd n
  new_at Tried level next marks a Shut is_open is n = absurd (n is_open)
  new_at Tried level next marks a (Reached k from) is_open is n = (from, rw (← n.0) is)
  new_at Tried level next marks a (Far steps) is_open is n = absurd n

  -- the starts alone are marked
  pub underway_begun : (marks marks2 : List Mark) (next2 : List ℕ) (left2 : Bool) → AreUnseen marks
      → IsSpread Open (λ _ b. Start b) bound limit 0 marks [] false marks2 next2 left2 → IsSearchSoFar Open Step Start End bound limit 0 marks2 next2 left2
  underway_begun marks marks2 next2 left2 unseen s =
      let is_new : (a : ℕ) (m : Mark) → IsMark marks2 a m → IsNew Open (λ _ b. Start b) limit 0 next2 a m = λ a m is.
      elim (s.new a m is) [ inl old ↦ absurd (unseen_no_mark marks a m unseen old) | inr n ↦ n ] in record {
        linked = λ a level from is. let n = is_new a (Reached level from) is in (n.2, inl (n.0, n.3));
        shut = λ a is. is_new a Shut is;
        none_far = λ a steps is. is_new a (Far steps) is;
        begun = λ a start is_open near.
            let seen = s.tried a a start (λ was. omega (arith, near was)) in
            new_at (λ _ b. Start b) 0 next2 marks2 a seen.0 is_open seen.1 (is_new a seen.0 seen.1);
        low = λ a level is. let n = is_new a (Reached level is.0) is.1 in (omega (arith, n.0), omega (arith, n.0, n.1));
        in_front = λ a is. let n = is_new a (Reached 0 is.0) is.1 in n.4;
        front_at = λ a there. elim (s.next_more a there) [ inl old ↦ absurd (Contains-nil a old) | inr is ↦ is ];
        followed = λ a b level is below step is_open near. absurd (omega arith);
        no_end = λ a level is below is_end. omega arith;
        few = omega (arith, s.fewer, s.count, count_by-le-length is_unseen marks);
      }

  -- an open node that has a mark when a level is done is reached at it or below
  reached_next : (d level : ℕ) (marks : List Mark) (front : List ℕ) (left : Bool) (marks2 : List Mark) (next2 : List ℕ) (left2 : Bool)
      → IsSearchSoFar Open Step Start End bound limit d marks front left
      → IsSpread Open (λ a b. Contains front a × Step a b) bound limit (d + 1) marks [] left marks2 next2 left2 → level ≡ d
      → (b : ℕ) (m : Mark) → Open b → IsMark marks2 b m → (j : ℕ) × IsAt marks2 b j × (j ≤ level + 1)
  reached_next d level marks front left marks2 next2 left2 u s same b Unseen is_open is = absurd (false≢true (sym is.seen))
  reached_next d level marks front left marks2 next2 left2 u s same b Shut is_open is =
      elim (s.new b Shut is) [ inl old ↦ absurd (u.shut b old is_open) | inr n ↦ absurd (n is_open) ]
  reached_next d level marks front left marks2 next2 left2 u s same b (Reached k from) is_open is =
      elim (s.new b (Reached k from) is) [
        | inl old ↦ (k, (from, is), omega (arith, (u.low b k (from, old)).0, same))
        | inr n ↦ (k, (from, is), omega (arith, n.0, same))
      ]
  reached_next d level marks front left marks2 next2 left2 u s same b (Far steps) is_open is =
      elim (s.new b (Far steps) is) [ inl old ↦ absurd (u.none_far b steps old) | inr n ↦ absurd n ]

  -- one level more
  pub underway_more : (d : ℕ) (marks : List Mark) (front : List ℕ) (left : Bool) (marks2 : List Mark) (next2 : List ℕ) (left2 : Bool)
      → 0 < length front → ((a : ℕ) → End a → IsAt marks a d → ⊥)
      → IsSearchSoFar Open Step Start End bound limit d marks front left
      → IsSpread Open (λ a b. Contains front a × Step a b) bound limit (d + 1) marks [] left marks2 next2 left2
      → IsSearchSoFar Open Step Start End bound limit (d + 1) marks2 next2 left2
  underway_more d marks front left marks2 next2 left2 some none u s =
      let old_at : (a level : ℕ) → IsAt marks2 a level → level < d + 1 → IsAt marks a level = λ a level is below.
      elim (s.new a (Reached level is.0) is.1) [ inl old ↦ (is.0, old) | inr n ↦ absurd (omega (arith, n.0)) ] in
      let at_kept : (a level : ℕ) → IsAt marks a level → IsAt marks2 a level = λ a level is. (is.0, s.kept a (Reached level is.0) is.1) in
      let at_kept_below : (b k : ℕ) → ((j : ℕ) × IsAt marks b j × (j ≤ k)) → (j : ℕ) × IsAt marks2 b j × (j ≤ k) = λ b k found.
      (found.0, at_kept b found.0 found.1, found.2) in record {
        linked = λ a level from is. elim (s.new a (Reached level from) is) [
          | inl old ↦ let was = u.linked a level from old in (
            was.0,
            elim was.1 [
              | inl start ↦ inl start
              | inr link ↦ inr (record { below = link.below; level_is = link.level_is; from_at = at_kept from link.below link.from_at; step = link.step })
            ],
          )
          | inr n ↦ (n.2, inr (record { below = d; level_is = n.0; from_at = at_kept from d (u.front_at from n.3.0); step = n.3.1 }))
        ];
        shut = λ a is is_open. elim (s.new a Shut is) [ inl old ↦ u.shut a old is_open | inr n ↦ n is_open ];
        none_far = λ a steps is. elim (s.new a (Far steps) is) [ inl old ↦ u.none_far a steps old | inr n ↦ n ];
        begun = λ a start is_open near. at_kept a 0 (u.begun a start is_open (λ was. near (s.left_kept was)));
        low = λ a level is. elim (s.new a (Reached level is.0) is.1) [
          | inl old ↦ let was = u.low a level (is.0, old) in (omega (arith, was.0), was.1)
          | inr n ↦ (omega (arith, n.0), omega (arith, n.0, n.1))
        ];
        in_front = λ a is. elim (s.new a (Reached (d + 1) is.0) is.1) [
          | inl old ↦ absurd (omega (arith, (u.low a (d + 1) (is.0, old)).0))
          | inr n ↦ n.4
        ];
        front_at = λ a there. elim (s.next_more a there) [ inl old ↦ absurd (Contains-nil a old) | inr is ↦ is ];
        followed = λ a b level is below step is_open near.
            let old = old_at a level is below in
            elim (cases_lt level d) [
              | inl lower ↦ at_kept_below b (level + 1) (u.followed a b level old lower step is_open (λ was. near (s.left_kept was)))
              | inr top ↦
                  let same : level ≡ d = omega (arith, top, below) in
                  let there : Contains front a = u.in_front a (rw same at old) in
                  let seen = s.tried a b (there, step) (λ was. omega (arith, near was)) in
                  reached_next d level marks front left marks2 next2 left2 u s same b seen.0 is_open seen.1
            ];
        no_end = λ a level is below is_end.
            let old = old_at a level is below in
            elim (cases_lt level d) [
              | inl lower ↦ u.no_end a level old lower is_end
              | inr top ↦ let same : level ≡ d = omega (arith, top, below) in none a is_end (rw same at old)
            ];
        few = omega (arith, u.few, s.fewer, s.count, some);
      }

  module _ (nearer : (a b : ℕ) → Step a b → bound a ≤ bound b + 1) (at_end : (b : ℕ) → End b → bound b ≡ 0) where
    -- an end in front is a nearest one
    pub nearest_found : (d : ℕ) (marks : List Mark) (front : List ℕ) (left : Bool) (end : ℕ)
        → IsSearchSoFar Open Step Start End bound limit d marks front left → End end → IsAt marks end d → IsNearestSoFar Open Step Start End marks end
    nearest_found d marks front left end u is_end end_at = record {
      level = d;
      is_end = is_end;
      end_at = end_at;
      linked = u.linked;
      least = λ a b nodes start stop walk. elim (cases_lt d (length nodes)) [
        | inl longer ↦ omega (arith, longer)
        | inr short ↦
            let low = (u.low end d end_at).1 in
            let left_over : bound a + 1 ≤ length nodes = bound_holds bound nearer (at_end b stop) walk in
            let begun = u.begun a start (walk_open walk) (λ _. omega (arith, left_over, short, low)) in
            let found =
            end_reached bound d marks nearer
            (λ x y level is step is_open near. u.followed x y level is (omega (arith, near)) step is_open (λ _. omega (arith, near, low)))
            0 (at_end b stop) begun (omega (arith, short)) walk in
            absurd (u.no_end b found.0 found.1 (omega (arith, found.2, short)) stop)
      ];
    }

  -- With nothing in front and nothing left out there is no walk.
  pub none_found : (d : ℕ) (marks : List Mark) (front : List ℕ) (left : Bool)
      → IsSearchSoFar Open Step Start End bound limit d marks front left → length front ≡ 0 → IsFound Open Step Start End marks left None
  none_found d marks front left u empty all a b nodes start stop walk =
      let below : (x level : ℕ) → IsAt marks x level → level < d = λ x level is. elim (cases_eq level d) [
        | inl same ↦ absurd (omega (arith, empty, (u.in_front x (rw same at is)).1))
        | inr other ↦ omega (arith, (u.low x level is).0, other)
      ] in
      let begun = u.begun a start (walk_open walk) (λ was. absurd (false≢true (sym all ∙ was))) in
      let found = all_reached marks (λ x y level is step is_open.
      let next = u.followed x y level is (below x level is) step is_open (λ was. absurd (false≢true (sym all ∙ was))) in (next.0, next.1)) 0 begun walk in
      u.no_end b found.0 found.1 (below b found.0 found.1) stop
