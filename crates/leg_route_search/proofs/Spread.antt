-- Marks that spread: one node, one step after another, and all sides.
use Rattle.std.proofs.Common.{◌≡◌, ℕ, ◌+◌, ◌≤◌, Bool, false, List, [], ◌∷◌, ◌++◌, length, slice_set, slice_get, Contains, Some, ◌⊎◌, ◌↔◌, inl, inr, refl, ◌∙◌, subst, arith, length-append}
use Rattle.std.proofs.lemmas.List.Elements.{Contains-append_left, Contains-push, Contains-push_cases}
use Rattle.std.proofs.lemmas.Option.{slice_get_within}
use Rattle.std.proofs.Math.ListN.{length-set}
use Rattle.leg_route_search.specs.declared.mark.Mark.{Mark}
use Rattle.leg_route_search.specs.declared.mark.Mark.TheVariants.{Unseen, Shut, Reached, Far}
use Rattle.leg_route_search.specs.Steps.Marks.{is_unseen, IsSeen, IsAt}
use Rattle.leg_route_search.specs.Steps.Spread.{IsNew, IsSpread, IsEntered}
use Rattle.leg_route_search.proofs.NewMarks.{mark_here, mark_kept, mark_cases, one_fewer}

module _ (Open : ℕ → Type 0) (bound : ℕ → ℕ) (limit level : ℕ) where
  -- Each node that was tried has a mark already, or none was tried.
  pub spread_none : (Tried : ℕ → ℕ → Type 0) (marks : List Mark) (next : List ℕ) (left : Bool)
      → ((a b : ℕ) → Tried a b → IsSeen marks b) → IsSpread Open Tried bound limit level marks next left marks next left
  spread_none Tried marks next left seen = record {
    count = refl;
    kept = λ a m is. is;
    new = λ a m is. inl is;
    tried = λ a b t near. seen a b t;
    left_kept = λ was. was;
    left_low = λ was. inl was;
    next_kept = λ a there. there;
    next_more = λ a there. inl there;
    fewer = omega arith;
  }

  -- a new mark says something of the node
  new_seen : (Tried : ℕ → ℕ → Type 0) (next : List ℕ) (a : ℕ) (m : Mark) → IsNew Open Tried limit level next a m → is_unseen m ≡ false
  new_seen Tried next a Unseen n = absurd n
  new_seen Tried next a Shut n = refl
  new_seen Tried next a (Reached k from) n = refl
  new_seen Tried next a (Far steps) n = refl

  -- The node that was tried gets a mark.
  spread_marked : (Tried : ℕ → ℕ → Type 0) (marks : List Mark) (next next2 : List ℕ) (left : Bool) (to : ℕ) (v : Mark)
      → slice_get marks to ≡ Some Unseen → IsNew Open Tried limit level next2 to v
      → ((a b : ℕ) → Tried a b → b ≡ to) → ((a : ℕ) → Contains next a → Contains next2 a)
      → ((a : ℕ) → Contains next2 a → Contains next a ⊎ IsAt (slice_set marks to v) a level) → length next2 ≤ length next + 1
      → IsSpread Open Tried bound limit level marks next left (slice_set marks to v) next2 left
  spread_marked Tried marks next next2 left to v unseen is_new only kept more longer =
      let within = slice_get_within marks to Unseen unseen in
      let seen = new_seen Tried next2 to v is_new in record {
        count = length-set marks to v;
        kept = mark_kept marks to v unseen;
        new = λ a m is. elim (mark_cases marks to v within a m is) [
          | inl old ↦ inl old
          | inr (a_is, m_is) ↦
              let here : IsNew Open Tried limit level next2 a v = rw a_is is_new in
              inr (subst (λ (x : Mark). IsNew Open Tried limit level next2 a x) m_is here)
        ];
        tried = λ a b t near. let b_is = only a b t in rw b_is (v, mark_here marks to v within seen);
        left_kept = λ was. was;
        left_low = λ was. inl was;
        next_kept = kept;
        next_more = more;
        fewer = omega (arith, one_fewer marks to v unseen seen, longer);
      }

  -- The node that was tried is entered, or shut.
  pub spread_entered : (Tried : ℕ → ℕ → Type 0) (from to : ℕ) (IsOpen : Type 0) (marks : List Mark) (next : List ℕ) (marks2 : List Mark) (next2 : List ℕ)
      (left : Bool)
      → slice_get marks to ≡ Some Unseen → level ≤ limit → Tried from to → ((a b : ℕ) → Tried a b → b ≡ to) → (IsOpen ↔ Open to)
      → IsEntered IsOpen to (Reached level from) marks next marks2 next2 → IsSpread Open Tried bound limit level marks next left marks2 next2 left
  spread_entered Tried from to IsOpen marks next marks2 next2 left unseen low was_tried only asked (inl (closed, marks_is, next_is)) =
      rw (marks_is, next_is)
      (spread_marked Tried marks next next left to Shut unseen (λ is_open. closed (asked.1 is_open)) only (λ a there. there) (λ a there. inl there)
      (omega arith))
  spread_entered Tried from to IsOpen marks next marks2 next2 left unseen low was_tried only asked (inr (is_open, marks_is, next_is)) =
      let mark : Mark = Reached level from in
      let here = mark_here marks to mark (slice_get_within marks to Unseen unseen) refl in
      rw (marks_is, next_is)
      (spread_marked Tried marks next (next ++ to ∷ []) left to mark unseen (refl, low, asked.0 is_open, was_tried, Contains-push next to) only
      (λ a there. Contains-append_left next (to ∷ []) a there)
      (λ a there. elim (Contains-push_cases next to a there) [ inl old ↦ inl old | inr same ↦ inr (from, rw (← same) here) ])
      (omega (arith, length-append next (to ∷ []))))

  -- a new mark is new for more steps and a longer list too
  new_as : (Tried Tried2 : ℕ → ℕ → Type 0) (next next2 : List ℕ) → ((a b : ℕ) → Tried a b → Tried2 a b) → ((a : ℕ) → Contains next a → Contains next2 a)
      → (a : ℕ) (m : Mark) → IsNew Open Tried limit level next a m → IsNew Open Tried2 limit level next2 a m
  new_as Tried Tried2 next next2 more longer a Unseen n = n
  new_as Tried Tried2 next next2 more longer a Shut n = n
  new_as Tried Tried2 next next2 more longer a (Reached k from) n = (n.0, n.1, n.2, more from a n.3, longer a n.4)
  new_as Tried Tried2 next next2 more longer a (Far steps) n = n

  -- the same, where the steps that were tried are said otherwise
  pub spread_as : (Tried Tried2 : ℕ → ℕ → Type 0) (marks : List Mark) (next : List ℕ) (left : Bool) (marks2 : List Mark) (next2 : List ℕ) (left2 : Bool)
      → ((a b : ℕ) → Tried a b → Tried2 a b) → ((a b : ℕ) → Tried2 a b → Tried a b)
      → IsSpread Open Tried bound limit level marks next left marks2 next2 left2 → IsSpread Open Tried2 bound limit level marks next left marks2 next2 left2
  spread_as Tried Tried2 marks next left marks2 next2 left2 to_other from_other s = record {
    count = s.count;
    kept = s.kept;
    new = λ a m is. elim (s.new a m is) [ inl old ↦ inl old | inr n ↦ inr (new_as Tried Tried2 next2 next2 to_other (λ b there. there) a m n) ];
    tried = λ a b t near. s.tried a b (from_other a b t) near;
    left_kept = s.left_kept;
    left_low = s.left_low;
    next_kept = s.next_kept;
    next_more = s.next_more;
    fewer = s.fewer;
  }

  -- one after another
  pub spread_then : (Tried Tried2 : ℕ → ℕ → Type 0) (marks : List Mark) (next : List ℕ) (left : Bool) (marks2 : List Mark) (next2 : List ℕ) (left2 : Bool)
      (marks3 : List Mark) (next3 : List ℕ) (left3 : Bool)
      → IsSpread Open Tried bound limit level marks next left marks2 next2 left2 → IsSpread Open Tried2 bound limit level marks2 next2 left2 marks3 next3 left3
      → IsSpread Open (λ a b. Tried a b ⊎ Tried2 a b) bound limit level marks next left marks3 next3 left3
  spread_then Tried Tried2 marks next left marks2 next2 left2 marks3 next3 left3 s t = record {
    count = t.count ∙ s.count;
    kept = λ a m is. t.kept a m (s.kept a m is);
    new = λ a m is. elim (t.new a m is) [
      | inl old ↦ elim (s.new a m old) [
        | inl older ↦ inl older
        | inr n ↦ inr (new_as Tried (λ x y. Tried x y ⊎ Tried2 x y) next2 next3 (λ x y tried. inl tried) t.next_kept a m n)
      ]
      | inr n ↦ inr (new_as Tried2 (λ x y. Tried x y ⊎ Tried2 x y) next3 next3 (λ x y tried. inr tried) (λ x there. there) a m n)
    ];
    tried = λ a b which near. elim which [
      | inl first ↦ let seen = s.tried a b first (λ was. near (t.left_kept was)) in (seen.0, t.kept b seen.0 seen.1)
      | inr second ↦ t.tried a b second near
    ];
    left_kept = λ was. t.left_kept (s.left_kept was);
    left_low = λ was. elim (t.left_low was) [ inl earlier ↦ s.left_low earlier | inr low ↦ inr low ];
    next_kept = λ a there. t.next_kept a (s.next_kept a there);
    next_more = λ a there. elim (t.next_more a there) [
      | inl old ↦ elim (s.next_more a old) [ inl older ↦ inl older | inr new ↦ inr (new.0, t.kept a (Reached level new.0) new.1) ]
      | inr new ↦ inr new
    ];
    fewer = omega (arith, s.fewer, t.fewer);
  }
