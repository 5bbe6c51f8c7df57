-- Pairs of one of the first shapes and a new one that meet, as they are taken, and the rectangles of the first shapes.
use Rattle.std.proofs.Common.{◌≡◌, ℕ, ◌+◌, ◌<◌, ◌≤◌, ℤ, List, [], ◌∷◌, ◌++◌, length, map, take, get_or, All, Some, slice_get, Contains, inl, inr, refl, sym, ap, ◌∙◌, subst, append_assoc, arith}
use Rattle.std.proofs.lemmas.Bool.{cases_lt}
use Rattle.std.proofs.Math.ListN.{get_or-map}
use Rattle.std.proofs.lemmas.List.{append-nil, length-map, length-take, get_or-take, take_more, take-append-le, map-append}
use Rattle.std.proofs.lemmas.List.Elements.{All-nil, All-push, All-contains, All-append, Contains-push, Contains-push_cases, Contains-append_left, Contains-append_right}
use Rattle.std.proofs.lemmas.Option.{same_Some, slice_get_within, slice_get_read, get_or_from_slice_get}
use Rattle.leg_sweep.specs.Near.{IsNear, AreNear}
use Rattle.leg_sweep.specs.Pairs.{TakesAll}
use Rattle.leg_geom.specs.Pairs.{IsPair}
use Rattle.leg_sweep.specs.Pairs.TakesAll.{none, more}
use Rattle.leg_sweep.proofs.Lists.{Contains-nil, Contains-here}
use Rattle.leg_geom.specs.Plane.{RectModel}
use Rattle.leg_wire.specs.declared.corner.Beside.{Beside}
use Rattle.leg_wire.specs.declared.piece_shape.PieceShape.{PieceShape}
use Rattle.leg_wire.specs.Steps.MeetingRule.{DoMeet, DoMeet-symmetric, DoMeet-near}
use Rattle.leg_wire.specs.Steps.JoinSteps.{JoinState, IsJoinStep, TakesPair}
use Rattle.leg_wire.specs.Steps.Joins.{first_rects, TakesNew}
use Rattle.leg_wire.proofs.SetsOfPairs.{take_step}

-- one more of the first rectangles
pub rects_more : (shapes : List PieceShape) (n : ℕ) (shape : PieceShape) → n < length shapes → shape ≡ get_or shapes n shape
    → first_rects n shapes ++ shape.rect ∷ [] ≡ first_rects (n + 1) shapes
rects_more shapes n shape within is =
    let next : take (n + 1) shapes ≡ take n shapes ++ shape ∷ [] = take_more shapes n shape within ∙ ap (λ s. take n shapes ++ s ∷ []) (sym is) in
    rw next (sym (map-append (λ (s : PieceShape). s.rect) (take n shapes) (shape ∷ [])))

-- those of the first shapes stay where more come
pub rects_stay : (shapes new : List PieceShape) (n : ℕ) → n ≤ length shapes → first_rects n (shapes ++ new) ≡ first_rects n shapes
rects_stay shapes new n within = ap (map (λ (s : PieceShape). s.rect)) (take-append-le n shapes new within)

-- as many as there are shapes
pub all_rects : (shapes : List PieceShape) → length (first_rects (length shapes) shapes) ≡ length shapes
all_rects shapes =
    let many : length (first_rects (length shapes) shapes) ≡ length (take (length shapes) shapes) =
    length-map (take (length shapes) shapes) (λ (s : PieceShape). s.rect) in
    let cut = length-take (length shapes) shapes in
    omega (arith, many, cut)

-- a number that is given is that of a near rectangle
pub near_is : (rects : List RectModel) (rect : RectModel) (reach : ℕ) (all given left rest : List ℕ) (n : ℕ) → AreNear rects rect reach all
    → all ≡ given ++ left → left ≡ n ∷ rest → IsNear rects rect reach n
near_is rects rect reach all given left rest n are so_far steps =
    All-contains (IsNear rects rect reach) all n are.each (rw (so_far, steps) (Contains-append_right given (n ∷ rest) n (Contains-here n rest)))

module _ (shapes : List PieceShape) where
  -- and of one of the first shapes
  pub near_first : (few n reach : ℕ) (rect : RectModel) → few ≤ length shapes → IsNear (first_rects few shapes) rect reach n → n < few
  near_first few n reach rect within near =
      let low : n < length (first_rects few shapes) = slice_get_within (first_rects few shapes) n near.other near.there in
      let many : length (first_rects few shapes) ≡ length (take few shapes) = length-map (take few shapes) (λ (s : PieceShape). s.rect) in
      let cut = length-take few shapes in
      omega (arith, low, many, cut, within)

  -- so a number that the index gives is one of a first shape
  pub near_low : (index : List RectModel) (rect : RectModel) (all given left rest : List ℕ) (n : ℕ) → length index ≤ length shapes
      → index ≡ first_rects (length index) shapes → AreNear index rect 0 all → all ≡ given ++ left → left ≡ n ∷ rest → n < length index
  near_low index rect all given left rest n within first are so_far steps =
      near_first (length index) n 0 rect within
      (subst (λ (rects : List RectModel). IsNear rects rect 0 n) first (near_is index rect 0 all given left rest n are so_far steps))

  -- a first shape that meets another one is near it
  meets_near : (few j : ℕ) (a b : PieceShape) → j < few → few ≤ length shapes → slice_get shapes j ≡ Some a → DoMeet a b
      → IsNear (first_rects few shapes) b.rect 0 j
  meets_near few j a b low within at meet =
      let gaps = DoMeet-near b a (DoMeet-symmetric a b meet) in
      let many : length (first_rects few shapes) ≡ length (take few shapes) = length-map (take few shapes) (λ (s : PieceShape). s.rect) in
      let cut = length-take few shapes in
      let read : get_or (first_rects few shapes) j a.rect ≡ a.rect =
      get_or-map (λ (s : PieceShape). s.rect) (take few shapes) j a
      ∙ ap (λ (s : PieceShape). s.rect) (get_or-take few shapes j a low ∙ get_or_from_slice_get shapes j a a at) in
      record {
        other = a.rect;
        there = slice_get_read (first_rects few shapes) _ j a.rect refl (omega (arith, many, cut, low, within)) (sym read);
        x = gaps.0;
        y = gaps.1;
      }

  abbrev state : List ℕ → List (Beside × (ℤ × ℤ)) → JoinState
  state sets seen = record { shapes = shapes; sets = sets; seen = seen }

  -- pairs of the shape k and those of these numbers were taken, where they meet
  pub record TakesAmong (k : ℕ) (numbers : List ℕ) (sets sets_after : List ℕ) (seen seen_after : List (Beside × (ℤ × ℤ))) : Type 0 where
    pub found : List (ℕ × ℕ)
    pub each : All (IsPair DoMeet shapes) found
    pub all : (j : ℕ) → Contains numbers j → IsPair DoMeet shapes (j, k) → Contains found (j, k)
    pub taken : TakesAll TakesPair (state sets seen) found (state sets_after seen_after)
    pub count : length sets_after ≡ length sets

  pub among_none : (k : ℕ) (sets : List ℕ) (seen : List (Beside × (ℤ × ℤ))) → TakesAmong k [] sets sets seen seen
  among_none k sets seen = record {
    found = [];
    each = All-nil (IsPair DoMeet shapes);
    all = λ j has pair. absurd (Contains-nil j has);
    taken = none;
    count = refl;
  }

  module _ (k : ℕ) (numbers : List ℕ) (sets between : List ℕ) (seen seen_between : List (Beside × (ℤ × ℤ)))
      (done : TakesAmong k numbers sets between seen seen_between)
      (j : ℕ) (a b : PieceShape) (a_is : a ≡ get_or shapes j a) (b_is : b ≡ get_or shapes k b) (low : j < k) (within : k < length shapes) where
    a_at : slice_get shapes j ≡ Some a
    a_at = slice_get_read shapes _ j a refl (omega (arith, low, within)) a_is

    b_at : slice_get shapes k ≡ Some b
    b_at = slice_get_read shapes _ k b refl within b_is

    -- one more that meets it
    pub among_met : DoMeet a b → (after : List ℕ) (seen_after : List (Beside × (ℤ × ℤ))) → IsJoinStep a b between after seen_between seen_after
        → length after ≡ length between → TakesAmong k (numbers ++ j ∷ []) sets after seen seen_after
    among_met meet after seen_after step same =
        let pair : IsPair DoMeet shapes (j, k) = record { a = a; b = b; a_at = a_at; b_at = b_at; in_order = low; holds = meet } in
        record {
          found = done.found ++ (j, k) ∷ [];
          each = All-push (IsPair DoMeet shapes) done.found (j, k) done.each pair;
          all = λ i has other. elim (Contains-push_cases numbers j i has) [
            | inl before ↦ Contains-append_left done.found ((j, k) ∷ []) (i, k) (done.all i before other)
            | inr here ↦ rw (← here) (Contains-push done.found (j, k))
          ];
          taken = more done.taken (take_step shapes between after seen_between seen_after (j, k) a b a_is b_is (omega (arith, low, within)) within step);
          count = same ∙ done.count;
        }

    -- one more that doesn't
    pub among_apart : (DoMeet a b → ⊥) → TakesAmong k (numbers ++ j ∷ []) sets between seen seen_between
    among_apart apart = record {
      found = done.found;
      each = done.each;
      all = λ i has pair. elim (Contains-push_cases numbers j i has) [
        | inl before ↦ done.all i before pair
        | inr here ↦
            let a_same : a ≡ pair.a = same_Some a pair.a (sym a_at ∙ ap (slice_get shapes) here ∙ pair.a_at) in
            let b_same : b ≡ pair.b = same_Some b pair.b (sym b_at ∙ pair.b_at) in
            absurd (apart (rw (a_same, b_same) pair.holds))
      ];
      taken = done.taken;
      count = done.count;
    }

  -- all near ones were taken
  pub near_taken : (few k : ℕ) (numbers sets after : List ℕ) (seen seen_after : List (Beside × (ℤ × ℤ))) (b : PieceShape) → few ≤ length shapes
      → k < length shapes → b ≡ get_or shapes k b → AreNear (first_rects few shapes) b.rect 0 numbers → TakesAmong k numbers sets after seen seen_after
      → TakesNew shapes few k (k + 1) sets after seen seen_after
  near_taken few k numbers sets after seen seen_after b few_in k_in b_is near done = record {
    found = done.found;
    each = done.each;
    all = λ j i j_low from below pair.
        let here : i ≡ k = omega (arith, from, below) in
        let pair_here : IsPair DoMeet shapes (j, k) = rw here at pair in
        let b_same : pair_here.b ≡ b = same_Some pair_here.b b (sym pair_here.b_at ∙ slice_get_read shapes _ k b refl k_in b_is) in
        let meet : DoMeet pair_here.a b = rw b_same at pair_here.holds in
        rw here (done.all j (near.all j (meets_near few j pair_here.a b j_low few_in pair_here.a_at meet)) pair_here);
    taken = done.taken;
  }

  -- no new shape, and one more
  pub new_none : (few first : ℕ) (sets : List ℕ) (seen : List (Beside × (ℤ × ℤ))) → TakesNew shapes few first first sets sets seen seen
  new_none few first sets seen = record {
    found = [];
    each = All-nil (IsPair DoMeet shapes);
    all = λ j k low from below. absurd (omega (arith, from, below));
    taken = none;
  }

  takes_both : (before between after : JoinState) (f g : List (ℕ × ℕ)) → TakesAll TakesPair before f between → TakesAll TakesPair between g after
      → TakesAll TakesPair before (f ++ g) after
  takes_both before between after f g first none = rw (append-nil f) first
  takes_both before between after f g first (more {found = h} {between = c} {p = p} rest last) =
      rw (← append_assoc f h (p ∷ [])) (more (takes_both before between c f h first rest) last)

  pub new_more : (few first mid : ℕ) (sets between after : List ℕ) (seen seen_between seen_after : List (Beside × (ℤ × ℤ)))
      → TakesNew shapes few first mid sets between seen seen_between
      → TakesNew shapes few mid (mid + 1) between after seen_between seen_after → TakesNew shapes few first (mid + 1) sets after seen seen_after
  new_more few first mid sets between after seen seen_between seen_after done next = record {
    found = done.found ++ next.found;
    each = All-append (IsPair DoMeet shapes) done.found next.found done.each next.each;
    all = λ j k low from below pair. elim (cases_lt k mid) [
      | inl before ↦ Contains-append_left done.found next.found (j, k) (done.all j k low from before pair)
      | inr late ↦ Contains-append_right done.found next.found (j, k) (next.all j k low late below pair)
    ];
    taken = takes_both (state sets seen) (state between seen_between) (state after seen_after) done.found next.found done.taken next.taken;
  }
