-- Pieces of a net touch where two of their rectangles share two points, or where two pairs of their rectangles share single
-- points that differ. By the pairs of rectangles that meet, the sets of pieces come to be those of the pieces that are joined.
use Rattle.std.proofs.Common.{◌≡◌, ◌≢◌, ℕ, min, max, Bool, true, false, ℤ, List, [], ◌∷◌, ◌++◌, length, ◌<◌, Some, slice_get, Contains, ◌⊎◌, inl, inr, refl, sym, ap, ◌∙◌, arith}
use Rattle.std.proofs.lemmas.Bool.{false≢true, cases_lt, cases_eq}
use Rattle.std.proofs.lemmas.List.Elements.{Contains-push_cases}
use Rattle.std.proofs.lemmas.Option.{same_Some, slice_get_within, slice_get_read, get_or_from_slice_get}
use Rattle.leg_sweep.specs.Pairs.{HasPairs}
use Rattle.leg_geom.specs.Pairs.{IsPair}
use Rattle.leg_geom.specs.Plane.{PointModel, ShareTwoPoints}
use Rattle.leg_wire.specs.declared.corner.Beside.{Beside}
use Rattle.leg_wire.specs.declared.piece_shape.PieceShape.{PieceShape}
use Rattle.leg_rules.specs.Joins.Touch.{Joined}
use Rattle.leg_rules.specs.Joins.Touch.Joined.{itself, through}
use Rattle.leg_wire.specs.Steps.MeetingRule.{DoMeet, DoMeet-symmetric}
use Rattle.leg_wire.specs.Steps.PieceMetal.{LiesAmong, TouchAmong}
use Rattle.leg_wire.specs.Steps.NumberSets.{AreTogether, AreUnited}
use Rattle.leg_wire.specs.Steps.SharedPoints.{first_seen, pieces_beside, spot_of, IsShared}
use Rattle.leg_wire.specs.Steps.JoinSteps.{AnswersTouch, IsJoinStep}
use Rattle.leg_wire.specs.Steps.JoinSteps.AnswersTouch.{share_two, share_none, share_one}
use Rattle.leg_wire.specs.Steps.JoinSteps.IsJoinStep.{were_together, are_united, stay_apart}
use Rattle.leg_wire.proofs.JoinedLaws.{Joined-onward}
use Rattle.leg_wire.proofs.SetUnions.{AreTogether-itself, AreTogether-back, AreTogether-onward}

-- each point of both rectangles is the first that was seen for their pieces, or these are together
abbrev pub IsDone : List ℕ → List (Beside × (ℤ × ℤ)) → PieceShape → PieceShape → Type 0
IsDone sets seen s t =
    (p : PointModel) → IsShared s.rect t.rect p → AreTogether sets s.piece t.piece ⊎ (first_seen seen (pieces_beside s t) ≡ Some (p.x, p.y))

-- two pieces, in either order, and a layer
abbrev pub beside : ℕ → ℕ → ℕ → Beside
beside a b layer = record { low = min a b; high = max a b; layer = layer }

-- the order doesn't matter
beside-back : (a b layer : ℕ) → beside a b layer ≡ beside b a layer
beside-back a b layer =
    let low : min a b ≡ min b a = omega arith in
    let high : max a b ≡ max b a = omega arith in
    rw (low, high) refl

-- what is done is done in either order
pub IsDone-back : (sets : List ℕ) (seen : List (Beside × (ℤ × ℤ))) (s t : PieceShape) → s.layer ≡ t.layer → IsDone sets seen s t → IsDone sets seen t s
IsDone-back sets seen s t layer done p shared = elim (done p (record { in_a = shared.in_b; in_b = shared.in_a })) [
  | inl together ↦ inl (AreTogether-back sets s.piece t.piece together)
  | inr there ↦
      let back : first_seen seen (beside t.piece s.piece s.layer) ≡ Some (p.x, p.y) = rw (beside-back s.piece t.piece s.layer) at there in
      inr (rw layer at back)
]

module _ (shapes : List PieceShape) where
  -- a point that was seen first lies in both pieces
  pub record LiesInBoth (pieces : Beside) (point : ℤ × ℤ) : Type 0 where
    pub low : LiesAmong shapes pieces.low pieces.layer (spot_of point)
    pub high : LiesAmong shapes pieces.high pieces.layer (spot_of point)

  -- pieces touch one another
  pub TouchAmong-back : (a b : ℕ) → TouchAmong shapes a b → TouchAmong shapes b a
  TouchAmong-back a b h = record {
    others = λ same. h.others (sym same);
    layer = h.layer;
    p = h.p;
    q = h.q;
    differ = h.differ;
    p_in_a = h.p_in_b;
    p_in_b = h.p_in_a;
    q_in_a = h.q_in_b;
    q_in_b = h.q_in_a;
  }

  module _ (s t : PieceShape) (s_in : Contains shapes s) (t_in : Contains shapes t) (meet : DoMeet s t) where
    -- a point of both rectangles lies in both pieces
    lies_in_first : (p : PointModel) → IsShared s.rect t.rect p → LiesAmong shapes s.piece s.layer p
    lies_in_first p shared = record { shape = s; has = s_in; of_piece = refl; on_layer = refl; inside = shared.in_a }

    lies_in_second : (p : PointModel) → IsShared s.rect t.rect p → LiesAmong shapes t.piece s.layer p
    lies_in_second p shared = record { shape = t; has = t_in; of_piece = refl; on_layer = sym meet.layer; inside = shared.in_b }

    -- by the lower and the higher one
    lies_in_both : (point : ℤ × ℤ) → IsShared s.rect t.rect (spot_of point) → LiesInBoth (pieces_beside s t) point
    lies_in_both point shared =
        elim (cases_lt s.piece t.piece) [
          | inl lower ↦
              let low : min s.piece t.piece ≡ s.piece = omega (arith, lower) in
              let high : max s.piece t.piece ≡ t.piece = omega (arith, lower) in
              record { low = rw low (lies_in_first (spot_of point) shared); high = rw high (lies_in_second (spot_of point) shared) }
          | inr upper ↦
              let low : min s.piece t.piece ≡ t.piece = omega (arith, upper) in
              let high : max s.piece t.piece ≡ s.piece = omega (arith, upper) in
              record { low = rw low (lies_in_second (spot_of point) shared); high = rw high (lies_in_first (spot_of point) shared) }
        ]

    -- and back
    both_lie_in : (point : ℤ × ℤ) → LiesInBoth (pieces_beside s t) point
        → LiesAmong shapes s.piece s.layer (spot_of point) × LiesAmong shapes t.piece s.layer (spot_of point)
    both_lie_in point both =
        elim (cases_lt s.piece t.piece) [
          | inl lower ↦
              let low : min s.piece t.piece ≡ s.piece = omega (arith, lower) in
              let high : max s.piece t.piece ≡ t.piece = omega (arith, lower) in
              (rw low at both.low, rw high at both.high)
          | inr upper ↦
              let low : min s.piece t.piece ≡ t.piece = omega (arith, upper) in
              let high : max s.piece t.piece ≡ s.piece = omega (arith, upper) in
              (rw high at both.high, rw low at both.low)
        ]

    -- rectangles that share two points
    pub touch_by_two : ShareTwoPoints s.rect t.rect → TouchAmong shapes s.piece t.piece
    touch_by_two two = record {
      others = meet.others;
      layer = s.layer;
      p = two.p;
      q = two.q;
      differ = two.differ;
      p_in_a = lies_in_first two.p (record { in_a = two.p_in_a; in_b = two.p_in_b });
      p_in_b = lies_in_second two.p (record { in_a = two.p_in_a; in_b = two.p_in_b });
      q_in_a = lies_in_first two.q (record { in_a = two.q_in_a; in_b = two.q_in_b });
      q_in_b = lies_in_second two.q (record { in_a = two.q_in_a; in_b = two.q_in_b });
    }

    -- a point of both rectangles that isn't the first one that was seen
    pub touch_by_other : (point : ℤ × ℤ) → LiesInBoth (pieces_beside s t) point → (IsShared s.rect t.rect (spot_of point) → ⊥)
        → TouchAmong shapes s.piece t.piece
    touch_by_other point both other =
        let first = both_lie_in point both in
        let here : IsShared s.rect t.rect meet.shared.point = record { in_a = meet.shared.in_a; in_b = meet.shared.in_b } in
        record {
          others = meet.others;
          layer = s.layer;
          p = spot_of point;
          q = meet.shared.point;
          differ = λ same. other (rw same here);
          p_in_a = first.0;
          p_in_b = first.1;
          q_in_a = lies_in_first meet.shared.point here;
          q_in_b = lies_in_second meet.shared.point here;
        }

    -- what two rectangles tell of the points that were seen
    pub points_told : (before after : List (Beside × (ℤ × ℤ))) (touch : Bool) → AnswersTouch s t before after touch
        → ((pieces : Beside) (point : ℤ × ℤ) → first_seen before pieces ≡ Some point → LiesInBoth pieces point)
        → (pieces : Beside) (point : ℤ × ℤ) → first_seen after pieces ≡ Some point → LiesInBoth pieces point
    points_told before after touch (share_two told two same) points pieces point at = points pieces point (rw same at at)
    points_told before after touch (share_none told none same) points pieces point at = points pieces point (rw same at at)
    points_told before after touch (share_one seen) points pieces point at = elim (seen.new pieces point at) [
      | inl old ↦ points pieces point old
      | inr new ↦ rw new.0 (lies_in_both point new.1)
    ]

    -- none is forgotten
    pub points_kept : (before after : List (Beside × (ℤ × ℤ))) (touch : Bool) → AnswersTouch s t before after touch
        → (pieces : Beside) (point : ℤ × ℤ) → first_seen before pieces ≡ Some point → first_seen after pieces ≡ Some point
    points_kept before after touch (share_two told two same) pieces point there = rw same there
    points_kept before after touch (share_none told none same) pieces point there = rw same there
    points_kept before after touch (share_one seen) pieces point there = seen.kept pieces point there

    -- they make their pieces touch
    pub touch_told : (before after : List (Beside × (ℤ × ℤ))) (touch : Bool) → touch ≡ true → AnswersTouch s t before after touch
        → ((pieces : Beside) (point : ℤ × ℤ) → first_seen before pieces ≡ Some point → LiesInBoth pieces point)
        → TouchAmong shapes s.piece t.piece
    touch_told before after touch is (share_two told two same) points = touch_by_two two
    touch_told before after touch is (share_none told none same) points = absurd (false≢true (sym told ∙ is))
    touch_told before after touch is (share_one seen) points =
        touch_by_other seen.first
        (points_told before after touch (share_one seen) points (pieces_beside s t) seen.first seen.there) (seen.differs is)

    -- they don't: the point that they share is the first one
    pub apart_told : (before after : List (Beside × (ℤ × ℤ))) (touch : Bool) → touch ≡ false → AnswersTouch s t before after touch
        → (p : PointModel) → IsShared s.rect t.rect p → first_seen after (pieces_beside s t) ≡ Some (p.x, p.y)
    apart_told before after touch is (share_two told two same) p shared = absurd (false≢true (sym is ∙ told))
    apart_told before after touch is (share_none told none same) p shared = absurd (none (record { point = p; in_a = shared.in_a; in_b = shared.in_b }))
    apart_told before after touch is (share_one seen) p shared =
        let here : (p.x, p.y) ≡ seen.first = ap (λ (q : PointModel). (q.x, q.y)) ((seen.same is).only p shared) in
        seen.there ∙ ap Some (sym here)

-- the sets and the points by the meetings so far
pub record AreSoFar (shapes : List PieceShape) (count : ℕ) (meetings : List (ℕ × ℕ)) (sets : List ℕ) (seen : List (Beside × (ℤ × ℤ))) : Type 0 where
  pub size : length sets ≡ count
  pub joined : (a b : ℕ) → AreTogether sets a b → Joined (TouchAmong shapes) a b
  pub points : (pieces : Beside) (point : ℤ × ℤ) → first_seen seen pieces ≡ Some point → LiesInBoth shapes pieces point
  pub done : (p : ℕ × ℕ) (s t : PieceShape) → Contains meetings p → slice_get shapes p.0 ≡ Some s → slice_get shapes p.1 ≡ Some t → IsDone sets seen s t

module _ (shapes : List PieceShape) (sets : List ℕ) (seen : List (Beside × (ℤ × ℤ))) where
  -- metal of two pieces is done wherever it meets
  abbrev pub AreDone : ℕ → ℕ → Type 0
  AreDone a b = (s t : PieceShape) → Contains shapes s → Contains shapes t → s.piece ≡ a → t.piece ≡ b → DoMeet s t → IsDone sets seen s t

  -- a point of two such pieces is the first one that was seen for them, or they are together
  together_or_first : (a b layer : ℕ) (p : PointModel) → a ≢ b → AreDone a b → LiesAmong shapes a layer p → LiesAmong shapes b layer p
      → AreTogether sets a b ⊎ (first_seen seen (beside a b layer) ≡ Some (p.x, p.y))
  together_or_first a b layer p others are in_a in_b =
      let s = in_a.shape in
      let t = in_b.shape in
      let meet : DoMeet s t = record {
        layer = in_a.on_layer ∙ sym in_b.on_layer;
        others = λ same. others (sym in_a.of_piece ∙ same ∙ in_b.of_piece);
        shared = record { point = p; in_a = in_a.inside; in_b = in_b.inside };
      } in
      elim (are s t in_a.has in_b.has in_a.of_piece in_b.of_piece meet p (record { in_a = in_a.inside; in_b = in_b.inside })) [
        | inl together ↦ inl (rw (in_a.of_piece, in_b.of_piece) at together)
        | inr there ↦ inr (rw (in_a.of_piece, in_b.of_piece, in_a.on_layer) at there)
      ]

  -- and together they are where they touch
  pub touch_together : (a b : ℕ) → AreDone a b → TouchAmong shapes a b → AreTogether sets a b
  touch_together a b are h =
      elim (together_or_first a b h.layer h.p h.others are h.p_in_a h.p_in_b) [
        | inl together ↦ together
        | inr first_p ↦ elim (together_or_first a b h.layer h.q h.others are h.q_in_a h.q_in_b) [
          | inl together ↦ together
          | inr first_q ↦
              let same : (h.p.x, h.p.y) ≡ (h.q.x, h.q.y) = same_Some (h.p.x, h.p.y) (h.q.x, h.q.y) (sym first_p ∙ first_q) in
              absurd (h.differ (ap spot_of same))
        ]
      ]

module _ (shapes : List PieceShape) (count : ℕ) where
  -- one more meeting
  module _ (meetings : List (ℕ × ℕ)) (sets : List ℕ) (before : List (Beside × (ℤ × ℤ))) (done : AreSoFar shapes count meetings sets before)
      (m : ℕ × ℕ) (s t : PieceShape) (s_at : slice_get shapes m.0 ≡ Some s) (t_at : slice_get shapes m.1 ≡ Some t) where
    -- each meeting so far is done, and this one
    done_or_this : (sets_after : List ℕ) (after : List (Beside × (ℤ × ℤ)))
        → ((a b : ℕ) → AreTogether sets a b → AreTogether sets_after a b)
        → ((pieces : Beside) (point : ℤ × ℤ) → first_seen before pieces ≡ Some point → first_seen after pieces ≡ Some point)
        → IsDone sets_after after s t
        → (p : ℕ × ℕ) (u v : PieceShape) → Contains (meetings ++ m ∷ []) p → slice_get shapes p.0 ≡ Some u → slice_get shapes p.1 ≡ Some v
        → IsDone sets_after after u v
    done_or_this sets_after after stay kept this p u v has u_at v_at = elim (Contains-push_cases meetings m p has) [
      | inl earlier ↦ λ q shared. elim (done.done p u v earlier u_at v_at q shared) [
        | inl together ↦ inl (stay u.piece v.piece together)
        | inr there ↦ inr (kept (pieces_beside u v) (q.x, q.y) there)
      ]
      | inr here ↦
          let u_is : s ≡ u = same_Some s u (sym s_at ∙ ap (λ (n : ℕ × ℕ). slice_get shapes n.0) here ∙ u_at) in
          let v_is : t ≡ v = same_Some t v (sym t_at ∙ ap (λ (n : ℕ × ℕ). slice_get shapes n.1) here ∙ v_at) in
          rw (u_is, v_is) at this
    ]

    -- the sets stay
    so_far_same : (after : List (Beside × (ℤ × ℤ)))
        → ((pieces : Beside) (point : ℤ × ℤ) → first_seen before pieces ≡ Some point → first_seen after pieces ≡ Some point)
        → ((pieces : Beside) (point : ℤ × ℤ) → first_seen after pieces ≡ Some point → LiesInBoth shapes pieces point)
        → IsDone sets after s t → AreSoFar shapes count (meetings ++ m ∷ []) sets after
    so_far_same after kept points this = record {
      size = done.size;
      joined = done.joined;
      points = points;
      done = done_or_this sets after (λ a b together. together) kept this;
    }

    -- two of them are made one
    module _ (sets_after : List ℕ) (united : AreUnited s.piece t.piece sets sets_after) (touch : TouchAmong shapes s.piece t.piece) where
      joined_by_step : (a b : ℕ) → AreTogether sets_after a b → Joined (TouchAmong shapes) a b
      joined_by_step a b together =
          let old = done.joined in
          let meets = TouchAmong shapes in
          elim (united.no_more a b together) [
            | inl was ↦ old a b was
            | inr new ↦ elim new [
              | inl over ↦
                  Joined-onward meets a t.piece b (through (old a s.piece over.0) touch) (old t.piece b over.1)
              | inr back ↦
                  Joined-onward meets a s.piece b (through (old a t.piece back.0) (TouchAmong-back shapes s.piece t.piece touch)) (old s.piece b back.1)
            ]
          ]

      so_far_united : (after : List (Beside × (ℤ × ℤ)))
          → ((pieces : Beside) (point : ℤ × ℤ) → first_seen before pieces ≡ Some point → first_seen after pieces ≡ Some point)
          → ((pieces : Beside) (point : ℤ × ℤ) → first_seen after pieces ≡ Some point → LiesInBoth shapes pieces point)
          → AreSoFar shapes count (meetings ++ m ∷ []) sets_after after
      so_far_united after kept points = record {
        size = united.count ∙ done.size;
        joined = joined_by_step;
        points = points;
        done = done_or_this sets_after after united.kept kept (λ p shared. inl united.both);
      }

    -- two rectangles that meet are taken
    module _ (s_in : Contains shapes s) (t_in : Contains shapes t) (meet : DoMeet s t) where
      so_far_step : (sets_after : List ℕ) (after : List (Beside × (ℤ × ℤ))) → IsJoinStep s t sets sets_after before after
          → AreSoFar shapes count (meetings ++ m ∷ []) sets_after after
      so_far_step sets_after after (were_together together same seen_same) =
          rw (same, seen_same) (so_far_same before (λ pieces point is. is) done.points (λ p shared. inl together))
      so_far_step sets_after after (are_united told united) =
          so_far_united sets_after united (touch_told shapes s t s_in t_in meet before after true refl told done.points) after
          (points_kept shapes s t s_in t_in meet before after true told)
          (points_told shapes s t s_in t_in meet before after true told done.points)
      so_far_step sets_after after (stay_apart told same) =
          rw same
          (so_far_same after (points_kept shapes s t s_in t_in meet before after false told)
          (points_told shapes s t s_in t_in meet before after false told done.points)
          (λ p shared. inr (apart_told shapes s t s_in t_in meet before after false refl told p shared)))

  -- a pair of rectangles that meet is taken
  pub so_far_more : (meetings : List (ℕ × ℕ)) (sets sets_after : List ℕ) (before after : List (Beside × (ℤ × ℤ))) (m : ℕ × ℕ) → IsPair DoMeet shapes m
      → ((s t : PieceShape) → slice_get shapes m.0 ≡ Some s → slice_get shapes m.1 ≡ Some t → IsJoinStep s t sets sets_after before after)
      → AreSoFar shapes count meetings sets before → AreSoFar shapes count (meetings ++ m ∷ []) sets_after after
  so_far_more meetings sets sets_after before after m pair takes done =
      let s = pair.a in
      let t = pair.b in
      so_far_step meetings sets before done m s t pair.a_at pair.b_at (contained m.0 s pair.a_at) (contained m.1 t pair.b_at) pair.holds
      sets_after after (takes s t pair.a_at pair.b_at)
    where
      contained : (place : ℕ) (shape : PieceShape) → slice_get shapes place ≡ Some shape → Contains shapes shape
      contained place shape at = (place, slice_get_within shapes place shape at, get_or_from_slice_get shapes place shape shape at)

  -- all meetings were taken
  module _ (meetings : List (ℕ × ℕ)) (are : HasPairs DoMeet shapes meetings) (sets : List ℕ) (seen : List (Beside × (ℤ × ℤ)))
      (done : AreSoFar shapes count meetings sets seen) where
    -- rectangles that meet are done, here the one of the lower number first
    done_at : (i j : ℕ) (s t : PieceShape) → slice_get shapes i ≡ Some s → slice_get shapes j ≡ Some t → i < j → DoMeet s t → IsDone sets seen s t
    done_at i j s t s_at t_at order meet =
        done.done (i, j) s t (are.all (i, j) (record { a = s; b = t; a_at = s_at; b_at = t_at; in_order = order; holds = meet })) s_at t_at

    -- or in any order
    all_done : (s t : PieceShape) → Contains shapes s → Contains shapes t → DoMeet s t → IsDone sets seen s t
    all_done s t s_in t_in meet =
        let s_at : slice_get shapes s_in.0 ≡ Some s = slice_get_read shapes _ s_in.0 s refl s_in.1 (sym s_in.2) in
        let t_at : slice_get shapes t_in.0 ≡ Some t = slice_get_read shapes _ t_in.0 t refl t_in.1 (sym t_in.2) in
        elim (cases_lt s_in.0 t_in.0) [
          | inl sooner ↦ done_at s_in.0 t_in.0 s t s_at t_at sooner meet
          | inr later ↦ elim (cases_eq s_in.0 t_in.0) [
            | inl same ↦
                let alike : s ≡ t = same_Some s t (sym s_at ∙ ap (slice_get shapes) same ∙ t_at) in
                absurd (meet.others (ap (λ (u : PieceShape). u.piece) alike))
            | inr differ ↦ IsDone-back sets seen t s (sym meet.layer)
                (done_at t_in.0 s_in.0 t s t_at s_at (omega (arith, later, differ)) (DoMeet-symmetric s t meet))
          ]
        ]

    -- pieces that touch are together
    touch_done : (a b : ℕ) → TouchAmong shapes a b → AreTogether sets a b
    touch_done a b = touch_together shapes sets seen a b (λ s t s_in t_in s_of t_of meet. all_done s t s_in t_in meet)

    -- and so are those that are joined
    pub joined_together : (a b : ℕ) → a < length sets → Joined (TouchAmong shapes) a b → AreTogether sets a b
    joined_together a b within itself = AreTogether-itself sets a within
    joined_together a b within (through {b = c} joined touch) =
        AreTogether-onward sets a c b (joined_together a c within joined) (touch_done c b touch)
