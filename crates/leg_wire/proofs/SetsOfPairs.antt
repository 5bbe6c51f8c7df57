-- What a sink of pairs is after it took them all.
use Rattle.std.proofs.Common.{◌≡◌, ℕ, ◌<◌, ℤ, Bool, true, List, [], ◌∷◌, ◌++◌, length, get_or, None, All, Contains, refl, sym, ◌∙◌, arith}
use Rattle.std.specs.List.{range_with_len}
use Rattle.std.proofs.lemmas.List.Elements.{All-contains, Contains-append_left, Contains-push}
use Rattle.std.proofs.lemmas.Option.{same_Some, slice_get_read}
use Rattle.leg_sweep.specs.Pairs.{TakesAll, TookPairs}
use Rattle.leg_geom.specs.Pairs.{IsPair}
use Rattle.leg_sweep.specs.Pairs.TakesAll.{none, more}
use Rattle.leg_wire.specs.declared.corner.Beside.{Beside}
use Rattle.leg_wire.specs.declared.piece_shape.PieceShape.{PieceShape}
use Rattle.leg_wire.specs.Steps.MeetingRule.{DoMeet}
use Rattle.leg_wire.specs.Steps.SharedPoints.{first_seen}
use Rattle.leg_wire.specs.Steps.JoinSteps.{JoinState, AnswersJoin, IsJoinStep, TakesPair, AreSetsOf, AreKept}
use Rattle.leg_wire.specs.Steps.NumberSets.{AreUnited}
use Rattle.leg_wire.specs.Steps.JoinSteps.AnswersJoin.{were_together as joined_before, were_apart}
use Rattle.std.proofs.lemmas.Bool.{true≢false}
use Rattle.leg_wire.specs.Steps.JoinSteps.IsJoinStep.{were_together, are_united, stay_apart}
use Rattle.leg_wire.proofs.PiecesTouch.{AreSoFar, so_far_more, joined_together}
use Rattle.leg_wire.proofs.Touches.{so_far_none}

-- a pair of rectangles was taken, with what it made of the sets
pub take_step : (shapes : List PieceShape) (sets sets_after : List ℕ) (seen seen_after : List (Beside × (ℤ × ℤ))) (pair : ℕ × ℕ) (a b : PieceShape)
    → a ≡ get_or shapes pair.0 a → b ≡ get_or shapes pair.1 b → pair.0 < length shapes → pair.1 < length shapes
    → IsJoinStep a b sets sets_after seen seen_after
    → TakesPair (record { shapes = shapes; sets = sets; seen = seen }) pair (record { shapes = shapes; sets = sets_after; seen = seen_after })
take_step shapes sets sets_after seen seen_after pair a b a_is b_is a_in b_in step = record {
  shapes = refl;
  step = λ s t s_at t_at.
      let s_is : s ≡ a = same_Some s a (sym s_at ∙ slice_get_read shapes _ pair.0 a refl a_in a_is) in
      let t_is : t ≡ b = same_Some t b (sym t_at ∙ slice_get_read shapes _ pair.1 b refl b_in b_is) in
      rw (s_is, t_is) step;
}

-- two rectangles join their pieces, which are united
pub join_step : (a b : PieceShape) (sets sets_after : List ℕ) (seen seen_after : List (Beside × (ℤ × ℤ))) (join : Bool) → join ≡ true
    → AnswersJoin a b sets seen seen_after join → AreUnited a.piece b.piece sets sets_after → IsJoinStep a b sets sets_after seen seen_after
join_step a b sets sets_after seen seen_after join told (joined_before apart together same) united = absurd (true≢false (sym told ∙ apart))
join_step a b sets sets_after seen seen_after join told (were_apart apart touch) united = are_united (rw told at touch) united

-- what holds at first, and of one more pair where it held before, holds in the end
module _ {Sink : Type 0} (Takes : Sink → ℕ × ℕ → Sink → Type 0) (before : Sink) (P : List (ℕ × ℕ) → Sink → Type 0)
    (start : P [] before)
    (step : (found : List (ℕ × ℕ)) (p : ℕ × ℕ) (between after : Sink) → P found between → Takes between p after → P (found ++ p ∷ []) after) where
  takes_along : (found : List (ℕ × ℕ)) (after : Sink) → TakesAll Takes before found after → P found after
  takes_along found after none = start
  takes_along found after (more {found = f} {between = b} {after = a} {p = p} rest last) = step f p b a (takes_along f b rest) last

module _ (shapes : List PieceShape) (count : ℕ) where
  -- the metal is the same, and the sets are those by the pairs so far, if these are of rectangles that meet
  record IsUnderway (found : List (ℕ × ℕ)) (state : JoinState) : Type 0 where
    same_shapes : state.shapes ≡ shapes
    so_far : ((p : ℕ × ℕ) → Contains found p → IsPair DoMeet shapes p) → AreSoFar shapes count found state.sets state.seen

  -- one more pair
  underway_more : (found : List (ℕ × ℕ)) (p : ℕ × ℕ) (between after : JoinState) → IsUnderway found between → TakesPair between p after
      → IsUnderway (found ++ p ∷ []) after
  underway_more found p between after done takes = record {
    same_shapes = takes.shapes ∙ done.same_shapes;
    so_far = λ meet.
        so_far_more shapes count found between.sets after.sets between.seen after.seen p (meet p (Contains-push found p))
        (rw done.same_shapes at takes.step)
        (done.so_far (λ q has. meet q (Contains-append_left found (p ∷ []) q has)));
  }

-- Some pairs of metal that meets were taken.
pub taken_so_far : (shapes : List PieceShape) (count : ℕ) (before after : JoinState) (found : List (ℕ × ℕ)) → before.shapes ≡ shapes
    → AreSoFar shapes count [] before.sets before.seen
    → All (IsPair DoMeet shapes) found → TakesAll TakesPair before found after → AreSoFar shapes count found after.sets after.seen
taken_so_far shapes count before after found same begun each taken =
    (takes_along TakesPair before (IsUnderway shapes count) (record { same_shapes = same; so_far = λ meet. begun })
    (underway_more shapes count) found after taken).so_far (λ p has. All-contains (IsPair DoMeet shapes) found p each has)

-- what is together stays so when two rectangles are taken
step_keeps : (a b : PieceShape) (sets sets_after : List ℕ) (seen seen_after : List (Beside × (ℤ × ℤ))) → IsJoinStep a b sets sets_after seen seen_after
    → AreKept sets sets_after
step_keeps a b sets sets_after seen seen_after (were_together together same seen_same) x y is = rw same is
step_keeps a b sets sets_after seen seen_after (are_united told united) x y is = united.kept x y is
step_keeps a b sets sets_after seen seen_after (stay_apart told same) x y is = rw same is

module _ (shapes : List PieceShape) (begun : List ℕ) where
  record IsKeptSoFar (found : List (ℕ × ℕ)) (state : JoinState) : Type 0 where
    same_shapes : state.shapes ≡ shapes
    kept : ((p : ℕ × ℕ) → Contains found p → IsPair DoMeet shapes p) → AreKept begun state.sets

  kept_more : (found : List (ℕ × ℕ)) (p : ℕ × ℕ) (between after : JoinState) → IsKeptSoFar found between → TakesPair between p after
      → IsKeptSoFar (found ++ p ∷ []) after
  kept_more found p between after done takes = record {
    same_shapes = takes.shapes ∙ done.same_shapes;
    kept = λ meet x y is.
        let pair : IsPair DoMeet shapes p = meet p (Contains-push found p) in
        let step = rw done.same_shapes at takes.step in
        step_keeps pair.a pair.b between.sets after.sets between.seen after.seen (step pair.a pair.b pair.a_at pair.b_at) x y
        (done.kept (λ q has. meet q (Contains-append_left found (p ∷ []) q has)) x y is);
  }

-- and so when many are
pub taken_keeps : (shapes : List PieceShape) (before after : JoinState) (found : List (ℕ × ℕ)) → before.shapes ≡ shapes → All (IsPair DoMeet shapes) found
    → TakesAll TakesPair before found after → AreKept before.sets after.sets
taken_keeps shapes before after found same each taken =
    (takes_along TakesPair before (IsKeptSoFar shapes before.sets) (record { same_shapes = same; kept = λ meet x y is. is })
    (kept_more shapes before.sets) found after taken).kept (λ p has. All-contains (IsPair DoMeet shapes) found p each has)

-- All pairs of metal that meets were taken, where at first each piece was alone and no point was seen: then the sets are those
-- of the pieces that are joined.
pub sets_taken : {Sink : Type 0} (Takes : Sink → ℕ × ℕ → Sink → Type 0) (state : Sink → JoinState)
    → ((between after : Sink) (p : ℕ × ℕ) → Takes between p after → TakesPair (state between) p (state after))
    → (shapes : List PieceShape) (count : ℕ) (before after : Sink) → (state before).shapes ≡ shapes → (state before).sets ≡ range_with_len 0 count
    → ((pieces : Beside) → first_seen (state before).seen pieces ≡ None)
    → {tests : ℕ} → TookPairs Takes DoMeet shapes tests before after → AreSetsOf shapes count (state after).sets
sets_taken Takes state says shapes count before after same_shapes alone unseen took =
    let begun : IsUnderway shapes count [] (state before) = record {
      same_shapes = same_shapes;
      so_far = λ meet. rw alone (so_far_none shapes count (state before).seen unseen);
    } in
    let underway : IsUnderway shapes count took.found (state after) =
    takes_along Takes before (λ found sink. IsUnderway shapes count found (state sink)) begun
    (λ found p between later so_far takes. underway_more shapes count found p (state between) (state later) so_far (says between later p takes))
    took.found after took.taken in
    let done : AreSoFar shapes count took.found (state after).sets (state after).seen =
    underway.so_far (λ p has. All-contains (IsPair DoMeet shapes) took.found p took.are.each has) in
    record {
      some = record { size = done.size; joined = done.joined };
      all =
          λ a b a_in joined. joined_together shapes count took.found took.are (state after).sets (state after).seen done a b
          (omega (arith, done.size, a_in)) joined;
    }
