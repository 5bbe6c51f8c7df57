-- The pieces of a net that are cut off, by their marks and groups; and those of all nets, net by net.
use Rattle.std.proofs.Common.{◌≡◌, ℕ, ◌+◌, ◌<◌, ◌≤◌, Bool, true, List, [], ◌∷◌, ◌++◌, length, map, All, AllPairs, Contains, Option, None, Some, slice_get, inl, inr, refl, sym, ap, subst, ◌∙◌, arith}
use Rattle.std.proofs.lemmas.Bool.{cases_lt}
use Rattle.std.proofs.lemmas.List.Elements.{All-nil, All-cons, All-append, All-map, All-weaker, Contains-append_left, Contains-append_right}
use Rattle.std.specs.List.{range_with_len}
use Rattle.std.proofs.lemmas.List.FromFn.{length-map-range_with_len}
use Rattle.std.proofs.lemmas.Option.{same_Some, slice_get_within}
use Rattle.leg_lemmas.proofs.Contents.{Contains-map}
use Rattle.leg_lemmas.proofs.Places.{there_is}
use Rattle.leg_lemmas.proofs.RisingLists.{AllPairs-append_by, AllPairs-map}
use Rattle.leg_geom.specs.Plane.{IsRect}
use Rattle.leg_lib_records.specs.Scale.{OneForOne}
use Rattle.leg_design_records.specs.Records.{DesignModel}
use Rattle.leg_rules.specs.declared.shape.Shape.{Shape}
use Rattle.leg_rules.specs.Metal.Metal.{Metal, metal_of}
use Rattle.leg_rules.specs.Metal.Nets.{pieces_of}
use Rattle.leg_rules.specs.Metal.Flat.{FlatModel, IsShapeOf, IsFlatOf}
use Rattle.leg_rules.specs.declared.piece.Piece.{Piece}
use Rattle.leg_rules.specs.Joins.Touch.{piece_count, AreJoined, Touch}
use Rattle.leg_sweep.specs.Pairs.{Before}
use Rattle.leg_wire.specs.PieceMarks.{AreMarks, AreFirsts}
use Rattle.leg_wire.proofs.JoinedLaws.{Joined-onward, AreJoined-symmetric}
use Rattle.leg_drc.specs.Supply.{HasSomePoint, IsFirstWithPoint}
use Rattle.leg_drc.specs.Steps.CutOff.{IsCutOffPair, AreCutOff, IsCutOff, ArePiecesCutOff, IsFirstMark, IsApart, AreApart}

module _ (flat : FlatModel) (n : ℕ) (marks : List Bool) (groups : List ℕ) (marked : AreMarks (HasSomePoint flat n) (piece_count flat n) marks)
    (grouped : AreFirsts (AreJoined flat n) (piece_count flat n) groups) where
  -- a mark is set just where the piece has a point
  point_of_mark : (k : ℕ) → slice_get marks k ≡ Some true → HasSomePoint flat n k
  point_of_mark k set = (marked.each k true set).0 refl

  mark_of_point : (k : ℕ) → HasSomePoint flat n k → slice_get marks k ≡ Some true
  mark_of_point k some =
      let there = there_is marks k (rw marked.count some.lies_in.of_piece.there) in
      there.1 ∙ ap Some ((marked.each k there.0 there.1).1 some)

  first_of_mark : (first : ℕ) → IsFirstMark marks first → IsFirstWithPoint flat n first
  first_of_mark first is = record { has = point_of_mark first is.set; first = λ j some. is.least j (mark_of_point j some) }

  mark_of_first : (first : ℕ) → IsFirstWithPoint flat n first → IsFirstMark marks first
  mark_of_first first is = record { set = mark_of_point first is.has; least = λ j set. is.first j (point_of_mark j set) }

  -- two pieces are joined just where they are of one group
  group_of : (k : ℕ) → HasSomePoint flat n k → (least : ℕ) × (slice_get groups k ≡ Some least)
  group_of k some = there_is groups k (rw grouped.count some.lies_in.of_piece.there)

  one_group : (a b : ℕ) → HasSomePoint flat n a → HasSomePoint flat n b → AreJoined flat n b a → slice_get groups a ≡ slice_get groups b
  one_group a b some_a some_b joined =
      let at_a = group_of a some_a in
      let at_b = group_of b some_b in
      let of_a = grouped.each a at_a.0 at_a.1 in
      let of_b = grouped.each b at_b.0 at_b.1 in
      let a_low : at_a.0 ≤ at_b.0 =
      of_a.least at_b.0 of_b.within (Joined-onward (Touch flat n) a b at_b.0 (AreJoined-symmetric flat n b a joined) of_b.joined) in
      let b_low : at_b.0 ≤ at_a.0 = of_b.least at_a.0 of_a.within (Joined-onward (Touch flat n) b a at_a.0 joined of_a.joined) in
      let same : at_a.0 ≡ at_b.0 = omega (arith, a_low, b_low) in
      at_a.1 ∙ ap Some same ∙ sym at_b.1

  joined_in_group : (a b : ℕ) → HasSomePoint flat n a → HasSomePoint flat n b → slice_get groups a ≡ slice_get groups b → AreJoined flat n b a
  joined_in_group a b some_a some_b same =
      let at_a = group_of a some_a in
      let at_b = group_of b some_b in
      let of_a = grouped.each a at_a.0 at_a.1 in
      let of_b = grouped.each b at_b.0 at_b.1 in
      let one : at_a.0 ≡ at_b.0 = same_Some at_a.0 at_b.0 (sym at_a.1 ∙ same ∙ at_b.1) in
      let back : AreJoined flat n at_b.0 a = rw one at (AreJoined-symmetric flat n a at_a.0 of_a.joined) in
      Joined-onward (Touch flat n) b at_b.0 a of_b.joined back

  apart_of : (k : ℕ) → IsApart marks groups k → IsCutOff flat n k
  apart_of k is =
      let some = point_of_mark k is.set in
      let first = first_of_mark is.first is.is_first in
      record { first = is.first; is_first = first; has = some; cut_off = λ joined. is.other (one_group k is.first some first.has joined) }

  of_cut_off : (k : ℕ) → IsCutOff flat n k → IsApart marks groups k
  of_cut_off k is = record {
    first = is.first;
    is_first = mark_of_first is.first is.is_first;
    set = mark_of_point k is.has;
    other = λ same. is.cut_off (joined_in_group k is.first is.has is.is_first.has same);
  }

  -- the marked ones of another group are those that are cut off
  pub pieces_cut_off : (pieces : List ℕ) → AreApart marks groups pieces → ArePiecesCutOff flat n pieces
  pieces_cut_off pieces are = record {
    increasing = are.increasing;
    each = All-weaker (IsApart marks groups) (IsCutOff flat n) apart_of pieces are.each;
    all = λ k is. are.all k (of_cut_off k is);
  }

-- a net that has a piece is one of the flat
pub net_within : (flat : FlatModel) (n k : ℕ) → k < piece_count flat n → n < length flat.pieces
net_within flat n k there = by (slice_get flat.pieces n) refl there where
  by : (o : Option (List Piece)) → slice_get flat.pieces n ≡ o → k < piece_count flat n → n < length flat.pieces
  by None is there = absurd (let none = rw is at there in omega (arith, none))
  by (Some pieces) is there = slice_get_within flat.pieces n pieces is

-- the flat has a list of pieces for each entry
pub nets_within : (design : DesignModel) (flat : FlatModel) → IsFlatOf design flat → length design.nets ≤ length flat.pieces
nets_within design flat is =
    let entries = length design.nets + length design.special in
    let many : length (map (pieces_of design) (range_with_len 0 entries)) ≡ entries = length-map-range_with_len (pieces_of design) 0 entries in
    rw is.pieces (omega (arith, many))

-- shapes of metal have area
pub shapes_proper : (design : DesignModel) (flat : FlatModel) → IsFlatOf design flat → All (λ shape. IsRect shape.rect) flat.shapes
shapes_proper design flat is = by (metal_of design) flat.shapes is.shapes where
  by : (metal : List Metal) (shapes : List Shape) → OneForOne IsShapeOf metal shapes → All (λ shape. IsRect shape.rect) shapes
  by [] [] one = All-nil (λ shape. IsRect shape.rect)
  by [] (s ∷ shapes) one = absurd one
  by (m ∷ metal) [] one = absurd one
  by (m ∷ metal) (s ∷ shapes) one = All-cons (λ shape. IsRect shape.rect) s shapes one.0.proper (by metal shapes one.1)

module _ (design : DesignModel) (flat : FlatModel) where
  -- a piece that is cut off, of one of the first nets
  pub record IsCutOffBelow (end : ℕ) (p : ℕ × ℕ) : Type 0 where
    pub below : p.0 < end
    pub holds : IsCutOffPair design flat p

  pub record AreCutOffBelow (end : ℕ) (pairs : List (ℕ × ℕ)) : Type 0 where
    pub increasing : AllPairs Before pairs
    pub each : All (IsCutOffBelow end) pairs
    pub all : (p : ℕ × ℕ) → p.0 < end → IsCutOffPair design flat p → Contains pairs p

  -- the pieces of one more net
  module _ (net : ℕ) (alone : length design.nets ≤ net) where
    here : (k : ℕ) → IsCutOff flat net k → IsCutOffBelow (net + 1) (net, k)
    here k is = record { below = omega arith; holds = record { first = is.first; alone = alone; is_first = is.is_first; has = is.has; cut_off = is.cut_off } }

    pub cut_off_more : (before : List (ℕ × ℕ)) (pieces : List ℕ) → AreCutOffBelow net before → ArePiecesCutOff flat net pieces
        → AreCutOffBelow (net + 1) (before ++ map (λ k. (net, k)) pieces)
    cut_off_more before pieces done are =
        let more = map (λ k. (net, k)) pieces in
        record {
          increasing =
              AllPairs-append_by Before (IsCutOffBelow net) (λ p. p.0 ≡ net)
              (λ p q low same. record { first = omega (arith, low.below, same); second = λ equal. absurd (omega (arith, low.below, same, equal)) })
              before more done.each (All-map (λ p. p.0 ≡ net) (λ k. (net, k)) pieces (All-weaker (IsCutOff flat net) (λ k. net ≡ net) (λ k _. refl)
              pieces are.each))
              done.increasing
              (AllPairs-map (λ j k. j < k) Before (λ k. (net, k)) (λ j k less. record { first = omega arith; second = λ _. less }) pieces are.increasing);
          each =
              All-append (IsCutOffBelow (net + 1)) before more
              (All-weaker (IsCutOffBelow net) (IsCutOffBelow (net + 1)) (λ p is. record { below = omega (arith, is.below); holds = is.holds }) before done.each)
              (All-map (IsCutOffBelow (net + 1)) (λ k. (net, k)) pieces (All-weaker (IsCutOff flat net) (λ k. IsCutOffBelow (net + 1) (net, k)) here
              pieces are.each));
          all = λ p below holds. elim (cases_lt p.0 net) [
            | inl low ↦ Contains-append_left before more p (done.all p low holds)
            | inr late ↦
                let same : p.0 ≡ net = omega (arith, below, late) in
                let is : IsCutOff flat p.0 p.1 = record { first = holds.first; is_first = holds.is_first; has = holds.has; cut_off = holds.cut_off } in
                let there : Contains more (net, p.1) = Contains-map (λ k. (net, k)) pieces p.1 (are.all p.1 (rw same at is)) in
                Contains-append_right before more p (subst (λ n. Contains more (n, p.1)) (sym same) there)
          ];
        }

  -- all nets of the flat were looked at
  pub cut_off_all : (end : ℕ) (pairs : List (ℕ × ℕ)) → end ≡ length flat.pieces → AreCutOffBelow end pairs → AreCutOff design flat pairs
  cut_off_all end pairs is done = record {
    increasing = done.increasing;
    each = All-weaker (IsCutOffBelow end) (IsCutOffPair design flat) (λ p is. is.holds) pairs done.each;
    all = λ p holds. done.all p (let within = net_within flat p.0 p.1 holds.has.lies_in.of_piece.there in omega (arith, is, within)) holds;
  }
