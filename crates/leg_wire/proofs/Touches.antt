-- Which pieces touch and which are joined, by the metal of a net's pieces.
use Rattle.std.proofs.Common.{◌≡◌, ◌≢◌, ℕ, ◌+◌, ◌<◌, ◌^◌, ℤ, Bool, true, IsTrue, List, [], All, Option, None, Some, option_map, length, get_or, slice_get, inl, inr, refl, sym, ◌∙◌, arith}
use Rattle.std.specs.List.{range_with_len}
use Rattle.std.proofs.lemmas.Bool.{cases_eq}
use Rattle.std.proofs.lemmas.List.Elements.{All-contains}
use Rattle.std.proofs.lemmas.List.FromFn.{length-range_with_len, get_or-range_with_len}
use Rattle.std.proofs.lemmas.Option.{same_Some, none-some, slice_get_within, slice_get-get_or, get_or_from_slice_get}
use Rattle.leg_sweep.proofs.Lists.{All-from_contains, Contains-nil}
use Rattle.leg_geom.specs.Plane.{PointModel}
use Rattle.leg_rules.specs.declared.piece.Piece.{Piece}
use Rattle.leg_rules.specs.declared.shape.Shape.{Shape}
use Rattle.leg_rules.specs.Metal.Flat.{FlatModel}
use Rattle.leg_wire.specs.declared.corner.Beside.{Beside}
use Rattle.leg_wire.specs.declared.piece_shape.PieceShape.{PieceShape}
use Rattle.leg_wire.specs.Steps.NumberSets.{AreTogether}
use Rattle.leg_wire.specs.Steps.PieceMetal.{LiesAmong, TouchAmong}
use Rattle.leg_wire.specs.Steps.SharedPoints.{first_seen}
use Rattle.leg_wire.specs.Steps.JoinSteps.{AreSomeJoined, AreSetsOf, AreJoinedSets}
use Rattle.leg_wire.specs.Joins.{JoinsModel, AreJoinsOf, ArePieceShapes}
use Rattle.leg_wire.specs.PieceMarks.{AreMarks, AreFirsts}
use Rattle.leg_rules.specs.Joins.Touch.{piece_count, IsOfPiece, LiesIn, Touch, Joined, AreJoined}
use Rattle.leg_rules.specs.Joins.Touch.Joined.{itself, through}
use Rattle.leg_wire.proofs.PiecesTouch.{AreSoFar}
use Rattle.leg_wire.proofs.SetUnions.{AreTogether-back, AreTogether-onward}

-- the pieces of a net that the flat tells are counted
pub piece_count-is : (flat : FlatModel) (n count : ℕ) → option_map length (slice_get flat.pieces n) ≡ Some count → piece_count flat n ≡ count
piece_count-is flat n count told = by (slice_get flat.pieces n) refl where
  by : (o : Option (List Piece)) → slice_get flat.pieces n ≡ o → piece_count flat n ≡ count
  by None is = absurd (none-some count (rw is at told))
  by (Some pieces) is = rw is (same_Some (length pieces) count (rw is at told))

-- and few enough
pub few_pieces : (flat : FlatModel) (n : ℕ) → All (λ pieces. length pieces < 2 ^ 32) flat.pieces → piece_count flat n < 2 ^ 32
few_pieces flat n few = by (slice_get flat.pieces n) refl where
  by : (o : Option (List Piece)) → slice_get flat.pieces n ≡ o → piece_count flat n < 2 ^ 32
  by None is = rw is (omega arith)
  by (Some pieces) is =
      rw is
      (All-contains (λ pieces. length pieces < 2 ^ 32) flat.pieces pieces few
      (n, slice_get_within flat.pieces n pieces is, get_or_from_slice_get flat.pieces n pieces pieces is))

of_piece_at : (flat : FlatModel) (n j k : ℕ) (shape : Shape) → j ≡ k → IsOfPiece flat n j shape → IsOfPiece flat n k shape
of_piece_at flat n j k shape piece is = rw (← piece) is

module _ (flat : FlatModel) (n : ℕ) (pieces : List PieceShape) (are : ArePieceShapes flat n pieces) where
  -- what lies among the metal of pieces lies in the flat's
  lies_in : (k layer : ℕ) (p : PointModel) → LiesAmong pieces k layer p → LiesIn flat n k layer p
  lies_in k layer p lies =
      let told = are.each lies.shape lies.has in
      let says = told.2 in
      record {
        shape = told.0;
        has = told.1;
        of_piece = of_piece_at flat n lies.shape.piece k told.0 lies.of_piece says.of_piece;
        on_layer = sym says.layer ∙ lies.on_layer;
        inside = rw says.rect at lies.inside;
      }

  touch_in : (a b : ℕ) → TouchAmong pieces a b → Touch flat n a b
  touch_in a b t = record {
    layer = t.layer;
    p = t.p;
    q = t.q;
    differ = t.differ;
    p_in_a = lies_in a t.layer t.p t.p_in_a;
    p_in_b = lies_in b t.layer t.p t.p_in_b;
    q_in_a = lies_in a t.layer t.q t.q_in_a;
    q_in_b = lies_in b t.layer t.q t.q_in_b;
  }

  -- and the other way round
  lies_among : (k layer : ℕ) (p : PointModel) → LiesIn flat n k layer p → LiesAmong pieces k layer p
  lies_among k layer p lies =
      let piece : PieceShape = record { piece = k; layer = lies.shape.layer; rect = lies.shape.rect } in
      record {
        shape = piece;
        has = are.all lies.shape piece lies.has (record { of_piece = lies.of_piece; layer = refl; rect = refl });
        of_piece = refl;
        on_layer = lies.on_layer;
        inside = lies.inside;
      }

  touch_among : (a b : ℕ) → a ≢ b → Touch flat n a b → TouchAmong pieces a b
  touch_among a b others t = record {
    others = others;
    layer = t.layer;
    p = t.p;
    q = t.q;
    differ = t.differ;
    p_in_a = lies_among a t.layer t.p t.p_in_a;
    p_in_b = lies_among b t.layer t.p t.p_in_b;
    q_in_a = lies_among a t.layer t.q t.q_in_a;
    q_in_b = lies_among b t.layer t.q t.q_in_b;
  }

  -- what is joined in the flat is so by the metal of pieces; a piece that touches itself goes nowhere
  joined_among : (a k : ℕ) → AreJoined flat n a k → Joined (TouchAmong pieces) a k
  joined_among a k itself = itself
  joined_among a k (through {b = b} joined touch) =
      elim (cases_eq b k) [
        | inl same ↦ rw same at (joined_among a b joined)
        | inr others ↦ through (joined_among a b joined) (touch_among b k others touch)
      ]

  -- and the other way round
  joined_in : (a k : ℕ) → Joined (TouchAmong pieces) a k → AreJoined flat n a k
  joined_in a k itself = itself
  joined_in a k (through {b = b} joined touch) = through (joined_in a b joined) (touch_in b k touch)

  -- each piece whose metal is there is one of as many
  pub places_below : (count : ℕ) → piece_count flat n ≡ count → All (λ shape. shape.piece < count) pieces
  places_below count counted =
      All-from_contains (λ shape. shape.piece < count) pieces (λ shape has. omega (arith, counted, (are.each shape has).2.of_piece.there))

  -- the sets by the metal are those of the pieces that are joined
  pub sets_of_net : (sets : List ℕ) → AreSetsOf pieces (piece_count flat n) sets → AreJoinedSets flat n sets
  sets_of_net sets are_sets = record {
    count = are_sets.some.size;
    each = λ a b a_in. (λ together. joined_in a b (are_sets.some.joined a b together), λ joined. are_sets.all a b a_in (joined_among a b joined));
  }

  -- and back
  pub sets_of_metal : (sets : List ℕ) → AreJoinedSets flat n sets → AreSetsOf pieces (length sets) sets
  sets_of_metal sets joined = record {
    some = record {
      size = refl;
      joined = λ a b together.
          let low : a < length sets = slice_get_within sets a together.least together.of_a in
          joined_among a b ((joined.each a b (omega (arith, low, joined.count))).0 together);
    };
    all = λ a b low is. (joined.each a b (omega (arith, low, joined.count))).1 (joined_in a b is);
  }

  -- what is joined to a piece is one
  joined_within : (a b : ℕ) → a < piece_count flat n → AreJoined flat n a b → b < piece_count flat n
  joined_within a b a_in itself = a_in
  joined_within a b a_in (through joined touch) = touch.p_in_b.of_piece.there

  -- where all pieces are together, what is together needs only to be joined
  pub sets_of_one : (sets : List ℕ) → AreSomeJoined pieces (piece_count flat n) sets → ((k : ℕ) → k < piece_count flat n → AreTogether sets 0 k)
      → AreJoinedSets flat n sets
  sets_of_one sets some one = record {
    count = some.size;
    each = λ a b a_in. (
      λ together. joined_in a b (some.joined a b together),
      λ joined. AreTogether-onward sets a 0 b (AreTogether-back sets 0 a (one a a_in)) (one b (joined_within a b a_in joined)),
    );
  }

-- the sets that are kept of a net are those of its pieces
pub sets_of_joins : (flat : FlatModel) (joins : JoinsModel) → AreJoinsOf flat joins → AreSetsOf joins.metal (length joins.sets) joins.sets
    → AreJoinedSets flat joins.net joins.sets
sets_of_joins flat joins are sets = sets_of_net flat joins.net joins.metal are.metal joins.sets (rw are.count at sets)

-- numbers that are each in a set of its own are together with themselves alone
alone : (count a b : ℕ) → AreTogether (range_with_len 0 count) a b → a ≡ b
alone count a b together =
    let sets = range_with_len 0 count in
    let many : length sets ≡ count = length-range_with_len 0 count in
    let a_in : a < length sets = slice_get_within sets a together.least together.of_a in
    let b_in : b < length sets = slice_get_within sets b together.least together.of_b in
    let least_a : get_or sets a 0 ≡ together.least = get_or_from_slice_get sets a together.least 0 together.of_a in
    let least_b : get_or sets b 0 ≡ together.least = get_or_from_slice_get sets b together.least 0 together.of_b in
    let own_a : get_or sets a 0 ≡ 0 + a = get_or-range_with_len 0 count a 0 (omega (arith, many, a_in)) in
    let own_b : get_or sets b 0 ≡ 0 + b = get_or-range_with_len 0 count b 0 (omega (arith, many, b_in)) in
    omega (arith, least_a, least_b, own_a, own_b)

-- nothing was taken
pub so_far_none : (pieces : List PieceShape) (count : ℕ) (seen : List (Beside × (ℤ × ℤ))) → ((beside : Beside) → first_seen seen beside ≡ None)
    → AreSoFar pieces count [] (range_with_len 0 count) seen
so_far_none pieces count seen unseen = record {
  size = length-range_with_len 0 count;
  joined = λ a b together. rw (alone count a b together) itself;
  points = λ beside point at. absurd (none-some point (sym (unseen beside) ∙ at));
  done = λ p s t has s_at t_at. absurd (Contains-nil p has);
}

-- marks of what is together with the first piece are marks of what is joined to it
pub marks_of_joined : (flat : FlatModel) (net : ℕ) (sets : List ℕ) (marks : List Bool) → AreJoinedSets flat net sets
    → AreMarks (AreTogether sets 0) (length sets) marks → AreMarks (AreJoined flat net 0) (piece_count flat net) marks
marks_of_joined flat net sets marks joined done = record {
  count = done.count ∙ joined.count;
  each = λ k mark at.
      let within : k < length marks = slice_get_within marks k mark at in
      let some : 0 < piece_count flat net = omega (arith, within, done.count, joined.count) in
      let same = joined.each 0 k some in
      (λ set_mark. same.0 ((done.each k mark at).0 set_mark), λ joins. (done.each k mark at).1 (same.1 joins));
}

-- and the least pieces that are together with each are the least that are joined to it
pub firsts_of_joined : (flat : FlatModel) (net : ℕ) (sets firsts : List ℕ) → AreJoinedSets flat net sets → AreFirsts (AreTogether sets) (length sets) firsts
    → AreFirsts (AreJoined flat net) (piece_count flat net) firsts
firsts_of_joined flat net sets firsts joined done = record {
  count = done.count ∙ joined.count;
  each = λ k first at.
      let within : k < length firsts = slice_get_within firsts k first at in
      let k_in : k < piece_count flat net = omega (arith, within, done.count, joined.count) in
      let is = done.each k first at in
      record {
        within = omega (arith, is.within, joined.count);
        joined = (joined.each k first k_in).0 is.joined;
        least = λ j j_in joins. is.least j (omega (arith, j_in, joined.count)) ((joined.each k j k_in).1 joins);
      };
}

-- where all marks of what is together with the first piece are set, all pieces are
pub all_marked : (sets : List ℕ) (count : ℕ) (marks : List Bool) → length sets ≡ count → AreMarks (AreTogether sets 0) (length sets) marks
    → All (λ mark. IsTrue mark) marks → (k : ℕ) → k < count → AreTogether sets 0 k
all_marked sets count marks many done set k k_in =
    let within : k < length marks = omega (arith, done.count, many, k_in) in
    (done.each k (get_or marks k true) (slice_get-get_or marks k true within)).0 (set k true within)
