-- One piece more of a net: its metal is taken with that of the others, and then all that are joined are together.
use Rattle.std.proofs.Common.{◌≡◌, ◌≢◌, ℕ, ◌+◌, ◌<◌, ℤ, List, [], ◌∷◌, ◌++◌, length, get_or, All, Some, None, slice_get, Contains, inl, inr, refl, sym, ap, ◌∙◌, arith}
use Rattle.std.proofs.lemmas.Bool.{cases_eq}
use Rattle.std.proofs.lemmas.List.{length-append, get_or_append_left, get_or-append-add}
use Rattle.std.proofs.lemmas.List.Elements.{All-nil, All-cons, All-contains, All-append, All-weaker, Contains-append_left, Contains-append_cases}
use Rattle.std.proofs.lemmas.Option.{none-some, slice_get_read}
use Rattle.leg_geom.specs.Pairs.{IsPair}
use Rattle.leg_sweep.proofs.Lists.{All-from_contains, Contains-nil}
use Rattle.leg_geom.specs.Plane.{PointModel, RectModel}
use Rattle.leg_rules.specs.declared.shape.Shape.{Shape}
use Rattle.leg_wire.specs.declared.corner.Beside.{Beside}
use Rattle.leg_wire.specs.declared.piece_shape.PieceShape.{PieceShape}
use Rattle.leg_rules.specs.Joins.Touch.{Joined}
use Rattle.leg_rules.specs.Joins.Touch.Joined.{itself, through}
use Rattle.leg_wire.specs.Steps.MeetingRule.{DoMeet, DoMeet-symmetric}
use Rattle.leg_wire.specs.Steps.NumberSets.{AreTogether, AreGroups, HasGrown}
use Rattle.leg_wire.specs.Steps.PieceMetal.{LiesAmong, TouchAmong}
use Rattle.leg_wire.specs.Steps.SharedPoints.{first_seen}
use Rattle.leg_wire.specs.Steps.JoinSteps.{AreSetsOf, HavePlaces, AreKept}
use Rattle.leg_wire.specs.Joins.{metal_of_piece}
use Rattle.leg_wire.specs.Steps.Joins.{first_rects, HasOneNumberMore, JoinsNew, IsKeptSet}
use Rattle.leg_wire.proofs.SetUnions.{AreTogether-itself, AreTogether-onward}
use Rattle.leg_wire.proofs.PiecesTouch.{IsDone, IsDone-back, AreSoFar, AreDone, touch_together}
use Rattle.leg_wire.proofs.SetsOfPairs.{taken_so_far, taken_keeps}
use Rattle.leg_wire.proofs.SomeMetal.{joined_more}
use Rattle.leg_wire.proofs.NewPairs.{all_rects, rects_stay}
use Rattle.leg_wire.proofs.PieceOrder.{in_order_more}

-- shapes as metal of a piece are of that piece
pub of_piece : (piece : ℕ) (shapes : List Shape) → All (λ (shape : PieceShape). shape.piece ≡ piece) (metal_of_piece piece shapes)
of_piece piece [] = All-nil (λ (shape : PieceShape). shape.piece ≡ piece)
of_piece piece (shape ∷ shapes) =
    All-cons (λ (shape : PieceShape). shape.piece ≡ piece) (record { piece = piece; layer = shape.layer; rect = shape.rect }) (metal_of_piece piece shapes) refl
    (of_piece piece shapes)

-- each piece whose metal is there has a number still, and so has the new one
pub places_more : (metal new : List PieceShape) (sets grown : List ℕ) → HavePlaces sets metal → All (λ shape. shape.piece ≡ length sets) new
    → HasOneNumberMore sets grown → HavePlaces grown (metal ++ new)
places_more metal new sets grown places new_is more =
    All-append (λ (shape : PieceShape). shape.piece < length grown) metal new
    (All-weaker (λ (shape : PieceShape). shape.piece < length sets) (λ (shape : PieceShape). shape.piece < length grown)
    (λ shape low. omega (arith, low, more.count)) metal places)
    (All-weaker (λ (shape : PieceShape). shape.piece ≡ length sets) (λ (shape : PieceShape). shape.piece < length grown)
    (λ shape is. omega (arith, is, more.count)) new new_is)

-- the metal of the pieces before, and that of the new one, which has the next number
module _ (metal new : List PieceShape) (sets grown : List ℕ) (are : AreSetsOf metal (length sets) sets) (places : HavePlaces sets metal)
    (new_is : All (λ shape. shape.piece ≡ length sets) new) (more : HasOneNumberMore sets grown) where
  abbrev all : List PieceShape
  all = metal ++ new

  among : All (Contains all) metal
  among = All-from_contains (Contains all) metal (λ shape has. Contains-append_left metal new shape has)

  -- before any pair is taken
  begun : (seen : List (Beside × (ℤ × ℤ))) → ((pieces : Beside) → first_seen seen pieces ≡ None) → AreSoFar all (length grown) [] grown seen
  begun seen unseen = record {
    size = refl;
    joined = λ a b together. elim (more.no_more a b together) [
      | inl old ↦ joined_more metal all among a b (are.some.joined a b old)
      | inr same ↦ rw same itself
    ];
    points = λ pieces point at. absurd (none-some point (sym (unseen pieces) ∙ at));
    done = λ p s t has s_at t_at. absurd (Contains-nil p has);
  }

  -- what lies in an old piece lies among the old metal
  lies_old : (a layer : ℕ) (p : PointModel) → a ≢ length sets → LiesAmong all a layer p → LiesAmong metal a layer p
  lies_old a layer p old lies = elim (Contains-append_cases metal new lies.shape lies.has) [
    | inl had ↦ record { shape = lies.shape; has = had; of_piece = lies.of_piece; on_layer = lies.on_layer; inside = lies.inside }
    | inr came ↦ absurd (old (sym lies.of_piece ∙ All-contains (λ (shape : PieceShape). shape.piece ≡ length sets) new lies.shape new_is came))
  ]

  -- old pieces that touch were together
  touch_old : (a b : ℕ) → a ≢ length sets → b ≢ length sets → TouchAmong all a b → AreTogether sets a b
  touch_old a b a_old b_old t =
      let here = lies_old a t.layer t.p a_old t.p_in_a in
      let low : here.shape.piece < length sets = All-contains (λ (shape : PieceShape). shape.piece < length sets) metal here.shape places here.has in
      are.all a b (omega (arith, low, here.of_piece))
      (through itself
      (record {
        others = t.others;
        layer = t.layer;
        p = t.p;
        q = t.q;
        differ = t.differ;
        p_in_a = here;
        p_in_b = lies_old b t.layer t.p b_old t.p_in_b;
        q_in_a = lies_old a t.layer t.q a_old t.q_in_a;
        q_in_b = lies_old b t.layer t.q b_old t.q_in_b;
      }))

  -- metal of an old piece is old, and metal of the new one is new
  is_old : (s : PieceShape) → Contains all s → s.piece ≢ length sets → Contains metal s
  is_old s has old = elim (Contains-append_cases metal new s has) [
    | inl had ↦ had
    | inr came ↦ absurd (old (All-contains (λ (shape : PieceShape). shape.piece ≡ length sets) new s new_is came))
  ]

  is_new : (s : PieceShape) → Contains all s → s.piece ≡ length sets → Contains new s
  is_new s has is = elim (Contains-append_cases metal new s has) [
    | inl had ↦
        let low : s.piece < length sets = All-contains (λ (shape : PieceShape). shape.piece < length sets) metal s places had in
        absurd (omega (arith, low, is))
    | inr came ↦ came
  ]

  -- all pairs of an old rectangle and a new one were taken
  module _ (sets_after : List ℕ) (joins : JoinsNew all (length metal) grown sets_after) where
    so_far : AreSoFar all (length grown) joins.takes.found sets_after joins.seen_after
    so_far = taken_so_far all (length grown) _ _ joins.takes.found refl (begun joins.seen joins.unseen) joins.takes.each joins.takes.taken

    kept : AreKept grown sets_after
    kept = taken_keeps all _ _ joins.takes.found refl joins.takes.each joins.takes.taken

    -- an old rectangle and a new one that meet are done
    pair_done : (s t : PieceShape) → Contains metal s → Contains new t → DoMeet s t → IsDone sets_after joins.seen_after s t
    pair_done s t s_in t_in meet =
        let k = length metal + t_in.0 in
        let many : length all ≡ length metal + length new = length-append metal new in
        let s_at : slice_get all s_in.0 ≡ Some s =
        slice_get_read all _ s_in.0 s refl (omega (arith, many, s_in.1)) (sym (get_or_append_left metal new s s_in.0 s_in.1 ∙ s_in.2)) in
        let t_at : slice_get all k ≡ Some t =
        slice_get_read all _ k t refl (omega (arith, many, t_in.1)) (sym (get_or-append-add metal new t_in.0 t ∙ t_in.2)) in
        let pair : IsPair DoMeet all (s_in.0, k) = record { a = s; b = t; a_at = s_at; b_at = t_at; in_order = omega (arith, s_in.1); holds = meet } in
        so_far.done (s_in.0, k) s t (joins.takes.all s_in.0 k s_in.1 (omega arith) (omega (arith, many, t_in.1)) pair) s_at t_at

    -- and so is the metal of a piece with that of the new one
    done_to_new : (a b : ℕ) → a ≢ b → b ≡ length sets → AreDone all sets_after joins.seen_after a b
    done_to_new a b others b_new s t s_in t_in s_of t_of meet =
        pair_done s t (is_old s s_in (λ same. others (sym s_of ∙ same ∙ sym b_new))) (is_new t t_in (t_of ∙ b_new)) meet

    done_from_new : (a b : ℕ) → a ≢ b → a ≡ length sets → AreDone all sets_after joins.seen_after a b
    done_from_new a b others a_new s t s_in t_in s_of t_of meet =
        IsDone-back sets_after joins.seen_after t s (sym meet.layer)
        (pair_done t s (is_old t t_in (λ same. others (a_new ∙ sym same ∙ t_of))) (is_new s s_in (s_of ∙ a_new)) (DoMeet-symmetric s t meet))

    -- pieces that touch are together
    touch_all : (a b : ℕ) → TouchAmong all a b → AreTogether sets_after a b
    touch_all a b t = elim (cases_eq a (length sets)) [
      | inl a_new ↦ touch_together all sets_after joins.seen_after a b (done_from_new a b t.others a_new) t
      | inr a_old ↦ elim (cases_eq b (length sets)) [
        | inl b_new ↦ touch_together all sets_after joins.seen_after a b (done_to_new a b t.others b_new) t
        | inr b_old ↦ kept a b (more.kept a b (touch_old a b a_old b_old t))
      ]
    ]

    joined_all : (a b : ℕ) → a < length sets_after → Joined (TouchAmong all) a b → AreTogether sets_after a b
    joined_all a b low itself = AreTogether-itself sets_after a low
    joined_all a b low (through {b = c} joined touch) = AreTogether-onward sets_after a c b (joined_all a c low joined) (touch_all c b touch)

    -- the sets are those of all metal, and what is kept is right
    pub sets_with_new : length sets_after ≡ length grown → AreSetsOf all (length sets_after) sets_after
    sets_with_new same = record {
      some = record { size = refl; joined = so_far.joined };
      all = joined_all;
    }

-- the sets and their lists once the metal of a new piece, whose shapes these are, is joined to what it touches
pub record IsNewPieceJoined (metal : List PieceShape) (shapes : List Shape) (index : List RectModel) (sets grown sets_after : List ℕ)
    (lists lists_after : List (List ℕ)) : Type 0 where
  pub joins : JoinsNew (metal ++ metal_of_piece (length sets) shapes) (length index) grown sets_after
  pub count : length sets_after ≡ length grown
  pub groups : AreGroups sets_after lists_after
  pub longer : HasGrown (get_or lists 0 []) (get_or lists_after 0 [])

-- what is kept is right with the new piece
pub kept_more : (metal : List PieceShape) (shapes : List Shape) (index before : List RectModel) (sets grown sets_after : List ℕ)
    (lists lists_after : List (List ℕ)) (given : ℕ)
    → IsKeptSet metal before sets lists given → index ≡ first_rects (length metal) metal → HasOneNumberMore sets grown
    → IsNewPieceJoined metal shapes index sets grown sets_after lists lists_after
    → IsKeptSet (metal ++ metal_of_piece (length sets) shapes) index sets_after lists_after given
kept_more metal shapes index before sets grown sets_after lists lists_after given kept index_is more joined =
    let new = metal_of_piece (length sets) shapes in
    let new_is = of_piece (length sets) shapes in
    let count : length index ≡ length metal = ap length index_is ∙ all_rects metal in
    let places_then : HavePlaces grown (metal ++ new) = places_more metal new sets grown kept.places new_is more in
    let all = length-append metal new in
    let size : length (get_or lists_after 0 []) ≡ length (get_or lists 0 []) + length joined.longer.more =
    ap length joined.longer.is ∙ length-append (get_or lists 0 []) joined.longer.more in
    record {
      sets_are = sets_with_new metal new sets grown kept.sets_are kept.places new_is more sets_after (rw count at joined.joins) joined.count;
      places = rw joined.count places_then;
      within = omega (arith, count, all);
      first = rw count (index_is ∙ sym (rects_stay metal new (length metal) (omega arith)));
      in_order = in_order_more metal new (length sets) kept.in_order kept.places new_is;
      listed = joined.groups;
      few = omega (arith, kept.few, size);
    }
