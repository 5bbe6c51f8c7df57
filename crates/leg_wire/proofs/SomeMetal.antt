-- Sets of pieces by some of the metal, and by pairs of rectangles that share two points.
use Rattle.std.proofs.Common.{◌≡◌, ℕ, ◌+◌, ◌<◌, Some, slice_get, sym, ap, List, length, get_or, All, Contains, inl, inr, ◌∙◌, arith}
use Rattle.std.proofs.lemmas.List.Elements.{All-contains}
use Rattle.std.proofs.lemmas.Bool.{cases_lt}
use Rattle.std.proofs.lemmas.Option.{same_Some, get_or_from_slice_get}
use Rattle.leg_geom.specs.Plane.{PointModel, ShareTwoPoints}
use Rattle.leg_wire.specs.declared.piece_shape.PieceShape.{PieceShape}
use Rattle.leg_rules.specs.Joins.Touch.{Joined}
use Rattle.leg_rules.specs.Joins.Touch.Joined.{itself, through}
use Rattle.leg_wire.specs.Steps.NumberSets.{AreTogether, AreUnited}
use Rattle.leg_wire.specs.Steps.PieceMetal.{LiesAmong, TouchAmong}
use Rattle.leg_wire.specs.Steps.JoinSteps.{IsTouchStep, AreSomeJoined, AreSetsOf, AreKept, AreTogetherAlike}
use Rattle.leg_wire.specs.Steps.JoinSteps.IsTouchStep.{stay, touch}
use Rattle.leg_wire.proofs.SetUnions.{AreTogether-itself}
use Rattle.leg_wire.proofs.JoinedLaws.{Joined-onward}
use Rattle.leg_wire.proofs.PiecesTouch.{TouchAmong-back, touch_by_two}

module _ (kinds metal : List PieceShape) (among : All (Contains metal) kinds) where
  -- what lies among some of the metal lies among all of it
  lies_more : (a layer : ℕ) (p : PointModel) → LiesAmong kinds a layer p → LiesAmong metal a layer p
  lies_more a layer p lies = record {
    shape = lies.shape;
    has = All-contains (Contains metal) kinds lies.shape among lies.has;
    of_piece = lies.of_piece;
    on_layer = lies.on_layer;
    inside = lies.inside;
  }

  touch_more : (a b : ℕ) → TouchAmong kinds a b → TouchAmong metal a b
  touch_more a b t = record {
    others = t.others;
    layer = t.layer;
    p = t.p;
    q = t.q;
    differ = t.differ;
    p_in_a = lies_more a t.layer t.p t.p_in_a;
    p_in_b = lies_more b t.layer t.p t.p_in_b;
    q_in_a = lies_more a t.layer t.q t.q_in_a;
    q_in_b = lies_more b t.layer t.q t.q_in_b;
  }

  pub joined_more : (a b : ℕ) → Joined (TouchAmong kinds) a b → Joined (TouchAmong metal) a b
  joined_more a b itself = itself
  joined_more a b (through {b = c} joined touches) = through (joined_more a c joined) (touch_more c b touches)

  -- the sets by some of the metal
  pub some_of_kinds : (count : ℕ) (sets : List ℕ) → AreSetsOf kinds count sets → AreSomeJoined metal count sets
  some_of_kinds count sets are = record { size = are.some.size; joined = λ a b together. joined_more a b (are.some.joined a b together) }

module _ (metal : List PieceShape) (count : ℕ) (sets after : List ℕ) (some : AreSomeJoined metal count sets) (s t : PieceShape) (s_in : Contains metal s)
    (t_in : Contains metal t) where
  -- two pieces that touch are made one
  joined_by_touch : TouchAmong metal s.piece t.piece → AreUnited s.piece t.piece sets after → (a b : ℕ) → AreTogether after a b → Joined (TouchAmong metal) a b
  joined_by_touch touches united a b together =
      let old = some.joined in
      let meets = TouchAmong metal in
      elim (united.no_more a b together) [
        | inl was ↦ old a b was
        | inr new ↦ elim new [
          | inl over ↦ Joined-onward meets a t.piece b (through (old a s.piece over.0) touches) (old t.piece b over.1)
          | inr back ↦ Joined-onward meets a s.piece b (through (old a t.piece back.0) (TouchAmong-back metal s.piece t.piece touches)) (old s.piece b back.1)
        ]
      ]

  -- or they stay
  pub some_more : IsTouchStep s t sets after → AreSomeJoined metal count after
  some_more (stay same apart) = rw same some
  some_more (touch layer others two united) = record {
    size = united.count ∙ some.size;
    joined =
        joined_by_touch
        (touch_by_two metal s t s_in t_in
        (record { layer = layer; others = others; shared = record { point = two.p; in_a = two.p_in_a; in_b = two.p_in_b } }) two)
        united;
  }

-- what stands for a kind is some of the metal
pub kind_among : (metal kinds : List PieceShape) (numbers : List ℕ) → length numbers ≡ length metal → All (λ number. number < length kinds) numbers
    → All (Contains metal) kinds → (k d : ℕ) (kind : PieceShape) → k < length metal → kind ≡ get_or kinds (get_or numbers k d) kind → Contains metal kind
kind_among metal kinds numbers count within among k d kind there is =
    let low : get_or numbers k d < length kinds = within k d (omega (arith, count, there)) in
    rw (← is) at (among (get_or numbers k d) kind low)

-- the shapes so far are with those that stand for their kinds
pub alike_more : (metal kinds : List PieceShape) (numbers : List ℕ) (i : ℕ) (sets after : List ℕ) → AreTogetherAlike metal kinds numbers i sets
    → AreKept sets after
    → (s t : PieceShape) → slice_get metal i ≡ Some s → t ≡ get_or kinds (get_or numbers i 0) t → s.piece < length after → IsTouchStep s t sets after
    → AreTogetherAlike metal kinds numbers (i + 1) after
alike_more metal kinds numbers i sets after done kept s t s_at t_is low step k one kind below at kind_at layer two = elim (cases_lt k i) [
  | inl before ↦ kept one.piece kind.piece (done k one kind before at kind_at layer two)
  | inr late ↦
      let here : k ≡ i = omega (arith, late, below) in
      let one_is : s ≡ one = same_Some s one (sym s_at ∙ ap (slice_get metal) (sym here) ∙ at) in
      let read : get_or kinds (get_or numbers i 0) t ≡ kind = get_or_from_slice_get kinds (get_or numbers i 0) kind t (rw here at kind_at) in
      let kind_is : t ≡ kind = t_is ∙ read in
      rw (← one_is, ← kind_is) (by step (rw (one_is, kind_is) layer) (rw (one_is, kind_is) two))
]
  where
    by : IsTouchStep s t sets after → s.layer ≡ t.layer → ShareTwoPoints s.rect t.rect → AreTogether after s.piece t.piece
    by (stay same apart) layer two = rw (sym (apart layer two)) (AreTogether-itself after s.piece low)
    by (touch layer others two united) on share = united.both

-- what was together stays so
pub kept_more : (s t : PieceShape) (sets after : List ℕ) → IsTouchStep s t sets after → AreKept sets after
kept_more s t sets after (stay same apart) a b together = rw same together
kept_more s t sets after (touch layer others two united) a b together = united.kept a b together
