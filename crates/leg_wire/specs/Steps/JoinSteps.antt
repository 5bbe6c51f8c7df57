-- What a search for metal that meets has found: the sets of a net's pieces, and the single points that were seen.
use Rattle.std.specs.Prelude.{◌≡◌, ◌≢◌, ◌↔◌, ◌+◌, ◌<◌, ◌≤◌, ℕ, ℤ, Bool, true, false, List, ◌++◌, All, Contains, length, get_or, Some, slice_get}
use Rattle.leg_geom.specs.Plane.{SharePoint, ShareTwoPoints}
use Rattle.leg_rules.specs.Metal.Flat.{FlatModel}
use Rattle.leg_wire.specs.declared.corner.Beside.{Beside}
use Rattle.leg_wire.specs.declared.piece_shape.PieceShape.{PieceShape}
use Rattle.leg_rules.specs.Joins.Touch.{piece_count, Joined, AreJoined}
use Rattle.leg_wire.specs.Steps.PieceMetal.{TouchAmong}
use Rattle.leg_wire.specs.Steps.NumberSets.{AreTogether, AreUnited}
use Rattle.leg_wire.specs.Steps.SharedPoints.{IsPointSeen}
use Rattle.leg_wire.specs.Steps.Kinds.{AreSameMetal}

-- each piece whose metal is there has a number in the sets
abbrev pub HavePlaces : List ℕ → List PieceShape → Type 0
HavePlaces sets shapes = All (λ shape. shape.piece < length sets) shapes

-- whether two rectangles make their pieces touch, with the points that were seen before and after: they share two points, or
-- none, or a single one, and another one was seen or wasn't
pub data AnswersTouch (a b : PieceShape) (before after : List (Beside × (ℤ × ℤ))) (touch : Bool) : Type 0 where
  share_two : touch ≡ true → ShareTwoPoints a.rect b.rect → after ≡ before → AnswersTouch a b before after touch
  share_none : touch ≡ false → (SharePoint a.rect b.rect → ⊥) → after ≡ before → AnswersTouch a b before after touch
  share_one : IsPointSeen before after a b touch → AnswersTouch a b before after touch

-- Whether two rectangles join pieces that were not together, with the points that were seen before and after.
pub data AnswersJoin (a b : PieceShape) (sets : List ℕ) (seen seen_after : List (Beside × (ℤ × ℤ))) (join : Bool) : Type 0 where
  were_together : join ≡ false → AreTogether sets a.piece b.piece → seen_after ≡ seen → AnswersJoin a b sets seen seen_after join
  were_apart : (AreTogether sets a.piece b.piece → ⊥) → AnswersTouch a b seen seen_after join → AnswersJoin a b sets seen seen_after join

-- The sets of a net's pieces and the points seen, before and after two rectangles of its pieces were taken: the pieces were
-- together, or they touch and are united, or they don't touch by these.
pub data IsJoinStep (a b : PieceShape) (sets sets_after : List ℕ) (seen seen_after : List (Beside × (ℤ × ℤ))) : Type 0 where
  were_together : AreTogether sets a.piece b.piece → sets_after ≡ sets → seen_after ≡ seen → IsJoinStep a b sets sets_after seen seen_after
  are_united : AnswersTouch a b seen seen_after true → AreUnited a.piece b.piece sets sets_after → IsJoinStep a b sets sets_after seen seen_after
  stay_apart : AnswersTouch a b seen seen_after false → sets_after ≡ sets → IsJoinStep a b sets sets_after seen seen_after

-- the pieces of two rectangles that share two points are made one set, or the sets stay
pub data IsTouchStep (a b : PieceShape) (sets sets_after : List ℕ) : Type 0 where
  stay : sets_after ≡ sets → (a.layer ≡ b.layer → ShareTwoPoints a.rect b.rect → a.piece ≡ b.piece) → IsTouchStep a b sets sets_after
  touch : a.layer ≡ b.layer → a.piece ≢ b.piece → ShareTwoPoints a.rect b.rect → AreUnited a.piece b.piece sets sets_after → IsTouchStep a b sets sets_after

-- the metal that is searched, the sets of its pieces, and the points seen
pub record JoinState : Type 0 where
  pub shapes : List PieceShape
  pub sets : List ℕ
  pub seen : List (Beside × (ℤ × ℤ))

-- a pair of rectangles was taken, by their numbers
pub record TakesPair (before : JoinState) (pair : ℕ × ℕ) (after : JoinState) : Type 0 where
  pub shapes : after.shapes ≡ before.shapes
  pub step : (a b : PieceShape) → slice_get before.shapes pair.0 ≡ Some a → slice_get before.shapes pair.1 ≡ Some b
      → IsJoinStep a b before.sets after.sets before.seen after.seen

-- sets of this many pieces: those that are together are joined by this metal
pub record AreSomeJoined (metal : List PieceShape) (count : ℕ) (sets : List ℕ) : Type 0 where
  pub size : length sets ≡ count
  pub joined : (a b : ℕ) → AreTogether sets a b → Joined (TouchAmong metal) a b

-- and those that are joined are together
pub record AreSetsOf (metal : List PieceShape) (count : ℕ) (sets : List ℕ) : Type 0 where
  pub some : AreSomeJoined metal count sets
  pub all : (a b : ℕ) → a < count → Joined (TouchAmong metal) a b → AreTogether sets a b

-- the sets of a net's pieces: together are those that are joined
pub record AreJoinedSets (flat : FlatModel) (net : ℕ) (sets : List ℕ) : Type 0 where
  pub count : length sets ≡ piece_count flat net
  pub each : (a b : ℕ) → a < piece_count flat net → AreTogether sets a b ↔ AreJoined flat net a b

-- what was together still is
abbrev pub AreKept : List ℕ → List ℕ → Type 0
AreKept before after = (a b : ℕ) → AreTogether before a b → AreTogether after a b

-- Each of the first shapes is together with that which stands for its kind, where these share two points of one layer.
abbrev pub AreTogetherAlike : List PieceShape → List PieceShape → List ℕ → ℕ → List ℕ → Type 0
AreTogetherAlike metal kinds numbers end sets =
    (k : ℕ) (one kind : PieceShape) → k < end → slice_get metal k ≡ Some one → slice_get kinds (get_or numbers k 0) ≡ Some kind
    → one.layer ≡ kind.layer → ShareTwoPoints one.rect kind.rect → AreTogether sets one.piece kind.piece

-- A piece that doesn't stay has only metal for which the metal of one other piece stands.
abbrev pub AreStaying : List PieceShape → List PieceShape → List ℕ → List ℕ → ℕ → List Bool → Type 0
AreStaying metal kinds numbers stand_ins end staying =
    (k : ℕ) (one kind : PieceShape) → k < end → slice_get metal k ≡ Some one → slice_get kinds (get_or numbers k 0) ≡ Some kind
    → get_or staying one.piece true ≡ false → (kind.piece ≡ get_or stand_ins one.piece 0) × ShareTwoPoints one.rect kind.rect

-- one shape of each kind, and more metal: all that the pieces have that stay
pub record IsStayingMetal (metal kinds : List PieceShape) (staying : List Bool) (end : ℕ) (rest : List PieceShape) : Type 0 where
  pub few : length rest ≤ length kinds + end
  pub among : All (Contains metal) rest
  pub one_each : All (Contains rest) kinds
  pub all : (k : ℕ) (one : PieceShape) → k < end → slice_get metal k ≡ Some one → get_or staying one.piece true ≡ true → Contains rest one

-- for each kind a shape of it that is there
pub record AreLatest (kinds rest latest : List PieceShape) : Type 0 where
  pub count : length latest ≡ length kinds
  pub alike : (n : ℕ) (kind d : PieceShape) → slice_get kinds n ≡ Some kind → AreSameMetal kind (get_or latest n d)
  pub there : All (Contains rest) latest

-- there is this shape more, or no other
pub record HasOneMore (before : List PieceShape) (one : PieceShape) (after : List PieceShape) : Type 0 where
  pub more : List PieceShape
  pub is : after ≡ before ++ more
  pub few : length more ≤ 1
  pub only : All (λ shape. shape ≡ one) more
