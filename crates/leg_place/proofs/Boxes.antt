-- The boxes of components.
use Rattle.std.proofs.Common.{◌≡◌, ℕ, Bool, true, false, not, IsTrue, refl, ◌+◌, ◌<◌, ◌↔◌, List, [], ◌∷◌, ◌++◌, Some, None, slice_get, inl, inr, sym, ◌∙◌, arith}
use Rattle.std.proofs.lemmas.Bool.{cases_lt, false≢true}
use Rattle.std.proofs.lemmas.List.Elements.{All-push, All-weaker, Contains-append_left, Contains-push}
use Rattle.std.proofs.lemmas.List.Quantifiers.{all_pairs_push}
use Rattle.std.proofs.lemmas.Option.{same_Some, none-some}
use Rattle.leg_geom.specs.Plane.{RectModel, IsRect, HasAllPoints}
use Rattle.leg_design_records.specs.declared.records.Component.{Component}
use Rattle.leg_place.specs.declared.placed_box.PlacedBox.{PlacedBox}
use Rattle.leg_design_records.specs.Records.{DesignModel}
use Rattle.leg_rules.specs.Placement.Box.{box_of, HasBox}
use Rattle.leg_rules.specs.Placement.Violations.{IsOutside}
use Rattle.leg_place.specs.Among.{IsMarked}
use Rattle.leg_place.specs.Steps.ListPrefix.{AreBoxesBelow, HasLowerNumber, IsMarkedBox}
use Rattle.leg_place.proofs.Squares.{HasSquare-points, SquareOutside-points}

module _ (design : DesignModel) where
  -- the box of the component at a number is the one in which it stands
  pub HasBox-is : (c : ℕ) (component : Component) (rect : RectModel) → slice_get design.components c ≡ Some component → HasBox design c rect
      → box_of design.library component ≡ Some rect
  HasBox-is c component rect at stands =
      let same : stands.component ≡ component = same_Some stands.component component (sym stands.there ∙ at) in
      rw same at stands.placed

  module _ (c : ℕ) (component : Component) (at : slice_get design.components c ≡ Some component) where
    -- a component is outside the die just where the die lacks a point of its box
    IsOutside-points : (rect : RectModel) → box_of design.library component ≡ Some rect → IsRect rect → (HasAllPoints design.die rect → ⊥) ↔ IsOutside design c
    IsOutside-points rect is proper = (
      λ missed.
          let lost = SquareOutside-points design.die rect proper missed in
          record {
            box = rect;
            stands = record { component = component; there = at; placed = is };
            square = lost.square;
            inside = lost.inside;
            outside = lost.outside;
          },
      λ out points.
          let same : out.box ≡ rect = same_Some out.box rect (sym (HasBox-is c component out.box at out.stands) ∙ is) in
          out.outside (HasSquare-points design.die rect points out.square (rw same at out.inside)),
    )

    -- the same by a test whether the die has them all
    pub IsOutside-test : (rect : RectModel) (b : Bool) → Some rect ≡ box_of design.library component → IsRect rect → IsTrue b ↔ HasAllPoints design.die rect
        → IsTrue (not b) ↔ IsOutside design c
    IsOutside-test rect true is proper test = (
      λ t. absurd (false≢true t),
      λ out. absurd ((IsOutside-points rect (sym is) proper).1 out (test.0 refl)),
    )
    IsOutside-test rect false is proper test = (
      λ t. (IsOutside-points rect (sym is) proper).0 (λ points. false≢true (test.1 points)),
      λ out. refl,
    )

    -- nor is one without a place
    pub IsOutside-unplaced : None ≡ box_of design.library component → IsOutside design c → ⊥
    IsOutside-unplaced is out = none-some out.box (is ∙ HasBox-is c component out.box at out.stands)

  module _ (marks : List Bool) (c : ℕ) where
    -- the component at a number stands in no other box
    HasBox-same : (rect other : RectModel) → HasBox design c rect → HasBox design c other → other ≡ rect
    HasBox-same rect other stands also = same_Some other rect (sym (HasBox-is c stands.component other stands.there also) ∙ stands.placed)

    -- one more box
    pub boxes_more : (rect : RectModel) (boxes : List PlacedBox) → IsMarkedBox design marks c (Some rect) → AreBoxesBelow design marks c boxes
        → AreBoxesBelow design marks (c + 1) (boxes ++ record { component = c; rect = rect } ∷ [])
    boxes_more rect boxes is done = record {
      increasing = all_pairs_push HasLowerNumber boxes (record { component = c; rect = rect }) done.increasing done.below;
      each =
          All-push (λ box. HasBox design box.component box.rect) boxes (record { component = c; rect = rect })
          done.each is.1;
      marked = All-push (λ box. IsMarked marks box.component) boxes (record { component = c; rect = rect }) done.marked is.0;
      below =
          All-push (λ box. box.component < c + 1) boxes (record { component = c; rect = rect })
          (All-weaker (λ box. box.component < c) (λ box. box.component < c + 1) (λ box below. omega arith) boxes done.below) (omega arith);
      all = λ d other below marked stands. elim (cases_lt d c) [
        | inl earlier ↦ Contains-append_left boxes _ _ (done.all d other earlier marked stands)
        | inr late ↦
            let here : d ≡ c = omega arith in
            let same : other ≡ rect = HasBox-same rect other is.1 (rw here at stands) in
            rw (here, same) (Contains-push boxes (record { component = c; rect = rect }))
      ];
    }

    -- a component that isn't marked or has no place has none
    pub boxes_skip : (boxes : List PlacedBox) → IsMarkedBox design marks c None → AreBoxesBelow design marks c boxes → AreBoxesBelow design marks (c + 1) boxes
    boxes_skip boxes is done = record {
      increasing = done.increasing;
      each = done.each;
      marked = done.marked;
      below = All-weaker (λ box. box.component < c) (λ box. box.component < c + 1) (λ box below. omega arith) boxes done.below;
      all = λ d other below marked stands. elim (cases_lt d c) [
        | inl earlier ↦ done.all d other earlier marked stands
        | inr late ↦
            let here : d ≡ c = omega arith in
            absurd (is other (rw here at marked) (rw here at stands))
      ];
    }
