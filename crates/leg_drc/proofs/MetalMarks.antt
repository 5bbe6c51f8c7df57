-- Which pieces of a net have metal, by the shapes of the net.
use Rattle.std.proofs.Common.{◌≡◌, ℕ, ◌<◌, Bool, true, List, [], ◌∷◌, ◌++◌, set, All, Contains, Some, slice_get, inl, inr, refl, sym, ap, ◌∙◌, arith}
use Rattle.std.proofs.lemmas.Bool.{cases_eq}
use Rattle.std.proofs.lemmas.Int.{ints}
use Rattle.std.proofs.lemmas.List.{length-set}
use Rattle.std.proofs.lemmas.List.Elements.{All-contains, Contains-append_left, Contains-push, Contains-push_cases}
use Rattle.std.proofs.lemmas.Option.{same_Some}
use Rattle.leg_lemmas.proofs.Places.{place_of_contained, contains_at, there_is, set_here, set_elsewhere}
use Rattle.leg_geom.specs.Plane.{RectModel, IsRect, HasPoint}
use Rattle.leg_rules.specs.declared.shape.Shape.{Shape}
use Rattle.leg_rules.specs.Metal.Flat.{FlatModel}
use Rattle.leg_rules.specs.Joins.Touch.{piece_count}
use Rattle.leg_wire.specs.NetShapes.{IsOfNet, AreNumbersOf}
use Rattle.leg_wire.specs.PieceMarks.{AreMarks}
use Rattle.leg_drc.specs.Supply.{HasSomePoint}

module _ (flat : FlatModel) (count : ℕ) where
  -- one of the shapes of these numbers is of this one of so many pieces
  pub record IsMetAmong (numbers : List ℕ) (k : ℕ) : Type 0 where
    pub number : ℕ
    pub shape : Shape
    pub among : Contains numbers number
    pub at : slice_get flat.shapes number ≡ Some shape
    pub piece : shape.piece ≡ Some k
    pub within : k < count

  module _ (numbers : List ℕ) (marks : List Bool) (done : AreMarks (IsMetAmong numbers) count marks) (number : ℕ) (shape : Shape)
      (at : slice_get flat.shapes number ≡ Some shape) where
    met_earlier : (k : ℕ) → IsMetAmong numbers k → IsMetAmong (numbers ++ number ∷ []) k
    met_earlier k met = record {
      number = met.number;
      shape = met.shape;
      among = Contains-append_left numbers (number ∷ []) met.number met.among;
      at = met.at;
      piece = met.piece;
      within = met.within;
    }

    -- what is met among one more is met earlier, or is of this shape's piece
    met_cases : (k : ℕ) → IsMetAmong (numbers ++ number ∷ []) k → ((shape.piece ≡ Some k) → k < count → ⊥) → IsMetAmong numbers k
    met_cases k met other =
        elim (Contains-push_cases numbers number met.number met.among) [
          | inl before ↦ record { number = met.number; shape = met.shape; among = before; at = met.at; piece = met.piece; within = met.within }
          | inr here ↦
              let same : met.shape ≡ shape = same_Some met.shape shape (sym met.at ∙ ap (slice_get flat.shapes) (sym here) ∙ at) in
              absurd (other (rw same at met.piece) met.within)
        ]

    -- one more shape, of this piece
    pub marks_more : (place : ℕ) → shape.piece ≡ Some place → place < count → AreMarks (IsMetAmong (numbers ++ number ∷ [])) count (set marks place true)
    marks_more place piece within = record {
      count = length-set marks place true ∙ done.count;
      each = λ k mark there. elim (cases_eq k place) [
        | inl same ↦
            let old = there_is marks place (rw done.count within) in
            let here : slice_get (set marks place true) place ≡ Some true = set_here marks place old.0 true old.1 in
            let is_set : true ≡ mark = same_Some true mark (sym here ∙ rw same at there) in (
              λ _. record {
                number = number;
                shape = shape;
                among = Contains-push numbers number;
                at = at;
                piece = rw same piece;
                within = rw same within;
              },
              λ _. sym is_set,
            )
        | inr apart ↦
            let kept : slice_get marks k ≡ Some mark = sym (set_elsewhere marks place k true (λ same. apart (sym same))) ∙ there in (
              λ is_set. met_earlier k ((done.each k mark kept).0 is_set),
              λ met. (done.each k mark kept).1 (met_cases k met (λ of _. apart (same_Some k place (sym of ∙ piece)))),
            )
      ];
    }

    -- one of none of these pieces
    pub marks_skip : ((k : ℕ) → shape.piece ≡ Some k → k < count → ⊥) → AreMarks (IsMetAmong (numbers ++ number ∷ [])) count marks
    marks_skip never = record {
      count = done.count;
      each = λ k mark there. (
        λ is_set. met_earlier k ((done.each k mark there).0 is_set),
        λ met. (done.each k mark there).1 (met_cases k met (never k)),
      );
    }

-- a rectangle with area has its lower left corner
corner_inside : (rect : RectModel) → IsRect rect → HasPoint rect (record { x = rect.x1; y = rect.y1 })
corner_inside rect proper = record {
  left = omega (arith, ints);
  right = omega (arith, ints, proper.wide);
  bottom = omega (arith, ints);
  top = omega (arith, ints, proper.high);
}

-- all shapes of the net were looked at
module _ (flat : FlatModel) (n : ℕ) (numbers : List ℕ) (are : AreNumbersOf flat.shapes n numbers) (proper : All (λ shape. IsRect shape.rect) flat.shapes) where
  point_of_met : (k : ℕ) → IsMetAmong flat (piece_count flat n) numbers k → HasSomePoint flat n k
  point_of_met k met =
      let of_net : IsOfNet flat.shapes n met.number = are.each met.number met.among in
      let same : of_net.shape ≡ met.shape = same_Some of_net.shape met.shape (sym of_net.at ∙ met.at) in
      let has : Contains flat.shapes met.shape = contains_at flat.shapes met.number met.shape met.at in
      record {
        layer = met.shape.layer;
        point = record { x = met.shape.rect.x1; y = met.shape.rect.y1 };
        lies_in = record {
          shape = met.shape;
          has = has;
          of_piece = record { there = met.within; owner = rw same at of_net.owner; piece = met.piece };
          on_layer = refl;
          inside = corner_inside met.shape.rect (All-contains (λ shape. IsRect shape.rect) flat.shapes met.shape proper has);
        };
      }

  met_of_point : (k : ℕ) → HasSomePoint flat n k → IsMetAmong flat (piece_count flat n) numbers k
  met_of_point k some =
      let lies = some.lies_in in
      let place = place_of_contained flat.shapes lies.shape lies.has in
      record {
        number = place.k;
        shape = lies.shape;
        among = are.all place.k (record { shape = lies.shape; at = place.there; owner = lies.of_piece.owner });
        at = place.there;
        piece = lies.of_piece.piece;
        within = lies.of_piece.there;
      }

  pub marks_all : (marks : List Bool) → AreMarks (IsMetAmong flat (piece_count flat n) numbers) (piece_count flat n) marks
      → AreMarks (HasSomePoint flat n) (piece_count flat n) marks
  marks_all marks done = record {
    count = done.count;
    each = λ k mark at. (λ is_set. point_of_met k ((done.each k mark at).0 is_set), λ some. (done.each k mark at).1 (met_of_point k some));
  }
