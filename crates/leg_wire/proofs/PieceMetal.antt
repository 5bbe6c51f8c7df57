-- The metal of a net's pieces, shape by shape.
use Rattle.std.proofs.Common.{◌≡◌, ◌↔◌, ℕ, ◌≤◌, All, List, [], ◌∷◌, ◌++◌, length, Option, Some, None, Contains, slice_get, inl, inr, refl, sym, ap, ◌∙◌, arith}
use Rattle.std.proofs.lemmas.List.{length_push}
use Rattle.std.proofs.lemmas.List.Elements.{All-push, All-contains, Contains-append_left, Contains-push, Contains-push_cases}
use Rattle.std.proofs.lemmas.Option.{same_Some, none-some, slice_get_within, slice_get_read, get_or_from_slice_get}
use Rattle.leg_rules.specs.declared.owner.Owner.TheVariants.{Net}
use Rattle.leg_rules.specs.declared.shape.Shape.{Shape}
use Rattle.leg_rules.specs.Metal.Flat.{FlatModel}
use Rattle.leg_wire.specs.declared.piece_shape.PieceShape.{PieceShape}
use Rattle.leg_rules.specs.Joins.Touch.{piece_count}
use Rattle.leg_wire.specs.NetShapes.{IsOfNet, AreNumbersOf}
use Rattle.leg_wire.specs.Joins.{IsWholeNet, IsPieceShape, ArePieceShapes}
use Rattle.leg_wire.specs.Steps.PieceMetal.{SaysShape}

module _ (flat : FlatModel) (net : ℕ) where
  -- the shape of this number is metal of a piece
  pub record HasPiece (k : ℕ) : Type 0 where
    pub shape : Shape
    pub piece : PieceShape
    pub at : slice_get flat.shapes k ≡ Some shape
    pub is : IsPieceShape flat net shape piece

  -- the metal of pieces that the shapes of these numbers are, of which each is one where the lists are equally long
  pub record AreAmong (numbers : List ℕ) (pieces : List PieceShape) : Type 0 where
    pub each : (piece : PieceShape) → Contains pieces piece → (shape : Shape) × Contains flat.shapes shape × IsPieceShape flat net shape piece
    pub all : (k : ℕ) (shape : Shape) (piece : PieceShape) → Contains numbers k → slice_get flat.shapes k ≡ Some shape → IsPieceShape flat net shape piece
        → Contains pieces piece
    pub few : length pieces ≤ length numbers
    pub whole : length pieces ≡ length numbers → All HasPiece numbers

  -- what a shape of the net says is what metal of a piece of it does
  module _ (count : ℕ) (counted : piece_count flat net ≡ count) (shape : Shape) (owner : shape.owner ≡ Net net) (piece : PieceShape) where
    from_said : SaysShape count shape piece → IsPieceShape flat net shape piece
    from_said says = record {
      of_piece = record { there = rw counted says.there; owner = owner; piece = says.piece_is };
      layer = says.layer;
      rect = says.rect;
    }

    to_said : IsPieceShape flat net shape piece → SaysShape count shape piece
    to_said is = record {
      there = rw counted at is.of_piece.there;
      piece_is = is.of_piece.piece;
      layer = is.layer;
      rect = is.rect;
    }

  -- one more number, of this shape of the net, and what is found of it
  module _ (numbers : List ℕ) (pieces : List PieceShape) (done : AreAmong numbers pieces) (k : ℕ) (shape : Shape) (at : slice_get flat.shapes k ≡ Some shape)
      (of_net : IsOfNet flat.shapes net k)
      (count : ℕ) (counted : piece_count flat net ≡ count) (found : Option PieceShape)
      (told : (p : PieceShape) → found ≡ Some p ↔ SaysShape count shape p) where
    owned : shape.owner ≡ Net net
    owned = ap (λ (s : Shape). s.owner) (same_Some shape of_net.shape (sym at ∙ of_net.at)) ∙ of_net.owner

    contained : Contains flat.shapes shape
    contained = (k, slice_get_within flat.shapes k shape at, get_or_from_slice_get flat.shapes k shape shape at)

    -- what is found of it, where metal is a piece's that this number's shape is
    found_of : (s : Shape) (p : PieceShape) → slice_get flat.shapes k ≡ Some s → IsPieceShape flat net s p → found ≡ Some p
    found_of s p s_at is = (told p).1 (to_said count counted shape owned p (rw (same_Some s shape (sym s_at ∙ at)) at is))

    -- it is metal of a piece
    pub among_more : (piece : PieceShape) → found ≡ Some piece → AreAmong (numbers ++ k ∷ []) (pieces ++ piece ∷ [])
    among_more piece is = record {
      each = λ p has. elim (Contains-push_cases pieces piece p has) [
        | inl before ↦ done.each p before
        | inr here ↦ rw (← here) (shape, contained, from_said count counted shape owned piece ((told piece).0 is))
      ];
      all = λ j s p has s_at says. elim (Contains-push_cases numbers k j has) [
        | inl before ↦ Contains-append_left pieces (piece ∷ []) p (done.all j s p before s_at says)
        | inr here ↦
            let same : p ≡ piece = same_Some p piece (sym (found_of s p (rw (← here) at s_at) says) ∙ is) in
            rw same (Contains-push pieces piece)
      ];
      few = omega (arith, done.few, length_push pieces piece, length_push numbers k);
      whole = λ same.
          All-push HasPiece numbers k (done.whole (omega (arith, same, length_push pieces piece, length_push numbers k)))
          (record { shape = shape; piece = piece; at = at; is = from_said count counted shape owned piece ((told piece).0 is) });
    }

    -- it is not
    pub among_skip : found ≡ None → AreAmong (numbers ++ k ∷ []) pieces
    among_skip is = record {
      each = done.each;
      all = λ j s p has s_at says. elim (Contains-push_cases numbers k j has) [
        | inl before ↦ done.all j s p before s_at says
        | inr here ↦ absurd (none-some p (sym is ∙ found_of s p (rw (← here) at s_at) says))
      ];
      few = omega (arith, done.few, length_push numbers k);
      whole = λ same. absurd (omega (arith, same, done.few, length_push numbers k));
    }

  -- the metal that all shapes of the net are
  pub ArePieceShapes-among : (numbers : List ℕ) (pieces : List PieceShape) → AreNumbersOf flat.shapes net numbers → AreAmong numbers pieces
      → ArePieceShapes flat net pieces
  ArePieceShapes-among numbers pieces are done = record {
    each = done.each;
    all = λ shape piece has is.
        let at : slice_get flat.shapes has.0 ≡ Some shape = slice_get_read flat.shapes _ has.0 shape refl has.1 (sym has.2) in
        done.all has.0 shape piece (are.all has.0 (record { shape = shape; at = at; owner = is.of_piece.owner })) at is;
  }

  -- each shape of the net is metal of one of its pieces, where no number was passed over
  pub whole_net : (numbers : List ℕ) (pieces : List PieceShape) → AreNumbersOf flat.shapes net numbers → AreAmong numbers pieces
      → length pieces ≡ length numbers → IsWholeNet flat net
  whole_net numbers pieces are done same shape piece has owner of_piece =
      let at : slice_get flat.shapes has.0 ≡ Some shape = slice_get_read flat.shapes _ has.0 shape refl has.1 (sym has.2) in
      let one : HasPiece has.0 = All-contains HasPiece numbers has.0 (done.whole same) (are.all has.0 (record { shape = shape; at = at; owner = owner })) in
      let shape_is : one.shape ≡ shape = same_Some one.shape shape (sym one.at ∙ at) in
      let piece_is : one.piece.piece ≡ piece = same_Some one.piece.piece piece (sym one.is.of_piece.piece ∙ ap (λ (s : Shape). s.piece) shape_is ∙ of_piece) in
      rw piece_is at one.is.of_piece.there
