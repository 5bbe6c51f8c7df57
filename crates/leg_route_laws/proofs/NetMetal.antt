-- The shapes of a net in a design's flat: those of its pieces.
use Rattle.std.proofs.Common.{◌≡◌, ℕ, Contains, Some, slice_get, length, ◌⊎◌, inl, inr, sym, ◌∙◌, subst, refl}
use Rattle.leg_design_records.specs.Records.{DesignModel}
use Rattle.leg_design_records.specs.WellFormed.{IsWellFormed}
use Rattle.leg_rules.specs.declared.owner.Owner.{Owner}
use Rattle.leg_rules.specs.declared.owner.Owner.TheVariants.{Net}
use Rattle.leg_rules.specs.declared.piece.Piece.{Piece}
use Rattle.leg_rules.specs.declared.shape.Shape.{Shape}
use Rattle.leg_rules.specs.Metal.Nets.{terminals_of, wires_of, pieces_of}
use Rattle.leg_rules.specs.Metal.Metal.{OnLayer, Metal, metal_of}
use Rattle.leg_rules.specs.Metal.Pieces.{IsMetalOfPiece, IsOfNumber, HasItsPiece, of_piece}
use Rattle.leg_rules.specs.Metal.Flat.{FlatModel, IsShapeOf, IsFlatOf, pieces_with}
use Rattle.leg_route_laws.proofs.Places.{has_like, is_like}

-- the two laws of pieces and metal
abbrev pub MetalHasItsPiece : Type 0
MetalHasItsPiece = (design : DesignModel) → IsWellFormed design → (metal : Metal) → Contains (metal_of design) metal → HasItsPiece design metal

abbrev pub PieceHasItsMetal : Type 0
PieceHasItsMetal =
    (design : DesignModel) → IsWellFormed design → (n k : ℕ) (piece : Piece) (metal : OnLayer) → slice_get (pieces_of design n) k ≡ Some piece
    → IsMetalOfPiece design n piece metal → Contains (metal_of design) (of_piece n k piece metal)

-- a piece of a net, and one of its shapes
pub record IsDrawn (design : DesignModel) (n k : ℕ) (shape : Shape) : Type 0 where
  pub piece : Piece
  pub there : slice_get (pieces_of design n) k ≡ Some piece
  pub metal : OnLayer
  pub draws : IsMetalOfPiece design n piece metal
  pub is : IsShapeOf (of_piece n k piece metal) shape

-- a net owns it, or none does
abbrev pub IsNet : Owner → Type 0
IsNet owner = (n : ℕ) × (owner ≡ Net n)

is_net : Owner → Type 0
is_net (Net n) = Unit {0}
is_net other = ⊥

pub net_or_not : (owner : Owner) → IsNet owner ⊎ (¬ IsNet owner)
unfolding is_net
net_or_not (Net n) = inl (n, refl)
net_or_not other = inr (λ net. subst is_net (sym net.1) tt)

pub pieces_are : (design : DesignModel) (n : ℕ) → pieces_of design n ≡ pieces_with (terminals_of design n) (length (wires_of design n))
unfolding pieces_of
pieces_are design n = refl

module _ (metal_has : MetalHasItsPiece) (piece_has : PieceHasItsMetal) (design : DesignModel) (flat : FlatModel) (proper : IsWellFormed design)
    (is : IsFlatOf design flat) where
  of_net : (n : ℕ) (metal : Metal) → metal.belongs.owner ≡ Net n → HasItsPiece design metal
      → (k : ℕ) × (metal.belongs.piece ≡ Some k) × IsOfNumber design n k metal
  of_net n metal owner has =
      let as_net : Metal =
      record { metal = metal.metal; belongs = record { owner = Net n; component = metal.belongs.component; piece = metal.belongs.piece } } in
      let it : (k : ℕ) × (metal.belongs.piece ≡ Some k) × IsOfNumber design n k as_net = rw owner at has in
      (it.0, it.1, record { piece = it.2.piece; has_piece = it.2.has_piece; draws = it.2.draws; component = it.2.component })

  -- a shape of a net is one of a piece of it
  pub drawn_from : (n : ℕ) (shape : Shape) → Contains flat.shapes shape → shape.owner ≡ Net n → (k : ℕ) × (shape.piece ≡ Some k) × IsDrawn design n k shape
  drawn_from n shape there owner =
      let from = is_like IsShapeOf (metal_of design) flat.shapes shape is.shapes there in
      let has = of_net n from.x (sym from.like.owner ∙ owner) (metal_has design proper from.x from.there) in (
        has.0,
        from.like.piece ∙ has.1,
        record {
          piece = has.2.piece;
          there = has.2.has_piece;
          metal = from.x.metal;
          draws = has.2.draws;
          is = record {
            layer = from.like.layer;
            proper = from.like.proper;
            points = from.like.points;
            owner = owner;
            component = from.like.component ∙ has.2.component;
            piece = from.like.piece ∙ has.1;
          };
        },
      )

  -- and each shape of a piece is there
  pub drawn_to : (n k : ℕ) (piece : Piece) (metal : OnLayer) → slice_get (pieces_of design n) k ≡ Some piece → IsMetalOfPiece design n piece metal
      → (shape : Shape) × Contains flat.shapes shape × IsShapeOf (of_piece n k piece metal) shape
  drawn_to n k piece metal there draws =
      let has = has_like IsShapeOf (metal_of design) flat.shapes (of_piece n k piece metal) is.shapes (piece_has design proper n k piece metal there draws) in
      (has.y, has.there, has.like)
