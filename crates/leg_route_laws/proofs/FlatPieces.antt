-- The pieces of a net in a design's flat.
use Rattle.std.proofs.Common.{◌≡◌, ℕ, ◌+◌, ◌<◌, List, length, Some, slice_get, sym, ap, ◌∙◌, refl}
use Rattle.std.specs.List.{range_with_len}
use Rattle.std.proofs.lemmas.Option.{slice_get-map}
use Rattle.leg_lemmas.proofs.Places.{counted, mapped_at}
use Rattle.leg_lemmas.proofs.Ranges.{number_is_place}
use Rattle.leg_design_records.specs.Records.{DesignModel}
use Rattle.leg_rules.specs.declared.piece.Piece.{Piece}
use Rattle.leg_rules.specs.Metal.Nets.{pieces_of}
use Rattle.leg_rules.specs.Metal.Flat.{FlatModel, IsFlatOf}

module _ (design : DesignModel) (flat : FlatModel) (is : IsFlatOf design flat) where
  abbrev entries : ℕ
  entries = length design.nets + length design.special

  pub pieces_at : (n : ℕ) → n < length design.nets + length design.special → slice_get flat.pieces n ≡ Some (pieces_of design n)
  pieces_at n within =
      ap (λ pieces. slice_get pieces n) is.pieces
      ∙ slice_get-map (pieces_of design) (range_with_len 0 entries) n
      ∙ rw (counted entries n within) refl

  pub pieces_there : (n : ℕ) (pieces : List Piece) → slice_get flat.pieces n ≡ Some pieces → pieces ≡ pieces_of design n
  pieces_there n pieces there =
      let from = mapped_at (pieces_of design) (range_with_len 0 entries) n pieces (sym (ap (λ ps. slice_get ps n) is.pieces) ∙ there) in
      from.2 ∙ ap (pieces_of design) (number_is_place entries n from.0 from.1).1
