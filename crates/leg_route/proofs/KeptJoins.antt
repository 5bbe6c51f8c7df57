-- What is kept of a net that is joined, when the net gets a wire.
use Rattle.std.proofs.Common.{◌≡◌, ◌+◌, ◌<◌, ℕ, true, List, [], ◌++◌, length, Contains, Option, None, Some, IfSome, ◌⊎◌, inl, inr, refl, sym, ap, ◌∙◌, subst, arith}
use Rattle.std.proofs.lemmas.List.Elements.{Contains-append_left, Contains-append_right, Contains-append_cases}
use Rattle.std.proofs.lemmas.Option.{same_Some}
use Rattle.leg_sweep.proofs.Lists.{Contains-map, Contains-nil}
use Rattle.leg_design_records.specs.declared.records.Wire as records
use Rattle.leg_design_records.specs.Records.{DesignModel}
use Rattle.leg_rules.specs.declared.shape.Shape.{Shape}
use Rattle.leg_rules.specs.Metal.Flat.{FlatModel}
use Rattle.leg_rules.specs.Metal.MoreWires.{HasOneMoreWire}
use Rattle.leg_wire.specs.declared.piece_shape.PieceShape.{PieceShape}
use Rattle.leg_rules.specs.Joins.Touch.{piece_count}
use Rattle.leg_wire.specs.Joins.{JoinsModel, IsWholeNet, AreJoinsOf, metal_of_piece, HasOnePieceMore, IsPieceShape}
use Rattle.leg_lemmas.proofs.Places.{comes_from}
use Rattle.leg_route.specs.Steps.JoinedPart.{PartModel, AreGivenTo}
use Rattle.leg_route.specs.Steps.Ready.{IsWithWire}
use Rattle.leg_route.proofs.JoinedParts.{own, own_is, IsNew, new_shape}
use Rattle.leg_route.proofs.MoreWires.{one_piece, step_shape}

module _ (design : DesignModel) (net : ℕ) (wire : records.Wire) (before after : FlatModel) (more : HasOneMoreWire design net wire before after) where
  abbrev last : ℕ
  last = own design net wire before after more

  had : piece_count before net ≡ last
  had = own_is design net wire before after more

  has : piece_count after net ≡ piece_count before net + 1
  has = one_piece design net wire before after more

  is_new : (shape : Shape) → Contains more.added shape → IsNew design net wire before after more shape
  is_new = new_shape design net wire before after more

  -- a shape is an old one or a new one
  old_or_new : (shape : Shape) → Contains after.shapes shape → Contains before.shapes shape ⊎ Contains more.added shape
  old_or_new shape there = Contains-append_cases before.shapes more.added shape (subst (λ (shapes : List Shape). Contains shapes shape) more.shapes there)

  there_now : (shape : Shape) → Contains more.added shape → Contains after.shapes shape
  there_now shape there = subst (λ (shapes : List Shape). Contains shapes shape) (sym more.shapes) (Contains-append_right before.shapes more.added shape there)

  -- each shape of the net is metal of one of its pieces still
  whole_still : IsWholeNet before net → IsWholeNet after net
  whole_still whole shape piece there owner of_piece = elim (old_or_new shape there) [
    | inl old ↦
        let low = whole shape piece old owner of_piece in
        omega (arith, low, has)
    | inr new ↦
        let is : piece ≡ last = same_Some piece last (sym of_piece ∙ (is_new shape new).piece) in
        omega (arith, is, had, has)
  ]

  -- what is kept is right with the new piece
  module _ (joins new : JoinsModel) (of_net : joins.net ≡ net) (is_whole : joins.is_whole ≡ true) (are : AreJoinsOf before joins)
      (with_piece : HasOnePieceMore joins more.added new) where
    -- a shape as metal of the new piece, and all of that
    abbrev as_new : Shape → PieceShape
    as_new shape = record { piece = length joins.sets; layer = shape.layer; rect = shape.rect }

    abbrev new_metal : List PieceShape
    new_metal = metal_of_piece (length joins.sets) more.added

    last_is : length joins.sets ≡ last
    last_is = are.count ∙ rw of_net had

    old_metal : (shape : Shape) (piece : PieceShape) → IsPieceShape before joins.net shape piece → IsPieceShape after net shape piece
    old_metal shape piece is =
        let low : piece.piece < piece_count before net = rw of_net at is.of_piece.there in
        record {
          of_piece = record { there = omega (arith, low, has); owner = rw of_net at is.of_piece.owner; piece = is.of_piece.piece };
          layer = is.layer;
          rect = is.rect;
        }

    metal_each : (piece : PieceShape) → Contains (joins.metal ++ new_metal) piece
        → (shape : Shape) × Contains after.shapes shape × IsPieceShape after net shape piece
    metal_each piece there = elim (Contains-append_cases joins.metal new_metal piece there) [
      | inl old ↦
          let from = are.metal.each piece old in
          (from.0, step_shape design net wire before after more from.0 from.1, old_metal from.0 piece from.2)
      | inr new ↦
          let from = comes_from as_new more.added piece new in
          let is = is_new from.0 from.1 in
          rw (← from.2) (
            from.0,
            there_now from.0 from.1,
            record {
              of_piece = record { there = omega (arith, last_is, had, has); owner = is.owner; piece = is.piece ∙ ap Some (sym last_is) };
              layer = refl;
              rect = refl;
            },
          )
    ]

    metal_all : (shape : Shape) (piece : PieceShape) → Contains after.shapes shape → IsPieceShape after net shape piece
        → Contains (joins.metal ++ new_metal) piece
    metal_all shape piece there is = elim (old_or_new shape there) [
      | inl old ↦
          let whole : IsWholeNet before net = rw of_net at (are.whole is_whole) in
          let low : piece.piece < piece_count before net = whole shape piece.piece old is.of_piece.owner is.of_piece.piece in
          Contains-append_left joins.metal new_metal piece
          (are.metal.all shape piece old
          (rw of_net (record { of_piece = record { there = low; owner = is.of_piece.owner; piece = is.of_piece.piece }; layer = is.layer; rect = is.rect })))
      | inr new ↦
          let same : piece.piece ≡ length joins.sets =
          same_Some piece.piece (length joins.sets) (sym is.of_piece.piece ∙ (is_new shape new).piece ∙ ap Some (sym last_is)) in
          let piece_is : piece ≡ as_new shape = rw (← same, ← is.layer, ← is.rect) refl in
          rw piece_is (Contains-append_right joins.metal new_metal (as_new shape) (Contains-map as_new more.added shape new))
    ]

    joins_with : AreJoinsOf after new
    joins_with = record {
      count = rw (with_piece.net, of_net) (omega (arith, with_piece.count, last_is, had, has));
      metal = rw (with_piece.net, of_net, with_piece.metal) (record { each = metal_each; all = metal_all });
      whole = λ told. rw (with_piece.net, of_net) (whole_still (rw of_net at (are.whole is_whole)));
    }

  -- and so where something is kept
  pub kept_with : (joins after_joins : Option JoinsModel) → IfSome joins (AreJoinsOf before) → IfSome after_joins (IsWithWire joins net more.added)
      → IfSome after_joins (AreJoinsOf after)
  kept_with joins None had_are with_wire = with_wire
  kept_with joins (Some new) had_are with_wire =
      joins_with with_wire.before new with_wire.of_net with_wire.is_whole (rw with_wire.is at had_are) with_wire.more

-- no piece is given with a wire
pub given_with : (part : PartModel) (joins after : Option JoinsModel) (net : ℕ) (shapes : List Shape) → IfSome joins (λ kept. AreGivenTo part kept)
    → IfSome after (IsWithWire joins net shapes) → IfSome after (λ kept. AreGivenTo part kept)
given_with part joins None net shapes given with_wire = tt
given_with part joins (Some new) net shapes given with_wire =
    let was : AreGivenTo part with_wire.before = rw with_wire.is at given in
    λ k has.
    let is = was k (rw with_wire.more.given at has) in
    (with_wire.more.net ∙ is.0, is.1)

-- of what is kept or is made anew, what was given is in the part
pub given_kept : (part : PartModel) (kept : Option JoinsModel) (joins : JoinsModel) → IfSome kept (λ had. AreGivenTo part had)
    → joins.given ≡ [] ⊎ kept ≡ Some joins → AreGivenTo part joins
given_kept part kept joins given from = elim from [
  | inl none ↦ λ k has. absurd (Contains-nil k (rw none at has))
  | inr is ↦ rw is at given
]
