-- Copies of shapes, and the shapes of vias, are on layers of the library.
use Rattle.std.proofs.Common.{ℕ, zero, suc, ℤ, ◌+ℤ◌, ◌<◌, List, [], ◌∷◌, length, All, codes, slice_get}
use Rattle.std.proofs.lemmas.List.Elements.{All-head, All-tail, All-push}
use Rattle.leg_lemmas.proofs.Places.{all_at}
use Rattle.leg_lex.specs.Words.{Words, keyword_at, name_at, nothing_at}
use Rattle.leg_lex.specs.Until.{over}
use Rattle.leg_lex.specs.NameLookup.{place_of}
use Rattle.leg_lex.proofs.Gives.{Gives, gives_some, gives_bind, gives_skip}
use Rattle.leg_geom.specs.Plane.{PointModel}
use Rattle.leg_lib_records.specs.declared.raw.RawShape.{RawShape}
use Rattle.leg_lib_records.specs.Records.{RawLibraryModel, raw_via_names}
use Rattle.leg_lib_records.specs.References.{AreRawShapesOn, IsRawViaOf}
use Rattle.leg_grammar.specs.declared.profile.Profile.{Profile}
use Rattle.leg_grammar.specs.Def.Guard.{when}
use Rattle.leg_grammar.specs.Mask.{past_mask}
use Rattle.leg_grammar.specs.Lef.Point.{point_at}
use Rattle.leg_grammar.specs.Lef.Copies.{StepPattern, length_within, moved_rect, with_moved, with_row, with_rows, are_few_copies, with_copies}
use Rattle.leg_grammar.specs.Lef.PlacedVia.{good_via_at, iterate_at, pattern_after, with_placed_via}

module _ (layers : ℕ) where
  moved_gives : (way : PointModel) (shapes : List RawShape) (shape : RawShape) → shape.layer < layers → AreRawShapesOn layers shapes
      → Gives (AreRawShapesOn layers) (with_moved way shapes shape)
  unfolding with_moved
  moved_gives way shapes shape within on =
      gives_skip (moved_rect way shape.rect) (λ rect.
      gives_some _ (All-push (λ s. s.layer < layers) shapes (record { layer = shape.layer; rect = rect }) on within))

  copy_gives : (way : PointModel) (shapes figure : List RawShape) → AreRawShapesOn layers figure → AreRawShapesOn layers shapes
      → Gives (AreRawShapesOn layers) (over (with_moved way) shapes figure)
  unfolding over
  copy_gives way shapes [] figured on = gives_some shapes on
  copy_gives way shapes (shape ∷ figure) figured on =
      gives_bind (moved_gives way shapes shape (All-head (λ s. s.layer < layers) shape figure figured) on) (λ next held.
      copy_gives way next figure (All-tail (λ s. s.layer < layers) shape figure figured) held)

  module _ (figure : List RawShape) (figured : AreRawShapesOn layers figure) where
    row_gives : (step : ℤ) (n : ℕ) (way : PointModel) (shapes : List RawShape) → AreRawShapesOn layers shapes
        → Gives (AreRawShapesOn layers) (with_row figure step n way shapes)
    unfolding with_row
    row_gives step zero way shapes on = gives_some shapes on
    row_gives step (suc n) way shapes on =
        gives_skip (length_within way.x) (λ x.
        gives_bind (copy_gives (record { x = x; y = way.y }) shapes figure figured on) (λ copied held.
        row_gives step n (record { x = x +ℤ step; y = way.y }) copied held))

    rows_give : (pattern : StepPattern) (n : ℕ) (way : PointModel) (shapes : List RawShape) → AreRawShapesOn layers shapes
        → Gives (AreRawShapesOn layers) (with_rows figure pattern n way shapes)
    unfolding with_rows
    rows_give pattern zero way shapes on = gives_some shapes on
    rows_give pattern (suc n) way shapes on =
        gives_skip (length_within way.y) (λ y.
        gives_bind (row_gives pattern.x_step pattern.columns (record { x = way.x; y = y }) shapes on) (λ copied held.
        rows_give pattern n (record { x = way.x; y = y +ℤ pattern.y_step }) copied held))

    -- Copies are on the layers of what is copied.
    pub copies_give : (pattern : StepPattern) (way : PointModel) (shapes : List RawShape) → AreRawShapesOn layers shapes
        → Gives (AreRawShapesOn layers) (with_copies figure pattern way shapes)
    unfolding with_copies
    copies_give pattern way shapes on =
        gives_skip (when (are_few_copies pattern figure)) (λ few. rows_give pattern pattern.rows way shapes on)

module _ (profile : Profile) (library : RawLibraryModel) (sound : All (IsRawViaOf library.layers) library.vias) where
  good_via_gives : (words : Words) → Gives (λ said. IsRawViaOf library.layers said.0) (good_via_at library words)
  unfolding good_via_at
  good_via_gives words =
      gives_skip (name_at words) (λ name.
      gives_skip (place_of name.0 (raw_via_names library)) (λ number.
      gives_bind {Q = IsRawViaOf library.layers} {said = slice_get library.vias number}
      (record { given = λ via is. all_at (IsRawViaOf library.layers) library.vias number via sound is }) (λ via of.
      gives_skip (when via.good) (λ good. gives_some (via, name.1) of))))

  -- The shapes of vias are on layers of the library.
  pub placed_via_gives : (shapes : List RawShape) (statement : Words) → AreRawShapesOn (length library.layers) shapes
      → Gives (AreRawShapesOn (length library.layers)) (with_placed_via profile library shapes statement)
  unfolding with_placed_via
  placed_via_gives shapes statement on =
      gives_skip (keyword_at (codes "VIA") statement) (λ start.
      gives_skip (iterate_at start.1) (λ iterate.
      gives_skip (past_mask profile iterate.1) (λ mask.
      gives_skip (point_at mask.1) (λ at.
      gives_bind (good_via_gives at.1) (λ via of.
      gives_skip (pattern_after iterate.0 via.1) (λ pattern.
      gives_skip (nothing_at pattern.1) (λ end.
      copies_give (length library.layers) via.0.shapes of.on_layers pattern.0 at.0 shapes on)))))))
