-- Nets are open in the flat of the design that got the wires just where they are in the grown flat.
use Rattle.std.proofs.Common.{◌≡◌, ℕ, ◌+◌, ◌<◌, Bool, true, false, List, ◌++◌, length, get_or, Some, slice_get, ◌⊎◌, inl, inr, sym, ap, subst, ◌∙◌, refl, arith}
use Rattle.std.proofs.lemmas.Bool.{false≢true}
use Rattle.std.proofs.lemmas.List.{length-append}
use Rattle.std.proofs.lemmas.Option.{same_Some, slice_get-get_or}
use Rattle.leg_geom.specs.Plane.{PointModel}
use Rattle.leg_design_records.specs.declared.records.Wire.{Wire}
use Rattle.leg_design_records.specs.Records.{DesignModel}
use Rattle.leg_rules.specs.declared.piece.Piece.{Piece}
use Rattle.leg_rules.specs.Metal.Nets.{terminals_of, wires_of, regular_entry, special_entry, entry_wires}
use Rattle.leg_rules.specs.Metal.Flat.{FlatModel, pieces_with}
use Rattle.leg_wire.specs.PieceMarks.{AreMarks}
use Rattle.leg_rules.specs.Joins.Touch.{piece_count, LiesIn, Touch, AreJoined}
use Rattle.leg_route_laws.specs.Growth.{AddedWire, wires_added}
use Rattle.leg_route_laws.specs.FinishedDesign.{finished, IsFinishedFrom}
use Rattle.leg_rules.specs.Joins.Violations.{IsOpenNet}
use Rattle.leg_flat.proofs.LastPiece.{length_of_pieces}
use Rattle.leg_route_laws.proofs.SameNets.{same_count, same_terminals}
use Rattle.leg_route_laws.proofs.Moves.{one_target, one_source, some_target, some_source, source_within, target_within}
use Rattle.leg_route_laws.proofs.RenumberedPieces.{joined_moved}
use Rattle.leg_route_laws.proofs.NetMetal.{MetalHasItsPiece, PieceHasItsMetal, pieces_are}
use Rattle.leg_route_laws.proofs.NetWires.{wires_then, wires_before}
use Rattle.leg_route_laws.proofs.FlatPieces.{pieces_at}
use Rattle.leg_route_laws.proofs.LikeShapes.{MovesIn, goes_on, comes_back}
use Rattle.leg_route_laws.proofs.Growth.{has_grown}

-- the two laws of pieces that are joined
abbrev pub JoinedBothWays : Type 0
JoinedBothWays = (flat : FlatModel) (net a b : ℕ) → AreJoined flat net a b → AreJoined flat net b a

abbrev pub JoinedOnward : Type 0
JoinedOnward = (flat : FlatModel) (net a b c : ℕ) → AreJoined flat net a b → AreJoined flat net b c → AreJoined flat net a c

pub count_is : (flat : FlatModel) (n : ℕ) (pieces : List Piece) → slice_get flat.pieces n ≡ Some pieces → piece_count flat n ≡ length pieces
count_is flat n pieces there = rw there refl

module _ (metal_has : MetalHasItsPiece) (piece_has : PieceHasItsMetal) (back : JoinedBothWays) (onward : JoinedOnward)
    (design : DesignModel) (added : List AddedWire) (grown : FlatModel) (lists : List (List Wire)) (end : FlatModel)
    (from : IsFinishedFrom design added grown lists end) (n : ℕ) (entry : n < length design.nets) where
  abbrev done : DesignModel
  done = finished design lists

  abbrev t : ℕ
  t = length (terminals_of design n)

  abbrev r : ℕ
  r = length (entry_wires (regular_entry design n))

  abbrev s : ℕ
  s = length (entry_wires (special_entry design n))

  abbrev a : ℕ
  a = length (wires_added n added)

  abbrev To : ℕ → ℕ → Type 0
  To g d = MovesIn design added n g d

  -- both flats have as many pieces of the net
  had : length (wires_of design n) ≡ r + s
  had = ap length (wires_before design added lists from.by_net n) ∙ length-append (entry_wires (regular_entry design n)) (entry_wires (special_entry design n))

  grown_count : piece_count grown n ≡ t + r + s + a
  grown_count =
      let growth = has_grown design added from.flat grown from.grows in
      let before = pieces_at design from.flat from.is_flat n (omega (arith, entry)) ∙ ap Some (pieces_are design n) in
      let after = growth.pieces n (terminals_of design n) (length (wires_of design n)) before in
      let count = count_is grown n (pieces_with (terminals_of design n) (length (wires_of design n) + a)) after in
      omega (arith, count, had, length_of_pieces (terminals_of design n) (length (wires_of design n) + a))

  end_count : piece_count end n ≡ t + r + s + a
  end_count =
      let there = pieces_at done end from.is_end n (omega (arith, entry, same_count design lists)) ∙ ap Some (pieces_are done n) in
      let count = count_is end n (pieces_with (terminals_of done n) (length (wires_of done n))) there in
      let terminals : length (terminals_of done n) ≡ t = ap length (same_terminals design lists n) in
      let regular = entry_wires (regular_entry design n) in
      let wires : length (wires_of done n) ≡ r + a + s =
      ap length (wires_then design added lists from.by_net n)
      ∙ length-append (regular ++ wires_added n added) (entry_wires (special_entry design n))
      ∙ ap (λ k. k + s) (length-append regular (wires_added n added)) in
      omega (arith, count, terminals, wires, length_of_pieces (terminals_of done n) (length (wires_of done n)))

  -- a point of a piece is one of where the piece goes
  lies_then : (g d layer : ℕ) (p : PointModel) → To g d → LiesIn grown n g layer p → LiesIn end n d layer p
  lies_then g d layer p to lies =
      let goes = goes_on metal_has piece_has design added grown lists end from lies.shape lies.has in
      let piece = goes.2.piece n lies.of_piece.owner in
      let same : piece.g ≡ g = same_Some piece.g g (sym piece.of_s ∙ lies.of_piece.piece) in
      let target : piece.d ≡ d = one_target t r s a g piece.d d (subst (λ k. To k piece.d) same piece.moves) to in
      record {
        shape = goes.0;
        has = goes.1;
        of_piece = record {
          there = omega (arith, end_count, target_within t r s a g d to);
          owner = sym goes.2.alike.owner ∙ lies.of_piece.owner;
          piece = piece.of_t ∙ ap Some target;
        };
        on_layer = sym goes.2.alike.layer ∙ lies.on_layer;
        inside = (goes.2.alike.points p).0 lies.inside;
      }

  lies_before : (g d layer : ℕ) (p : PointModel) → To g d → LiesIn end n d layer p → LiesIn grown n g layer p
  lies_before g d layer p to lies =
      let comes = comes_back metal_has piece_has design added grown lists end from lies.shape lies.has in
      let owner = comes.2.alike.owner ∙ lies.of_piece.owner in
      let piece = comes.2.piece n owner in
      let same : piece.d ≡ d = same_Some piece.d d (sym piece.of_t ∙ lies.of_piece.piece) in
      let source : piece.g ≡ g = one_source t r s a piece.g g d (subst (To piece.g) same piece.moves) to in
      record {
        shape = comes.0;
        has = comes.1;
        of_piece = record {
          there = omega (arith, grown_count, source_within t r s a g d to);
          owner = owner;
          piece = piece.of_s ∙ ap Some source;
        };
        on_layer = comes.2.alike.layer ∙ lies.on_layer;
        inside = (comes.2.alike.points p).1 lies.inside;
      }

  touch_then : (g h d : ℕ) → To g d → Touch grown n g h → (e : ℕ) × To h e × Touch end n d e
  touch_then g h d to touch =
      let goes = some_target t r s a h (omega (arith, grown_count, touch.p_in_b.of_piece.there)) in (
        goes.0,
        goes.1,
        record {
          layer = touch.layer;
          p = touch.p;
          q = touch.q;
          differ = touch.differ;
          p_in_a = lies_then g d touch.layer touch.p to touch.p_in_a;
          p_in_b = lies_then h goes.0 touch.layer touch.p goes.1 touch.p_in_b;
          q_in_a = lies_then g d touch.layer touch.q to touch.q_in_a;
          q_in_b = lies_then h goes.0 touch.layer touch.q goes.1 touch.q_in_b;
        },
      )

  abbrev From : ℕ → ℕ → Type 0
  From d g = To g d

  touch_before : (d e g : ℕ) → From d g → Touch end n d e → (h : ℕ) × From e h × Touch grown n g h
  touch_before d e g to touch =
      let comes = some_source t r s a e (omega (arith, end_count, touch.p_in_b.of_piece.there)) in (
        comes.0,
        comes.1,
        record {
          layer = touch.layer;
          p = touch.p;
          q = touch.q;
          differ = touch.differ;
          p_in_a = lies_before g d touch.layer touch.p to touch.p_in_a;
          p_in_b = lies_before comes.0 e touch.layer touch.p comes.1 touch.p_in_b;
          q_in_a = lies_before g d touch.layer touch.q to touch.q_in_a;
          q_in_b = lies_before comes.0 e touch.layer touch.q comes.1 touch.q_in_b;
        },
      )

  pub joined_then : (g h d e : ℕ) → To g d → To h e → AreJoined grown n g h → AreJoined end n d e
  joined_then g h d e to_d to_e joined =
      let goes = joined_moved (Touch grown n) (Touch end n) To touch_then g h d to_d joined in
      subst (AreJoined end n d) (one_target t r s a h goes.0 e goes.1 to_e) goes.2

  pub joined_before : (g h d e : ℕ) → To g d → To h e → AreJoined end n d e → AreJoined grown n g h
  joined_before g h d e to_d to_e joined =
      let comes = joined_moved (Touch end n) (Touch grown n) From touch_before d e g to_d joined in
      subst (AreJoined grown n g) (one_source t r s a comes.0 h e comes.1 to_e) comes.2

  -- where no piece is open, none is in the other flat
  pub none_then : ¬ IsOpenNet design grown n → ¬ IsOpenNet done end n
  none_then none (k, is_open) =
      let within : k < t + r + s + a = omega (arith, end_count, is_open.piece) in
      let piece = some_source t r s a k within in
      let first = some_source t r s a 0 (omega (arith, within)) in
      let joined : (g : ℕ) → g < t + r + s + a → ¬ ¬ AreJoined grown n 0 g =
      λ g less apart. none (g, record { net = entry; piece = omega (arith, grown_count, less); open_piece = apart }) in
      joined piece.0 (source_within t r s a piece.0 k piece.1) (λ to_piece.
      joined first.0 (source_within t r s a first.0 0 first.1) (λ to_first.
      is_open.open_piece (joined_then first.0 piece.0 0 k first.1 piece.1 (onward grown n first.0 0 piece.0 (back grown n 0 first.0 to_first) to_piece))))

  pub none_before : ¬ IsOpenNet done end n → ¬ IsOpenNet design grown n
  none_before none (k, is_open) =
      let within : k < t + r + s + a = omega (arith, grown_count, is_open.piece) in
      let piece = some_target t r s a k within in
      let first = some_target t r s a 0 (omega (arith, within)) in
      let joined : (d : ℕ) → d < t + r + s + a → ¬ ¬ AreJoined end n 0 d =
      λ d less apart. none (d, record { net = omega (arith, entry, same_count design lists); piece = omega (arith, end_count, less); open_piece = apart }) in
      joined piece.0 (target_within t r s a k piece.0 piece.1) (λ to_piece.
      joined first.0 (target_within t r s a 0 first.0 first.1) (λ to_first.
      is_open.open_piece (joined_before 0 k first.0 piece.0 first.1 piece.1 (onward end n first.0 0 piece.0 (back end n 0 first.0 to_first) to_piece))))

  -- where marks tell which pieces are joined, a net with an open piece has one in the other flat
  module _ (marks : List Bool) (marked : AreMarks (AreJoined grown n 0) (piece_count grown n) marks) where
    told : (g : ℕ) → g < t + r + s + a → AreJoined grown n 0 g ⊎ (¬ AreJoined grown n 0 g)
    told g less = by (get_or marks g false) (slice_get-get_or marks g false (omega (arith, marked.count, grown_count, less))) where
      by : (mark : Bool) → slice_get marks g ≡ Some mark → AreJoined grown n 0 g ⊎ (¬ AreJoined grown n 0 g)
      by true there = inl ((marked.each g true there).0 refl)
      by false there = inr (λ joined. false≢true ((marked.each g false there).1 joined))

    pub marked_then : IsOpenNet design grown n → IsOpenNet done end n
    marked_then (k, is_open) =
        let within : k < t + r + s + a = omega (arith, grown_count, is_open.piece) in
        by (some_target t r s a k within) (some_target t r s a 0 (omega (arith, within))) (some_source t r s a 0 (omega (arith, within)))
      where
        at_end : (d : ℕ) → d < t + r + s + a → ¬ AreJoined end n 0 d → IsOpenNet done end n
        at_end d less apart = (d, record { net = omega (arith, entry, same_count design lists); piece = omega (arith, end_count, less); open_piece = apart })

        by : (d : ℕ) × To k d → (f : ℕ) × To 0 f → (z : ℕ) × To z 0 → IsOpenNet done end n
        by (d, to_d) (f, to_f) (z, from_z) = elim (told z (source_within t r s a z 0 from_z)) [
          | inl same ↦
              at_end d (target_within t r s a k d to_d)
              (λ joined. is_open.open_piece (onward grown n 0 z k same (joined_before z k 0 d from_z to_d joined)))
          | inr apart ↦
              at_end f (target_within t r s a 0 f to_f)
              (λ joined. apart (back grown n z 0 (joined_before z 0 0 f from_z to_f joined)))
        ]

    pub marked_before : IsOpenNet done end n → IsOpenNet design grown n
    marked_before (k, is_open) =
        let within : k < t + r + s + a = omega (arith, end_count, is_open.piece) in
        by (some_source t r s a k within) (some_source t r s a 0 (omega (arith, within)))
      where
        at_grown : (g : ℕ) → g < t + r + s + a → ¬ AreJoined grown n 0 g → IsOpenNet design grown n
        at_grown g less apart = (g, record { net = entry; piece = omega (arith, grown_count, less); open_piece = apart })

        by : (g : ℕ) × To g k → (z : ℕ) × To z 0 → IsOpenNet design grown n
        by (g, from_g) (z, from_z) =
            which (told g (source_within t r s a g k from_g)) (told z (source_within t r s a z 0 from_z))
          where
            which : AreJoined grown n 0 g ⊎ (¬ AreJoined grown n 0 g) → AreJoined grown n 0 z ⊎ (¬ AreJoined grown n 0 z) → IsOpenNet design grown n
            which (inr apart) other = at_grown g (source_within t r s a g k from_g) apart
            which (inl to_g) (inr apart) = at_grown z (source_within t r s a z 0 from_z) apart
            which (inl to_g) (inl to_z) =
                absurd (is_open.open_piece (joined_then z g 0 k from_z from_g (onward grown n z 0 g (back grown n 0 z to_z) to_g)))

  -- where the first piece is the same, a piece that is open is open in the other flat
  module _ (first_stays : 0 < t + r) where
    first_is : To 0 0
    first_is = inl (record { below = first_stays; is = refl })

    pub open_then : IsOpenNet design grown n → IsOpenNet done end n
    open_then (k, is_open) =
        let piece = some_target t r s a k (omega (arith, grown_count, is_open.piece)) in (
          piece.0,
          record {
            net = omega (arith, entry, same_count design lists);
            piece = omega (arith, end_count, target_within t r s a k piece.0 piece.1);
            open_piece = λ joined. is_open.open_piece (joined_before 0 k 0 piece.0 first_is piece.1 joined);
          },
        )

    pub open_before : IsOpenNet done end n → IsOpenNet design grown n
    open_before (k, is_open) =
        let piece = some_source t r s a k (omega (arith, end_count, is_open.piece)) in (
          piece.0,
          record {
            net = entry;
            piece = omega (arith, grown_count, source_within t r s a piece.0 k piece.1);
            open_piece = λ joined. is_open.open_piece (joined_then 0 piece.0 0 k first_is piece.1 joined);
          },
        )
