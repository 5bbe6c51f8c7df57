-- Slots that come to those of the joined part of a net, shape by shape and piece by piece.
use Rattle.std.proofs.Common.{◌≡◌, ◌↔◌, ◌⊎◌, ℕ, List, [], ◌∷◌, ◌++◌, Contains, inl, inr, sym, ap, ◌∙◌, append_assoc}
use Rattle.std.proofs.lemmas.List.{append-nil}
use Rattle.std.proofs.lemmas.List.Elements.{Contains-append_left, Contains-push, Contains-push_cases}
use Rattle.leg_sweep.proofs.Lists.{Contains-nil}
use Rattle.leg_rules.specs.declared.node.Node.{Node}
use Rattle.leg_wire.specs.declared.piece_shape.PieceShape.{PieceShape}
use Rattle.leg_route_grid.specs.declared.slot_box.SlotBox.{SlotBox}
use Rattle.leg_route_grid.specs.Steps.Grid.{GridModel, IsNumberOf}
use Rattle.leg_route_grid.specs.Steps.NodeNumbers.{IsOneOf}
use Rattle.leg_route_grid.specs.Steps.NodesInRect.{LiesInRect}
use Rattle.leg_route.specs.Steps.JoinedPart.{HaveGotSlots, MeetsMetal, MeetsPieces}

-- of a node for another reason
pub one_as : (grid : GridModel) (Holds Then : Node → Type 0) → ((node : Node) → Holds node → Then node) → (n : ℕ)
    → IsOneOf (IsNumberOf grid) Holds n → IsOneOf (IsNumberOf grid) Then n
one_as grid Holds Then then n one = record { node = one.node; is = one.is; holds = then one.node one.holds }

module _ (grid : GridModel) where
  -- no slot comes
  got_none : (Holds : Node → Type 0) (boxes : List SlotBox) (slots : List ℕ) → ((node : Node) → Holds node → ⊥)
      → HaveGotSlots grid Holds boxes slots boxes slots
  got_none Holds boxes slots none = record {
    are = λ n. (λ has. inl has, λ is. elim is [ inl had ↦ had | inr one ↦ absurd (none one.node one.holds) ]);
    within = λ all. all;
    boxed = λ all. all;
    more = [];
    behind = sym (append-nil boxes);
  }

  -- those of one kind come, and then those of another
  got_both : (P Q Then : Node → Type 0) (boxes boxes_between boxes_after : List SlotBox) (slots between after : List ℕ)
      → ((node : Node) → P node → Then node) → ((node : Node) → Q node → Then node) → ((node : Node) → Then node → P node ⊎ Q node)
      → HaveGotSlots grid P boxes slots boxes_between between → HaveGotSlots grid Q boxes_between between boxes_after after
      → HaveGotSlots grid Then boxes slots boxes_after after
  got_both P Q Then boxes boxes_between boxes_after slots between after from_p from_q into first next = record {
    are = λ n. (
      λ has. elim ((next.are n).0 has) [
        | inl was ↦ elim ((first.are n).0 was) [ inl had ↦ inl had | inr one ↦ inr (one_as grid P Then from_p n one) ]
        | inr one ↦ inr (one_as grid Q Then from_q n one)
      ],
      λ is. elim is [
        | inl had ↦ (next.are n).1 (inl ((first.are n).1 (inl had)))
        | inr one ↦ elim (into one.node one.holds) [
          | inl p ↦ (next.are n).1 (inl ((first.are n).1 (inr (record { node = one.node; is = one.is; holds = p }))))
          | inr q ↦ (next.are n).1 (inr (record { node = one.node; is = one.is; holds = q }))
        ]
      ],
    );
    within = λ all. next.within (first.within all);
    boxed = λ all. next.boxed (first.boxed all);
    more = first.more ++ next.more;
    behind = next.behind ∙ ap (λ b. b ++ next.more) first.behind ∙ append_assoc boxes first.more next.more;
  }

  -- shapes, and one more
  pub metal_none : (boxes : List SlotBox) (slots : List ℕ) → HaveGotSlots grid (MeetsMetal []) boxes slots boxes slots
  metal_none boxes slots = got_none (MeetsMetal []) boxes slots (λ node meets. Contains-nil meets.shape meets.has)

  pub metal_more : (metal : List PieceShape) (shape : PieceShape) (boxes boxes_between boxes_after : List SlotBox) (slots between after : List ℕ)
      → HaveGotSlots grid (MeetsMetal metal) boxes slots boxes_between between
      → HaveGotSlots grid (LiesInRect shape.layer shape.rect) boxes_between between boxes_after after
      → HaveGotSlots grid (MeetsMetal (metal ++ shape ∷ [])) boxes slots boxes_after after
  metal_more metal shape boxes boxes_between boxes_after slots between after =
      got_both (MeetsMetal metal) (LiesInRect shape.layer shape.rect) (MeetsMetal (metal ++ shape ∷ [])) boxes boxes_between boxes_after slots between after
      (λ node meets. record { shape = meets.shape; has = Contains-append_left metal (shape ∷ []) meets.shape meets.has; lies = meets.lies })
      (λ node lies. record { shape = shape; has = Contains-push metal shape; lies = lies })
      (λ node meets. elim (Contains-push_cases metal shape meets.shape meets.has) [
        | inl earlier ↦ inl (record { shape = meets.shape; has = earlier; lies = meets.lies })
        | inr here ↦ inr (rw here meets.lies)
      ])

  -- pieces, and one more, of which this is the metal
  module _ (metal : List PieceShape) where
    pub pieces_none : (boxes : List SlotBox) (slots : List ℕ) → HaveGotSlots grid (MeetsPieces metal []) boxes slots boxes slots
    pieces_none boxes slots = got_none (MeetsPieces metal []) boxes slots (λ node meets. Contains-nil meets.shape.piece meets.of_piece)

    pub pieces_more : (pieces : List ℕ) (piece : ℕ) (own : List PieceShape)
        → ((shape : PieceShape) → Contains own shape ↔ (Contains metal shape × (shape.piece ≡ piece)))
        → (boxes boxes_between boxes_after : List SlotBox) (slots between after : List ℕ)
        → HaveGotSlots grid (MeetsPieces metal pieces) boxes slots boxes_between between
        → HaveGotSlots grid (MeetsMetal own) boxes_between between boxes_after after
        → HaveGotSlots grid (MeetsPieces metal (pieces ++ piece ∷ [])) boxes slots boxes_after after
    pieces_more pieces piece own are boxes boxes_between boxes_after slots between after =
        got_both (MeetsPieces metal pieces) (MeetsMetal own) (MeetsPieces metal (pieces ++ piece ∷ [])) boxes boxes_between boxes_after slots between after
        (λ node meets. record {
          shape = meets.shape;
          has = meets.has;
          of_piece = Contains-append_left pieces (piece ∷ []) meets.shape.piece meets.of_piece;
          lies = meets.lies;
        })
        (λ node meets.
        let is = (are meets.shape).0 meets.has in
        record { shape = meets.shape; has = is.0; of_piece = rw is.1 (Contains-push pieces piece); lies = meets.lies })
        (λ node meets. elim (Contains-push_cases pieces piece meets.shape.piece meets.of_piece) [
          | inl earlier ↦ inl (record { shape = meets.shape; has = meets.has; of_piece = earlier; lies = meets.lies })
          | inr here ↦ inr (record { shape = meets.shape; has = (are meets.shape).1 (meets.has, sym here); lies = meets.lies })
        ])
