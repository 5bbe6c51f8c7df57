-- The slots in the metal of some pieces of a net, shape by shape.
use Rattle.std.proofs.Common.{◌≡◌, ◌↔◌, ℕ, ◌<◌, List, [], ◌∷◌, ◌++◌, All, Contains, Option, Some, slice_get, ◌⊎◌, inl, inr, sym, subst, ◌∙◌}
use Rattle.std.proofs.lemmas.List.Elements.{Contains-append_left, Contains-push, Contains-push_cases}
use Rattle.std.proofs.lemmas.Option.{same_Some}
use Rattle.leg_rules.specs.declared.shape.Shape.{Shape}
use Rattle.leg_rules.specs.declared.node.Node.{Node}
use Rattle.leg_route_grid.specs.declared.slot_box.SlotBox.{SlotBox}
use Rattle.leg_route_grid.specs.Steps.WalkBounds.{AreBoxed}
use Rattle.leg_route_grid.specs.Steps.Grid.{GridModel, IsNumberOf, slot_total}
use Rattle.leg_route_grid.specs.Steps.NodesInRect.{LiesInRect}
use Rattle.leg_route_grid.specs.Steps.NodeNumbers.{IsOneOf}
use Rattle.leg_finish.specs.Steps.GroupSlots.{MeetsShapeOf, AreSlotsOf}

module _ (grid : GridModel) (shapes : List Shape) (IsMeant : Option ℕ → Type 0) where
  -- one shape more
  module _ (numbers : List ℕ) (boxes : List SlotBox) (slots : List ℕ) (done : AreSlotsOf grid shapes IsMeant numbers boxes slots) (k : ℕ) (shape : Shape)
      (read : slice_get shapes k ≡ Some shape) where
    earlier : (node : Node) → MeetsShapeOf shapes IsMeant numbers node → MeetsShapeOf shapes IsMeant (numbers ++ k ∷ []) node
    earlier node m = record {
      number = m.number;
      listed = Contains-append_left numbers (k ∷ []) m.number m.listed;
      shape = m.shape;
      there = m.there;
      meant = m.meant;
      lies = m.lies;
    }

    -- of an earlier shape
    still : (n : ℕ) → IsOneOf (IsNumberOf grid) (MeetsShapeOf shapes IsMeant numbers) n
        → IsOneOf (IsNumberOf grid) (MeetsShapeOf shapes IsMeant (numbers ++ k ∷ [])) n
    still n one = record { node = one.node; is = one.is; holds = earlier one.node one.holds }

    -- of this one
    record IsHere (node : Node) : Type 0 where
      pub meant : IsMeant shape.piece
      pub lies : LiesInRect shape.layer shape.rect node

    here_of : (node : Node) (number : ℕ) (other : Shape) → k ≡ number → slice_get shapes number ≡ Some other → IsMeant other.piece
        → LiesInRect other.layer other.rect node → IsHere node
    here_of node number other same there meant lies =
        let here : slice_get shapes k ≡ Some other = rw same there in
        let is : other ≡ shape = same_Some other shape (sym here ∙ read) in
        record {
          meant = subst (λ (s : Shape). IsMeant s.piece) is meant;
          lies = subst (λ (s : Shape). LiesInRect s.layer s.rect node) is lies;
        }

    parts : (n : ℕ) → IsOneOf (IsNumberOf grid) (MeetsShapeOf shapes IsMeant (numbers ++ k ∷ [])) n → Contains slots n ⊎ IsOneOf (IsNumberOf grid) IsHere n
    parts n one = elim (Contains-push_cases numbers k one.holds.number one.holds.listed) [
      | inl before ↦
          inl
          ((done.are n).1
          (record {
            node = one.node;
            is = one.is;
            holds = record {
              number = one.holds.number;
              listed = before;
              shape = one.holds.shape;
              there = one.holds.there;
              meant = one.holds.meant;
              lies = one.holds.lies;
            };
          }))
      | inr same ↦
          inr
          (record {
            node = one.node;
            is = one.is;
            holds = here_of one.node one.holds.number one.holds.shape same one.holds.there one.holds.meant one.holds.lies;
          })
    ]

    now_too : (n : ℕ) → IsMeant shape.piece → IsOneOf (IsNumberOf grid) (LiesInRect shape.layer shape.rect) n
        → IsOneOf (IsNumberOf grid) (MeetsShapeOf shapes IsMeant (numbers ++ k ∷ [])) n
    now_too n meant one = record {
      node = one.node;
      is = one.is;
      holds = record { number = k; listed = Contains-push numbers k; shape = shape; there = read; meant = meant; lies = one.holds };
    }

    -- its piece is meant
    pub slots_more : (boxes_more : List SlotBox) (more : List ℕ) → IsMeant shape.piece
        → ((n : ℕ) → Contains more n ↔ (Contains slots n ⊎ IsOneOf (IsNumberOf grid) (LiesInRect shape.layer shape.rect) n))
        → All (λ n. n < slot_total grid) more → AreBoxed grid boxes_more more → AreSlotsOf grid shapes IsMeant (numbers ++ k ∷ []) boxes_more more
    slots_more boxes_more more meant added within boxed = record {
      are = λ n. (
        λ has. elim ((added n).0 has) [
          | inl before ↦ still n ((done.are n).0 before)
          | inr now ↦ now_too n meant now
        ],
        λ one. elim (parts n one) [
          | inl before ↦ (added n).1 (inl before)
          | inr now ↦ (added n).1 (inr (record { node = now.node; is = now.is; holds = now.holds.lies }))
        ],
      );
      within = within;
      boxed = boxed;
    }

    -- it isn't
    pub slots_skip : (IsMeant shape.piece → ⊥) → AreSlotsOf grid shapes IsMeant (numbers ++ k ∷ []) boxes slots
    slots_skip other = record {
      are = λ n. (
        λ has. still n ((done.are n).0 has),
        λ one. elim (parts n one) [
          | inl before ↦ before
          | inr now ↦ absurd (other now.holds.meant)
        ],
      );
      within = done.within;
      boxed = done.boxed;
    }
