-- The slots in the metal of a net, shape by shape.
use Rattle.std.proofs.Common.{◌≡◌, ◌↔◌, ℕ, ◌<◌, Bool, true, false, List, [], ◌∷◌, ◌++◌, All, Contains, get_or, Some, slice_get, ◌⊎◌, inl, inr, refl, sym, subst, ap, ◌∙◌, true≢false}
use Rattle.std.proofs.lemmas.Bool.{cases_Bool}
use Rattle.std.proofs.lemmas.List.Elements.{Contains-append_left, Contains-push, Contains-push_cases}
use Rattle.std.proofs.lemmas.Option.{same_Some, slice_get_within, slice_get_read, slice_get-get_or, get_or_from_slice_get}
use Rattle.leg_rules.specs.declared.shape.Shape.{Shape}
use Rattle.leg_rules.specs.Metal.Flat.{FlatModel}
use Rattle.leg_wire.specs.NetShapes.{AreNumbersOf}
use Rattle.leg_wire.specs.PieceMarks.{AreMarks}
use Rattle.leg_rules.specs.Joins.Touch.{piece_count, LiesIn, AreJoined}
use Rattle.leg_rules.specs.declared.node.Node.{Node}
use Rattle.leg_route_grid.specs.declared.slot_box.SlotBox.{SlotBox}
use Rattle.leg_route_grid.specs.Steps.WalkBounds.{AreBoxed}
use Rattle.leg_route_grid.specs.Steps.Grid.{GridModel, IsNumberOf, slot_total}
use Rattle.leg_route_grid.specs.Steps.NodesInRect.{LiesInRect}
use Rattle.leg_rules.specs.Route.Meets.{MeetsJoined, MeetsRest}
use Rattle.leg_route_grid.specs.Steps.NodeNumbers.{IsOneOf}
use Rattle.leg_route.specs.Steps.NetSlots.{HasMark, MeetsMarked, AreMarkedSlots}

module _ (grid : GridModel) (shapes : List Shape) (marks : List Bool) (mark : Bool) where
  -- one shape more
  module _ (numbers : List ℕ) (boxes : List SlotBox) (slots : List ℕ) (done : AreMarkedSlots grid shapes marks mark numbers boxes slots) (k : ℕ) (shape : Shape)
      (read : slice_get shapes k ≡ Some shape) where
    same_shape : (other : Shape) → slice_get shapes k ≡ Some other → other ≡ shape
    same_shape other there = same_Some other shape (sym there ∙ read)

    earlier : (node : Node) → MeetsMarked shapes marks mark numbers node → MeetsMarked shapes marks mark (numbers ++ k ∷ []) node
    earlier node m = record {
      number = m.number;
      listed = Contains-append_left numbers (k ∷ []) m.number m.listed;
      shape = m.shape;
      there = m.there;
      marked = m.marked;
      lies = m.lies;
    }

    -- of an earlier shape
    still : (n : ℕ) → IsOneOf (IsNumberOf grid) (MeetsMarked shapes marks mark numbers) n
        → IsOneOf (IsNumberOf grid) (MeetsMarked shapes marks mark (numbers ++ k ∷ [])) n
    still n one = record { node = one.node; is = one.is; holds = earlier one.node one.holds }

    -- of this one
    record IsHere (node : Node) : Type 0 where
      pub marked : HasMark marks mark shape.piece
      pub lies : LiesInRect shape.layer shape.rect node

    here_of : (node : Node) (number : ℕ) (other : Shape) → k ≡ number → slice_get shapes number ≡ Some other → HasMark marks mark other.piece
        → LiesInRect other.layer other.rect node → IsHere node
    here_of node number other same there marked lies =
        let is : other ≡ shape = same_shape other (rw same there) in
        record {
          marked = subst (λ (s : Shape). HasMark marks mark s.piece) is marked;
          lies = subst (λ (s : Shape). LiesInRect s.layer s.rect node) is lies;
        }

    parts : (n : ℕ) → IsOneOf (IsNumberOf grid) (MeetsMarked shapes marks mark (numbers ++ k ∷ [])) n
        → Contains slots n ⊎ IsOneOf (IsNumberOf grid) IsHere n
    parts n one = elim (Contains-push_cases numbers k one.holds.number one.holds.listed) [
      | inl before ↦
          inl
          ((done.are n).1
          (record {
            node = one.node;
            is = one.is;
            holds = record {
              number = one.holds.number;
              listed = before;
              shape = one.holds.shape;
              there = one.holds.there;
              marked = one.holds.marked;
              lies = one.holds.lies;
            };
          }))
      | inr same ↦
          inr
          (record {
            node = one.node;
            is = one.is;
            holds = here_of one.node one.holds.number one.holds.shape same one.holds.there one.holds.marked one.holds.lies;
          })
    ]

    now_too : (n : ℕ) → HasMark marks mark shape.piece → IsOneOf (IsNumberOf grid) (LiesInRect shape.layer shape.rect) n
        → IsOneOf (IsNumberOf grid) (MeetsMarked shapes marks mark (numbers ++ k ∷ [])) n
    now_too n marked one = record {
      node = one.node;
      is = one.is;
      holds = record { number = k; listed = Contains-push numbers k; shape = shape; there = read; marked = marked; lies = one.holds };
    }

    -- its piece has the mark
    pub slots_more : (boxes_more : List SlotBox) (more : List ℕ) → HasMark marks mark shape.piece
        → ((n : ℕ) → Contains more n ↔ (Contains slots n ⊎ IsOneOf (IsNumberOf grid) (LiesInRect shape.layer shape.rect) n))
        → All (λ n. n < slot_total grid) more → AreBoxed grid boxes_more more → AreMarkedSlots grid shapes marks mark (numbers ++ k ∷ []) boxes_more more
    slots_more boxes_more more marked added within boxed = record {
      are = λ n. (
        λ has. elim ((added n).0 has) [
          | inl before ↦ still n ((done.are n).0 before)
          | inr now ↦ now_too n marked now
        ],
        λ one. elim (parts n one) [
          | inl before ↦ (added n).1 (inl before)
          | inr now ↦ (added n).1 (inr (record { node = now.node; is = now.is; holds = now.holds.lies }))
        ],
      );
      within = within;
      boxed = boxed;
    }

    -- it hasn't
    pub slots_skip : (HasMark marks mark shape.piece → ⊥) → AreMarkedSlots grid shapes marks mark (numbers ++ k ∷ []) boxes slots
    slots_skip other = record {
      are = λ n. (
        λ has. still n ((done.are n).0 has),
        λ one. elim (parts n one) [
          | inl before ↦ before
          | inr now ↦ absurd (other now.holds.marked)
        ],
      );
      within = done.within;
      boxed = done.boxed;
    }

-- The shapes of a net, and which of its pieces are joined.
module _ (flat : FlatModel) (net : ℕ) (numbers : List ℕ) (are : AreNumbersOf flat.shapes net numbers) (marks : List Bool)
    (marks_are : AreMarks (AreJoined flat net 0) (piece_count flat net) marks) where
  pub meets_piece : (mark : Bool) (node : Node) (m : MeetsMarked flat.shapes marks mark numbers node) → LiesIn flat net m.marked.number node.layer node.at
  meets_piece mark node m =
      let of_net = are.each m.number m.listed in
      let same : m.shape ≡ of_net.shape = same_Some m.shape of_net.shape (sym m.there ∙ of_net.at) in
      record {
        shape = m.shape;
        has = (m.number, slice_get_within flat.shapes m.number m.shape m.there, get_or_from_slice_get flat.shapes m.number m.shape m.shape m.there);
        of_piece = record {
          there = rw (← marks_are.count) (slice_get_within marks m.marked.number mark m.marked.marked);
          owner = ap (λ (s : Shape). s.owner) same ∙ of_net.owner;
          piece = m.marked.is;
        };
        on_layer = sym m.lies.on_layer;
        inside = m.lies.inside;
      }

  meets_marked : (mark : Bool) (node : Node) (piece : ℕ) (lies : LiesIn flat net piece node.layer node.at) → slice_get marks piece ≡ Some mark
      → MeetsMarked flat.shapes marks mark numbers node
  meets_marked mark node piece lies marked =
      let k = lies.has.0 in
      let there : slice_get flat.shapes k ≡ Some lies.shape = slice_get_read flat.shapes _ k lies.shape refl lies.has.1 (sym lies.has.2) in
      record {
        number = k;
        listed = are.all k (record { shape = lies.shape; at = there; owner = lies.of_piece.owner });
        shape = lies.shape;
        there = there;
        marked = record { number = piece; is = lies.of_piece.piece; marked = marked };
        lies = record { on_layer = sym lies.on_layer; inside = lies.inside };
      }

  mark_at : (piece : ℕ) → piece < piece_count flat net → slice_get marks piece ≡ Some (get_or marks piece false)
  mark_at piece within = slice_get-get_or marks piece false (rw marks_are.count within)

  joined_marked : (piece : ℕ) → piece < piece_count flat net → AreJoined flat net 0 piece → slice_get marks piece ≡ Some true
  joined_marked piece within joined =
      let read = mark_at piece within in
      read ∙ ap Some ((marks_are.each piece (get_or marks piece false) read).1 joined)

  pub rest_marked : (piece : ℕ) → piece < piece_count flat net → (AreJoined flat net 0 piece → ⊥) → slice_get marks piece ≡ Some false
  rest_marked piece within rest =
      let read = mark_at piece within in
      elim (cases_Bool (get_or marks piece false)) [
        | inl is ↦ absurd (rest ((marks_are.each piece (get_or marks piece false) read).0 is))
        | inr is ↦ read ∙ ap Some is
      ]

  module _ (grid : GridModel) (boxes : List SlotBox) (slots : List ℕ) where
    -- the slots in shapes of joined pieces
    pub starts_are : AreMarkedSlots grid flat.shapes marks true numbers boxes slots → (n : ℕ)
        → Contains slots n ↔ IsOneOf (IsNumberOf grid) (MeetsJoined flat net) n
    starts_are told n = (
      λ has.
          let one = (told.are n).0 has in
          record {
            node = one.node;
            is = one.is;
            holds = record {
              piece = one.holds.marked.number;
              joined = (marks_are.each one.holds.marked.number true one.holds.marked.marked).0 refl;
              meets = meets_piece true one.node one.holds;
            };
          },
      λ one.
          (told.are n).1
          (record {
            node = one.node;
            is = one.is;
            holds = meets_marked true one.node one.holds.piece one.holds.meets (joined_marked one.holds.piece one.holds.meets.of_piece.there one.holds.joined);
          }),
    )

    -- the slots in those of the others
    pub ends_are : AreMarkedSlots grid flat.shapes marks false numbers boxes slots → (n : ℕ)
        → Contains slots n ↔ IsOneOf (IsNumberOf grid) (MeetsRest flat net) n
    ends_are told n = (
      λ has.
          let one = (told.are n).0 has in
          record {
            node = one.node;
            is = one.is;
            holds = record {
              piece = one.holds.marked.number;
              rest = λ joined. absurd (true≢false (sym ((marks_are.each one.holds.marked.number false one.holds.marked.marked).1 joined)));
              meets = meets_piece false one.node one.holds;
            };
          },
      λ one.
          (told.are n).1
          (record {
            node = one.node;
            is = one.is;
            holds = meets_marked false one.node one.holds.piece one.holds.meets (rest_marked one.holds.piece one.holds.meets.of_piece.there one.holds.rest);
          }),
    )
