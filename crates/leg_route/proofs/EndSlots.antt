-- The slots at which walks of a net end: of a shape more, of those that are left, and by their numbers.
use Rattle.std.proofs.Common.{◌≡◌, ◌⊎◌, ◌<◌, ◌≤◌, ◌-◌, ℕ, Bool, true, false, List, [], ◌∷◌, ◌++◌, length, map, take, drop, get_or, All, Contains, Some, slice_get, inl, inr, refl, sym, subst, ap, ◌∙◌, true≢false, arith}
use Rattle.std.proofs.Math.Nat.{min-le_right}
use Rattle.std.proofs.lemmas.Bool.{cases_Bool, cases_lt}
use Rattle.std.proofs.Math.Seq.{take-append_seam, drop-append_seam}
use Rattle.std.proofs.lemmas.List.{length-drop, take_all}
use Rattle.std.proofs.lemmas.List.Elements.{All-contains, Contains-append_left, Contains-append_right, Contains-push, Contains-push_cases}
use Rattle.std.proofs.lemmas.Option.{same_Some, slice_get_within, slice_get_read, slice_get-get_or}
use Rattle.leg_sweep.proofs.Lists.{All-from_contains}
use Rattle.leg_rules.specs.declared.shape.Shape.{Shape}
use Rattle.leg_rules.specs.declared.node.Node.{Node}
use Rattle.leg_rules.specs.Metal.Flat.{FlatModel}
use Rattle.leg_route_grid.specs.declared.slot_box.SlotBox.{SlotBox}
use Rattle.leg_route_grid.specs.Steps.WalkBounds.{bound_at, IsBoxOf}
use Rattle.leg_route_grid.specs.Steps.Grid.{GridModel, IsNumberOf, slot_total}
use Rattle.leg_route_grid.specs.Steps.NodeNumbers.{IsOneOf}
use Rattle.leg_route_grid.specs.Steps.NodesInRect.{LiesInRect}
use Rattle.leg_wire.specs.NetShapes.{AreNumbersOf}
use Rattle.leg_wire.specs.PieceMarks.{AreMarks, AreFirsts}
use Rattle.leg_rules.specs.Joins.Touch.{piece_count, Touch, AreJoined}
use Rattle.leg_wire.proofs.JoinedLaws.{Joined-onward, AreJoined-symmetric}
use Rattle.leg_wire.specs.Steps.NumberSets.{AreTogether}
use Rattle.leg_rules.specs.Route.Meets.{MeetsRest}
use Rattle.leg_lemmas.proofs.Places.{comes_from}
use Rattle.leg_route.specs.Steps.NetSlots.{MeetsMarked}
use Rattle.leg_route.proofs.NetSlots.{meets_piece, rest_marked}
use Rattle.leg_route.specs.declared.end_slots.EndSlot.{EndSlot}
use Rattle.leg_route.specs.Steps.EndSlots.{IsApart, MeetsPiece, IsBoundFrom, IsEndSlot, HasEndFor, AreEndSlots, end_at, HaveGotSlotEnds, HaveGotEnds, end_from, AreEndsLeft}

-- one slot more is looked at
module _ (grid : GridModel) (Open : ℕ → Type 0) (firsts : List ℕ) (boxes : List SlotBox) (piece : ℕ) (slots : List ℕ) (before now : List EndSlot)
    (got : HaveGotSlotEnds grid Open firsts boxes piece slots before now) (slot : ℕ) where
  was_got : (end : EndSlot) → Contains now end
      → Contains before end ⊎ ((n : ℕ) × Contains (slots ++ slot ∷ []) n × (end ≡ end_at grid boxes piece n))
  was_got end has = elim (got.each end has) [
    | inl old ↦ inl old
    | inr new ↦ inr (new.0, Contains-append_left slots (slot ∷ []) new.0 new.1, new.2)
  ]

  -- it is listed
  pub slot_listed : piece < length firsts → (after : List EndSlot) → after ≡ now ++ end_at grid boxes piece slot ∷ []
      → HaveGotSlotEnds grid Open firsts boxes piece (slots ++ slot ∷ []) before after
  slot_listed low after is =
      let end = end_at grid boxes piece slot in
      let itself : AreTogether firsts piece piece =
      let read = slice_get-get_or firsts piece 0 low in record { least = get_or firsts piece 0; of_a = read; of_b = read } in
      rw is
      (record {
        each = λ e has. elim (Contains-push_cases now end e has) [
          | inl old ↦ was_got e old
          | inr same ↦ inr (slot, Contains-push slots slot, sym same)
        ];
        still = λ e has. Contains-append_left now (end ∷ []) e (got.still e has);
        all = λ n has is_open. elim (Contains-push_cases slots slot n has) [
          | inl old ↦
              let one = got.all n old is_open in
              record { end = one.end; has = Contains-append_left now (end ∷ []) one.end one.has; together = one.together; of_slot = one.of_slot }
          | inr same ↦ record { end = end; has = Contains-push now end; together = itself; of_slot = same }
        ];
      })

  -- or passed over
  pub slot_passed : (Open slot → HasEndFor firsts now piece slot) → HaveGotSlotEnds grid Open firsts boxes piece (slots ++ slot ∷ []) before now
  slot_passed there = record {
    each = was_got;
    still = got.still;
    all = λ n has is_open. elim (Contains-push_cases slots slot n has) [
      | inl old ↦ got.all n old is_open
      | inr same ↦ subst (λ m. HasEndFor firsts now piece m) same (there (subst Open (sym same) is_open))
    ];
  }

-- one shape more
module _ (grid : GridModel) (joined : List Bool) (shapes : List Shape) (numbers : List ℕ) (Open : ℕ → Type 0) (firsts : List ℕ) (boxes : List SlotBox)
    (ends : List EndSlot) (done : AreEndSlots grid (IsApart joined) (MeetsPiece shapes numbers) Open (IsBoundFrom grid boxes) firsts ends) (k : ℕ)
    (shape : Shape) (read : slice_get shapes k ≡ Some shape) where
  earlier : (piece : ℕ) (node : Node) → MeetsPiece shapes numbers piece node → MeetsPiece shapes (numbers ++ k ∷ []) piece node
  earlier piece node m = record {
    number = m.number;
    listed = Contains-append_left numbers (k ∷ []) m.number m.listed;
    shape = m.shape;
    there = m.there;
    of_piece = m.of_piece;
    lies = m.lies;
  }

  -- of this shape
  record IsHere (piece : ℕ) (node : Node) : Type 0 where
    pub of_piece : shape.piece ≡ Some piece
    pub lies : LiesInRect shape.layer shape.rect node

  here_of : (piece : ℕ) (node : Node) (m : MeetsPiece shapes (numbers ++ k ∷ []) piece node) → k ≡ m.number → IsHere piece node
  here_of piece node m same =
      let there : slice_get shapes k ≡ Some m.shape = rw same m.there in
      let is : m.shape ≡ shape = same_Some m.shape shape (sym there ∙ read) in
      record { of_piece = subst (λ (s : Shape). s.piece ≡ Some piece) is m.of_piece; lies = subst (λ (s : Shape). LiesInRect s.layer s.rect node) is m.lies }

  parts : (piece : ℕ) (node : Node) → MeetsPiece shapes (numbers ++ k ∷ []) piece node → MeetsPiece shapes numbers piece node ⊎ IsHere piece node
  parts piece node m = elim (Contains-push_cases numbers k m.number m.listed) [
    | inl before ↦ inl (record { number = m.number; listed = before; shape = m.shape; there = m.there; of_piece = m.of_piece; lies = m.lies })
    | inr same ↦ inr (here_of piece node m same)
  ]

  still : (more : List EndSlot) (end : EndSlot) → IsEndSlot grid (IsApart joined) (MeetsPiece shapes numbers) (IsBoundFrom grid boxes) end
      → IsEndSlot grid (IsApart joined) (MeetsPiece shapes (numbers ++ k ∷ [])) (IsBoundFrom grid boxes) end
  still more end is = record {
    apart = is.apart;
    meets = record { node = is.meets.node; is = is.meets.is; holds = earlier end.piece is.meets.node is.meets.holds };
    within = is.within;
    least = is.least;
  }

  -- its piece isn't joined
  module _ (piece : ℕ) (of_piece : shape.piece ≡ Some piece) (apart : IsApart joined piece) (after : List EndSlot)
      (added : HaveGotEnds grid Open firsts boxes piece shape.layer shape.rect ends after) where
    new_end : (n : ℕ) → Contains added.slots n
        → IsEndSlot grid (IsApart joined) (MeetsPiece shapes (numbers ++ k ∷ [])) (IsBoundFrom grid boxes) (end_at grid boxes piece n)
    new_end n has =
        let one = (added.in_rect n).0 has in record {
          apart = apart;
          meets = record {
            node = one.node;
            is = one.is;
            holds = record { number = k; listed = Contains-push numbers k; shape = shape; there = read; of_piece = of_piece; lies = one.holds };
          };
          within = All-contains (λ n. n < slot_total grid) added.slots n added.within has;
          least = min-le_right 4294967295 (bound_at grid boxes n);
        }

    each_end : (end : EndSlot) → Contains after end → IsEndSlot grid (IsApart joined) (MeetsPiece shapes (numbers ++ k ∷ [])) (IsBoundFrom grid boxes) end
    each_end end has = elim (added.got.each end has) [
      | inl old ↦ still ends end (done.each end old)
      | inr new ↦
          subst (λ (e : EndSlot). IsEndSlot grid (IsApart joined) (MeetsPiece shapes (numbers ++ k ∷ [])) (IsBoundFrom grid boxes) e) (sym new.2)
          (new_end new.0 new.1)
    ]

    all_ends : (other n : ℕ) → IsApart joined other → IsOneOf (IsNumberOf grid) (MeetsPiece shapes (numbers ++ k ∷ []) other) n → Open n
        → HasEndFor firsts after other n
    all_ends other n is_apart one is_open = elim (parts other one.node one.holds) [
      | inl before ↦
          let old = done.all other n is_apart (record { node = one.node; is = one.is; holds = before }) is_open in
          record { end = old.end; has = added.got.still old.end old.has; together = old.together; of_slot = old.of_slot }
      | inr here ↦
          let same : piece ≡ other = same_Some piece other (sym of_piece ∙ here.of_piece) in
          subst (λ p. HasEndFor firsts after p n) same
          (added.got.all n ((added.in_rect n).1 (record { node = one.node; is = one.is; holds = here.lies })) is_open)
    ]

    pub ends_more : AreEndSlots grid (IsApart joined) (MeetsPiece shapes (numbers ++ k ∷ [])) Open (IsBoundFrom grid boxes) firsts after
    ends_more = record { each = each_end; all = all_ends }

  -- it is, or the shape is of none
  pub ends_skip : ((piece : ℕ) → shape.piece ≡ Some piece → IsApart joined piece → ⊥)
      → AreEndSlots grid (IsApart joined) (MeetsPiece shapes (numbers ++ k ∷ [])) Open (IsBoundFrom grid boxes) firsts ends
  ends_skip none = record {
    each = λ end has. still ends end (done.each end has);
    all = λ piece n apart one is_open. elim (parts piece one.node one.holds) [
      | inl before ↦ done.all piece n apart (record { node = one.node; is = one.is; holds = before }) is_open
      | inr here ↦ absurd (none piece here.of_piece apart)
    ];
  }

-- one end more is looked at
module _ (grid : GridModel) (joined : List Bool) (boxes : List SlotBox) (ends left : List EndSlot) (so_far : AreEndsLeft grid joined boxes ends left)
    (end : EndSlot) where
  pub left_more : (after : List EndSlot) → after ≡ left ++ end_from grid boxes end ∷ [] → IsApart joined end.piece
      → AreEndsLeft grid joined boxes (ends ++ end ∷ []) after
  left_more after is apart =
      rw is
      (record {
        each = λ e has. elim (Contains-push_cases left (end_from grid boxes end) e has) [
          | inl old ↦ let from = so_far.each e old in (from.0, Contains-append_left ends (end ∷ []) from.0 from.1, from.2, from.3)
          | inr same ↦ (end, Contains-push ends end, apart, sym same)
        ];
        all = λ e has is_apart. elim (Contains-push_cases ends end e has) [
          | inl old ↦ Contains-append_left left (end_from grid boxes end ∷ []) (end_from grid boxes e) (so_far.all e old is_apart)
          | inr same ↦
              subst (λ (x : EndSlot). Contains (left ++ end_from grid boxes end ∷ []) (end_from grid boxes x)) same
              (Contains-push left (end_from grid boxes end))
        ];
      })

  pub left_skip : (IsApart joined end.piece → ⊥) → AreEndsLeft grid joined boxes (ends ++ end ∷ []) left
  left_skip none = record {
    each = λ e has. let from = so_far.each e has in (from.0, Contains-append_left ends (end ∷ []) from.0 from.1, from.2, from.3);
    all = λ e has is_apart. elim (Contains-push_cases ends end e has) [
      | inl old ↦ so_far.all e old is_apart
      | inr same ↦ absurd (none (subst (λ (x : EndSlot). IsApart joined x.piece) (sym same) is_apart))
    ];
  }

-- a piece that isn't joined wasn't before
pub was_apart : (before joined : List Bool) → ((k : ℕ) → slice_get before k ≡ Some true → slice_get joined k ≡ Some true)
    → ((k : ℕ) → length before ≤ k → k < length joined → get_or joined k true ≡ true) → (piece : ℕ) → IsApart joined piece → IsApart before piece
was_apart before joined still later piece apart =
    let low = slice_get_within joined piece false apart in
    let now : get_or joined piece true ≡ false = same_Some (get_or joined piece true) false (sym (slice_get-get_or joined piece true low) ∙ apart) in
    elim (cases_lt piece (length before)) [
      | inl within ↦
          let read = slice_get-get_or before piece false within in
          elim (cases_Bool (get_or before piece false)) [
            | inl is ↦ absurd (true≢false (same_Some true false (sym (still piece (read ∙ ap Some is)) ∙ apart)))
            | inr is ↦ read ∙ ap Some is
          ]
      | inr past ↦ absurd (true≢false (sym (later piece past low) ∙ now))
    ]

-- nor is one that is joined to it
pub apart_too : (flat : FlatModel) (net : ℕ) (joined : List Bool) → AreMarks (AreJoined flat net 0) (piece_count flat net) joined → (a b : ℕ)
    → AreJoined flat net a b → a < length joined → IsApart joined b → IsApart joined a
apart_too flat net joined marks a b alike low apart =
    let read = slice_get-get_or joined a false low in
    elim (cases_Bool (get_or joined a false)) [
      | inl is ↦
          let first : AreJoined flat net 0 a = (marks.each a (get_or joined a false) read).0 is in
          absurd (true≢false (sym ((marks.each b false apart).1 (Joined-onward (Touch flat net) 0 a b first alike))))
      | inr is ↦ read ∙ ap Some is
    ]

-- pieces whose first one is the same are joined
pub first_joined : (flat : FlatModel) (net : ℕ) (firsts : List ℕ) → AreFirsts (AreJoined flat net) (piece_count flat net) firsts → (a b : ℕ)
    → AreTogether firsts a b → AreJoined flat net a b
first_joined flat net firsts are a b together =
    let first = together.least in
    let back : AreJoined flat net first b = AreJoined-symmetric flat net b first (are.each b first together.of_b).joined in
    Joined-onward (Touch flat net) a first b (are.each a first together.of_a).joined back

-- the ends are of slots of the grid
pub ends_within : (grid : GridModel) (Apart : ℕ → Type 0) (Meets : ℕ → Node → Type 0) (Open : ℕ → Type 0) (Far : ℕ → ℕ → Type 0) (firsts : List ℕ)
    (ends : List EndSlot) → AreEndSlots grid Apart Meets Open Far firsts ends → All (λ (end : EndSlot). end.slot < slot_total grid) ends
ends_within grid Apart Meets Open Far firsts ends are =
    All-from_contains (λ (end : EndSlot). end.slot < slot_total grid) ends (λ end has. (are.each end has).within)

pub slots_within : (size : ℕ) (ends : List EndSlot) → All (λ (end : EndSlot). end.slot < size) ends
    → All (λ n. n < size) (map (λ (end : EndSlot). end.slot) ends)
slots_within size ends each = All-from_contains (λ n. n < size) (map (λ (end : EndSlot). end.slot) ends)
    (λ n has.
    let from = comes_from (λ (end : EndSlot). end.slot) ends n has in
    subst (λ m. m < size) from.2 (All-contains (λ (end : EndSlot). end.slot < size) ends from.0 each from.1))

-- what stands in a list behind its first part
pub come_are : (all old more : List SlotBox) (first : ℕ) → all ≡ old ++ more → first ≡ length old → take (length all - first) (drop first all) ≡ more
come_are all old more first all_is first_is =
    rw (all_is, first_is)
    (take_all (length (old ++ more) - length old) (drop (length old) (old ++ more)) (omega (arith, length-drop (length old) (old ++ more))) ∙ drop-append_seam
    old more)

pub come_boxes : (grid : GridModel) (all old more : List SlotBox) → all ≡ old ++ more → All (IsBoxOf grid) all → All (IsBoxOf grid) more
come_boxes grid all old more all_is each =
    All-from_contains (IsBoxOf grid) more
    (λ ends has. All-contains (IsBoxOf grid) all ends each
    (subst (λ (boxes : List SlotBox). Contains boxes ends) (sym all_is) (Contains-append_right old more ends has)))

-- ends in pieces that are not joined, and the slots of nodes that meet the rest of a net
module _ (flat : FlatModel) (net : ℕ) (numbers : List ℕ) (are : AreNumbersOf flat.shapes net numbers) (joined : List Bool)
    (marks : AreMarks (AreJoined flat net 0) (piece_count flat net) joined) (grid : GridModel) where
  -- the slot of an end is one of these
  pub end_rest : (Far : ℕ → ℕ → Type 0) (end : EndSlot) → IsEndSlot grid (IsApart joined) (MeetsPiece flat.shapes numbers) Far end
      → IsOneOf (IsNumberOf grid) (MeetsRest flat net) end.slot
  end_rest Far end is =
      let one = is.meets in
      let m : MeetsMarked flat.shapes joined false numbers one.node = record {
        number = one.holds.number;
        listed = one.holds.listed;
        shape = one.holds.shape;
        there = one.holds.there;
        marked = record { number = end.piece; is = one.holds.of_piece; marked = is.apart };
        lies = one.holds.lies;
      } in
      record {
        node = one.node;
        is = one.is;
        holds = record {
          piece = end.piece;
          rest = λ joined_is. absurd (true≢false (sym ((marks.each end.piece false is.apart).1 joined_is)));
          meets = meets_piece flat net numbers are joined marks false one.node m;
        };
      }

  -- the slot is that of a node that meets such a piece
  pub record IsRestPiece (n : ℕ) : Type 0 where
    pub piece : ℕ
    pub apart : IsApart joined piece
    pub meets : IsOneOf (IsNumberOf grid) (MeetsPiece flat.shapes numbers piece) n

  pub rest_piece : (n : ℕ) → IsOneOf (IsNumberOf grid) (MeetsRest flat net) n → IsRestPiece n
  rest_piece n one =
      let rest = one.holds in
      let lies = rest.meets in
      let k = lies.has.0 in
      let there : slice_get flat.shapes k ≡ Some lies.shape = slice_get_read flat.shapes _ k lies.shape refl lies.has.1 (sym lies.has.2) in
      record {
        piece = rest.piece;
        apart = rest_marked flat net numbers are joined marks rest.piece rest.meets.of_piece.there rest.rest;
        meets = record {
          node = one.node;
          is = one.is;
          holds = record {
            number = k;
            listed = are.all k (record { shape = lies.shape; at = there; owner = lies.of_piece.owner });
            shape = lies.shape;
            there = there;
            of_piece = lies.of_piece.piece;
            lies = record { on_layer = sym lies.on_layer; inside = lies.inside };
          };
        };
      }

-- a list of which all is written anew
pub all_new : {X : Type 0} (new old : List X) (len : ℕ) → length new ≡ len → take len (new ++ drop (length new) old) ≡ new
all_new new old len long = ap (λ n. take n (new ++ drop (length new) old)) (sym long) ∙ take-append_seam new (drop (length new) old)
