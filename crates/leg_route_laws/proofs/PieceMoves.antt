-- A piece of a net, and the same piece in the design that got the wires.
use Rattle.std.proofs.Common.{◌≡◌, ℕ, ◌+◌, List, ◌++◌, length, Contains, None, Some, slice_get, ◌⊎◌, inl, inr, sym, ap, subst, ◌∙◌, refl, arith}
use Rattle.std.proofs.lemmas.List.{length-append}
use Rattle.std.proofs.lemmas.Option.{slice_get_within}
use Rattle.leg_lemmas.proofs.Places.{get_first, get_second, get_cases, InSecond}
use Rattle.leg_design_records.specs.declared.records.Terminal.{Terminal}
use Rattle.leg_design_records.specs.declared.records.Terminal.TheVariants.{Comp, Pin}
use Rattle.leg_design_records.specs.declared.records.Wire as records
use Rattle.leg_design_records.specs.Records.{DesignModel}
use Rattle.leg_rules.specs.declared.piece.Piece.{Piece}
use Rattle.leg_rules.specs.declared.piece.Piece.TheVariants.{Term, Wire}
use Rattle.leg_rules.specs.Metal.Nets.{terminals_of, wires_of, pieces_of, regular_entry, special_entry, entry_wires}
use Rattle.leg_rules.specs.Metal.Metal.{OnLayer, wire_outlines}
use Rattle.leg_rules.specs.Metal.Pieces.{IsOfTerminal, IsMetalOfPiece, piece_component}
use Rattle.leg_route_laws.specs.Growth.{AddedWire, wires_added}
use Rattle.leg_route_laws.specs.FinishedDesign.{finished, AreByNet}
use Rattle.leg_route_laws.proofs.PiecesWith.{terminal_at, wire_at, IsTerminalAt, IsWireAt, piece_cases}
use Rattle.leg_route_laws.proofs.SameNets.{same_terminals, same_outlines}
use Rattle.leg_route_laws.proofs.NetMetal.{pieces_are}
use Rattle.leg_route_laws.proofs.NetWires.{wires_before, wires_then}
use Rattle.leg_route_laws.proofs.Moves.{Moves}

-- the net has a piece of this number, of the same component as this one, that has the metal too
pub record HasLikePiece (design : DesignModel) (n k : ℕ) (like : Piece) (metal : OnLayer) : Type 0 where
  pub piece : Piece
  pub there : slice_get (pieces_of design n) k ≡ Some piece
  pub draws : IsMetalOfPiece design n piece metal
  pub component : piece_component piece ≡ piece_component like

module _ (design : DesignModel) (n : ℕ) where
  cases : (k : ℕ) (piece : Piece) → slice_get (pieces_of design n) k ≡ Some piece
      → IsTerminalAt (terminals_of design n) k piece ⊎ IsWireAt (terminals_of design n) (length (wires_of design n)) k piece
  cases k piece there =
      piece_cases (terminals_of design n) (length (wires_of design n)) k piece (ap (λ pieces. slice_get pieces k) (sym (pieces_are design n)) ∙ there)

  has_terminal : (k : ℕ) (t : Terminal) (metal : OnLayer) → slice_get (terminals_of design n) k ≡ Some t → IsOfTerminal design t metal
      → HasLikePiece design n k (Term t) metal
  has_terminal k t metal there draws = record {
    piece = Term t;
    there = ap (λ pieces. slice_get pieces k) (pieces_are design n) ∙ terminal_at (terminals_of design n) (length (wires_of design n)) k t there;
    draws = draws;
    component = refl;
  }

  has_wire : (j i : ℕ) (wire : records.Wire) (metal : OnLayer) → slice_get (wires_of design n) j ≡ Some wire → Contains (wire_outlines design wire) metal
      → HasLikePiece design n (length (terminals_of design n) + j) (Wire i) metal
  has_wire j i wire metal there draws = record {
    piece = Wire j;
    there = ap (λ pieces. slice_get pieces (length (terminals_of design n) + j)) (pieces_are design n)
        ∙ wire_at (terminals_of design n) (length (wires_of design n)) j (slice_get_within (wires_of design n) j wire there);
    draws = (wire, there, draws);
    component = refl;
  }

module _ (design : DesignModel) (added : List AddedWire) (lists : List (List records.Wire)) (by_net : AreByNet (length design.nets) added lists) (n : ℕ) where
  abbrev done : DesignModel
  done = finished design lists

  abbrev first : List records.Wire
  first = entry_wires (regular_entry design n)

  abbrev other : List records.Wire
  other = entry_wires (special_entry design n)

  abbrev new : List records.Wire
  new = wires_added n added

  abbrev pub To : ℕ → ℕ → Type 0
  To g d = Moves (length (terminals_of design n)) (length first) (length other) (length new) g d

  terminal_then : (t : Terminal) (metal : OnLayer) → IsOfTerminal design t metal → IsOfTerminal done t metal
  terminal_then (Comp c k) metal is = record {
    component = is.component;
    place = is.place;
    master = is.master;
    pin = is.pin;
    has_component = is.has_component;
    has_place = is.has_place;
    has_master = is.has_master;
    has_pin = is.has_pin;
    draws = is.draws;
  }
  terminal_then (Pin p) metal is = is

  terminal_before : (t : Terminal) (metal : OnLayer) → IsOfTerminal done t metal → IsOfTerminal design t metal
  terminal_before (Comp c k) metal is = record {
    component = is.component;
    place = is.place;
    master = is.master;
    pin = is.pin;
    has_component = is.has_component;
    has_place = is.has_place;
    has_master = is.has_master;
    has_pin = is.has_pin;
    draws = is.draws;
  }
  terminal_before (Pin p) metal is = is

  same_count : length (terminals_of done n) ≡ length (terminals_of design n)
  same_count = ap length (same_terminals design lists n)

  -- a wire of the design that got more
  wire_then : (j i : ℕ) (wire : records.Wire) (metal : OnLayer) → slice_get ((first ++ new) ++ other) j ≡ Some wire → Contains (wire_outlines design wire) metal
      → HasLikePiece done n (length (terminals_of design n) + j) (Wire i) metal
  wire_then j i wire metal there draws =
      subst (λ t. HasLikePiece done n (t + j) (Wire i) metal) same_count
      (has_wire done n j i wire metal (ap (λ wires. slice_get wires j) (wires_then design added lists by_net n) ∙ there)
      (subst (λ outlines. Contains outlines metal) (sym (same_outlines design lists wire)) draws))

  wire_before : (j i : ℕ) (wire : records.Wire) (metal : OnLayer) → slice_get (first ++ other) j ≡ Some wire → Contains (wire_outlines design wire) metal
      → HasLikePiece design n (length (terminals_of design n) + j) (Wire i) metal
  wire_before j i wire metal there draws =
      has_wire design n j i wire metal (ap (λ wires. slice_get wires j) (wires_before design added lists by_net n) ∙ there) draws

  -- an added wire is a piece behind the terminals and the wires of the first entry
  pub added_there : (i w : ℕ) (wire : records.Wire) (metal : OnLayer) → slice_get new i ≡ Some wire → Contains (wire_outlines design wire) metal
      → HasLikePiece done n (length (terminals_of design n) + (length first + i)) (Wire w) metal
  added_there i w wire metal there draws =
      wire_then (length first + i) w wire metal (get_first (first ++ new) other (length first + i) wire (get_second first new i ∙ there)) draws

  pub record GoesTo (g : ℕ) (like : Piece) (metal : OnLayer) : Type 0 where
    pub d : ℕ
    pub to : To g d
    pub has : HasLikePiece done n d like metal

  -- a piece of the design before is one of the design that got wires
  pub piece_then : (g : ℕ) (piece : Piece) (metal : OnLayer) → slice_get (pieces_of design n) g ≡ Some piece → IsMetalOfPiece design n piece metal
      → GoesTo g piece metal
  piece_then g piece metal there draws = by (cases design n g piece there) where
    by : IsTerminalAt (terminals_of design n) g piece ⊎ IsWireAt (terminals_of design n) (length (wires_of design n)) g piece → GoesTo g piece metal
    by (inl it) =
        let of_t : IsOfTerminal design it.terminal metal = subst (λ p. IsMetalOfPiece design n p metal) it.is draws in
        record {
          d = g;
          to = inl (record { below = omega (arith, slice_get_within (terminals_of design n) g it.terminal it.there); is = refl });
          has = subst (λ p. HasLikePiece done n g p metal) (sym it.is)
              (has_terminal done n g it.terminal metal (ap (λ ts. slice_get ts g) (same_terminals design lists n) ∙ it.there)
              (terminal_then it.terminal metal of_t));
        }
    by (inr it) =
        let of_w : IsMetalOfPiece design n (Wire it.j) metal = subst (λ p. IsMetalOfPiece design n p metal) it.is draws in
        subst (λ p. GoesTo g p metal) (sym it.is)
        (which of_w.0 of_w.2 (get_cases first other it.j of_w.0 (sym (ap (λ wires. slice_get wires it.j) (wires_before design added lists by_net n)) ∙ of_w.1)))
      where
        which : (wire : records.Wire) → Contains (wire_outlines design wire) metal → (slice_get first it.j ≡ Some wire) ⊎ InSecond first other it.j wire
            → GoesTo g (Wire it.j) metal
        which wire outline (inl regular) = record {
          d = length (terminals_of design n) + it.j;
          to = inl (record { below = omega (arith, it.place, slice_get_within first it.j wire regular); is = sym it.place });
          has = wire_then it.j it.j wire metal (get_first (first ++ new) other it.j wire (get_first first new it.j wire regular)) outline;
        }
        which wire outline (inr behind) = record {
          d = length (terminals_of design n) + (length (first ++ new) + behind.j);
          to = inr (inl (record {
            above = omega (arith, it.place, behind.place);
            below = omega (arith, it.place, behind.place, slice_get_within other behind.j wire behind.there);
            is = omega (arith, it.place, behind.place, length-append first new);
          }));
          has = wire_then (length (first ++ new) + behind.j) it.j wire metal (get_second (first ++ new) other behind.j ∙ behind.there) outline;
        }

  pub record ComesBack (d : ℕ) (like : Piece) (metal : OnLayer) : Type 0 where
    pub g : ℕ
    pub to : To g d
    pub has : HasLikePiece design n g like metal

  -- the piece is an added wire
  pub record IsNewWire (d : ℕ) (like : Piece) (metal : OnLayer) : Type 0 where
    pub i : ℕ
    pub wire : records.Wire
    pub there : slice_get new i ≡ Some wire
    pub place : d ≡ length (terminals_of design n) + (length first + i)
    pub draws : Contains (wire_outlines design wire) metal
    pub lone : piece_component like ≡ None

  -- a piece of the design that got wires is one of the design before, or an added wire
  pub piece_before : (d : ℕ) (piece : Piece) (metal : OnLayer) → slice_get (pieces_of done n) d ≡ Some piece → IsMetalOfPiece done n piece metal
      → ComesBack d piece metal ⊎ IsNewWire d piece metal
  piece_before d piece metal there draws = by (cases done n d piece there) where
    by : IsTerminalAt (terminals_of done n) d piece ⊎ IsWireAt (terminals_of done n) (length (wires_of done n)) d piece
        → ComesBack d piece metal ⊎ IsNewWire d piece metal
    by (inl it) =
        let of_t : IsOfTerminal done it.terminal metal = subst (λ p. IsMetalOfPiece done n p metal) it.is draws in
        let at_d : slice_get (terminals_of design n) d ≡ Some it.terminal = ap (λ ts. slice_get ts d) (sym (same_terminals design lists n)) ∙ it.there in
        inl (record {
          g = d;
          to = inl (record { below = omega (arith, slice_get_within (terminals_of design n) d it.terminal at_d); is = refl });
          has = subst (λ p. HasLikePiece design n d p metal) (sym it.is)
              (has_terminal design n d it.terminal metal at_d (terminal_before it.terminal metal of_t));
        })
    by (inr it) =
        let of_w : IsMetalOfPiece done n (Wire it.j) metal = subst (λ p. IsMetalOfPiece done n p metal) it.is draws in
        let outline : Contains (wire_outlines design of_w.0) metal = subst (λ outlines. Contains outlines metal) (same_outlines design lists of_w.0) of_w.2 in
        let place : d ≡ length (terminals_of design n) + it.j = omega (arith, it.place, same_count) in
        subst (λ p. ComesBack d p metal ⊎ IsNewWire d p metal) (sym it.is)
        (which of_w.0 outline place (get_cases (first ++ new) other it.j of_w.0
        (sym (ap (λ wires. slice_get wires it.j) (wires_then design added lists by_net n)) ∙ of_w.1)))
      where
        inner : (wire : records.Wire) → Contains (wire_outlines design wire) metal → d ≡ length (terminals_of design n) + it.j
            → (slice_get first it.j ≡ Some wire) ⊎ InSecond first new it.j wire → ComesBack d (Wire it.j) metal ⊎ IsNewWire d (Wire it.j) metal
        inner wire outline place (inl regular) = inl (record {
          g = length (terminals_of design n) + it.j;
          to = inl (record { below = omega (arith, slice_get_within first it.j wire regular); is = place });
          has = wire_before it.j it.j wire metal (get_first first other it.j wire regular) outline;
        })
        inner wire outline place (inr later) = inr (record {
          i = later.j;
          wire = wire;
          there = later.there;
          place = omega (arith, place, later.place);
          draws = outline;
          lone = refl;
        })

        which : (wire : records.Wire) → Contains (wire_outlines design wire) metal → d ≡ length (terminals_of design n) + it.j
            → (slice_get (first ++ new) it.j ≡ Some wire) ⊎ InSecond (first ++ new) other it.j wire
            → ComesBack d (Wire it.j) metal ⊎ IsNewWire d (Wire it.j) metal
        which wire outline place (inl front) = inner wire outline place (get_cases first new it.j wire front)
        which wire outline place (inr behind) = inl (record {
          g = length (terminals_of design n) + (length first + behind.j);
          to = inr (inl (record {
            above = omega arith;
            below = omega (arith, slice_get_within other behind.j wire behind.there);
            is = omega (arith, place, behind.place, length-append first new);
          }));
          has = wire_before (length first + behind.j) it.j wire metal (get_second first other behind.j ∙ behind.there) outline;
        })
