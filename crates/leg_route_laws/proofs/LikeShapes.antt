-- Each shape of the grown flat has its like in the flat of the design that got the wires, and each of this in that.
use Rattle.std.proofs.Common.{◌≡◌, ℕ, ◌+◌, ◌<◌, ◌≤◌, List, length, Contains, None, Some, slice_get, ◌⊎◌, inl, inr, sym, ap, subst, ◌∙◌, arith}
use Rattle.std.proofs.lemmas.Bool.{cases_lt}
use Rattle.std.proofs.lemmas.List.{length-append}
use Rattle.std.proofs.lemmas.List.Elements.{Contains-append_left, Contains-append_right, Contains-append_cases}
use Rattle.std.proofs.lemmas.Option.{slice_get_within, none-some}
use Rattle.leg_lemmas.proofs.Contents.{Contains-map}
use Rattle.leg_lemmas.proofs.Places.{comes_from}
use Rattle.leg_design_records.specs.declared.records.Wire as records
use Rattle.leg_design_records.specs.Records.{DesignModel}
use Rattle.leg_rules.specs.declared.owner.Owner.{Owner}
use Rattle.leg_rules.specs.declared.owner.Owner.TheVariants.{Net}
use Rattle.leg_rules.specs.declared.piece.Piece.{Piece}
use Rattle.leg_rules.specs.declared.piece.Piece.TheVariants.{Wire}
use Rattle.leg_rules.specs.declared.shape.Shape.{Shape}
use Rattle.leg_rules.specs.Metal.Nets.{terminals_of, wires_of, regular_entry, special_entry, entry_wires}
use Rattle.leg_rules.specs.Metal.Metal.{OnLayer, Belonging, Metal, metal_of, wire_outlines}
use Rattle.leg_rules.specs.Metal.Pieces.{piece_component, of_piece}
use Rattle.leg_rules.specs.Metal.Flat.{FlatModel, IsShapeOf, pieces_with}
use Rattle.leg_wire_spacing.proofs.RequiredSpacing.{HaveSamePoints}
use Rattle.leg_route_laws.specs.Growth.{AddedWire, wires_added, IsMetalAdded, HasGrown}
use Rattle.leg_route_laws.specs.FinishedDesign.{finished, IsFinishedFrom}
use Rattle.leg_route_laws.proofs.Places.{has_like, is_like}
use Rattle.leg_route_laws.proofs.PiecesWith.{same_terminals, same_wires}
use Rattle.leg_route_laws.proofs.Growth.{has_grown}
use Rattle.leg_route_laws.proofs.FixedMetal.{IsFixed, fixed_there, fixed_back, fixed_or_wire, from_fixed}
use Rattle.leg_route_laws.proofs.Moves.{Moves}
use Rattle.leg_route_laws.proofs.NetMetal.{MetalHasItsPiece, PieceHasItsMetal, IsDrawn, IsNet, net_or_not, pieces_are, drawn_from, drawn_to}
use Rattle.leg_route_laws.proofs.NetWires.{none_added, wires_before}
use Rattle.leg_route_laws.proofs.FlatPieces.{pieces_at, pieces_there}
use Rattle.leg_route_laws.proofs.PieceMoves.{ComesBack, IsNewWire, added_there, piece_then, piece_before}

-- the number of a net
net_number : Owner → ℕ
net_number (Net n) = n
net_number other = 0

pub same_net : (owner : Owner) (m n : ℕ) → owner ≡ Net m → owner ≡ Net n → m ≡ n
unfolding net_number
same_net owner m n first second = ap net_number (sym first ∙ second)

-- how the pieces of a net move
abbrev pub MovesIn : DesignModel → List AddedWire → ℕ → ℕ → ℕ → Type 0
MovesIn design added n g d =
    Moves (length (terminals_of design n)) (length (entry_wires (regular_entry design n))) (length (entry_wires (special_entry design n)))
    (length (wires_added n added)) g d

-- a shape of a net is of a piece that moves to that of the other shape
pub record HasMovedPiece (design : DesignModel) (added : List AddedWire) (s t : Shape) (n : ℕ) : Type 0 where
  pub g : ℕ
  pub d : ℕ
  pub of_s : s.piece ≡ Some g
  pub of_t : t.piece ≡ Some d
  pub moves : MovesIn design added n g d

pub record IsMoved (design : DesignModel) (added : List AddedWire) (s t : Shape) : Type 0 where
  pub alike : HaveSamePoints s t
  pub piece : (n : ℕ) → s.owner ≡ Net n → HasMovedPiece design added s t n

module _ (metal_has : MetalHasItsPiece) (piece_has : PieceHasItsMetal) (design : DesignModel) (added : List AddedWire) (grown : FlatModel)
    (lists : List (List records.Wire)) (end : FlatModel)
    (from : IsFinishedFrom design added grown lists end) where
  abbrev done : DesignModel
  done = finished design lists

  growth : HasGrown design added from.flat grown
  growth = has_grown design added from.flat grown from.grows

  -- shapes of the same piece, before and after
  moved_piece : (n g d : ℕ) (a b : Piece) (metal : OnLayer) (s t : Shape) → IsShapeOf (of_piece n g a metal) s → IsShapeOf (of_piece n d b metal) t
      → piece_component a ≡ piece_component b → MovesIn design added n g d → IsMoved design added s t
  moved_piece n g d a b metal s t is then_is component moves = record {
    alike = record {
      layer = is.layer ∙ sym then_is.layer;
      owner = is.owner ∙ sym then_is.owner;
      component = is.component ∙ component ∙ sym then_is.component;
      points = λ p. (λ inside. (then_is.points p).1 ((is.points p).0 inside), λ inside. (is.points p).1 ((then_is.points p).0 inside));
    };
    piece = λ m owner. record {
      g = g;
      d = d;
      of_s = is.piece;
      of_t = then_is.piece;
      moves = subst (λ k. MovesIn design added k g d) (same_net s.owner n m is.owner owner) moves;
    };
  }

  -- shapes of metal of no net
  moved_other : (m : Metal) (s t : Shape) → IsShapeOf m s → IsShapeOf m t → ¬ IsNet s.owner → IsMoved design added s t
  moved_other m s t is then_is none = record {
    alike = record {
      layer = is.layer ∙ sym then_is.layer;
      owner = is.owner ∙ sym then_is.owner;
      component = is.component ∙ sym then_is.component;
      points = λ p. (λ inside. (then_is.points p).1 ((is.points p).0 inside), λ inside. (is.points p).1 ((then_is.points p).0 inside));
    };
    piece = λ n owner. absurd (none (n, owner));
  }

  abbrev GoesOn : Shape → Type 0
  GoesOn s = (t : Shape) × Contains end.shapes t × IsMoved design added s t

  abbrev ComesFrom : Shape → Type 0
  ComesFrom t = (s : Shape) × Contains grown.shapes s × IsMoved design added s t

  old_net : (n : ℕ) (s : Shape) → Contains from.flat.shapes s → s.owner ≡ Net n → GoesOn s
  old_net n s there owner =
      let drawn = drawn_from metal_has piece_has design from.flat from.proper from.is_flat n s there owner in
      let goes = piece_then design added lists from.by_net n drawn.0 drawn.2.piece drawn.2.metal drawn.2.there drawn.2.draws in
      let t = drawn_to metal_has piece_has done end from.proper_end from.is_end n goes.d goes.has.piece drawn.2.metal goes.has.there goes.has.draws in
      (t.0, t.1, moved_piece n drawn.0 goes.d drawn.2.piece goes.has.piece drawn.2.metal s t.0 drawn.2.is t.2 (sym goes.has.component) goes.to)

  old_other : (s : Shape) → Contains from.flat.shapes s → ¬ IsNet s.owner → GoesOn s
  old_other s there none =
      let of = is_like IsShapeOf (metal_of design) from.flat.shapes s from.is_flat.shapes there in
      by of.x of.like (fixed_or_wire design of.x of.there)
    where
      by : (m : Metal) → IsShapeOf m s → IsFixed design m ⊎ IsNet m.belongs.owner → GoesOn s
      by m is (inl fixed) =
          let t = has_like IsShapeOf (metal_of done) end.shapes m from.is_end.shapes (from_fixed done m (fixed_there design lists m fixed)) in
          (t.y, t.there, moved_other m s t.y is t.like none)
      by m is (inr net) = absurd (none (net.0, is.owner ∙ net.1))

  -- how many wires a net had
  had_wires : (n : ℕ) → length (wires_of design n) ≡ length (entry_wires (regular_entry design n)) + length (entry_wires (special_entry design n))
  had_wires n =
      ap length (wires_before design added lists from.by_net n) ∙ length-append (entry_wires (regular_entry design n)) (entry_wires (special_entry design n))

  abbrev wire_belongs : ℕ → ℕ → Belonging
  wire_belongs n g = record { owner = Net n; component = None; piece = Some g }

  new_net : (m : Metal) (s : Shape) → IsMetalAdded design added from.flat m → IsShapeOf m s → GoesOn s
  new_net m s it is =
      let pieces = pieces_there design from.flat from.is_flat it.net (pieces_with it.terminals it.wires) it.had ∙ pieces_are design it.net in
      let terminals = same_terminals it.terminals (terminals_of design it.net) it.wires (length (wires_of design it.net)) pieces in
      let wires = same_wires it.terminals (terminals_of design it.net) it.wires (length (wires_of design it.net)) pieces in
      let g = length it.terminals + (it.wires + it.j) in
      let first = length (entry_wires (regular_entry design it.net)) in
      let d = length (terminals_of design it.net) + (first + it.j) in
      let of = comes_from (λ (o : OnLayer). record { metal = o; belongs = wire_belongs it.net g }) (wire_outlines design it.wire) m it.of_wire in
      let of_g : IsShapeOf (of_piece it.net g (Wire 0) of.0) s = subst (λ (x : Metal). IsShapeOf x s) (sym of.2) is in
      let has = added_there design added lists from.by_net it.net it.j 0 it.wire of.0 it.there of.1 in
      let t = drawn_to metal_has piece_has done end from.proper_end from.is_end it.net d has.piece of.0 has.there has.draws in
      let less = slice_get_within (wires_added it.net added) it.j it.wire it.there in
      let moves : MovesIn design added it.net g d = inr (inr (record {
        above = omega (arith, ap length terminals, wires, had_wires it.net);
        below = omega (arith, ap length terminals, wires, had_wires it.net, less);
        is = omega (arith, ap length terminals, wires, had_wires it.net);
      })) in
      (t.0, t.1, moved_piece it.net g d (Wire 0) has.piece of.0 s t.0 of_g t.2 (sym has.component) moves)

  pub goes_on : (s : Shape) → Contains grown.shapes s → GoesOn s
  goes_on s there = by (Contains-append_cases from.flat.shapes growth.more s (subst (λ shapes. Contains shapes s) growth.shapes there)) where
    by : Contains from.flat.shapes s ⊎ Contains growth.more s → GoesOn s
    by (inl old) = elim (net_or_not s.owner) [
      | inl net ↦ old_net net.0 s old net.1
      | inr none ↦ old_other s old none
    ]
    by (inr new) = let of = growth.each s new in new_net of.0 s of.1 of.2

  -- and back
  still_there : (s : Shape) → Contains from.flat.shapes s → Contains grown.shapes s
  still_there s there = subst (λ shapes. Contains shapes s) (sym growth.shapes) (Contains-append_left from.flat.shapes growth.more s there)

  end_net : (n : ℕ) (t : Shape) → Contains end.shapes t → t.owner ≡ Net n → ComesFrom t
  end_net n t there owner =
      let drawn = drawn_from metal_has piece_has done end from.proper_end from.is_end n t there owner in
      by drawn.0 drawn.2 (piece_before design added lists from.by_net n drawn.0 drawn.2.piece drawn.2.metal drawn.2.there drawn.2.draws)
    where
      by : (d : ℕ) (drawn : IsDrawn done n d t) → ComesBack design added lists from.by_net n d drawn.piece drawn.metal
          ⊎ IsNewWire design added lists from.by_net n d drawn.piece drawn.metal → ComesFrom t
      by d drawn (inl back) =
          let s = drawn_to metal_has piece_has design from.flat from.proper from.is_flat n back.g back.has.piece drawn.metal back.has.there back.has.draws in
          (s.0, still_there s.0 s.1, moved_piece n back.g d back.has.piece drawn.piece drawn.metal s.0 t s.2 drawn.is back.has.component back.to)
      by d drawn (inr new) =
          let less = slice_get_within (wires_added n added) new.i new.wire new.there in
          let within : n < length design.nets = of_nets (cases_lt n (length design.nets)) in
          let g = length (terminals_of design n) + (length (wires_of design n) + new.i) in
          let metal : Metal = record { metal = drawn.metal; belongs = wire_belongs n g } in
          let added_metal : IsMetalAdded design added from.flat metal = record {
            net = n;
            j = new.i;
            wire = new.wire;
            there = new.there;
            terminals = terminals_of design n;
            wires = length (wires_of design n);
            had = pieces_at design from.flat from.is_flat n (omega (arith, within)) ∙ ap Some (pieces_are design n);
            of_wire = Contains-map (λ (o : OnLayer). record { metal = o; belongs = wire_belongs n g }) (wire_outlines design new.wire) drawn.metal new.draws;
          } in
          let s = growth.all metal added_metal in
          let moves : MovesIn design added n g d = inr (inr (record {
            above = omega (arith, had_wires n);
            below = omega (arith, had_wires n, less);
            is = omega (arith, had_wires n, new.place);
          })) in (
            s.0,
            subst (λ shapes. Contains shapes s.0) (sym growth.shapes) (Contains-append_right from.flat.shapes growth.more s.0 s.1),
            moved_piece n g d (Wire 0) drawn.piece drawn.metal s.0 t s.2 drawn.is (sym new.lone) moves,
          )
        where
          of_nets : (n < length design.nets) ⊎ (length design.nets ≤ n) → n < length design.nets
          of_nets (inl within) = within
          of_nets (inr past) =
              absurd (none-some new.wire (ap (λ wires. slice_get wires new.i) (sym (none_added (length design.nets) n added from.by_net.nets past))
              ∙ new.there))

  end_other : (t : Shape) → Contains end.shapes t → ¬ IsNet t.owner → ComesFrom t
  end_other t there none =
      let of = is_like IsShapeOf (metal_of done) end.shapes t from.is_end.shapes there in
      by of.x of.like (fixed_or_wire done of.x of.there)
    where
      by : (m : Metal) → IsShapeOf m t → IsFixed done m ⊎ IsNet m.belongs.owner → ComesFrom t
      by m is (inl fixed) =
          let s = has_like IsShapeOf (metal_of design) from.flat.shapes m from.is_flat.shapes (from_fixed design m (fixed_back design lists m fixed)) in
          (s.y, still_there s.y s.there, moved_other m s.y t s.like is (λ net. none (net.0, is.owner ∙ sym s.like.owner ∙ net.1)))
      by m is (inr net) = absurd (none (net.0, is.owner ∙ net.1))

  pub comes_back : (t : Shape) → Contains end.shapes t → ComesFrom t
  comes_back t there = elim (net_or_not t.owner) [
    | inl net ↦ end_net net.0 t there net.1
    | inr none ↦ end_other t there none
  ]
