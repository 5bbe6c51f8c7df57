-- Pieces that are terminals and then wires.
use Rattle.std.proofs.Common.{◌≡◌, ℕ, ◌+◌, ◌<◌, List, [], ◌∷◌, length, map, Some, slice_get, ◌⊎◌, inl, inr, refl, sym, ap, ◌∙◌, arith}
use Rattle.std.specs.List.{range_with_len}
use Rattle.std.proofs.lemmas.List.{length-map}
use Rattle.std.proofs.lemmas.Option.{slice_get-map, same_Some}
use Rattle.leg_lemmas.proofs.Places.{get_first, get_second, get_cases, counted, mapped_at, InSecond}
use Rattle.leg_lemmas.proofs.Ranges.{number_is_place}
use Rattle.leg_design_records.specs.declared.records.Terminal.{Terminal}
use Rattle.leg_rules.specs.declared.piece.Piece.{Piece}
use Rattle.leg_rules.specs.declared.piece.Piece.TheVariants.{Term, Wire}
use Rattle.leg_rules.specs.Metal.Flat.{pieces_with}
use Rattle.leg_flat.proofs.LastPiece.{length_of_pieces, terminal_no_wire}

abbrev numbered : ℕ → List Piece
numbered wires = map Wire (range_with_len 0 wires)

-- which piece is a terminal, and which a wire
pub terminal_at : (terminals : List Terminal) (wires k : ℕ) (t : Terminal) → slice_get terminals k ≡ Some t
    → slice_get (pieces_with terminals wires) k ≡ Some (Term t)
terminal_at terminals wires k t at =
    get_first (map Term terminals) (numbered wires) k (Term t) (slice_get-map Term terminals k ∙ rw at refl)

pub wire_at : (terminals : List Terminal) (wires j : ℕ) → j < wires → slice_get (pieces_with terminals wires) (length terminals + j) ≡ Some (Wire j)
wire_at terminals wires j less =
    let place : length terminals + j ≡ length (map Term terminals) + j = omega (arith, length-map terminals Term) in
    ap (slice_get (pieces_with terminals wires)) place
    ∙ get_second (map Term terminals) (numbered wires) j
    ∙ slice_get-map Wire (range_with_len 0 wires) j
    ∙ rw (counted wires j less) refl

-- a piece is a terminal at its place, or a wire behind the terminals
pub record IsTerminalAt (terminals : List Terminal) (k : ℕ) (piece : Piece) : Type 0 where
  pub terminal : Terminal
  pub is : piece ≡ Term terminal
  pub there : slice_get terminals k ≡ Some terminal

pub record IsWireAt (terminals : List Terminal) (wires k : ℕ) (piece : Piece) : Type 0 where
  pub j : ℕ
  pub is : piece ≡ Wire j
  pub place : k ≡ length terminals + j
  pub less : j < wires

pub piece_cases : (terminals : List Terminal) (wires k : ℕ) (piece : Piece) → slice_get (pieces_with terminals wires) k ≡ Some piece
    → IsTerminalAt terminals k piece ⊎ IsWireAt terminals wires k piece
piece_cases terminals wires k piece at = by (get_cases (map Term terminals) (numbered wires) k piece at) where
  by : (slice_get (map Term terminals) k ≡ Some piece) ⊎ InSecond (map Term terminals) (numbered wires) k piece
      → IsTerminalAt terminals k piece ⊎ IsWireAt terminals wires k piece
  by (inl first) =
      let from = mapped_at Term terminals k piece first in
      inl (record { terminal = from.0; is = from.2; there = from.1 })
  by (inr second) =
      let from = mapped_at Wire (range_with_len 0 wires) second.j piece second.there in
      let number = number_is_place wires second.j from.0 from.1 in
      inr (record {
        j = second.j;
        is = from.2 ∙ ap Wire number.1;
        place = omega (arith, second.place, length-map terminals Term);
        less = number.0;
      })

terminal_of : Terminal → Piece → Terminal
terminal_of default (Term t) = t
terminal_of default (Wire n) = default

same_head : {X : Type 0} (x y : X) (xs ys : List X) → x ∷ xs ≡ y ∷ ys → x ≡ y
same_head x y xs ys same = same_Some x y (ap (λ zs. slice_get zs 0) same)

rest_of : {X : Type 0} → List X → List X
rest_of [] = []
rest_of (x ∷ xs) = xs

no_terminal : (wires : ℕ) (t : Terminal) (pieces : List Piece) → ¬ (numbered wires ≡ Term t ∷ pieces)
no_terminal wires t pieces same =
    let at : slice_get (numbered wires) 0 ≡ Some (Term t) = ap (λ zs. slice_get zs 0) same in
    let from = mapped_at Wire (range_with_len 0 wires) 0 (Term t) at in
    terminal_no_wire t from.0 from.2

-- pieces tell the terminals and the wires
pub same_terminals : (ts us : List Terminal) (v w : ℕ) → pieces_with ts v ≡ pieces_with us w → ts ≡ us
unfolding rest_of terminal_of
same_terminals [] [] v w same = refl
same_terminals [] (u ∷ us) v w same = absurd (no_terminal v u (pieces_with us w) same)
same_terminals (t ∷ ts) [] v w same = absurd (no_terminal w t (pieces_with ts v) (sym same))
same_terminals (t ∷ ts) (u ∷ us) v w same =
    let head : Term t ≡ Term u = same_head (Term t) (Term u) (pieces_with ts v) (pieces_with us w) same in
    let first : t ≡ u = ap (terminal_of t) head in
    let rest : ts ≡ us = same_terminals ts us v w (ap rest_of same) in
    rw (first, rest) refl

pub same_wires : (ts us : List Terminal) (v w : ℕ) → pieces_with ts v ≡ pieces_with us w → v ≡ w
same_wires ts us v w same =
    let terminals = ap length (same_terminals ts us v w same) in
    let long = ap length same in
    omega (arith, terminals, long, length_of_pieces ts v, length_of_pieces us w)
