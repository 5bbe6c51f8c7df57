-- Where the terminals and the wires of a net stand among its pieces.
use Rattle.std.proofs.Common.{◌≡◌, ℕ, suc, ◌+◌, ◌<◌, ◌⊎◌, inl, inr, Bool, true, false, List, [], ◌∷◌, ◌++◌, length, map, slice_get, Option, None, Some, refl, ap, ◌∙◌, arith}
use Rattle.std.specs.List.{range_with_len}
use Rattle.std.proofs.lemmas.List.{length-map}
use Rattle.std.proofs.lemmas.Option.{slice_get-map}
use Rattle.leg_lemmas.proofs.Places.{get_first, get_second, get_cases, counted, mapped_at, InSecond}
use Rattle.leg_lemmas.proofs.Ranges.{number_is_place}
use Rattle.leg_design_records.specs.declared.records.Terminal.{Terminal}
use Rattle.leg_design_records.specs.declared.records.Wire as records
use Rattle.leg_design_records.specs.Terminals.{is_same_terminal}
use Rattle.leg_design_records.specs.Records.{DesignModel}
use Rattle.leg_design_records.proofs.SameTerminal.{same_is}
use Rattle.leg_rules.specs.declared.piece.Piece.{Piece}
use Rattle.leg_rules.specs.declared.piece.Piece.TheVariants.{Term, Wire}
use Rattle.leg_rules.specs.Metal.Nets.{terminals_of, wires_of, pieces_of, regular_entry, special_entry, entry_wires}
use Rattle.leg_rules.specs.Metal.Owner.{place_among}

-- a terminal's place among others has it
pub at_place : (t : Terminal) (ts : List Terminal) (k : ℕ) → place_among t ts ≡ Some k → slice_get ts k ≡ Some t
at_place t [] k is = absurd (let e : ⊥ = cc in e)
at_place t (u ∷ ts) k is = by (at_place t ts) (is_same_terminal t u) refl (place_among t ts) refl where
  by : ((j : ℕ) → place_among t ts ≡ Some j → slice_get ts j ≡ Some t) → (same : Bool) → is_same_terminal t u ≡ same → (o : Option ℕ) → place_among t ts ≡ o
      → slice_get (u ∷ ts) k ≡ Some t
  by rest true same o at =
      let e : ◌≡◌ {A = Option ℕ} (Some 0) (Some k) = rw same at is in
      let place : k ≡ 0 = cc in
      rw (place, same_is t u same) refl
  by rest false other None at =
      let e : ◌≡◌ {A = Option ℕ} None (Some k) = rw (other, at) at is in
      absurd (let f : ⊥ = cc in f)
  by rest false other (Some j) at =
      let e : ◌≡◌ {A = Option ℕ} (Some (suc j)) (Some k) = rw (other, at) at is in
      let place : k ≡ suc j = cc in
      rw place (rest j at)

-- the terminal of a piece
pub terminal_piece : (design : DesignModel) (n k : ℕ) (t : Terminal) → slice_get (terminals_of design n) k ≡ Some t
    → slice_get (pieces_of design n) k ≡ Some (Term t)
unfolding pieces_of
terminal_piece design n k t at =
    get_first (map Term (terminals_of design n)) (map Wire (range_with_len 0 (length (wires_of design n)))) k (Term t)
    (slice_get-map Term (terminals_of design n) k ∙ rw at refl)

-- the wire of a piece
pub wire_piece : (design : DesignModel) (n j : ℕ) → j < length (wires_of design n)
    → slice_get (pieces_of design n) (length (terminals_of design n) + j) ≡ Some (Wire j)
unfolding pieces_of
wire_piece design n j less =
    let wires = map Wire (range_with_len 0 (length (wires_of design n))) in
    let place : length (terminals_of design n) + j ≡ length (map Term (terminals_of design n)) + j = omega (arith, length-map (terminals_of design n) Term) in
    ap (slice_get (map Term (terminals_of design n) ++ wires)) place
    ∙ get_second (map Term (terminals_of design n)) wires j
    ∙ slice_get-map Wire (range_with_len 0 (length (wires_of design n))) j
    ∙ rw (counted (length (wires_of design n)) j less) refl

-- a piece is a terminal at its place, or a wire behind the terminals
pub record IsTerminalPiece (design : DesignModel) (n k : ℕ) (piece : Piece) : Type 0 where
  pub terminal : Terminal
  pub is : piece ≡ Term terminal
  pub there : slice_get (terminals_of design n) k ≡ Some terminal

pub record IsWirePiece (design : DesignModel) (n k : ℕ) (piece : Piece) : Type 0 where
  pub j : ℕ
  pub is : piece ≡ Wire j
  pub place : k ≡ length (terminals_of design n) + j

pub piece_cases : (design : DesignModel) (n k : ℕ) (piece : Piece) → slice_get (pieces_of design n) k ≡ Some piece
    → IsTerminalPiece design n k piece ⊎ IsWirePiece design n k piece
unfolding pieces_of
piece_cases design n k piece at = by (get_cases (map Term (terminals_of design n)) wires k piece at) where
  wires : List Piece
  wires = map Wire (range_with_len 0 (length (wires_of design n)))

  by : (slice_get (map Term (terminals_of design n)) k ≡ Some piece) ⊎ InSecond (map Term (terminals_of design n)) wires k piece
      → IsTerminalPiece design n k piece ⊎ IsWirePiece design n k piece
  by (inl first) =
      let from = mapped_at Term (terminals_of design n) k piece first in
      inl (record { terminal = from.0; is = from.2; there = from.1 })
  by (inr second) =
      let from = mapped_at Wire (range_with_len 0 (length (wires_of design n))) second.j piece second.there in
      let number : from.0 ≡ second.j = (number_is_place (length (wires_of design n)) second.j from.0 from.1).1 in
      inr (record {
        j = second.j;
        is = from.2 ∙ ap Wire number;
        place = omega (arith, second.place, length-map (terminals_of design n) Term);
      })

-- wires of the entry of NETS, and those behind them
pub regular_wire : (design : DesignModel) (n i : ℕ) (wire : records.Wire) → slice_get (entry_wires (regular_entry design n)) i ≡ Some wire
    → slice_get (wires_of design n) i ≡ Some wire
unfolding wires_of
regular_wire design n i wire at = get_first (entry_wires (regular_entry design n)) (entry_wires (special_entry design n)) i wire at

pub special_wire : (design : DesignModel) (n i : ℕ) (wire : records.Wire) → slice_get (entry_wires (special_entry design n)) i ≡ Some wire
    → slice_get (wires_of design n) (length (entry_wires (regular_entry design n)) + i) ≡ Some wire
unfolding wires_of
special_wire design n i wire at = get_second (entry_wires (regular_entry design n)) (entry_wires (special_entry design n)) i ∙ at

pub wire_cases : (design : DesignModel) (n j : ℕ) (wire : records.Wire) → slice_get (wires_of design n) j ≡ Some wire
    → (slice_get (entry_wires (regular_entry design n)) j ≡ Some wire)
    ⊎ InSecond (entry_wires (regular_entry design n)) (entry_wires (special_entry design n)) j wire
unfolding wires_of
wire_cases design n j wire at = get_cases (entry_wires (regular_entry design n)) (entry_wires (special_entry design n)) j wire at
