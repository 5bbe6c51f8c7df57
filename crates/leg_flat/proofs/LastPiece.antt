-- The last piece of a net tells how many wires it has.
use Rattle.std.proofs.Common.{◌≡◌, ℕ, zero, suc, ◌+◌, ◌-◌, List, length, map, Option, None, Some, slice_get, option_map, sym, ap, subst, refl, ◌∙◌, arith}
use Rattle.std.specs.List.{range_with_len}
use Rattle.std.proofs.lemmas.List.{length-append, length-map, get_or-append-add, append-nil}
use Rattle.std.proofs.lemmas.List.FromFn.{length-map-range_with_len, get_or-map-range_with_len}
use Rattle.std.proofs.lemmas.Option.{slice_get-get_or, slice_get-map, same_Some, none-some}
use Rattle.leg_design_records.specs.declared.records.Terminal.{Terminal}
use Rattle.leg_rules.specs.declared.piece.Piece.{Piece}
use Rattle.leg_rules.specs.declared.piece.Piece.TheVariants.{Term, Wire}
use Rattle.leg_rules.specs.Metal.Flat.{pieces_with}

abbrev last_piece : List Piece → Option Piece
last_piece pieces = slice_get pieces (length pieces - 1)

pub length_of_pieces : (terminals : List Terminal) (wires : ℕ) → length (pieces_with terminals wires) ≡ length terminals + wires
length_of_pieces terminals wires =
    omega (arith, length-append (map Term terminals) (map Wire (range_with_len 0 wires)), length-map terminals Term, length-map-range_with_len Wire 0 wires)

last_is_wire : (terminals : List Terminal) (m : ℕ) → last_piece (pieces_with terminals (suc m)) ≡ Some (Wire m)
last_is_wire terminals m =
    let pieces = pieces_with terminals (suc m) in
    let long = length_of_pieces terminals (suc m) in
    let index : length pieces - 1 ≡ length (map Term terminals) + m = omega (arith, long, length-map terminals Term) in
    rw index (
    slice_get-get_or pieces (length (map Term terminals) + m) (Wire m) (omega (arith, long, length-map terminals Term))
    ∙ ap Some (
    get_or-append-add (map Term terminals) (map Wire (range_with_len 0 (suc m))) m (Wire m)
    ∙ get_or-map-range_with_len Wire 0 (suc m) m m (Wire m) (omega arith) (omega arith)))

-- a terminal is no wire
pub terminal_no_wire : (terminal : Terminal) (n : ℕ) → ¬ (Term terminal ≡ Wire n)
terminal_no_wire terminal n same = subst holds same tt
  where
    holds : Piece → Type 0
    holds (Term t) = Unit {0}
    holds (Wire m) = ⊥

-- a net without wires ends with a terminal
not_a_wire : (terminals : List Terminal) (k last : ℕ) → ¬ (slice_get (pieces_with terminals 0) k ≡ Some (Wire last))
not_a_wire terminals k last is =
    by (slice_get terminals k) (sym (slice_get-map Term terminals k) ∙ (rw (append-nil (map Term terminals)) at is))
  where
    by : (terminal : Option Terminal) → option_map Term terminal ≡ Some (Wire last) → ⊥
    by None is = none-some (Wire last) is
    by (Some terminal) is = absurd (terminal_no_wire terminal last (same_Some (Term terminal) (Wire last) is))

pub wires_by_wire : (terminals : List Terminal) (wires last : ℕ) → last_piece (pieces_with terminals wires) ≡ Some (Wire last) → last + 1 ≡ wires
wires_by_wire terminals zero last is = absurd (not_a_wire terminals _ last is)
wires_by_wire terminals (suc m) last is =
    let same : Wire m ≡ Wire last = same_Some (Wire m) (Wire last) (sym (last_is_wire terminals m) ∙ is) in
    let number : m ≡ last = ap (λ piece. number_of piece) same in
    omega (arith, number)
  where
    number_of : Piece → ℕ
    number_of (Term terminal) = 0
    number_of (Wire n) = n

pub wires_by_terminal : (terminals : List Terminal) (wires : ℕ) (terminal : Terminal) → last_piece (pieces_with terminals wires) ≡ Some (Term terminal)
    → 0 ≡ wires
wires_by_terminal terminals zero terminal is = refl
wires_by_terminal terminals (suc m) terminal is =
    absurd (terminal_no_wire terminal m (sym (same_Some (Wire m) (Term terminal) (sym (last_is_wire terminals m) ∙ is))))
