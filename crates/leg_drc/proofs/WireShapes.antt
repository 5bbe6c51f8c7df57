-- Which net and wire a shape is metal of.
use Rattle.std.proofs.Common.{◌≡◌, ◌↔◌, ℕ, true, List, Option, None, Some, slice_get, refl, sym, ap, ◌∙◌}
use Rattle.std.specs.Option.{is_some}
use Rattle.std.proofs.lemmas.Bool.{false≢true}
use Rattle.std.proofs.lemmas.Option.{none-some, same_Some}
use Rattle.leg_rules.specs.declared.owner.Owner.TheVariants.{Net}
use Rattle.leg_rules.specs.declared.piece.Piece.{Piece}
use Rattle.leg_rules.specs.declared.piece.Piece.TheVariants.{Wire}
use Rattle.leg_rules.specs.declared.shape.Shape.{Shape}
use Rattle.leg_rules.specs.Metal.Flat.{FlatModel}
use Rattle.leg_drc.specs.Wires.{IsOfWireOf, IsOfWire}

pub same_net : (m n : ℕ) → Net m ≡ Net n → m ≡ n
same_net m n same = cc

pub same_wire : (v w : ℕ) → Wire v ≡ Wire w → v ≡ w
same_wire v w same = cc

module _ (flat : FlatModel) (shape : Shape) where
  -- the numbers are those that a shape is of
  abbrev pub AreWireNumbers : Option (ℕ × ℕ) → Type 0
  AreWireNumbers found = (n w : ℕ) → found ≡ Some (n, w) ↔ IsOfWireOf flat n w shape

  -- a shape is of one wire at most
  pub one_wire : (n w m v : ℕ) → IsOfWireOf flat n w shape → IsOfWireOf flat m v shape → (n ≡ m) × (w ≡ v)
  one_wire n w m v a b =
      let net : n ≡ m = same_net n m (sym a.owner ∙ b.owner) in
      let piece : a.piece ≡ b.piece = same_Some a.piece b.piece (sym a.numbered ∙ b.numbered) in
      let pieces : a.pieces ≡ b.pieces = same_Some a.pieces b.pieces (sym a.has_net ∙ (ap (slice_get flat.pieces) net ∙ b.has_net)) in
      let has : slice_get b.pieces b.piece ≡ Some (Wire w) = rw (← pieces, ← piece) a.has_piece in
      (net, same_wire w v (same_Some (Wire w) (Wire v) (sym has ∙ b.has_piece)))

  -- it is of none
  pub no_wire : (found : Option (ℕ × ℕ)) → found ≡ None → ((n w : ℕ) → IsOfWireOf flat n w shape → ⊥) → AreWireNumbers found
  no_wire found none never n w = (λ some. absurd (none-some (n, w) (sym none ∙ some)), λ of. absurd (never n w of))

  -- it is of this one
  pub this_wire : (n w : ℕ) → IsOfWireOf flat n w shape → AreWireNumbers (Some (n, w))
  this_wire n w of m v = (
    λ some.
        let same : (n, w) ≡ (m, v) = same_Some (n, w) (m, v) some in
        let first : n ≡ m = ap (λ (p : ℕ × ℕ). p.0) same in
        let second : w ≡ v = ap (λ (p : ℕ × ℕ). p.1) same in
        rw (← first, ← second) of,
    λ other. let same = one_wire n w m v of other in rw (same.0, same.1) refl,
  )

  -- it is of a wire just where its numbers are found
  pub wire_from_is_some : (found : Option (ℕ × ℕ)) → AreWireNumbers found → is_some found ≡ true → IsOfWire flat shape
  wire_from_is_some None are some = absurd (false≢true some)
  wire_from_is_some (Some p) are some = (p.0, p.1, (are p.0 p.1).0 refl)

  pub is_some_from_wire : (found : Option (ℕ × ℕ)) → AreWireNumbers found → IsOfWire flat shape → is_some found ≡ true
  is_some_from_wire found are of = ap is_some ((are of.0 of.1).1 of.2)

  -- its piece in the list of its net
  pub same_piece : (n w net piece : ℕ) (pieces : List Piece) → IsOfWireOf flat n w shape → n ≡ net → shape.piece ≡ Some piece
      → slice_get flat.pieces net ≡ Some pieces → slice_get pieces piece ≡ Some (Wire w)
  same_piece n w net piece pieces of same numbered has =
      let piece_is : of.piece ≡ piece = same_Some of.piece piece (sym of.numbered ∙ numbered) in
      let pieces_are : of.pieces ≡ pieces = same_Some of.pieces pieces (sym of.has_net ∙ (ap (slice_get flat.pieces) same ∙ has)) in
      rw (← pieces_are, ← piece_is) of.has_piece
