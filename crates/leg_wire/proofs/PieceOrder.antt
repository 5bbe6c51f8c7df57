-- Metal in the order of its pieces: that of one piece, and that of a further piece behind it.
use Rattle.std.proofs.Common.{◌≡◌, ◌↔◌, ℕ, pos, ◌+◌, ◌-◌, ◌<◌, ◌≤◌, true, false, ltb, leb, List, ◌++◌, length, get_or, take, drop, All, Contains, inl, inr, refl, sym, ap, ◌∙◌, arith}
use Rattle.std.specs.List.Sorted.{IsNonDecreasingBy, IsPartitionPoint, IsPermutation}
use Rattle.std.proofs.lemmas.Bool.{cases_lt, ltb-true, ltb-false, leb-true, leb-false}
use Rattle.std.proofs.lemmas.List.{length-append, length-take, length-drop, get_or-take, get_or-drop, get_or_append_left, get_or-append_right}
use Rattle.std.proofs.lemmas.List.Sorted.{Contains-permutation, IsPermutation-sym}
use Rattle.leg_rules.specs.Metal.Flat.{FlatModel}
use Rattle.leg_wire.specs.declared.piece_shape.PieceShape.{PieceShape}
use Rattle.leg_wire.specs.Joins.{ArePieceShapes}

-- in another order it is the same metal
pub pieces_in_order : (flat : FlatModel) (net : ℕ) (metal sorted : List PieceShape) → IsPermutation metal sorted → ArePieceShapes flat net metal
    → ArePieceShapes flat net sorted
pieces_in_order flat net metal sorted moved are = record {
  each = λ piece has. are.each piece (Contains-permutation sorted metal piece (IsPermutation-sym metal sorted moved) has);
  all = λ shape piece has is. Contains-permutation metal sorted piece moved (are.all shape piece has is);
}

module _ (metal : List PieceShape) (piece first end : ℕ)
    (below : IsPartitionPoint (λ (shape : PieceShape). ltb shape.piece piece ≡ true) (λ (shape : PieceShape). ltb shape.piece piece ≡ false) metal first)
    (upto : IsPartitionPoint (λ (shape : PieceShape). leb shape.piece piece ≡ true) (λ (shape : PieceShape). leb shape.piece piece ≡ false) metal end)
    (first_in : first ≤ length metal) (end_in : end ≤ length metal) where
  pub first_before : first ≤ end
  first_before = elim (cases_lt end first) [
    | inl less ↦
        let some : PieceShape = record { piece = 0; layer = 0; rect = record { x1 = pos 0; y1 = pos 0; x2 = pos 0; y2 = pos 0 } } in
        let under = ltb-true (get_or metal end some).piece piece (below.0 end some (omega arith) less) in
        let over = leb-false (get_or metal end some).piece piece (upto.1 end some (omega arith) (omega (arith, less, first_in))) in
        absurd (omega (arith, under, over))
    | inr more ↦ more
  ]

  pub between : (shape : PieceShape) → Contains (take (end - first) (drop first metal)) shape ↔ (Contains metal shape × (shape.piece ≡ piece))
  between shape = (
    λ has.
        let cut = length-take (end - first) (drop first metal) in
        let rest = length-drop first metal in
        let k = first + has.0 in
        let before : k < end = omega (arith, cut, rest, has.1, first_before) in
        let read : get_or metal k shape ≡ shape =
        sym (get_or-take (end - first) (drop first metal) has.0 shape (omega (arith, before)) ∙ get_or-drop first metal has.0 shape) ∙ has.2 in
        let over = ltb-false (get_or metal k shape).piece piece (below.1 k shape (omega arith) (omega (arith, before, end_in))) in
        let under = leb-true (get_or metal k shape).piece piece (upto.0 k shape (omega arith) before) in
        let piece_is = ap (λ (s : PieceShape). s.piece) read in
        ((k, omega (arith, before, end_in), read), omega (arith, over, under, piece_is)),
    λ is.
        let k = is.0.0 in
        let k_in = is.0.1 in
        let read = is.0.2 in
        let piece_is = ap (λ (s : PieceShape). s.piece) read in
        let from : first ≤ k = elim (cases_lt k first) [
          | inl less ↦
              let under = ltb-true (get_or metal k shape).piece piece (below.0 k shape (omega arith) less) in
              absurd (omega (arith, under, piece_is, is.1))
          | inr more ↦ more
        ] in
        let before : k < end = elim (cases_lt k end) [
          | inl less ↦ less
          | inr more ↦ let over = leb-false (get_or metal k shape).piece piece (upto.1 k shape more k_in) in absurd (omega (arith, over, piece_is, is.1))
        ] in
        let cut = length-take (end - first) (drop first metal) in
        let rest = length-drop first metal in
        let place : first + (k - first) ≡ k = omega (arith, from) in (
          k - first,
          omega (arith, cut, rest, from, before, end_in),
          get_or-take (end - first) (drop first metal) (k - first) shape (omega (arith, from, before)) ∙ get_or-drop first metal (k - first) shape
              ∙ ap (λ j. get_or metal j shape) place ∙ read,
        ),
  )

-- behind the metal of lower pieces stands that of a higher one
pub in_order_more : (metal new : List PieceShape) (piece : ℕ) → IsNonDecreasingBy (λ (shape : PieceShape). shape.piece) metal
    → All (λ (shape : PieceShape). shape.piece < piece) metal
    → All (λ (shape : PieceShape). shape.piece ≡ piece) new → IsNonDecreasingBy (λ (shape : PieceShape). shape.piece) (metal ++ new)
in_order_more metal new piece in_order low is i j d upto within = elim (cases_lt j (length metal)) [
  | inl early ↦
      let at_i = ap (λ (s : PieceShape). s.piece) (get_or_append_left metal new d i (omega (arith, upto, early))) in
      let at_j = ap (λ (s : PieceShape). s.piece) (get_or_append_left metal new d j early) in
      let rise = in_order i j d upto early in
      omega (arith, at_i, at_j, rise)
  | inr late ↦
      let many = length-append metal new in
      let at_j = ap (λ (s : PieceShape). s.piece) (get_or-append_right metal new (length metal) j d refl late) in
      let here = is (j - length metal) d (omega (arith, many, within, late)) in
      elim (cases_lt i (length metal)) [
        | inl early ↦
            let at_i = ap (λ (s : PieceShape). s.piece) (get_or_append_left metal new d i early) in
            let under = low i d early in
            omega (arith, at_i, at_j, here, under)
        | inr too ↦
            let at_i = ap (λ (s : PieceShape). s.piece) (get_or-append_right metal new (length metal) i d refl too) in
            let there = is (i - length metal) d (omega (arith, many, within, upto, too)) in
            omega (arith, at_i, at_j, here, there)
      ]
]
