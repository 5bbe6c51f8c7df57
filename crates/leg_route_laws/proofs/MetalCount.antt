-- The design that got the wires has as many shapes as the grown flat.
use Rattle.std.proofs.Common.{◌≡◌, ℕ, zero, suc, ◌+◌, ◌<◌, ◌≤◌, List, [], ◌∷◌, ◌++◌, length, All, ◌⊎◌, inl, inr, Some, slice_get, refl, sym, ap, ◌∙◌, add-zero, zero-add, arith}
use Rattle.std.proofs.lemmas.Bool.{cases_order}
use Rattle.std.proofs.lemmas.List.{length-append}
use Rattle.std.proofs.lemmas.List.Elements.{All-head, All-tail}
use Rattle.std.proofs.lemmas.Option.{same_Some}
use Rattle.leg_lib_records.proofs.OneEach.{same_length}
use Rattle.leg_design_records.specs.declared.records.Wire.{Wire}
use Rattle.leg_design_records.specs.MoreWires.{each_with, with_more_wires}
use Rattle.leg_design_records.specs.Records.{DesignModel, NetModel}
use Rattle.leg_rules.specs.Metal.Nets.{number_of_special, terminals_of, regular_entry, entry_wires}
use Rattle.leg_rules.specs.Metal.Metal.{wire_outlines, wires_metal, nets_metal, specials_metal, metal_of}
use Rattle.leg_rules.specs.Metal.Flat.{FlatModel, IsShapeOf, IsFlatOf}
use Rattle.leg_flat.proofs.Parts.{whole, whole_length}
use Rattle.leg_route_laws.specs.Growth.{AddedWire, Grows, wires_added, shapes_added}
use Rattle.leg_route_laws.specs.FinishedDesign.{finished, AreByNet}
use Rattle.leg_route_laws.proofs.Growth.{same_number, metal_count, added_here, added_elsewhere, has_grown}
use Rattle.leg_route_laws.proofs.SameNets.{same_outlines}
use Rattle.leg_route_laws.proofs.FixedMetal.{fixed_metal, wire_parts, fixed_and_wires, same_fixed}

-- how many shapes wires have together
abbrev shapes_of : DesignModel → List Wire → ℕ
shapes_of design [] = 0
shapes_of design (wire ∷ wires) = length (wire_outlines design wire) + shapes_of design wires

-- and the wires of entries
abbrev nets_shapes : DesignModel → List NetModel → ℕ
nets_shapes design [] = 0
nets_shapes design (net ∷ nets) = shapes_of design net.wires + nets_shapes design nets

-- and lists of wires
abbrev lists_shapes : DesignModel → List (List Wire) → ℕ
lists_shapes design [] = 0
lists_shapes design (wires ∷ lists) = shapes_of design wires + lists_shapes design lists

module _ (design : DesignModel) where
  wires_count : (n piece : ℕ) (wires : List Wire) → length (wires_metal design n piece wires) ≡ shapes_of design wires
  unfolding wires_metal
  wires_count n piece [] = refl
  wires_count n piece (wire ∷ wires) =
      length-append _ (wires_metal design n (suc piece) wires)
      ∙ ap (λ k. k + length (wires_metal design n (suc piece) wires)) (metal_count design n piece wire)
      ∙ ap (λ k. length (wire_outlines design wire) + k) (wires_count n (suc piece) wires)

  nets_count : (n : ℕ) (nets : List NetModel) → length (nets_metal design n nets) ≡ nets_shapes design nets
  unfolding nets_metal
  nets_count n [] = refl
  nets_count n (net ∷ nets) =
      length-append (wires_metal design n (length (terminals_of design n)) net.wires) (nets_metal design (suc n) nets)
      ∙ ap (λ k. k + length (nets_metal design (suc n) nets)) (wires_count n (length (terminals_of design n)) net.wires)
      ∙ ap (λ k. shapes_of design net.wires + k) (nets_count (suc n) nets)

  specials_count : (k : ℕ) (nets : List NetModel) → length (specials_metal design k nets) ≡ nets_shapes design nets
  unfolding specials_metal
  specials_count k [] = refl
  specials_count k (net ∷ nets) =
      let n = number_of_special design k net in
      let piece = length (terminals_of design n) + length (entry_wires (regular_entry design n)) in
      length-append (wires_metal design n piece net.wires) (specials_metal design (suc k) nets)
      ∙ ap (λ j. j + length (specials_metal design (suc k) nets)) (wires_count n piece net.wires)
      ∙ ap (λ j. shapes_of design net.wires + j) (specials_count (suc k) nets)

  whole_count : length (metal_of design) ≡ length (fixed_metal design) + nets_shapes design design.nets + nets_shapes design design.special
  whole_count =
      omega (
        arith,
        ap length (fixed_and_wires design),
        length-append (fixed_metal design) (whole (wire_parts design)),
        whole_length (wire_parts design),
        nets_count 0 design.nets,
        specials_count 0 design.special,
      )

  shapes_append : (xs ys : List Wire) → shapes_of design (xs ++ ys) ≡ shapes_of design xs + shapes_of design ys
  shapes_append [] ys = sym (zero-add (shapes_of design ys))
  shapes_append (x ∷ xs) ys = omega (arith, shapes_append xs ys)

  -- the entries that got wires have those shapes more
  more_count : (nets : List NetModel) (lists : List (List Wire)) → length lists ≡ length nets
      → nets_shapes design (with_more_wires nets lists) ≡ nets_shapes design nets + lists_shapes design lists
  unfolding each_with
  more_count [] [] long = refl
  more_count [] (wires ∷ lists) long = absurd (omega (arith, long))
  more_count (net ∷ nets) [] long = absurd (omega (arith, long))
  more_count (net ∷ nets) (wires ∷ lists) long =
      omega (arith, shapes_append net.wires wires, more_count nets lists (omega (arith, long)))

  -- the shapes of the added wires, net by net: of so many nets from one on
  abbrev total : ℕ → ℕ → List AddedWire → ℕ
  total n zero added = 0
  total n (suc k) added = shapes_of design (wires_added n added) + total (suc n) k added

  lists_total : (added : List AddedWire) (n : ℕ) (lists : List (List Wire))
      → ((i : ℕ) → i < length lists → slice_get lists i ≡ Some (wires_added (n + i) added)) → lists_shapes design lists ≡ total n (length lists) added
  lists_total added n [] each = refl
  lists_total added n (wires ∷ lists) each =
      let first : wires ≡ wires_added n added =
      same_Some wires (wires_added n added) (each 0 (omega arith) ∙ ap (λ m. Some (wires_added m added)) (add-zero n)) in
      let rest : (i : ℕ) → i < length lists → slice_get lists i ≡ Some (wires_added (suc n + i) added) =
      λ i less. each (suc i) (omega (arith, less)) ∙ ap (λ m. Some (wires_added m added)) (let e : n + suc i ≡ suc n + i = omega arith in e) in
      omega (arith, ap (shapes_of design) first, lists_total added (suc n) lists rest)

  total_none : (n k : ℕ) → total n k [] ≡ 0
  total_none n zero = refl
  total_none n (suc k) = zero-add (total (suc n) k []) ∙ total_none (suc n) k

  module _ (one : AddedWire) (more : List AddedWire) where
    total_past : (n k : ℕ) → one.net < n → total n k (one ∷ more) ≡ total n k more
    total_past n zero past = refl
    total_past n (suc k) past =
        let here = ap (shapes_of design) (added_elsewhere one more n (λ same. absurd (omega (arith, past, same)))) in
        omega (arith, here, total_past (suc n) k (omega (arith, past)))

    total_within : (n k : ℕ) → n ≤ one.net → one.net < n + k → total n k (one ∷ more) ≡ length (wire_outlines design one.wire) + total n k more
    total_within n zero from below = absurd (omega (arith, from, below))
    total_within n (suc k) from below = by (total_within (suc n) k) (same_number one.net n) where
      by : (suc n ≤ one.net → one.net < suc n + k → total (suc n) k (one ∷ more) ≡ length (wire_outlines design one.wire) + total (suc n) k more)
          → (one.net ≡ n) ⊎ (¬ (one.net ≡ n))
          → total n (suc k) (one ∷ more) ≡ length (wire_outlines design one.wire) + total n (suc k) more
      by rest (inl same) =
          let here = ap (shapes_of design) (added_here one more n same) in
          omega (arith, here, total_past (suc n) k (omega (arith, same)))
      by rest (inr differ) =
          let above : suc n ≤ one.net = after differ in
          let here = ap (shapes_of design) (added_elsewhere one more n differ) in
          omega (arith, here, rest above (omega (arith, below)))
        where
          after : ¬ (one.net ≡ n) → suc n ≤ one.net
          after differ = elim (cases_order one.net n) [
            | inl same ↦ absurd (differ same)
            | inr (inl less) ↦ absurd (omega (arith, less, from))
            | inr (inr greater) ↦ omega (arith, greater)
          ]

  total_is : (count : ℕ) (added : List AddedWire) → All (λ (one : AddedWire). one.net < count) added → total 0 count added ≡ shapes_added design added
  total_is count [] each = total_none 0 count
  total_is count (one ∷ more) each =
      let below = All-head (λ (one : AddedWire). one.net < count) one more each in
      let rest = total_is count more (All-tail (λ (one : AddedWire). one.net < count) one more each) in
      omega (arith, total_within one more 0 count (omega arith) (omega (arith, below)), rest)

module _ (design : DesignModel) (lists : List (List Wire)) where
  abbrev done : DesignModel
  done = finished design lists

  same_shapes : (wires : List Wire) → shapes_of done wires ≡ shapes_of design wires
  same_shapes [] = refl
  same_shapes (wire ∷ wires) = omega (arith, ap length (same_outlines design lists wire), same_shapes wires)

  same_nets_shapes : (nets : List NetModel) → nets_shapes done nets ≡ nets_shapes design nets
  same_nets_shapes [] = refl
  same_nets_shapes (net ∷ nets) = omega (arith, same_shapes net.wires, same_nets_shapes nets)

  pub same_shape_count : (flat grown : FlatModel) (added : List AddedWire) → IsFlatOf design flat → Grows design added flat grown
      → AreByNet (length design.nets) added lists
      → length (metal_of done) ≡ length grown.shapes
  same_shape_count flat grown added is grows by_net =
      let growth = has_grown design added flat grown grows in
      let each : (i : ℕ) → i < length lists → slice_get lists i ≡ Some (wires_added (0 + i) added) =
      λ i less. by_net.each i (omega (arith, less, by_net.one_each)) ∙ ap (λ m. Some (wires_added m added)) (sym (zero-add i)) in
      let new : lists_shapes design lists ≡ shapes_added design added =
      lists_total design added 0 lists each ∙ ap (λ k. total design 0 k added) by_net.one_each ∙ total_is design (length design.nets) added by_net.nets in
      omega (
        arith,
        whole_count done,
        whole_count design,
        ap length (same_fixed design lists),
        same_nets_shapes done.nets,
        same_nets_shapes design.special,
        more_count design design.nets lists by_net.one_each,
        new,
        same_length IsShapeOf (metal_of design) flat.shapes is.shapes,
        ap length growth.shapes,
        length-append flat.shapes growth.more,
        growth.count,
      )
