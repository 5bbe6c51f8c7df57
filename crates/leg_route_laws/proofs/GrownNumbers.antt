-- The numbers of a net's shapes, before and after a net got wires.
use Rattle.std.proofs.Common.{◌≡◌, ℕ, zero, suc, ◌+◌, ◌-◌, ◌<◌, ◌≤◌, List, [], ◌∷◌, ◌++◌, length, Contains, ◌⊎◌, inl, inr, None, Some, slice_get, sym, ap, subst, ◌∙◌, refl, arith}
use Rattle.std.specs.List.{range_with_len}
use Rattle.std.proofs.lemmas.List.{length-append}
use Rattle.std.proofs.lemmas.List.Elements.{Contains-append_left, Contains-append_right, Contains-append_cases}
use Rattle.std.proofs.lemmas.Option.{slice_get_within, none-some}
use Rattle.leg_lemmas.proofs.Places.{get_first, get_second, get_cases, contains_at, comes_from, InSecond}
use Rattle.leg_lemmas.proofs.Contents.{All-from_contains}
use Rattle.leg_lemmas.proofs.RisingLists.{AllPairs-append_by}
use Rattle.leg_lemmas.proofs.Ranges.{in_range, range_within, range_rises}
use Rattle.leg_design_records.specs.declared.records.Wire.{Wire}
use Rattle.leg_design_records.specs.Records.{DesignModel}
use Rattle.leg_rules.specs.declared.owner.Owner.TheVariants.{Net}
use Rattle.leg_rules.specs.declared.shape.Shape.{Shape}
use Rattle.leg_rules.specs.Metal.Metal.{OnLayer, Belonging, Metal, wire_outlines}
use Rattle.leg_rules.specs.Metal.Flat.{FlatModel, IsShapeOf}
use Rattle.leg_wire.specs.NetShapes.{IsOfNet, AreNumbersOf}
use Rattle.leg_route_laws.specs.Growth.{Grows, of_net, IsMetalAdded}
use Rattle.leg_route_laws.proofs.Growth.{same_number, has_grown, added_of_other}
use Rattle.leg_route_laws.proofs.LikeShapes.{same_net}

-- the shapes of wires that are added to a net are the net's
added_owner : (design : DesignModel) (net : ℕ) (wires : List Wire) (before : FlatModel) (metal : Metal) (shape : Shape)
    → IsMetalAdded design (of_net net wires) before metal → IsShapeOf metal shape → shape.owner ≡ Net net
added_owner design net wires before metal shape it is = by (same_number net it.net) where
  belongs : Belonging
  belongs = record { owner = Net it.net; component = None; piece = Some (length it.terminals + (it.wires + it.j)) }

  by : (net ≡ it.net) ⊎ (¬ (net ≡ it.net)) → shape.owner ≡ Net net
  by (inl same) =
      let from = comes_from (λ (m : OnLayer). record { metal = m; belongs = belongs }) (wire_outlines design it.wire) metal it.of_wire in
      is.owner ∙ sym (ap (λ (m : Metal). m.belongs.owner) from.2) ∙ ap Net (sym same)
  by (inr other) = absurd (none-some it.wire (sym (ap (λ ws. slice_get ws it.j) (added_of_other it.net net wires other)) ∙ it.there))

module _ (before more : List Shape) (net : ℕ) (owned : (shape : Shape) → Contains more shape → shape.owner ≡ Net net) where
  abbrev after : List Shape
  after = before ++ more

  kept : (n k : ℕ) → IsOfNet before n k → IsOfNet after n k
  kept n k is = record { shape = is.shape; at = get_first before more k is.shape is.at; owner = is.owner }

  -- the net's shapes are those that it had and the new ones
  pub own_numbers : (numbers : List ℕ) → AreNumbersOf before net numbers → AreNumbersOf after net (numbers ++ range_with_len (length before) (length more))
  own_numbers numbers are = record {
    increasing =
        AllPairs-append_by (λ j k. j < k) (λ k. k < length before) (λ k. length before ≤ k) (λ x y low high. omega (arith, low, high)) numbers
        (range_with_len (length before) (length more))
        (All-from_contains (λ k. k < length before) numbers (λ k has. slice_get_within before k (are.each k has).shape (are.each k has).at))
        (All-from_contains (λ k. length before ≤ k) (range_with_len (length before) (length more))
        (λ k has. (range_within (length before) (length more) k has).0))
        are.increasing (range_rises (length before) (length more));
    each = each;
    all = all;
  } where
    each : (k : ℕ) → Contains (numbers ++ range_with_len (length before) (length more)) k → IsOfNet after net k
    each k has = by (Contains-append_cases numbers (range_with_len (length before) (length more)) k has) where
      by : Contains numbers k ⊎ Contains (range_with_len (length before) (length more)) k → IsOfNet after net k
      by (inl old) = kept net k (are.each k old)
      by (inr new) =
          let range = range_within (length before) (length more) k new in
          let j = k - length before in
          let place : k ≡ length before + j = omega (arith, range.0) in
          let less : j < length more = omega (arith, range.0, range.1) in
          let there = shape_at more j less in
          record {
            shape = there.0;
            at = ap (slice_get after) place ∙ get_second before more j ∙ there.1;
            owner = owned there.0 (contains_at more j there.0 there.1);
          }
        where
          shape_at : (shapes : List Shape) (j : ℕ) → j < length shapes → (shape : Shape) × (slice_get shapes j ≡ Some shape)
          shape_at [] j less = absurd (omega (arith, less))
          shape_at (shape ∷ shapes) zero less = (shape, refl)
          shape_at (shape ∷ shapes) (suc j) less = shape_at shapes j (omega (arith, less))

    all : (k : ℕ) → IsOfNet after net k → Contains (numbers ++ range_with_len (length before) (length more)) k
    all k is = by (get_cases before more k is.shape is.at) where
      by : (slice_get before k ≡ Some is.shape) ⊎ InSecond before more k is.shape → Contains (numbers ++ range_with_len (length before) (length more)) k
      by (inl old) =
          Contains-append_left numbers (range_with_len (length before) (length more)) k (are.all k (record { shape = is.shape; at = old; owner = is.owner }))
      by (inr new) =
          Contains-append_right numbers (range_with_len (length before) (length more)) k
          (subst (Contains (range_with_len (length before) (length more))) (sym new.place)
          (in_range (length before) (length more) (length before + new.j) (omega arith)
          (let within = slice_get_within more new.j is.shape new.there in omega (arith, within))))

  -- those of another net are the same
  pub other_numbers : (other : ℕ) (numbers : List ℕ) → ¬ (other ≡ net) → AreNumbersOf before other numbers → AreNumbersOf after other numbers
  other_numbers other numbers differ are = record {
    increasing = are.increasing;
    each = λ k has. kept other k (are.each k has);
    all = all;
  } where
    all : (k : ℕ) → IsOfNet after other k → Contains numbers k
    all k is = by (get_cases before more k is.shape is.at) where
      by : (slice_get before k ≡ Some is.shape) ⊎ InSecond before more k is.shape → Contains numbers k
      by (inl old) = are.all k (record { shape = is.shape; at = old; owner = is.owner })
      by (inr new) =
          absurd (differ (same_net is.shape.owner other net is.owner (owned is.shape (contains_at more new.j is.shape new.there))))

module _ (design : DesignModel) (net : ℕ) (wires : List Wire) (before after : FlatModel) (grows : Grows design (of_net net wires) before after) where
  pub grown_numbers : (numbers : List ℕ) → AreNumbersOf before.shapes net numbers
      → AreNumbersOf after.shapes net (numbers ++ range_with_len (length before.shapes) (length after.shapes - length before.shapes))
  grown_numbers numbers are =
      let grown = has_grown design (of_net net wires) before after grows in
      let many : length after.shapes - length before.shapes ≡ length grown.more =
      omega (arith, ap length grown.shapes, length-append before.shapes grown.more) in
      let now =
      own_numbers before.shapes grown.more net (λ shape there. added_owner design net wires before (grown.each shape there).0 shape (grown.each shape there).1
      (grown.each shape there).2) numbers are in
      subst (λ k. AreNumbersOf after.shapes net (numbers ++ range_with_len (length before.shapes) k)) (sym many)
      (subst (λ shapes. AreNumbersOf shapes net (numbers ++ range_with_len (length before.shapes) (length grown.more))) (sym grown.shapes) now)

  pub same_numbers : (other : ℕ) (numbers : List ℕ) → ¬ (other ≡ net) → AreNumbersOf before.shapes other numbers → AreNumbersOf after.shapes other numbers
  same_numbers other numbers differ are =
      let grown = has_grown design (of_net net wires) before after grows in
      let now =
      other_numbers before.shapes grown.more net (λ shape there. added_owner design net wires before (grown.each shape there).0 shape
      (grown.each shape there).1 (grown.each shape there).2) other numbers differ are in
      subst (λ shapes. AreNumbersOf shapes other numbers) (sym grown.shapes) now
