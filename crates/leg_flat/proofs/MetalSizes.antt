-- What is known of a net's wires: they can be drawn, and the numbers of its pieces are small.
use Rattle.std.proofs.Common.{◌≡◌, ℕ, ◌+◌, ◌<◌, ◌≤◌, Bool, not, List, length, length-append, get_or, map, slice_get, Option, Some, All, filter, refl, sym, ap, ◌∙◌, zero-add, arith}
use Rattle.std.proofs.lemmas.List.FromFn.{get_or-map-range_with_len, length-map-range_with_len}
use Rattle.std.proofs.lemmas.List.Sums.{length-filter, count_by-le-length}
use Rattle.std.proofs.lemmas.Option.{get_or_from_slice_get, slice_get_within, slice_get-map}
use Rattle.std.proofs.lemmas.List.Elements.{All-weaker}
use Rattle.leg_lemmas.proofs.Places.{read_at, all_at}
use Rattle.leg_design_records.specs.declared.limits.TheConstants.{PART_LIMIT}
use Rattle.leg_design_records.specs.declared.records.Terminal.{Terminal}
use Rattle.leg_design_records.specs.declared.records.Wire.{Wire}
use Rattle.leg_design_records.specs.Terminals.{is_among}
use Rattle.leg_design_records.specs.Records.{DesignModel, NetModel}
use Rattle.leg_design_records.specs.WellFormedNets.{HasNets, IsNet, IsWire}
use Rattle.leg_lib_records.specs.Sound.{IsSound}
use Rattle.leg_rules.specs.Metal.Nets.{number_of_special, terminals_of, regular_entry, special_entry, entry_terminals, entry_wires}
use Rattle.leg_flat.specs.Steps.Places.{NetsModel, AreNetsOf}
use Rattle.leg_flat.specs.Steps.AddedMetal.{IsWireWithin}
use Rattle.leg_flat.proofs.NetNumbers.{number_within}
use Rattle.leg_flat.proofs.NetSizes.{few_of_entry, few_terminals, few_wires}
use Rattle.leg_flat.proofs.MetalLines.{wire_within}

-- the same where contracts see each element by what it says
pub read_said : {X Y : Type 0} (said : X → Y) (items : List X) (xs : List Y) (i : ℕ) (x : X)
    → map said items ≡ xs → i < length items → x ≡ get_or items i x → slice_get xs i ≡ Some (said x)
read_said said items xs i x same less is =
    rw (← same) (slice_get-map said items i ∙ rw (read_at items items i x refl less is) refl)

-- the wires of an entry can be drawn
pub wires_within : (design : DesignModel) (special : Bool) (nets : List NetModel) (n : ℕ) (net : NetModel) (wires : List Wire) → IsSound design.library
    → All (IsNet design special) nets → slice_get nets n ≡ Some net → wires ≡ net.wires → All IsWireWithin wires
wires_within design special nets n net wires sound each there is =
    let known : IsNet design special net = all_at (IsNet design special) nets n net each there in
    rw is (All-weaker (IsWire design.library design.vias special) IsWireWithin (wire_within design.library design.vias special sound) net.wires known.wires)

module _ (design : DesignModel) (has : HasNets design) where
  pub terminals_few : (n : ℕ) → length (terminals_of design n) ≤ PART_LIMIT
  unfolding terminals_of
  terminals_few n =
      let first = entry_terminals (regular_entry design n) in
      let second = entry_terminals (special_entry design n) in
      let p = λ (t : Terminal). not (is_among t first) in
      omega (
        arith,
        length-append first (filter p second),
        length-filter p second,
        count_by-le-length p second,
        few_terminals design has n first second refl refl,
      )

  pub regular_wires_few : (n : ℕ) → length (entry_wires (regular_entry design n)) ≤ PART_LIMIT
  regular_wires_few n = omega (arith, few_wires design has n _ _ refl refl)

  pub net_wires_few : (n : ℕ) (net : NetModel) → slice_get design.nets n ≡ Some net → length net.wires ≤ PART_LIMIT
  net_wires_few n net there = omega (arith, (few_of_entry design.nets n net there).1, has.few_wires)

  pub special_wires_few : (k : ℕ) (net : NetModel) → slice_get design.special k ≡ Some net → length net.wires ≤ PART_LIMIT
  special_wires_few k net there = omega (arith, (few_of_entry design.special k net there).1, has.few_wires)

module _ (design : DesignModel) (nets : NetsModel) (are : AreNetsOf design nets) where
  pub counts_length : length nets.counts ≡ length design.nets + length design.special
  counts_length = ap length are.counts ∙ length-map-range_with_len (λ n. length (terminals_of design n)) 0 (length design.nets + length design.special)

  pub count_is : (n count : ℕ) → n < length design.nets + length design.special → slice_get nets.counts n ≡ Some count → count ≡ length (terminals_of design n)
  count_is n count less at =
      sym (get_or_from_slice_get nets.counts n count 0 at)
      ∙ ap (λ counts. get_or counts n 0) are.counts
      ∙ get_or-map-range_with_len (λ n. length (terminals_of design n)) 0 (length design.nets + length design.special) n n 0 less (zero-add n)

  -- the number of the net of an entry of SPECIALNETS
  pub special_is_number : (k n : ℕ) (net : NetModel) → slice_get design.special k ≡ Some net → slice_get nets.special k ≡ Some n
      → n ≡ number_of_special design k net
  special_is_number k n net there at =
      let both : ◌≡◌ {A = Option ℕ} (Some n) (Some (number_of_special design k net)) = sym at ∙ are.special.each k net there in
      cc

  pub special_below : (k n : ℕ) (net : NetModel) → slice_get design.special k ≡ Some net → slice_get nets.special k ≡ Some n
      → n < length design.nets + length design.special
  special_below k n net there at =
      rw (special_is_number k n net there at) (number_within design k net (slice_get_within design.special k net there))

  pub special_count : (k n count : ℕ) (net : NetModel) → slice_get design.special k ≡ Some net → slice_get nets.special k ≡ Some n
      → slice_get nets.counts n ≡ Some count → count ≡ length (terminals_of design n)
  special_count k n count net there at counted = count_is n count (special_below k n net there at) counted
