-- No net has more terminals or wires than the entries have together.
use Rattle.std.proofs.Common.{◌≡◌, ◌≢◌, ℕ, zero, suc, ◌+◌, ◌<◌, ◌≤◌, List, [], ◌∷◌, Bool, true, length, All, AllPairs, slice_get, Option, None, Some, refl, arith}
use Rattle.std.proofs.lemmas.Option.{slice_get_within, get_or_from_slice_get}
use Rattle.leg_design_records.specs.declared.limits.TheConstants.{PART_LIMIT}
use Rattle.leg_design_records.specs.declared.records.Terminal.{Terminal}
use Rattle.leg_design_records.specs.Records.{DesignModel, NetModel, terminal_count, wire_count}
use Rattle.leg_design_records.specs.WellFormedNets.{HasNets, IsNet}
use Rattle.leg_rules.specs.Metal.Nets.{special_entry, regular_entry, entry_terminals, entry_wires}
use Rattle.leg_flat.proofs.NetTerminals.{special_is}

pub few_of_entry : (nets : List NetModel) (k : ℕ) (net : NetModel) → slice_get nets k ≡ Some net
    → (length net.terminals ≤ terminal_count nets) × (length net.wires ≤ wire_count nets)
few_of_entry [] k net there = absurd (let e : ⊥ = omega (arith, slice_get_within [] k net there) in e)
few_of_entry (first ∷ nets) zero net there =
    let it : first ≡ net = cc in
    rw (← it) ((omega arith, omega arith))
few_of_entry (first ∷ nets) (suc k) net there =
    let rest = few_of_entry nets k net there in
    (omega (arith, rest.0), omega (arith, rest.1))

entry_is : (design : DesignModel) (nets : List NetModel) (special : Bool) (k : ℕ) (net : NetModel) → All (IsNet design special) nets
    → slice_get nets k ≡ Some net → IsNet design special net
entry_is design nets special k net each there =
    let less : k < length nets = slice_get_within nets k net there in
    rw (get_or_from_slice_get nets k net net there) at (each k net less)

module _ (design : DesignModel) (has : HasNets design) (n : ℕ) where
  regular_few : (length (entry_terminals (regular_entry design n)) ≤ terminal_count design.nets)
      × (length (entry_wires (regular_entry design n)) ≤ wire_count design.nets)
  regular_few = by (regular_entry design n) refl where
    by : (o : Option NetModel) → regular_entry design n ≡ o
        → (length (entry_terminals o) ≤ terminal_count design.nets) × (length (entry_wires o) ≤ wire_count design.nets)
    by None none = (omega arith, omega arith)
    by (Some net) there = few_of_entry design.nets n net there

  special_few : (length (entry_terminals (special_entry design n)) ≤ terminal_count design.special)
      × (length (entry_wires (special_entry design n)) ≤ wire_count design.special)
  special_few = by (special_entry design n) refl where
    by : (o : Option NetModel) → special_entry design n ≡ o
        → (length (entry_terminals o) ≤ terminal_count design.special) × (length (entry_wires o) ≤ wire_count design.special)
    by None none = (omega arith, omega arith)
    by (Some net) is = let of = special_is design has n net is in few_of_entry design.special of.k net of.there

  pub few_terminals : (a b : List Terminal) → a ≡ entry_terminals (regular_entry design n) → b ≡ entry_terminals (special_entry design n)
      → length a + length b ≤ PART_LIMIT
  few_terminals a b first second =
      rw (first, second) (omega (arith, regular_few.0, special_few.0, has.few_terminals))

  pub few_wires : (a b : ℕ) → a ≡ length (entry_wires (regular_entry design n)) → b ≡ length (entry_wires (special_entry design n)) → a + b ≤ PART_LIMIT
  few_wires a b first second =
      rw (first, second) (omega (arith, regular_few.1, special_few.1, has.few_wires))

  once_in : (o : Option NetModel) → ((net : NetModel) → o ≡ Some net → AllPairs (λ (t u : Terminal). t ≢ u) net.terminals)
      → AllPairs (λ (t u : Terminal). t ≢ u) (entry_terminals o)
  once_in None each = λ i j d less within. absurd (let e : ⊥ = omega arith in e)
  once_in (Some net) each = each net refl

  pub once_special : (a : List Terminal) → a ≡ entry_terminals (special_entry design n) → AllPairs (λ (t u : Terminal). t ≢ u) a
  once_special a is =
      rw is (once_in (special_entry design n) (λ net entry. let of = special_is design has n net entry in
      (entry_is design design.special true of.k net has.special.each of.there).once))
