-- The wires of a net before and after it got more: those of its entry of NETS, then the added ones, then those of its other
-- entry.
use Rattle.std.proofs.Common.{◌≡◌, ℕ, ◌<◌, ◌≤◌, List, [], ◌∷◌, ◌++◌, length, get_or, All, ◌⊎◌, inl, inr, Option, None, Some, option_map, slice_get, refl, sym, ap, ◌∙◌, arith}
use Rattle.std.proofs.lemmas.Bool.{cases_lt}
use Rattle.std.proofs.lemmas.List.Elements.{All-head, All-tail}
use Rattle.std.proofs.lemmas.Option.{slice_get_within, get_or_from_slice_get, slice_get-get_or, none-some}
use Rattle.leg_design_records.specs.declared.records.Wire.{Wire}
use Rattle.leg_design_records.specs.Records.{DesignModel, NetModel}
use Rattle.leg_rules.specs.Metal.Nets.{regular_entry, special_entry, entry_wires, wires_of}
use Rattle.leg_route_laws.specs.Growth.{AddedWire, wires_added}
use Rattle.leg_route_laws.specs.FinishedDesign.{finished, AreByNet}
use Rattle.leg_route_laws.proofs.Growth.{added_elsewhere}
use Rattle.leg_route_laws.proofs.SameNets.{entry_at, same_special}

-- nets past the first so many get no wires
pub none_added : (count n : ℕ) (added : List AddedWire) → All (λ (one : AddedWire). one.net < count) added → count ≤ n → wires_added n added ≡ []
none_added count n [] each past = refl
none_added count n (one ∷ more) each past =
    let here = All-head (λ (one : AddedWire). one.net < count) one more each in
    added_elsewhere one more n (λ same. absurd (omega (arith, here, past, same)))
    ∙ none_added count n more (All-tail (λ (one : AddedWire). one.net < count) one more each) past

module _ (design : DesignModel) (added : List AddedWire) (lists : List (List Wire)) (by_net : AreByNet (length design.nets) added lists) where
  abbrev done : DesignModel
  done = finished design lists

  abbrev regular : ℕ → List Wire
  regular n = entry_wires (regular_entry design n)

  abbrev special : ℕ → List Wire
  special n = entry_wires (special_entry design n)

  list_at : (n : ℕ) → n < length design.nets → get_or lists n [] ≡ wires_added n added
  list_at n within = get_or_from_slice_get lists n (wires_added n added) [] (by_net.each n within)

  -- the entry of NETS has the added wires behind its own
  pub regular_then : (n : ℕ) → entry_wires (regular_entry done n) ≡ regular n ++ wires_added n added
  regular_then n = ap entry_wires (entry_at design.nets lists n) ∙ by (slice_get design.nets n) refl where
    by : (o : Option NetModel) → slice_get design.nets n ≡ o
        → entry_wires (option_map (λ (net : NetModel). record net { wires = net.wires ++ get_or lists n [] }) o) ≡ entry_wires o ++ wires_added n added
    by None none = sym (past (cases_lt n (length design.nets))) where
      past : (n < length design.nets) ⊎ (length design.nets ≤ n) → wires_added n added ≡ []
      past (inl within) = absurd (none_at design.nets n within none) where
        none_at : (nets : List NetModel) (n : ℕ) → n < length nets → ¬ (slice_get nets n ≡ None)
        none_at [] n within none = absurd (omega (arith, within))
        none_at (net ∷ nets) n within none = none-some (get_or (net ∷ nets) n net) (sym none ∙ slice_get-get_or (net ∷ nets) n net within)
      past (inr beyond) = none_added (length design.nets) n added by_net.nets beyond
    by (Some net) is = ap (λ wires. net.wires ++ wires) (list_at n (slice_get_within design.nets n net is))

  pub wires_then : (n : ℕ) → wires_of done n ≡ (regular n ++ wires_added n added) ++ special n
  unfolding wires_of
  wires_then n = rw (regular_then n, same_special design lists n) refl

  pub wires_before : (n : ℕ) → wires_of design n ≡ regular n ++ special n
  unfolding wires_of
  wires_before n = refl
