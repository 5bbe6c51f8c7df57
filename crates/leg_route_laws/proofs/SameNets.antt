-- A design of which nets got wires has the same terminals, owners and pieces of terminals.
use Rattle.std.proofs.Common.{◌≡◌, ℕ, zero, suc, List, [], ◌∷◌, ◌++◌, length, get_or, slice_get, Option, None, Some, option_map, if◌then◌else◌, refl, sym, ap, ◌∙◌}
use Rattle.std.proofs.lemmas.List.{append-nil}
use Rattle.leg_lex.specs.Words.{◌>>=◌}
use Rattle.leg_design_records.specs.declared.records.Terminal.{Terminal}
use Rattle.leg_design_records.specs.declared.records.Terminal.TheVariants.{Comp, Pin}
use Rattle.leg_design_records.specs.declared.records.Wire.{Wire}
use Rattle.leg_design_records.specs.declared.records.Wire.TheVariants.{Segment, ViaAt, Patch}
use Rattle.leg_design_records.specs.MoreWires.{each_with, with_more_wires}
use Rattle.leg_design_records.specs.Records.{DesignModel, NetModel, net_names}
use Rattle.leg_design_records.specs.Terminals.{is_among}
use Rattle.leg_design_records.proofs.EachWith.{each_with_length, each_with_map}
use Rattle.leg_rules.specs.Metal.Nets.{number_of_special, special_entry, regular_entry, entry_terminals, terminals_of}
use Rattle.leg_rules.specs.Metal.Owner.{listing_place, net_of, lone_owner, owner_of, place_among, piece_of}
use Rattle.leg_rules.specs.Metal.Metal.{of_terminal, wire_outlines}
use Rattle.leg_route_laws.specs.FinishedDesign.{finished}

abbrev wired : NetModel → List Wire → NetModel
wired net wires = record net { wires = net.wires ++ wires }

wired_none : (net : NetModel) → wired net [] ≡ net
wired_none net = ap (λ wires. record net { wires = wires }) (append-nil net.wires)

-- an entry has the wires of its list
not_wired : (nets : List NetModel) (n : ℕ) → slice_get nets n ≡ option_map (λ net. wired net []) (slice_get nets n)
not_wired nets n = by (slice_get nets n) where
  by : (o : Option NetModel) → o ≡ option_map (λ net. wired net []) o
  by None = refl
  by (Some net) = ap Some (sym (wired_none net))

pub entry_at : (nets : List NetModel) (lists : List (List Wire)) (n : ℕ)
    → slice_get (with_more_wires nets lists) n ≡ option_map (λ net. wired net (get_or lists n [])) (slice_get nets n)
unfolding each_with
entry_at [] lists n = refl
entry_at (net ∷ nets) [] zero = ap Some (sym (wired_none net))
entry_at (net ∷ nets) [] (suc n) = not_wired nets n
entry_at (net ∷ nets) (wires ∷ lists) zero = refl
entry_at (net ∷ nets) (wires ∷ lists) (suc n) = entry_at nets lists n

same_listing : (t : Terminal) (nets : List NetModel) (lists : List (List Wire)) → listing_place t (with_more_wires nets lists) ≡ listing_place t nets
unfolding each_with
same_listing t [] lists = refl
same_listing t (net ∷ nets) [] = refl
same_listing t (net ∷ nets) (wires ∷ lists) =
    ap (λ (o : Option ℕ). if is_among t net.terminals then Some 0 else option_map suc o) (same_listing t nets lists)

module _ (design : DesignModel) (lists : List (List Wire)) where
  abbrev done : DesignModel
  done = finished design lists

  pub same_names : net_names done.nets ≡ net_names design.nets
  same_names = each_with_map wired (λ (net : NetModel). net.name) (λ net wires. refl) design.nets lists

  pub same_count : length done.nets ≡ length design.nets
  same_count = each_with_length wired design.nets lists

  pub same_number : (k : ℕ) (net : NetModel) → number_of_special done k net ≡ number_of_special design k net
  same_number k net = rw (same_names, same_count) refl

  regular_terminals : (n : ℕ) → entry_terminals (regular_entry done n) ≡ entry_terminals (regular_entry design n)
  regular_terminals n = ap entry_terminals (entry_at design.nets lists n) ∙ by (slice_get design.nets n) where
    by : (o : Option NetModel) → entry_terminals (option_map (λ net. wired net (get_or lists n [])) o) ≡ entry_terminals o
    by None = refl
    by (Some net) = refl

  pub same_special : (n : ℕ) → special_entry done n ≡ special_entry design n
  same_special n = by (slice_get design.nets n) refl where
    by : (o : Option NetModel) → slice_get design.nets n ≡ o → special_entry done n ≡ special_entry design n
    by None none =
        let there : slice_get done.nets n ≡ None = entry_at design.nets lists n ∙ ap (option_map (λ net. wired net (get_or lists n []))) none in
        rw (there, none, same_names, same_count) refl
    by (Some net) is =
        let there : slice_get done.nets n ≡ Some (wired net (get_or lists n [])) =
        entry_at design.nets lists n ∙ ap (option_map (λ net. wired net (get_or lists n []))) is in
        rw (there, is) refl

  pub same_terminals : (n : ℕ) → terminals_of done n ≡ terminals_of design n
  unfolding terminals_of
  same_terminals n = rw (regular_terminals n, same_special n) refl

  pub same_net : (t : Terminal) → net_of done t ≡ net_of design t
  unfolding net_of
  same_net t = by (listing_place t design.nets) refl where
    third : (k : ℕ) (o : Option NetModel) → (o >>= λ net. Some (number_of_special done k net)) ≡ (o >>= λ net. Some (number_of_special design k net))
    third k None = refl
    third k (Some net) = ap Some (same_number k net)

    second : (o : Option ℕ) → (o >>= λ k. slice_get design.special k >>= λ net. Some (number_of_special done k net)) ≡
        (o >>= λ k. slice_get design.special k >>= λ net. Some (number_of_special design k net))
    second None = refl
    second (Some k) = third k (slice_get design.special k)

    by : (o : Option ℕ) → listing_place t design.nets ≡ o → net_of done t ≡ net_of design t
    by None none = rw (same_listing t design.nets lists, none) (second (listing_place t design.special))
    by (Some n) is = rw (same_listing t design.nets lists, is) refl

  same_lone : (t : Terminal) → lone_owner done t ≡ lone_owner design t
  same_lone (Comp c k) = refl
  same_lone (Pin p) = refl

  same_owner : (t : Terminal) → owner_of done t ≡ owner_of design t
  unfolding owner_of
  same_owner t = by (net_of design t) refl where
    by : (o : Option ℕ) → net_of design t ≡ o → owner_of done t ≡ owner_of design t
    by None none = rw (same_net t, none) (same_lone t)
    by (Some n) is = rw (same_net t, is) refl

  same_piece : (t : Terminal) → piece_of done t ≡ piece_of design t
  unfolding piece_of
  same_piece t = rw (same_net t) (by (net_of design t)) where
    by : (o : Option ℕ) → (o >>= λ n. place_among t (terminals_of done n)) ≡ (o >>= λ n. place_among t (terminals_of design n))
    by None = refl
    by (Some n) = ap (place_among t) (same_terminals n)

  pub same_belonging : (component : Option ℕ) (t : Terminal) → of_terminal done component t ≡ of_terminal design component t
  same_belonging component t = rw (same_owner t, same_piece t) refl

  pub same_outlines : (wire : Wire) → wire_outlines done wire ≡ wire_outlines design wire
  same_outlines (Segment layer from to width ext_from ext_to) = refl
  same_outlines (ViaAt number at_spot) = refl
  same_outlines (Patch layer at_spot rect) = refl
