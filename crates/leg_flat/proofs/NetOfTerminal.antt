-- The terminals of a net are in that net and in no other.
use Rattle.std.proofs.Common.{◌≡◌, ℕ, true, ◌++◌, slice_get, Contains, Option, None, Some, refl, sym, ◌∙◌}
use Rattle.std.proofs.lemmas.Bool.{false≢true}
use Rattle.std.proofs.lemmas.List.Elements.{Contains-append_left, Contains-append_right}
use Rattle.leg_lemmas.proofs.Places.{contains_at}
use Rattle.leg_lex.specs.NameLookup.{place_of}
use Rattle.leg_design_records.specs.declared.records.Terminal.{Terminal}
use Rattle.leg_design_records.specs.Terminals.{is_among}
use Rattle.leg_design_records.specs.Records.{DesignModel, NetModel, net_names}
use Rattle.leg_design_records.specs.WellFormedNets.{HasNets}
use Rattle.leg_design_records.proofs.SameTerminal.{among_contains}
use Rattle.leg_rules.specs.Metal.Nets.{number_of_special}
use Rattle.leg_rules.specs.Metal.Owner.{listing_place, net_of}
use Rattle.leg_flat.proofs.NetOf.{listed_at, not_listed_at, name_place, one_of_name}

module _ (design : DesignModel) (has : HasNets design) (t : Terminal) where
  -- entries that list the terminal, in one section or in both, have one name
  regular : (k : ℕ) (net : NetModel) → slice_get design.nets k ≡ Some net → Contains (design.nets ++ design.special) net
  regular k net there = Contains-append_left design.nets design.special net (contains_at design.nets k net there)

  special : (k : ℕ) (net : NetModel) → slice_get design.special k ≡ Some net → Contains (design.nets ++ design.special) net
  special k net there = Contains-append_right design.nets design.special net (contains_at design.special k net there)

  one_name : (a b : NetModel) → Contains (design.nets ++ design.special) a → Contains (design.nets ++ design.special) b → is_among t a.terminals ≡ true
      → is_among t b.terminals ≡ true → a.name ≡ b.name
  one_name a b there here lists too =
      has.one_net a b t there here (among_contains t a.terminals lists) (among_contains t b.terminals too)

  -- a terminal that an entry of NETS lists is in its net
  pub in_regular : (n : ℕ) (net : NetModel) → slice_get design.nets n ≡ Some net → is_among t net.terminals ≡ true → net_of design t ≡ Some n
  unfolding net_of
  in_regular n net there lists = by (listing_place t design.nets) refl where
    by : (o : Option ℕ) → listing_place t design.nets ≡ o → net_of design t ≡ Some n
    by None none = absurd (false≢true (sym (not_listed_at t design.nets none n net there) ∙ lists))
    by (Some m) found =
        let first = listed_at t design.nets m found in
        let same : first.net.name ≡ net.name = one_name first.net net (regular m first.net first.there) (regular n net there) first.lists lists in
        let place : m ≡ n = one_of_name design.nets has.nets.apart m n first.net net first.there there same in
        rw (found, place) refl

  -- a terminal that an entry of SPECIALNETS lists is in the net that the entry is of
  pub in_special : (k : ℕ) (net : NetModel) → slice_get design.special k ≡ Some net → is_among t net.terminals ≡ true
      → net_of design t ≡ Some (number_of_special design k net)
  unfolding net_of
  in_special k net there lists = by (listing_place t design.nets) refl (listing_place t design.special) refl where
    by : (o : Option ℕ) → listing_place t design.nets ≡ o → (p : Option ℕ) → listing_place t design.special ≡ p
        → net_of design t ≡ Some (number_of_special design k net)
    by (Some m) found p is =
        let first = listed_at t design.nets m found in
        let same : first.net.name ≡ net.name = one_name first.net net (regular m first.net first.there) (special k net there) first.lists lists in
        let place : place_of net.name (net_names design.nets) ≡ Some m = rw (← same) (name_place design.nets has.nets.apart m first.net first.there) in
        rw (found, place) refl
    by None none None nowhere =
        absurd (false≢true (sym (not_listed_at t design.special nowhere k net there) ∙ lists))
    by None none (Some j) found =
        let first = listed_at t design.special j found in
        let same : first.net.name ≡ net.name = one_name first.net net (special j first.net first.there) (special k net there) first.lists lists in
        let place : j ≡ k = one_of_name design.special has.special.apart j k first.net net first.there there same in
        let it : slice_get design.special j ≡ Some net = rw place there in
        rw (none, found, it, place) refl
