-- A terminal is in a net just where it is among the net's terminals.
use Rattle.std.proofs.Common.{◌≡◌, ℕ, ◌-◌, ◌<◌, ◌≤◌, nat_lt, Bool, true, false, List, length, slice_get, Option, None, Some, refl, sym, ap, ◌∙◌, arith}
use Rattle.std.proofs.lemmas.Bool.{false≢true}
use Rattle.std.proofs.lemmas.Bool.Decides.{nat_tests}
use Rattle.std.proofs.lemmas.Option.{slice_get-get_or}
use Rattle.leg_lex.specs.NameLookup.{place_of}
use Rattle.leg_design_records.specs.declared.records.Terminal.{Terminal}
use Rattle.leg_design_records.specs.Terminals.{is_among}
use Rattle.leg_design_records.specs.Records.{DesignModel, NetModel, net_names}
use Rattle.leg_design_records.specs.WellFormedNets.{HasNets}
use Rattle.leg_design_records.proofs.Blank.{blank}
use Rattle.leg_rules.specs.Metal.Nets.{number_of_special, special_named, special_alone, special_entry, regular_entry, entry_terminals}
use Rattle.leg_rules.specs.Metal.Owner.{net_of}
use Rattle.leg_flat.proofs.NetOf.{name_place, named_at}
use Rattle.leg_flat.proofs.NetOfTerminal.{in_regular, in_special}

pub none_past : {X : Type 0} (xs : List X) (n : ℕ) (d : X) → slice_get xs n ≡ None → length xs ≤ n
none_past xs n d none = by (nat_lt n (length xs)) refl where
  by : (within : Bool) → nat_lt n (length xs) ≡ within → length xs ≤ n
  by true within =
      let less : n < length xs = grind (arith, nat_tests, within) in
      absurd (let e : ⊥ = cc (none, slice_get-get_or xs n d less) in e)
  by false past = grind (arith, nat_tests, past)

-- the entry of SPECIALNETS of a net
pub record IsSpecialOf (design : DesignModel) (n : ℕ) (net : NetModel) : Type 0 where
  pub k : ℕ
  pub there : slice_get design.special k ≡ Some net
  pub number : number_of_special design k net ≡ n

module _ (design : DesignModel) (has : HasNets design) where
  pub special_is : (n : ℕ) (net : NetModel) → special_entry design n ≡ Some net → IsSpecialOf design n net
  special_is n net is = by (slice_get design.nets n) refl where
    named : (first : NetModel) → slice_get design.nets n ≡ Some first → special_named design first.name ≡ Some net → (o : Option ℕ)
        → place_of first.name (net_names design.special) ≡ o → IsSpecialOf design n net
    named first at said None none = absurd (let e : ⊥ = cc (rw none at said) in e)
    named first at said (Some k) found =
        let it : slice_get design.special k ≡ Some net = rw found at said in
        let there = named_at first.name design.special k found in
        let same : there.net ≡ net = let e : ◌≡◌ {A = Option NetModel} (Some there.net) (Some net) = sym there.there ∙ it in cc in
        let name : net.name ≡ first.name = ap (λ (m : NetModel). m.name) (sym same) ∙ there.named in
        let place : place_of net.name (net_names design.nets) ≡ Some n = rw name (name_place design.nets has.nets.apart n first at) in
        record { k = k; there = it; number = rw place refl }

    alone : (past : length design.nets ≤ n) → (m : ℕ) → m ≡ n - length design.nets → special_alone design m ≡ Some net → (o : Option NetModel)
        → slice_get design.special m ≡ o → (p : NetModel → Option ℕ) → ((q : NetModel) → place_of q.name (net_names design.nets) ≡ p q)
        → IsSpecialOf design n net
    alone past m is_m said None none p place = absurd (let e : ⊥ = cc (rw none at said) in e)
    alone past m is_m said (Some entry) there p place = last (p entry) (place entry) where
      last : (o : Option ℕ) → place_of entry.name (net_names design.nets) ≡ o → IsSpecialOf design n net
      last (Some j) found = absurd (let e : ⊥ = cc (rw (there, found) at said) in e)
      last None none =
          let e : ◌≡◌ {A = Option NetModel} (Some entry) (Some net) = rw (there, none) at said in
          let same : entry ≡ net = cc in
          record {
            k = m;
            there = there ∙ e;
            number = rw (← same, none) (omega (arith, past, is_m));
          }

    by : (o : Option NetModel) → slice_get design.nets n ≡ o → IsSpecialOf design n net
    by (Some first) at = named first at (rw at at is) (place_of first.name (net_names design.special)) refl
    by None none =
        alone (none_past design.nets n blank none) (n - length design.nets) refl (rw none at is) (slice_get design.special (n - length design.nets)) refl
        (λ q. place_of q.name (net_names design.nets)) (λ q. refl)

  -- a terminal of an entry of a net is in the net
  pub regular_in : (n : ℕ) (t : Terminal) → is_among t (entry_terminals (regular_entry design n)) ≡ true → net_of design t ≡ Some n
  regular_in n t among = by (slice_get design.nets n) refl where
    by : (o : Option NetModel) → slice_get design.nets n ≡ o → net_of design t ≡ Some n
    by None none = absurd (false≢true (rw none at among))
    by (Some net) there = in_regular design has t n net there (rw there at among)

  pub special_in : (n : ℕ) (t : Terminal) → is_among t (entry_terminals (special_entry design n)) ≡ true → net_of design t ≡ Some n
  special_in n t among = by (special_entry design n) refl where
    by : (o : Option NetModel) → special_entry design n ≡ o → net_of design t ≡ Some n
    by None none = absurd (false≢true (ap (λ o. is_among t (entry_terminals o)) (sym none) ∙ among))
    by (Some net) is =
        let of = special_is n net is in
        in_special design has t of.k net of.there (ap (λ o. is_among t (entry_terminals o)) (sym is) ∙ among) ∙ ap Some of.number
