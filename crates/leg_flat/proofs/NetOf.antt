-- Which net a terminal is in: a net's terminals are in that net, and in no other.
use Rattle.std.proofs.Common.{◌≡◌, ℕ, zero, suc, ◌<◌, Bool, true, false, List, [], ◌∷◌, length, get_or, slice_get, Option, None, Some, refl, sym, ap, ◌∙◌, arith}
use Rattle.std.proofs.lemmas.List.{get_or-map, length-map}
use Rattle.std.proofs.lemmas.Option.{get_or_from_slice_get, slice_get_within, slice_get-get_or}
use Rattle.leg_lex.specs.NameLookup.{place_of, AreApart}
use Rattle.leg_lex.proofs.NameLookup.{place_stands}
use Rattle.leg_design_records.specs.declared.records.Terminal.{Terminal}
use Rattle.leg_design_records.specs.Terminals.{is_among}
use Rattle.leg_design_records.specs.Records.{NetModel, net_names}
use Rattle.leg_design_records.proofs.Blank.{blank}
use Rattle.leg_rules.specs.Metal.Owner.{listing_place}

-- an entry that lists the terminal, and none before it does
pub record IsListedAt (t : Terminal) (nets : List NetModel) (k : ℕ) : Type 0 where
  pub net : NetModel
  pub there : slice_get nets k ≡ Some net
  pub lists : is_among t net.terminals ≡ true

pub listed_at : (t : Terminal) (nets : List NetModel) (k : ℕ) → listing_place t nets ≡ Some k → IsListedAt t nets k
listed_at t [] k found = absurd (let e : ⊥ = cc in e)
listed_at t (net ∷ nets) k found = by (listed_at t nets) (is_among t net.terminals) refl (listing_place t nets) refl where
  by : ((j : ℕ) → listing_place t nets ≡ Some j → IsListedAt t nets j) → (here : Bool) → is_among t net.terminals ≡ here → (o : Option ℕ)
      → listing_place t nets ≡ o → IsListedAt t (net ∷ nets) k
  by rest true here o is =
      let first : listing_place t (net ∷ nets) ≡ Some 0 = rw here refl in
      let zeroth : k ≡ 0 = cc in
      record { net = net; there = rw zeroth refl; lists = here }
  by rest false other None is =
      let none : listing_place t (net ∷ nets) ≡ None = rw (other, is) refl in
      absurd (let e : ⊥ = cc in e)
  by rest false other (Some j) is =
      let later : listing_place t (net ∷ nets) ≡ Some (suc j) = rw (other, is) refl in
      let place : k ≡ suc j = cc in
      let at = rest j is in
      record { net = at.net; there = rw place at.there; lists = at.lists }

-- no entry lists a terminal that has no place
pub not_listed_at : (t : Terminal) (nets : List NetModel) → listing_place t nets ≡ None → (k : ℕ) (net : NetModel) → slice_get nets k ≡ Some net
    → is_among t net.terminals ≡ false
not_listed_at t [] none k net there = absurd (let e : ⊥ = omega (arith, slice_get_within [] k net there) in e)
not_listed_at t (first ∷ nets) none k net there =
    by (λ none. not_listed_at t nets none) (is_among t first.terminals) refl (listing_place t nets) refl k there where
      by : (listing_place t nets ≡ None → (k : ℕ) (other : NetModel) → slice_get nets k ≡ Some other → is_among t other.terminals ≡ false) → (here : Bool)
          → is_among t first.terminals ≡ here → (o : Option ℕ) → listing_place t nets ≡ o → (k : ℕ) → slice_get (first ∷ nets) k ≡ Some net
          → is_among t net.terminals ≡ false
      by rest true here o is k there =
          let found : listing_place t (first ∷ nets) ≡ Some 0 = rw here refl in
          absurd (let e : ⊥ = cc in e)
      by rest false other (Some j) is k there =
          let found : listing_place t (first ∷ nets) ≡ Some (suc j) = rw (other, is) refl in
          absurd (let e : ⊥ = cc in e)
      by rest false other None is zero there = let it : first ≡ net = cc in rw (← it) other
      by rest false other None is (suc k) there = rest is k net there

-- the entry of a name stands where the name does
pub name_place : (nets : List NetModel) → AreApart (net_names nets) → (i : ℕ) (net : NetModel) → slice_get nets i ≡ Some net
    → place_of net.name (net_names nets) ≡ Some i
name_place nets apart i net there =
    let less : i < length nets = slice_get_within nets i net there in
    let within : i < length (net_names nets) = omega (arith, length-map nets (λ (n : NetModel). n.name)) in
    let named : get_or (net_names nets) i [] ≡ net.name =
    get_or-map (λ n. n.name) nets i net [] less ∙ ap (λ n. n.name) (get_or_from_slice_get nets i net net there) in
    rw named at (apart i within)

-- no two entries have one name
pub one_of_name : (nets : List NetModel) → AreApart (net_names nets) → (i j : ℕ) (a b : NetModel) → slice_get nets i ≡ Some a → slice_get nets j ≡ Some b
    → a.name ≡ b.name → i ≡ j
one_of_name nets apart i j a b at_i at_j same =
    let first : place_of a.name (net_names nets) ≡ Some i = name_place nets apart i a at_i in
    let second : place_of b.name (net_names nets) ≡ Some j = name_place nets apart j b at_j in
    let e : ◌≡◌ {A = Option ℕ} (Some i) (Some j) = sym first ∙ ap (λ name. place_of name (net_names nets)) same ∙ second in
    cc

-- the entry of a name that has a place
pub record IsNamedAt (name : List ℕ) (nets : List NetModel) (k : ℕ) : Type 0 where
  pub net : NetModel
  pub there : slice_get nets k ≡ Some net
  pub named : net.name ≡ name

pub named_at : (name : List ℕ) (nets : List NetModel) (k : ℕ) → place_of name (net_names nets) ≡ Some k → IsNamedAt name nets k
named_at name nets k found =
    let stands = place_stands name (net_names nets) k found in
    let less : k < length nets = omega (arith, stands.within, length-map nets (λ (n : NetModel). n.name)) in
    let net = get_or nets k blank in
    record {
      net = net;
      there = slice_get-get_or nets k blank less;
      named = sym (get_or-map (λ n. n.name) nets k blank [] less) ∙ stands.there [];
    }
