-- No terminal stands twice among those of a net.
use Rattle.std.proofs.Common.{◌≡◌, ◌≢◌, ℕ, ◌+◌, ◌<◌, ◌⊎◌, inl, inr, nat_lt, Bool, true, false, not, List, length, filter, slice_get, AllPairs, Option, None, Some, refl, sym, ap, ◌∙◌, arith}
use Rattle.std.proofs.lemmas.Bool.{false≢true}
use Rattle.std.proofs.lemmas.Bool.Decides.{nat_tests}
use Rattle.std.proofs.lemmas.List.Elements.{filter_passes}
use Rattle.std.proofs.lemmas.List.Kept.{AllPairs-filter}
use Rattle.std.proofs.lemmas.Option.{slice_get_within, get_or_from_slice_get}
use Rattle.leg_lemmas.proofs.Places.{get_cases, contains_at, InSecond, all_at}
use Rattle.leg_design_records.specs.declared.records.Terminal.{Terminal}
use Rattle.leg_design_records.specs.Terminals.{is_among}
use Rattle.leg_design_records.specs.Records.{DesignModel, NetModel}
use Rattle.leg_design_records.specs.WellFormedNets.{HasNets, IsNet}
use Rattle.leg_design_records.proofs.SameTerminal.{among_from}
use Rattle.leg_rules.specs.Metal.Nets.{regular_entry, special_entry, entry_terminals, terminals_of}
use Rattle.leg_rules.specs.Metal.Owner.{place_among}
use Rattle.leg_flat.proofs.NetTerminals.{special_is}
use Rattle.leg_flat.proofs.PlacesAmong.{has_place}
use Rattle.leg_flat.proofs.PiecePlaces.{at_place}

-- an element stands at one place
once_at : (ts : List Terminal) → AllPairs (λ t u. t ≢ u) ts → (i j : ℕ) (t : Terminal) → slice_get ts i ≡ Some t → slice_get ts j ≡ Some t → i ≡ j
once_at ts once i j t at too = by (nat_lt i j) refl (nat_lt j i) refl where
  by : (before : Bool) → nat_lt i j ≡ before → (behind : Bool) → nat_lt j i ≡ behind → i ≡ j
  by true before b is =
      let less : i < j = grind (arith, nat_tests, before) in
      absurd (once i j t less (slice_get_within ts j t too) (get_or_from_slice_get ts i t t at ∙ sym (get_or_from_slice_get ts j t t too)))
  by false not_before true behind =
      let less : j < i = grind (arith, nat_tests, behind) in
      absurd (once j i t less (slice_get_within ts i t at) (get_or_from_slice_get ts j t t too ∙ sym (get_or_from_slice_get ts i t t at)))
  by false not_before false neither = grind (arith, nat_tests, not_before, neither)

no_terminals : AllPairs (λ t u. t ≢ u) (entry_terminals None)
no_terminals i j d less within = absurd (let e : ⊥ = omega (arith, less, within) in e)

module _ (design : DesignModel) (has : HasNets design) (n : ℕ) where
  regular_once : AllPairs (λ t u. t ≢ u) (entry_terminals (regular_entry design n))
  regular_once = by (regular_entry design n) refl where
    by : (o : Option NetModel) → regular_entry design n ≡ o → AllPairs (λ t u. t ≢ u) (entry_terminals o)
    by None none = no_terminals
    by (Some net) is = (all_at (IsNet design false) design.nets n net has.nets.each is).once

  special_once : AllPairs (λ t u. t ≢ u) (entry_terminals (special_entry design n))
  special_once = by (special_entry design n) refl where
    by : (o : Option NetModel) → special_entry design n ≡ o → AllPairs (λ t u. t ≢ u) (entry_terminals o)
    by None none = no_terminals
    by (Some net) is =
        let of = special_is design has n net is in
        (all_at (IsNet design true) design.special of.k net has.special.each of.there).once

  terminals_once : (i j : ℕ) (t : Terminal) → slice_get (terminals_of design n) i ≡ Some t → slice_get (terminals_of design n) j ≡ Some t → i ≡ j
  unfolding terminals_of
  terminals_once i j t at too = by (get_cases first rest i t at) (get_cases first rest j t too) where
    first : List Terminal
    first = entry_terminals (regular_entry design n)

    is_new : Terminal → Bool
    is_new u = not (is_among u (entry_terminals (regular_entry design n)))

    rest : List Terminal
    rest = filter (λ u. not (is_among u (entry_terminals (regular_entry design n)))) (entry_terminals (special_entry design n))

    not_both : (k l : ℕ) → slice_get first k ≡ Some t → slice_get rest l ≡ Some t → ⊥
    not_both k l here there =
        let new : is_new t ≡ true = all_at (λ u. is_new u ≡ true) rest l t (filter_passes is_new (entry_terminals (special_entry design n))) there in
        let among : is_among t first ≡ true = among_from t first (contains_at first k t here) in
        false≢true (sym (ap not among) ∙ new)

    by : (slice_get first i ≡ Some t) ⊎ InSecond first rest i t → (slice_get first j ≡ Some t) ⊎ InSecond first rest j t → i ≡ j
    by (inl a) (inl b) = once_at first regular_once i j t a b
    by (inl a) (inr b) = absurd (not_both i b.j a b.there)
    by (inr a) (inl b) = absurd (not_both j a.j b a.there)
    by (inr a) (inr b) =
        let place : a.j ≡ b.j =
        once_at rest (AllPairs-filter (λ t u. t ≢ u) is_new (entry_terminals (special_entry design n)) special_once) a.j b.j t a.there b.there in
        a.place ∙ ap (λ k. length first + k) place ∙ sym b.place

  -- a terminal's place is the one where it stands
  pub place_is : (k : ℕ) (t : Terminal) → slice_get (terminals_of design n) k ≡ Some t → place_among t (terminals_of design n) ≡ Some k
  place_is k t at =
      let place = has_place t (terminals_of design n) (among_from t (terminals_of design n) (contains_at (terminals_of design n) k t at)) in
      place.is ∙ ap Some (terminals_once place.k k t (at_place t (terminals_of design n) place.k place.is) at)
