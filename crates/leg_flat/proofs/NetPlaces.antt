-- Where terminals are, once the nets below a number are known.
use Rattle.std.proofs.Common.{◌≡◌, ℕ, zero, suc, ◌+◌, ◌<◌, ◌==◌, Bool, true, false, not, List, ◌++◌, filter, Option, None, Some, refl, sym, ap, ◌∙◌, arith}
use Rattle.std.proofs.lemmas.Bool.{true≢false}
use Rattle.std.proofs.lemmas.Bool.Decides.{nat_tests}
use Rattle.std.proofs.lemmas.List.Folds.{list_any-append}
use Rattle.leg_design_records.specs.declared.records.Terminal.{Terminal}
use Rattle.leg_design_records.specs.Terminals.{is_same_terminal, is_among}
use Rattle.leg_design_records.specs.Records.{DesignModel}
use Rattle.leg_design_records.specs.WellFormedNets.{HasNets}
use Rattle.leg_rules.specs.Metal.Nets.{special_entry, regular_entry, entry_terminals, terminals_of}
use Rattle.leg_rules.specs.Metal.Owner.{net_of, place_among}
use Rattle.leg_flat.specs.Steps.PlacesBelow.{place_below}
use Rattle.leg_flat.proofs.PlacesAmong.{placed_among}
use Rattle.leg_flat.proofs.MorePlaces.{among_filter}
use Rattle.leg_flat.proofs.NetTerminals.{regular_in, special_in}

-- what passes is among the terminals
pub filter_among : (t : Terminal) (p : Terminal → Bool) (ts : List Terminal) → is_among t (filter p ts) ≡ true → is_among t ts ≡ true
filter_among t p ts among = by (is_among t ts) refl where
  by : (b : Bool) → is_among t ts ≡ b → b ≡ true
  by true is = refl
  by false other = absurd (true≢false (sym among ∙ among_filter t p ts other))

module _ (design : DesignModel) (has : HasNets design) where
  -- a terminal of a net is in the net
  pub in_net : (n : ℕ) (t : Terminal) → is_among t (terminals_of design n) ≡ true → net_of design t ≡ Some n
  unfolding terminals_of
  in_net n t among = by (is_among t first) refl (is_among t rest) refl where
    first : List Terminal
    first = entry_terminals (regular_entry design n)

    rest : List Terminal
    rest = filter (λ t. not (is_among t first)) (entry_terminals (special_entry design n))

    by : (a : Bool) → is_among t first ≡ a → (b : Bool) → is_among t rest ≡ b → net_of design t ≡ Some n
    by true here b is = regular_in design has n t here
    by false other true here =
        special_in design has n t (filter_among t (λ t. not (is_among t first)) (entry_terminals (special_entry design n)) here)
    by false other false neither =
        let none : is_among t (first ++ rest) ≡ false = list_any-append (is_same_terminal t) first rest ∙ rw (other, neither) refl in
        absurd (true≢false (sym among ∙ none))

  -- a terminal that is known is in a net below, as that piece
  pub record IsBelow (n : ℕ) (t : Terminal) (place : ℕ × ℕ) : Type 0 where
    pub less : place.0 < n
    pub is : place_among t (terminals_of design place.0) ≡ Some place.1

  pub below_is : (n : ℕ) (t : Terminal) (place : ℕ × ℕ) → place_below design n t ≡ Some place → IsBelow n t place
  unfolding place_below
  below_is zero t place found = absurd (let e : ⊥ = cc in e)
  below_is (suc n) t place found =
      by (below_is n t) (place_below design n t) refl (place_among t (terminals_of design n)) refl where
        by : ((p : ℕ × ℕ) → place_below design n t ≡ Some p → IsBelow n t p) → (o : Option (ℕ × ℕ)) → place_below design n t ≡ o → (k : Option ℕ)
            → place_among t (terminals_of design n) ≡ k → IsBelow (suc n) t place
        by rest (Some p) is k at =
            let e : ◌≡◌ {A = Option (ℕ × ℕ)} (Some p) (Some place) = rw is at found in
            let same : p ≡ place = cc in
            let before = rest place (is ∙ e) in
            record { less = omega (arith, before.less); is = before.is }
        by rest None is None at = let e : ◌≡◌ {A = Option (ℕ × ℕ)} None (Some place) = rw (is, at) at found in absurd (let f : ⊥ = cc in f)
        by rest None is (Some j) at =
            let e : ◌≡◌ {A = Option (ℕ × ℕ)} (Some (n, 0 + j)) (Some place) = rw (is, at) at found in
            let same : ◌≡◌ {A = ℕ × ℕ} (n, 0 + j) place = cc in
            let net : n ≡ place.0 = ap (λ (p : ℕ × ℕ). p.0) same in
            let piece : 0 + j ≡ place.1 = ap (λ (p : ℕ × ℕ). p.1) same in
            let which : j ≡ place.1 = omega (arith, piece) in
            record { less = omega (arith, net); is = rw (← net) (at ∙ ap Some which) }

  -- a terminal that isn't known is in no net below
  pub none_below : (n : ℕ) (t : Terminal) → place_below design n t ≡ None → (m : ℕ) → m < n → place_among t (terminals_of design m) ≡ None
  unfolding place_below
  none_below zero t none m less = absurd (let e : ⊥ = omega arith in e)
  none_below (suc n) t none m less = by (none_below n t) (place_below design n t) refl (place_among t (terminals_of design n)) refl (m == n) refl where
    by : (place_below design n t ≡ None → (m : ℕ) → m < n → place_among t (terminals_of design m) ≡ None) → (o : Option (ℕ × ℕ)) → place_below design n t ≡ o
        → (k : Option ℕ) → place_among t (terminals_of design n) ≡ k → (last : Bool) → (m == n) ≡ last → place_among t (terminals_of design m) ≡ None
    by rest (Some p) is k at last same = let e : ◌≡◌ {A = Option (ℕ × ℕ)} (Some p) None = rw is at none in absurd (let f : ⊥ = cc in f)
    by rest None is (Some j) at last same = let e : ◌≡◌ {A = Option (ℕ × ℕ)} (Some (n, 0 + j)) None = rw (is, at) at none in absurd (let f : ⊥ = cc in f)
    by rest None is None at true same = let it : m ≡ n = grind (arith, nat_tests, same) in rw it at
    by rest None is None at false other = rest is m (grind (arith, nat_tests, other, less))

  -- a terminal of the net n is in no net below
  pub not_below : (n : ℕ) (t : Terminal) → net_of design t ≡ Some n → place_below design n t ≡ None
  not_below n t of = by (place_below design n t) refl where
    by : (o : Option (ℕ × ℕ)) → place_below design n t ≡ o → o ≡ None
    by None is = refl
    by (Some place) found =
        let below = below_is n t place found in
        let net : net_of design t ≡ Some place.0 = in_net place.0 t (placed_among t (terminals_of design place.0) place.1 below.is) in
        let e : ◌≡◌ {A = Option ℕ} (Some n) (Some place.0) = sym of ∙ net in
        let same : n ≡ place.0 = cc in
        absurd (let f : ⊥ = omega (arith, below.less, same) in f)
