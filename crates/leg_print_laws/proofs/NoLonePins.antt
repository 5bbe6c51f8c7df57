-- A well-formed design gets no lone pins when it is read again: each is in some net, or its net isn't there.
use Rattle.std.proofs.Common.{◌≡◌, ℕ, suc, ◌+◌, Bool, true, false, ◌||◌, List, [], ◌∷◌, ◌++◌, Contains, ◌⊎◌, inl, inr, slice_get, Option, None, Some, refl, sym, ap, ◌∙◌, subst, arith}
use Rattle.std.specs.Str.{bytes_eq}
use Rattle.std.proofs.lemmas.Bool.{false≢true, or_right}
use Rattle.std.proofs.lemmas.List.{map-append}
use Rattle.std.proofs.lemmas.List.Elements.{Contains-append_cases}
use Rattle.leg_lex.specs.NameLookup.{place_of}
use Rattle.leg_design_records.specs.declared.records.Terminal.TheVariants.{Pin}
use Rattle.leg_design_records.specs.Terminals.{is_among}
use Rattle.leg_design_records.specs.Records.{PinModel, NetModel, net_names}
use Rattle.leg_design_records.specs.WellFormedNets.{IsInSomeNet}
use Rattle.leg_design_records.proofs.SameTerminal.{some_passes, among_from}
use Rattle.leg_grammar.specs.Def.LonePins.{NetLists, is_listed, to_named, with_lone_pin, with_lone_pins}

-- a name that two lists don't have is in neither
in_neither : (name : List ℕ) (a b : List (List ℕ)) → place_of name (a ++ b) ≡ None → (place_of name a ≡ None) × (place_of name b ≡ None)
in_neither name [] b none = (refl, none)
in_neither name (first ∷ a) b none = by (bytes_eq name first) refl (place_of name (a ++ b)) refl (in_neither name a b) where
  by : (same : Bool) → bytes_eq name first ≡ same → (found : Option ℕ) → place_of name (a ++ b) ≡ found
      → (place_of name (a ++ b) ≡ None → (place_of name a ≡ None) × (place_of name b ≡ None)) → (place_of name (first ∷ a) ≡ None) × (place_of name b ≡ None)
  by true is found at later = absurd (let e : ⊥ = cc (rw is at none) in e)
  by false is None at later = let parts = later at in (rw (is, parts.0) refl, parts.1)
  by false is (Some k) at later = absurd (let e : ⊥ = cc (rw (is, at) at none) in e)

listed : (nets special : List NetModel) (p : ℕ) (net : NetModel) → Contains (nets ++ special) net → Contains net.terminals (Pin p)
    → (is_listed (Pin p) nets || is_listed (Pin p) special) ≡ true
listed nets special p net there lists = by (Contains-append_cases nets special net there) where
  lists_it : (all : List NetModel) → Contains all net → is_listed (Pin p) all ≡ true
  lists_it all inside = some_passes (λ (n : NetModel). is_among (Pin p) n.terminals) all net inside (among_from (Pin p) net.terminals lists)

  by : Contains nets net ⊎ Contains special net → (is_listed (Pin p) nets || is_listed (Pin p) special) ≡ true
  by (inl first) = rw (lists_it nets first) refl
  by (inr later) = or_right (is_listed (Pin p) nets) (is_listed (Pin p) special) (lists_it special later)

named_nowhere : (lists : NetLists) (p : ℕ) (name : List ℕ) → place_of name (net_names (lists.nets ++ lists.special)) ≡ None
    → to_named lists p (Some name) ≡ lists
named_nowhere lists p name none =
    let parts =
    in_neither name (net_names lists.nets) (net_names lists.special)
    (ap (place_of name) (sym (map-append (λ (n : NetModel). n.name) lists.nets lists.special)) ∙ none) in
    rw (parts.0, parts.1) refl

one_stays : (lists : NetLists) (p : ℕ) (pin : PinModel) → IsInSomeNet (lists.nets ++ lists.special) p pin.net_name → with_lone_pin lists p pin ≡ lists
unfolding with_lone_pin
one_stays lists p pin is = by (is_listed (Pin p) lists.nets || is_listed (Pin p) lists.special) refl where
  named : (name : Option (List ℕ)) → IsInSomeNet (lists.nets ++ lists.special) p name
      → (is_listed (Pin p) lists.nets || is_listed (Pin p) lists.special) ≡ false → to_named lists p name ≡ lists
  named None is none = refl
  named (Some name) is none = place (place_of name (net_names (lists.nets ++ lists.special))) refl where
    place : (found : Option ℕ) → place_of name (net_names (lists.nets ++ lists.special)) ≡ found → to_named lists p (Some name) ≡ lists
    place None at = named_nowhere lists p name at
    place (Some k) at =
        let net = is (λ nowhere. let e : ⊥ = cc (sym at ∙ nowhere) in e) in
        absurd (false≢true (sym none ∙ listed lists.nets lists.special p net.0 net.1 net.2))

  by : (there : Bool) → (is_listed (Pin p) lists.nets || is_listed (Pin p) lists.special) ≡ there → with_lone_pin lists p pin ≡ lists
  by true at = rw at refl
  by false at = rw at (named pin.net_name is at)

next_number : (p k : ℕ) → p + suc k ≡ suc p + k
next_number p k = omega arith

pub no_lone_pins : (lists : NetLists) (p : ℕ) (pins : List PinModel)
    → ((k : ℕ) (pin : PinModel) → slice_get pins k ≡ Some pin → IsInSomeNet (lists.nets ++ lists.special) (p + k) pin.net_name)
    → with_lone_pins lists p pins ≡ lists
unfolding with_lone_pins
no_lone_pins lists p [] each = refl
no_lone_pins lists p (pin ∷ pins) each =
    ap (λ now. with_lone_pins now (suc p) pins) (one_stays lists p pin
    (subst (λ n. IsInSomeNet (lists.nets ++ lists.special) n pin.net_name) (last p) (each 0 pin refl)))
    ∙ no_lone_pins lists (suc p) pins (λ k one is. subst (λ n. IsInSomeNet (lists.nets ++ lists.special) n one.net_name) (next_number p k)
    (each (suc k) one is)) where
      last : (p : ℕ) → p + 0 ≡ p
      last p = omega arith
