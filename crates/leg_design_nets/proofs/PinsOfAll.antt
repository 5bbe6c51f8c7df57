-- The pins of one name of many components: those of rising numbers among which is each component that has such a pin
-- are the pins of all components.
use Rattle.std.proofs.Common.{◌≡◌, ℕ, zero, suc, ◌+◌, ◌-◌, ◌<◌, ◌≤◌, true, List, [], ◌∷◌, ◌++◌, length, get_or, drop, slice_get, is_some, Contains, Option, None, Some, refl, sym, ap, ◌∙◌, inl, inr, arith, add-one}
use Rattle.std.specs.List.Sorted.{IsStrictlyIncreasing}
use Rattle.std.proofs.lemmas.Bool.{cases_eq}
use Rattle.std.proofs.lemmas.List.{drop_all, append_assoc, append-nil}
use Rattle.leg_lex.proofs.EachElement.{at_front}
use Rattle.leg_design_records.specs.declared.records.Component.{Component}
use Rattle.leg_design_records.specs.declared.records.Terminal.{Terminal}
use Rattle.leg_design_records.specs.declared.records.Terminal.TheVariants.{Comp}
use Rattle.leg_grammar.specs.Def.NetScope.{NetScopeModel}
use Rattle.leg_grammar.specs.Def.Terminal.{pin_of_component, pins_of_all}
use Rattle.leg_design_nets.specs.Steps.Pins.{pin_of_numbered, pins_of_these}

-- the numbers rise from this one on
Rising : ℕ → List ℕ → Type 0
Rising next [] = Unit {0}
Rising next (c ∷ numbers) = (next ≤ c) × Rising (suc c) numbers

rising_from : (numbers : List ℕ) (next : ℕ) → IsStrictlyIncreasing numbers → (0 < length numbers → next ≤ get_or numbers 0 0) → Rising next numbers
unfolding Rising
rising_from [] next rise first = tt
rising_from (c ∷ numbers) next rise first = (first (omega arith), rising_from numbers (suc c) later second) where
  later : IsStrictlyIncreasing numbers
  later k less =
      let step : get_or (c ∷ numbers) (suc k) 0 < get_or (c ∷ numbers) (suc k + 1) 0 = rise (suc k) (omega (arith, less)) in
      rw add-one (rw add-one at step)

  second : 0 < length numbers → suc c ≤ get_or numbers 0 0
  second some =
      let step : get_or (c ∷ numbers) 0 0 < get_or (c ∷ numbers) (0 + 1) 0 = rise 0 (omega (arith, some)) in
      step

above_at : (next : ℕ) (numbers : List ℕ) (n k : ℕ) → Rising next numbers → k < length numbers → get_or numbers k n ≡ n → next ≤ n
unfolding Rising
above_at next [] n k rise less is = absurd (omega (arith, less))
above_at next (c ∷ numbers) n zero rise less is = let least = rise.0 in omega (arith, least, is)
above_at next (c ∷ numbers) n (suc k) rise less is =
    let least = rise.0 in
    let above = above_at (suc c) numbers n k rise.1 (omega (arith, less)) is in
    omega (arith, least, above)

rising_above : (next : ℕ) (numbers : List ℕ) (n : ℕ) → Rising next numbers → Contains numbers n → next ≤ n
rising_above next numbers n rise there = above_at next numbers n there.0 rise there.1 there.2

later_at : (c : ℕ) (numbers : List ℕ) (n k : ℕ) → k < length (c ∷ numbers) → get_or (c ∷ numbers) k n ≡ n → suc c ≤ n → Contains numbers n
later_at c numbers n zero less is more = absurd (omega (arith, is, more))
later_at c numbers n (suc k) less is more = (k, omega (arith, less), is)

contains_later : (c : ℕ) (numbers : List ℕ) (n : ℕ) → Contains (c ∷ numbers) n → suc c ≤ n → Contains numbers n
contains_later c numbers n there more = later_at c numbers n there.0 there.1 there.2 more

module _ (scope : NetScopeModel) (name : List ℕ) where
  -- each number from this one on that has such a pin is among the numbers
  abbrev AreThere : ℕ → List ℕ → Type 0
  AreThere next numbers = (c : ℕ) → next ≤ c → is_some (pin_of_numbered scope c name) ≡ true → Contains numbers c

  -- these are the components from this number on
  abbrev StandFrom : ℕ → List Component → Type 0
  StandFrom next components = (i : ℕ) → slice_get scope.components (next + i) ≡ slice_get components i

  no_pins : (numbers : List ℕ) (next : ℕ) → Rising next numbers → ((c : ℕ) → next ≤ c → pin_of_numbered scope c name ≡ None)
      → pins_of_these scope name numbers ≡ []
  unfolding pins_of_these Rising
  no_pins [] next rise none = refl
  no_pins (c ∷ numbers) next rise none =
      let least = rise.0 in
      rw (none c least) (no_pins numbers (suc c) rise.1 (λ n more. none n (omega (arith, least, more))))

  nothing_beyond : (next c : ℕ) → StandFrom next [] → next ≤ c → pin_of_numbered scope c name ≡ None
  nothing_beyond next c stand more =
      let place : next + (c - next) ≡ c = omega (arith, more) in
      let nowhere : slice_get scope.components c ≡ None = rw place at (stand (c - next)) in
      rw nowhere refl

  -- a component that isn't among the numbers has no such pin
  has_none : (next : ℕ) (numbers : List ℕ) → AreThere next numbers → (Contains numbers next → ⊥) → pin_of_numbered scope next name ≡ None
  has_none next numbers there nowhere = by (pin_of_numbered scope next name) refl where
    by : (pin : Option ℕ) → pin_of_numbered scope next name ≡ pin → pin ≡ None
    by None is = refl
    by (Some k) is = absurd (nowhere (there next (omega arith) (ap (λ (o : Option ℕ). is_some o) is)))

  module _ (next : ℕ) (component : Component) (components : List Component) (stand : StandFrom next (component ∷ components)) where
    here : slice_get scope.components next ≡ Some component
    here = let place : next + 0 ≡ next = omega arith in rw place at (stand 0)

    later : StandFrom (suc next) components
    later i = let place : next + suc i ≡ suc next + i = omega arith in rw place at (stand (suc i))

    pin_here : pin_of_numbered scope next name ≡ pin_of_component scope.library component name
    pin_here = rw here refl

  all_pins : (components : List Component) (next : ℕ) (numbers : List ℕ) → StandFrom next components → Rising next numbers → AreThere next numbers
      → pins_of_these scope name numbers ≡ pins_of_all scope.library name next components
  unfolding pins_of_all pins_of_these Rising
  all_pins [] next numbers stand rise there = no_pins numbers next rise (λ c more. nothing_beyond next c stand more)
  all_pins (component ∷ components) next [] stand rise there =
      let none : pin_of_component scope.library component name ≡ None =
      sym (pin_here next component components stand) ∙ has_none next [] there (λ at. absurd (omega (arith, at.1))) in
      rw none (all_pins components (suc next) [] (later next component components stand) tt (λ c more is. there c (omega (arith, more)) is))
  all_pins (component ∷ components) next (c ∷ numbers) stand rise there =
      let least = rise.0 in
      elim (cases_eq c next) [
        | inl same ↦
            let others : AreThere (suc next) numbers = λ n more is. contains_later c numbers n (there n (omega (arith, more)) is) (omega (arith, same, more)) in
            let rest : pins_of_these scope name numbers ≡ pins_of_all scope.library name (suc next) components =
            all_pins components (suc next) numbers (later next component components stand) (rw same at rise.1) others in
            rw (same, rest, pin_here next component components stand) refl
        | inr apart ↦
            let above : suc next ≤ c = omega (arith, least, apart) in
            let nowhere : Contains (c ∷ numbers) next → ⊥ =
            λ at. let beyond = rising_above (suc next) (c ∷ numbers) next (above, rise.1) at in absurd (omega (arith, beyond)) in
            let none : pin_of_component scope.library component name ≡ None =
            sym (pin_here next component components stand) ∙ has_none next (c ∷ numbers) there nowhere in
            rw none (all_pins components (suc next) (c ∷ numbers) (later next component components stand) (above, rise.1)
            (λ n more is. there n (omega (arith, more)) is))
      ]

  pub pins_are_all : (numbers : List ℕ) → IsStrictlyIncreasing numbers → ((c : ℕ) → is_some (pin_of_numbered scope c name) ≡ true → Contains numbers c)
      → pins_of_these scope name numbers ≡ pins_of_all scope.library name 0 scope.components
  pins_are_all numbers rise there =
      all_pins scope.components 0 numbers (λ i. let place : 0 + i ≡ i = omega arith in
      rw place refl) (rising_from numbers 0 rise (λ some. omega arith)) (λ c more is. there c is)

  -- the pins of the components of the numbers from place i on, behind those that were found before
  abbrev pub behind : List Terminal → List ℕ → ℕ → List Terminal
  behind found numbers i = found ++ pins_of_these scope name (drop i numbers)

  pub one_has : (found more : List Terminal) (numbers : List ℕ) (i c k : ℕ) → i < length numbers → c ≡ get_or numbers i c
      → pin_of_numbered scope c name ≡ Some k → more ≡ found ++ Comp c k ∷ [] → behind found numbers i ≡ behind more numbers (i + 1)
  unfolding pins_of_these
  one_has found more numbers i c k less is has pushed =
      rw (at_front numbers i c less is, has, pushed, append_assoc) refl

  pub one_has_not : (found : List Terminal) (numbers : List ℕ) (i c : ℕ) → i < length numbers → c ≡ get_or numbers i c → pin_of_numbered scope c name ≡ None
      → behind found numbers i ≡ behind found numbers (i + 1)
  unfolding pins_of_these
  one_has_not found numbers i c less is has_not = rw (at_front numbers i c less is, has_not) refl

  pub all_seen : (found : List Terminal) (numbers : List ℕ) (i : ℕ) → length numbers ≤ i → behind found numbers i ≡ found
  unfolding pins_of_these
  all_seen found numbers i past = rw (drop_all i numbers past) (append-nil found)
