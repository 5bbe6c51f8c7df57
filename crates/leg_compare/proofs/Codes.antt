-- Values of designs are equal or not: each has a code, which is a tree of numbers.
use Rattle.std.proofs.Common.{◌≡◌, ◌≢◌, ℕ, ◌⊎◌, inl, inr, List, [], ◌∷◌, get_or, map, pos, Option, None, Some, refl, sym, ap, ◌∙◌, arith}
use Rattle.std.proofs.lemmas.Bool.{cases_order}
use base.Stored.{Gv, Coded, coded_ℕ, coded_list}
use base.Stored.Gv.{gnil, gnum, gcons}
use Rattle.leg_geom.specs.declared.place.Place.{Place}
use Rattle.leg_lib_records.specs.Records.{ViaModel}
use Rattle.leg_design_records.specs.declared.design.DesignFields.{the_code}
use Rattle.leg_design_records.specs.declared.records.Status.{Status}
use Rattle.leg_design_records.specs.declared.records.Component.{Component}
use Rattle.leg_design_records.specs.declared.records.Wire.{Wire}
use Rattle.leg_design_records.specs.declared.records.Wire.TheVariants.{ViaAt}
use Rattle.leg_design_records.specs.Records.{DesignModel, PortModel, PinModel, NetModel}
use Rattle.leg_rules.specs.Compare.Spelling.{SpelledWire}
use Rattle.leg_rules.specs.Compare.Spelling.SpelledWire.{metal, via}

pub numbers_told : (m n : ℕ) → (m ≡ n) ⊎ (m ≢ n)
numbers_told m n = elim (cases_order m n) [ inl same ↦ inl same | inr other ↦ inr (λ same. elim other [ inl less ↦ omega arith | inr more ↦ omega arith ]) ]

codes_told : (x y : Gv) → (x ≡ y) ⊎ (x ≢ y)
codes_told gnil gnil = inl refl
codes_told gnil (gnum n) = inr (λ same. let no : ⊥ = cc in no)
codes_told gnil (gcons c d) = inr (λ same. let no : ⊥ = cc in no)
codes_told (gnum m) gnil = inr (λ same. let no : ⊥ = cc in no)
codes_told (gnum m) (gnum n) = elim (numbers_told m n) [ inl same ↦ inl (ap gnum same) | inr other ↦ inr (λ same. other (let e : m ≡ n = cc in e)) ]
codes_told (gnum m) (gcons c d) = inr (λ same. let no : ⊥ = cc in no)
codes_told (gcons a b) gnil = inr (λ same. let no : ⊥ = cc in no)
codes_told (gcons a b) (gnum n) = inr (λ same. let no : ⊥ = cc in no)
codes_told (gcons a b) (gcons c d) = both (codes_told a c) (codes_told b d) where
  both : (a ≡ c) ⊎ (a ≢ c) → (b ≡ d) ⊎ (b ≢ d) → (gcons a b ≡ gcons c d) ⊎ (gcons a b ≢ gcons c d)
  both (inl p) (inl q) = inl (λ i. gcons (p i) (q i))
  both (inl p) (inr other) = inr (λ same. other (let e : b ≡ d = cc in e))
  both (inr other) second = inr (λ same. other (let e : a ≡ c = cc in e))

pub told : {A : Type 0} → Coded A → (x y : A) → (x ≡ y) ⊎ (x ≢ y)
told coded x y = elim (codes_told (coded.code x) (coded.code y)) [ inl same ↦ inl (coded.inj x y same) | inr other ↦ inr (λ same. other (ap coded.code same)) ]

-- what is kept in a design is told apart as designs are
pub told_in : {X : Type 0} (to : X → DesignModel) (from : DesignModel → X) → ((x : X) → from (to x) ≡ x) → (x y : X) → (x ≡ y) ⊎ (x ≢ y)
told_in to from back x y = elim (told (the_code ℕ coded_ℕ) (to x) (to y))
    [ inl same ↦ inl (sym (back x) ∙ ap from same ∙ back y) | inr other ↦ inr (λ same. other (ap to same)) ]

-- what is not other is the same
pub same_if : {P : Type 0} → P ⊎ (¬ P) → ¬ (¬ P) → P
same_if (inl p) not = p
same_if (inr never) not = absurd (not never)

module _ (d : DesignModel) where
  pub words_told : (x y : Option (List ℕ)) → (x ≡ y) ⊎ (x ≢ y)
  words_told x y = told_in (λ w. record d { divider = w }) (λ (e : DesignModel). e.divider) (λ w. refl) x y

  pub vias_told : (x y : ViaModel) → (x ≡ y) ⊎ (x ≢ y)
  vias_told x y = told_in (λ v. record d { vias = v ∷ [] }) (λ (e : DesignModel). get_or e.vias 0 x) (λ v. refl) x y

  pub places_told : Component → (x y : Option Place) → (x ≡ y) ⊎ (x ≢ y)
  places_told c x y = told_in (λ p. record d { components = record c { place = p } ∷ [] }) (λ (e : DesignModel). (get_or e.components 0 c).place)
      (λ p. refl) x y

  pub statuses_told : Component → (x y : Status) → (x ≡ y) ⊎ (x ≢ y)
  statuses_told c x y = told_in (λ s. record d { components = record c { status = s } ∷ [] }) (λ (e : DesignModel). (get_or e.components 0 c).status)
      (λ s. refl) x y

  pub ports_told : PinModel → (x y : List PortModel) → (x ≡ y) ⊎ (x ≢ y)
  ports_told p x y = told_in (λ ports. record d { pins = record p { ports = ports } ∷ [] }) (λ (e : DesignModel). (get_or e.pins 0 p).ports) (λ ports. refl) x y

  -- a spelled wire, kept as a net: of a via with its name, and marked by a use
  net_of : SpelledWire → NetModel
  net_of (metal wire) = record { name = []; usage = None; terminals = []; wires = wire ∷ [] }
  net_of (via name at) = record { name = name; usage = Some []; terminals = []; wires = ViaAt 0 at ∷ [] }

  wire_by : List ℕ → Option (List ℕ) → List Wire → SpelledWire
  wire_by name None [] = via name (record { x = pos 0; y = pos 0 })
  wire_by name None (wire ∷ wires) = metal wire
  wire_by name (Some word) [] = via name (record { x = pos 0; y = pos 0 })
  wire_by name (Some word) (ViaAt number at ∷ wires) = via name at
  wire_by name (Some word) (wire ∷ wires) = metal wire

  wire_back : (w : SpelledWire) → wire_by (net_of w).name (net_of w).usage (net_of w).wires ≡ w
  unfolding net_of wire_by
  wire_back (metal wire) = refl
  wire_back (via name at) = refl

  wires_back : (ws : List SpelledWire) → map (λ (n : NetModel). wire_by n.name n.usage n.wires) (map net_of ws) ≡ ws
  wires_back [] = refl
  wires_back (w ∷ ws) = λ i. wire_back w i ∷ wires_back ws i

  pub wires_told : (x y : List SpelledWire) → (x ≡ y) ⊎ (x ≢ y)
  wires_told x y = told_in (λ ws. record d { nets = map net_of ws }) (λ (e : DesignModel). map (λ (n : NetModel). wire_by n.name n.usage n.wires) e.nets)
      wires_back x y

pub names_told : (x y : List ℕ) → (x ≡ y) ⊎ (x ≢ y)
names_told x y = told (coded_list coded_ℕ) x y
