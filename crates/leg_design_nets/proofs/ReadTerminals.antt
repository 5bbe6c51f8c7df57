-- Terminals that are read are pins that are there, each once in its entry, and in no other net.
use Rattle.std.proofs.Common.{◌≡◌, ◌≢◌, ℕ, suc, ◌+◌, ◌<◌, Bool, false, ◌&&◌, List, [], ◌∷◌, length, slice_get, All, AllPairs, Option, None, Some, codes, refl, arith}
use Rattle.std.proofs.lemmas.List.Elements.{All-nil, All-cons, All-push}
use Rattle.std.proofs.lemmas.List.Quantifiers.{all_pairs_push}
use Rattle.leg_lex.specs.Words.{Words, is_keyword, is_at, mark_at, name_at}
use Rattle.leg_lex.specs.NameLookup.{place_of}
use Rattle.leg_lex.proofs.GivesAll.{named_gives_within}
use Rattle.leg_lib_records.specs.Records as library
use Rattle.leg_lib_records.specs.Records.{MasterModel}
use Rattle.leg_design_records.specs.declared.records.Component.{Component}
use Rattle.leg_design_records.specs.declared.records.Terminal.{Terminal}
use Rattle.leg_design_records.specs.declared.records.Terminal.TheVariants.{Comp, Pin}
use Rattle.leg_grammar.specs.Def.NetScope.{NetScopeModel}
use Rattle.leg_design_records.specs.Records.{PinModel, NetModel, component_names}
use Rattle.leg_design_records.specs.Terminals.{is_among}
use Rattle.leg_grammar.specs.Def.Terminal.{pin_of_component, with_pin, pins_of_all, component_terminal, pin_terminal, one_terminal_at, all_terminals_at, past_synthesized, terminals_at, is_of_other_net, add_terminal, terminal_form}
use Rattle.leg_design_common.proofs.Gives.{Gives, gives_none, gives_some, gives_bind, gives_skip, gives_choice, gives_if, gives_itself, each_gives}
use Rattle.leg_design_nets.proofs.TerminalsOfEntries.{not_among}

module _ (scope : NetScopeModel) where
  -- a component of this number has a pin of this number
  record HasPin (component : Component) (k : ℕ) : Type 0 where
    master : MasterModel
    there : slice_get scope.library.masters component.master ≡ Some master
    within : k < length master.pins

  -- a terminal of what is read before the nets
  abbrev pub IsKnownTerminal : Terminal → Type 0
  IsKnownTerminal (Comp c k) =
      (component : Component) × (slice_get scope.components c ≡ Some component)
      × ((master : MasterModel) × (slice_get scope.library.masters component.master ≡ Some master) × (k < length master.pins))
  IsKnownTerminal (Pin p) = p < length scope.pins

  abbrev pub AreKnown : List Terminal → Type 0
  AreKnown terminals = All IsKnownTerminal terminals

  has_pin : (component : Component) (name : List ℕ) → Gives (HasPin component) (pin_of_component scope.library component name)
  has_pin component name =
      gives_bind (gives_itself (slice_get scope.library.masters component.master)) (λ master there.
      record {
        given = λ k is. record {
          master = master;
          there = there;
          within = (named_gives_within (λ (p : library.MasterPinModel). p.name) name master.pins).given k is;
        };
      })

  component_gives : (of_component name : List ℕ) → Gives IsKnownTerminal (component_terminal scope of_component name)
  component_gives of_component name =
      gives_skip (place_of of_component (component_names scope.components)) (λ c.
      gives_bind (gives_itself (slice_get scope.components c)) (λ component there.
      gives_bind (has_pin component name) (λ k has.
      gives_some _ (component, there, (has.master, has.there, has.within)))))

  pin_gives : (name : List ℕ) → Gives IsKnownTerminal (pin_terminal scope name)
  pin_gives name =
      gives_bind (named_gives_within (λ (p : PinModel). p.name) name scope.pins) (λ p less.
      gives_some _ less)

  one_gives : (words : Words) → Gives (λ said. AreKnown said.0) (one_terminal_at scope words)
  unfolding one_terminal_at
  one_gives words =
      gives_skip (name_at words) (λ of_component.
      gives_skip (name_at of_component.1) (λ name.
      gives_bind (gives_if (is_keyword (codes "PIN") of_component.0) (pin_gives name.0) (component_gives of_component.0 name.0)) (λ terminal is.
      gives_some _ (All-cons IsKnownTerminal terminal [] is (All-nil IsKnownTerminal)))))

  with_pin_known : (c : ℕ) (component : Component) (name : List ℕ) (terminals : List Terminal) → slice_get scope.components c ≡ Some component
      → AreKnown terminals → AreKnown (with_pin c (pin_of_component scope.library component name) terminals)
  with_pin_known c component name terminals there each = by (pin_of_component scope.library component name) refl where
    by : (pin : Option ℕ) → pin_of_component scope.library component name ≡ pin → AreKnown (with_pin c pin terminals)
    by None is = each
    by (Some k) is =
        let has = (has_pin component name).given k is in
        All-cons IsKnownTerminal (Comp c k) terminals (component, there, (has.master, has.there, has.within)) each

  -- the components from this number on
  abbrev StandFrom : ℕ → List Component → Type 0
  StandFrom c components = (i : ℕ) (component : Component) → slice_get components i ≡ Some component → slice_get scope.components (c + i) ≡ Some component

  all_known : (name : List ℕ) (c : ℕ) (components : List Component) → StandFrom c components → AreKnown (pins_of_all scope.library name c components)
  unfolding pins_of_all
  all_known name c [] stand = All-nil IsKnownTerminal
  all_known name c (component ∷ components) stand =
      let first : c + 0 ≡ c = omega arith in
      let later : StandFrom (suc c) components = λ i x is.
      let next : c + suc i ≡ suc c + i = omega arith in
      rw (← next) (stand (suc i) x is) in
      with_pin_known c component name (pins_of_all scope.library name (suc c) components) (rw first at (stand 0 component refl))
      (all_known name (suc c) components later)

  all_give : (words : Words) → Gives (λ said. AreKnown said.0) (all_terminals_at scope words)
  unfolding all_terminals_at
  all_give words =
      gives_skip (mark_at 42 words) (λ star.
      gives_skip (name_at star.1) (λ name.
      gives_some _ (all_known name.0 0 scope.components (λ i component is. let same : 0 + i ≡ i = omega arith in rw same is))))

  terminals_give : (special : Bool) (words : Words) → Gives (λ said. AreKnown said.0) (terminals_at scope special words)
  unfolding terminals_at
  terminals_give special words =
      gives_skip (mark_at 40 words) (λ open_.
      gives_bind (gives_if (special && is_at (codes "*") open_.1) (all_give open_.1) (one_gives open_.1)) (λ terminals each.
      gives_skip (past_synthesized terminals.1) (λ past.
      gives_skip (mark_at 41 past.1) (λ close.
      gives_some _ each))))

  -- the terminals of the net of this name, beside these entries
  pub record AreTerminals (name : List ℕ) (nets : List NetModel) (terminals : List Terminal) : Type 0 where
    pub each : AreKnown terminals
    pub once : AllPairs (λ t u. t ≢ u) terminals
    pub alone : All (λ t. is_of_other_net name t nets ≡ false) terminals

  add_gives : (name : List ℕ) (nets : List NetModel) (terminals : List Terminal) (t : Terminal) → AreTerminals name nets terminals → IsKnownTerminal t
      → Gives (AreTerminals name nets) (add_terminal name nets terminals t)
  unfolding add_terminal
  add_gives name nets terminals t before is =
      gives_choice (is_of_other_net name t nets) (λ elsewhere. gives_none) (λ alone.
      gives_choice (is_among t terminals) (λ again. gives_some terminals before) (λ new.
      gives_some _ (record {
        each = All-push IsKnownTerminal terminals t before.each is;
        once = all_pairs_push (λ t u. t ≢ u) terminals t before.once (not_among t terminals new);
        alone = All-push (λ u. is_of_other_net name u nets ≡ false) terminals t before.alone alone;
      })))

  pub no_terminals : (name : List ℕ) (nets : List NetModel) → AreTerminals name nets []
  no_terminals name nets = record {
    each = All-nil IsKnownTerminal;
    once = λ i j d less within. absurd (omega arith);
    alone = All-nil (λ t. is_of_other_net name t nets ≡ false);
  }

  pub terminal_gives : (special : Bool) (name : List ℕ) (nets : List NetModel) (terminals : List Terminal) (words : Words) → AreTerminals name nets terminals
      → Gives (λ said. AreTerminals name nets said.0) (terminal_form scope special name nets terminals words)
  unfolding terminal_form
  terminal_gives special name nets terminals words before =
      gives_bind (terminals_give special words) (λ said each.
      gives_bind (each_gives (AreTerminals name nets) IsKnownTerminal (add_terminal name nets) (add_gives name nets) terminals said.0 before each) (λ more are.
      gives_some _ are))
