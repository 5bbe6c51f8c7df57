-- The terminals of a net are read back.
use Rattle.std.proofs.Common.{◌≡◌, ◌≢◌, ℕ, Bool, true, false, not, ◌&&◌, List, [], ◌∷◌, ◌++◌, All, AllPairs, Contains, length, slice_get, Some, codes, refl, sym, ◌∙◌, subst, arith}
use Rattle.std.specs.List.{flat_map}
use Rattle.std.specs.Str.{bytes_eq}
use Rattle.std.proofs.lemmas.Bool.{false≢true, and_parts, and_right}
use Rattle.std.proofs.Math.Seq.{get_or-append_seam}
use Rattle.std.proofs.lemmas.List.{get_or_append_left}
use Rattle.leg_lemmas.proofs.Places.{there_is, all_at}
use Rattle.leg_lex.specs.Words.{Words, is_keyword, is_name, next_at, mark_at, name_at}
use Rattle.leg_lex.specs.Until.{until, over}
use Rattle.leg_lex.proofs.NameLookup.{name_itself}
use Rattle.leg_output.specs.Words.{stays_one}
use Rattle.leg_print_words.proofs.LeadingBlanks.{first_passes, others_pass}
use Rattle.leg_lib_records.specs.Records.{MasterModel, MasterPinModel}
use Rattle.leg_lib_records.specs.References.{IsMasterOf}
use Rattle.leg_lib_records.specs.Sound.{IsSound}
use Rattle.leg_design_records.specs.declared.records.Component.{Component}
use Rattle.leg_design_records.specs.declared.records.Terminal.{Terminal}
use Rattle.leg_design_records.specs.declared.records.Terminal.TheVariants.{Comp, Pin}
use Rattle.leg_design_records.specs.Terminals.{is_among}
use Rattle.leg_design_records.specs.Records.{DesignModel, NetModel, PinModel}
use Rattle.leg_design_records.specs.WellFormedParts.{IsComponent, AreComponents, IsPin, ArePins}
use Rattle.leg_design_records.specs.WellFormedNets.{IsTerminal}
use Rattle.leg_design_records.proofs.SameTerminal.{passes_from, among_contains}
use Rattle.leg_grammar.specs.declared.profile.Profile.TheVariants.{Narrow}
use Rattle.leg_grammar.specs.Def.Terminal.{one_terminal_at, past_synthesized, terminals_at, is_of_other_net, add_terminal, terminal_form, at_no_terminal}
use Rattle.leg_grammar.specs.Def.Parts.{net_scope}
use Rattle.leg_design_nets.proofs.NetEntries.{terminal_form_shortens}
use Rattle.leg_design_records.specs.Names.{component_pin_name, component_name, design_pin_name}
use Rattle.leg_output.specs.Text.Nets.{terminal_words}
use Rattle.leg_print_laws.specs.PrintedNames.{StayOne, terminal_names}
use Rattle.leg_print_laws.proofs.FreeWords.{AreFree, free_literal, free_name, free_nil, free_cons}
use Rattle.leg_print_laws.proofs.Again.{all_again}
use Rattle.leg_print_laws.proofs.NumberedNames.{found, name_is, within, middle}
use Rattle.leg_print_laws.proofs.Wires.{no_mark}

-- What is known of the two names of a pin of a component.
record ArePinNames (design : DesignModel) (c k : ℕ) : Type 0 where
  component : Component
  master : MasterModel
  pin : MasterPinModel
  component_there : slice_get design.components c ≡ Some component
  master_there : slice_get design.library.masters component.master ≡ Some master
  pin_there : slice_get master.pins k ≡ Some pin

pin_names_are : (design : DesignModel) (c k : ℕ) → IsTerminal design (Comp c k) → ArePinNames design c k
pin_names_are design c k is =
    let pin = there_is is.2.0.pins k is.2.2 in record {
      component = is.0;
      master = is.2.0;
      pin = pin.0;
      component_there = is.1;
      master_there = is.2.1;
      pin_there = pin.1;
    }

module _ (design : DesignModel) (sound : IsSound design.library) (components : AreComponents design.library design.components)
    (pins : ArePins design.library design.pins) where
  comp_again : (special : Bool) (c k : ℕ) (rest : Words) → ArePinNames design c k
      → terminals_at (net_scope Narrow design) special (terminal_words design (Comp c k) ++ rest) ≡ Some (Comp c k ∷ [], rest)
  unfolding terminals_at one_terminal_at past_synthesized mark_at name_at next_at
  comp_again special c k rest are =
      let one : IsComponent design.library are.component =
      all_at (IsComponent design.library) design.components c are.component components.each are.component_there in
      let macro : IsMasterOf design.library are.master =
      all_at (IsMasterOf design.library) design.library.masters are.component.master are.master sound.references.masters are.master_there in
      rw (
        are.component_there,
        are.master_there,
        are.pin_there,
        and_right special (is_keyword (codes "*") are.component.name) (no_mark 42 refl (omega arith) are.component.name one.name),
        one.name,
        name_is (λ (p : MasterPinModel). p.name) are.master.pins k are.pin are.pin_there macro.pin_names.each,
        one.no_pin,
        found (λ (x : Component). x.name) design.components c are.component are.component_there components.apart,
        are.component_there,
        are.master_there,
        found (λ (p : MasterPinModel). p.name) are.master.pins k are.pin are.pin_there macro.pin_names.apart,
      ) refl

  pin_again : (special : Bool) (p : ℕ) (pin : PinModel) (rest : Words) → slice_get design.pins p ≡ Some pin
      → terminals_at (net_scope Narrow design) special (terminal_words design (Pin p) ++ rest) ≡ Some (Pin p ∷ [], rest)
  unfolding terminals_at one_terminal_at past_synthesized mark_at name_at next_at
  pin_again special p pin rest is =
      rw (
        is,
        and_right special (is_keyword (codes "*") (codes "PIN")) refl,
        (all_at (IsPin design.library) design.pins p pin pins.each is).name,
        found (λ (x : PinModel). x.name) design.pins p pin is pins.apart,
      ) refl

  pub terminal_again : (special : Bool) (terminal : Terminal) (rest : Words) → IsTerminal design terminal
      → terminals_at (net_scope Narrow design) special (terminal_words design terminal ++ rest) ≡ Some (terminal ∷ [], rest)
  terminal_again special (Comp c k) rest is = comp_again special c k rest (pin_names_are design c k is)
  terminal_again special (Pin p) rest is = let pin = there_is design.pins p is in pin_again special p pin.0 rest pin.1

  -- the words of a terminal stay words
  pub terminal_free : (terminal : Terminal) → IsTerminal design terminal → StayOne (terminal_names design terminal) → AreFree (terminal_words design terminal)
  terminal_free (Comp c k) is one =
      let are = pin_names_are design c k is in
      let component : IsComponent design.library are.component =
      all_at (IsComponent design.library) design.components c are.component components.each are.component_there in
      let macro : IsMasterOf design.library are.master =
      all_at (IsMasterOf design.library) design.library.masters are.component.master are.master sound.references.masters are.master_there in
      let first : is_name (component_name design c) ≡ true = rw are.component_there component.name in
      let next : is_name (component_pin_name design c k) ≡ true =
      rw (are.component_there, are.master_there, are.pin_there)
      (name_is (λ (p : MasterPinModel). p.name) are.master.pins k are.pin are.pin_there macro.pin_names.each) in
      free_cons (free_literal (codes "(") refl refl refl)
      (free_cons (free_name (component_name design c) first (first_passes stays_one (component_name design c) (component_pin_name design c k ∷ []) one))
      (free_cons (free_name (component_pin_name design c k) next
      (first_passes stays_one (component_pin_name design c k) [] (others_pass stays_one (component_name design c) (component_pin_name design c k ∷ []) one)))
      (free_cons (free_literal (codes ")") refl refl refl) free_nil)))
  terminal_free (Pin p) is one =
      let pin = there_is design.pins p is in
      let named : is_name (design_pin_name design p) ≡ true = rw (pin.1) (all_at (IsPin design.library) design.pins p pin.0 pins.each pin.1).name in
      free_cons (free_literal (codes "(") refl refl refl) (free_cons (free_literal (codes "PIN") refl refl refl)
      (free_cons (free_name (design_pin_name design p) named (first_passes stays_one (design_pin_name design p) [] one))
      (free_cons (free_literal (codes ")") refl refl refl) free_nil)))

-- a terminal that is listed once isn't among those before it
once_before : (before : List Terminal) (t : Terminal) (after : List Terminal) → AllPairs (λ t u. t ≢ u) (before ++ (t ∷ after)) → is_among t before ≡ false
once_before before t after once = by (is_among t before) refl where
  by : (among : Bool) → is_among t before ≡ among → is_among t before ≡ false
  by false is = is
  by true is =
      let there = among_contains t before is in
      absurd (once there.0 (length before) t there.1 (within before t after)
      (get_or_append_left before (t ∷ after) t there.0 there.1 ∙ there.2 ∙ sym (get_or-append_seam before t after t)))

-- entries that list it have this name
no_other_net : (name : List ℕ) (t : Terminal) (nets : List NetModel) → ((net : NetModel) → Contains nets net → Contains net.terminals t → net.name ≡ name)
    → is_of_other_net name t nets ≡ false
no_other_net name t nets same = by (is_of_other_net name t nets) refl where
  by : (other : Bool) → is_of_other_net name t nets ≡ other → is_of_other_net name t nets ≡ false
  by false is = is
  by true is =
      let it = passes_from (λ (net : NetModel). not (bytes_eq net.name name) && is_among t net.terminals) nets is in
      let facts = and_parts (not (bytes_eq it.it.name name)) (is_among t it.it.terminals) it.passes in
      let named : it.it.name ≡ name = same it.it it.in_list (among_contains t it.it.terminals facts.1) in
      let equal : bytes_eq it.it.name name ≡ true = rw named (name_itself name) in
      absurd (false≢true (rw equal at (facts.0)))

module _ (design : DesignModel) (sound : IsSound design.library) (components : AreComponents design.library design.components)
    (pins : ArePins design.library design.pins)
    (special : Bool) (name : List ℕ) (nets : List NetModel) where
  form_again : (before : List Terminal) (t : Terminal) (rest : Words) → IsTerminal design t → is_among t before ≡ false → is_of_other_net name t nets ≡ false
      → terminal_form (net_scope Narrow design) special name nets before (terminal_words design t ++ rest) ≡ Some (before ++ t ∷ [], rest)
  unfolding terminal_form over add_terminal
  form_again before t rest is new own = rw (terminal_again design sound components pins special t rest is, own, new) refl

  pub terminals_again : (terminals : List Terminal) (last : Words) → All (IsTerminal design) terminals → AllPairs (λ t u. t ≢ u) terminals
      → ((net : NetModel) (t : Terminal) → Contains nets net → Contains net.terminals t → Contains terminals t → net.name ≡ name) → at_no_terminal last ≡ true
      → until at_no_terminal (terminal_form (net_scope Narrow design) special name nets) [] (flat_map (terminal_words design) terminals ++ last) ≡ Some
      (terminals, last)
  terminals_again terminals last each once own ends =
      all_again at_no_terminal (terminal_form (net_scope Narrow design) special name nets) (terminal_words design) (λ ts. ts) last
      (terminal_form_shortens (net_scope Narrow design) special name nets) ends [] terminals
      (λ before t after is. record {
        goes = refl;
        read = form_again before t _ (middle (IsTerminal design) terminals before t after is each)
            (once_before before t after (subst (AllPairs (λ t u. t ≢ u)) is once))
            (no_other_net name t nets (λ net there lists. own net t there lists
            (rw is (length before, within before t after, get_or-append_seam before t after t))));
      })
