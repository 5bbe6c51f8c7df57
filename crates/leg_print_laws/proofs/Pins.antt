-- The entry of a pin of the design is read as the pin, and the section as all of them.
use Rattle.std.proofs.Common.{◌≡◌, ℕ, ◌<◌, ◌≤◌, true, false, List, [], ◌∷◌, ◌++◌, All, length, get_or, map, Option, None, Some, codes, refl, sym, ap, ◌∙◌, subst, arith}
use Rattle.std.specs.List.{list_all, flat_map}
use Rattle.std.proofs.lemmas.List.{append_assoc, append-nil}
use Rattle.std.proofs.lemmas.List.Elements.{All-nil, All-cons, All-append, All-head, All-tail}
use Rattle.leg_lex.specs.declared.limits.TheConstants.{NUMBER_LIMIT}
use Rattle.leg_lex.specs.Words.{Words, next_at, keyword_at, mark_at, name_at, word_at, nothing_at}
use Rattle.leg_lex.specs.NameLookup.{place_of, AreApart}
use Rattle.leg_lex.specs.Until.{over}
use Rattle.leg_lex.specs.Statements.{at_end}
use Rattle.leg_output.specs.Words.{stays_one, line, is_printable}
use Rattle.leg_print_words.proofs.LeadingBlanks.{first_passes, others_pass}
use Rattle.leg_print_words.proofs.Lines.{Lines, lines_of_words}
use Rattle.leg_geom.specs.declared.place.Place.{Place}
use Rattle.leg_lib_records.specs.declared.records.Shape.{Shape}
use Rattle.leg_lib_records.specs.Records.{LibraryModel}
use Rattle.leg_lib_records.specs.Sound.{IsSound}
use Rattle.leg_design_records.specs.declared.limits.TheConstants.{ENTRY_LIMIT}
use Rattle.leg_design_records.specs.declared.records.Status.{Status}
use Rattle.leg_design_records.specs.declared.records.Status.TheVariants.{Unplaced, Placed, Fixed, Cover}
use Rattle.leg_design_records.specs.Records.{DesignModel, PortModel, PinModel, pin_names}
use Rattle.leg_design_records.specs.WellFormedParts.{IsKept, IsNameIfAny, IsPlaced, IsMetalShape, IsPort, IsPin, ArePins}
use Rattle.leg_grammar.specs.declared.profile.Profile.TheVariants.{Narrow}
use Rattle.leg_grammar.specs.Def.NetScope.{NetScopeModel}
use Rattle.leg_grammar.specs.Def.Clause.{past_number}
use Rattle.leg_grammar.specs.Mask.{past_mask}
use Rattle.leg_grammar.specs.Def.Port.{layer_rect, past_rules}
use Rattle.leg_grammar.specs.Def.PinClauses as read
use Rattle.leg_grammar.specs.Def.PinClauses.{PinClauses, no_pin_clauses, net_of_pin, word_in, all_ports, port_start, port_rect, pin_net_clause, direction_clause, pin_use_clause, pin_clause}
use Rattle.leg_grammar.specs.Def.Pin.{pin_head, pin_in, pin_entry, pins_at}
use Rattle.leg_design_floorplan.proofs.Pins.{entry_shortens}
use Rattle.leg_output.specs.Text.Points.{corner_words}
use Rattle.leg_output.specs.Text.Clauses.{shape_clause, kept_clause, placement_clause}
use Rattle.leg_output.specs.Text.Pins.{port_place_lines, port_clauses, kept_clauses, pin_clauses, pin_said, pin_words}
use Rattle.leg_output.specs.Text.Whole.{pins_text}
use Rattle.leg_print_laws.proofs.Tests.{room_is}
use Rattle.leg_print_laws.specs.PrintedNames.{StayOne, kept_words, pin_entry_names, names_of_layers}
use Rattle.leg_print_laws.specs.Forms.{DenotesForm}
use Rattle.leg_print_laws.proofs.FreeWords.{AreInside, AreFree, IsFree, free_literal, free_name, free_word, free_nil, free_cons, inside_append}
use Rattle.leg_print_laws.proofs.Again.{said_again, clauses_again, over_append}
use Rattle.leg_print_laws.proofs.NumberedNames.{not_before, middle, fewer_before, each_passes, first_run_passes, next_run_passes}
use Rattle.leg_print_laws.proofs.Placements.{placed_again, placement_free}
use Rattle.leg_print_laws.proofs.Points.{corners_again}
use Rattle.leg_print_laws.proofs.Clauses.{clauses_inside, no_pluses, metal_named, layer_again, shapes_free}
use Rattle.leg_print_laws.proofs.Sections.{section_words, section_again, section_lines}
use Rattle.leg_print_laws.proofs.PrintableWords.{said_printable, line_says}

-- what the clauses said, as a record of its parts
abbrev parts_of : Option (List ℕ) → Option (List ℕ) → Option (List ℕ) → List PortModel → Option PortModel → PinClauses
parts_of net direction usage done last = record { net_name = net; direction = direction; usage = usage; done = done; last = last }

abbrev port_of : List Shape → Status → Option Place → PortModel
port_of shapes status place = record { shapes = shapes; status = status; place = place }

-- what pins may name, where this was read before them in the narrow profile
abbrev scope_of : LibraryModel → DesignModel → NetScopeModel
scope_of library before = record {
  profile = Narrow;
  library = library;
  vias = before.vias;
  turned = [];
  components = before.components;
  pins = before.pins;
  rules = [];
  rule = None;
}

module _ (design before : DesignModel) (sound : IsSound design.library) (net direction usage : Option (List ℕ)) (done : List PortModel) where
  -- one more clause of a pin
  abbrev clause : PinClauses → Words → Option PinClauses
  clause = pin_clause (scope_of design.library before)

  -- rectangles of the last port
  shape_again : (front : List Shape) (shape : Shape) → IsMetalShape design.library shape
      → clause (parts_of net direction usage done (Some (port_of front Unplaced None))) (shape_clause (codes "LAYER") design shape)
      ≡ Some (parts_of net direction usage done (Some (port_of (front ++ shape ∷ []) Unplaced None)))
  unfolding pin_clause port_rect layer_rect past_mask past_rules past_number keyword_at nothing_at next_at
  shape_again front shape is =
      rw (
        layer_again design sound shape.layer (corner_words shape.rect) (metal_named design sound shape is),
        corners_again shape.rect [] is.rect,
        is.metal,
      ) refl

  shapes_again : (front shapes : List Shape) → All (IsMetalShape design.library) shapes
      → over clause (parts_of net direction usage done (Some (port_of front Unplaced None)))
      (map (shape_clause (codes "LAYER") design) shapes)
      ≡ Some (parts_of net direction usage done (Some (port_of (front ++ shapes) Unplaced None)))
  unfolding over
  shapes_again front [] each = rw (append-nil front) refl
  shapes_again front (shape ∷ shapes) each =
      rw (shape_again front shape (All-head (IsMetalShape design.library) shape shapes each))
      (shapes_again (front ++ shape ∷ []) shapes (All-tail (IsMetalShape design.library) shape shapes each)
      ∙ ap (λ all. Some (parts_of net direction usage done (Some (port_of all Unplaced None)))) (append_assoc front (shape ∷ []) shapes))

  -- its place
  place_said : (shapes : List Shape) (status : Status) (place : Place) → IsPlaced status (Some place)
      → clause (parts_of net direction usage done (Some (port_of shapes Unplaced None))) (placement_clause status (Some place))
      ≡ Some (parts_of net direction usage done (Some (port_of shapes status (Some place))))
  unfolding pin_clause read.port_place
  place_said shapes Unplaced place is = absurd is
  place_said shapes Placed place is = rw (placed_again Placed place is) refl
  place_said shapes Fixed place is = rw (placed_again Fixed place is) refl
  place_said shapes Cover place is = rw (placed_again Cover place is) refl

  unplaced : (status : Status) → IsPlaced status None → status ≡ Unplaced
  unplaced Unplaced is = refl
  unplaced Placed is = absurd is
  unplaced Fixed is = absurd is
  unplaced Cover is = absurd is

  place_clauses_again : (shapes : List Shape) (status : Status) (place : Option Place) → IsPlaced status place
      → over clause (parts_of net direction usage done (Some (port_of shapes Unplaced None))) (port_place_lines status place)
      ≡ Some (parts_of net direction usage done (Some (port_of shapes status place)))
  unfolding over
  place_clauses_again shapes status None is = rw (unplaced status is) refl
  place_clauses_again shapes status (Some place) is = rw (place_said shapes status place is) refl

  -- the clauses behind PORT
  port_said : (port : PortModel) → IsPort design.library port
      → over clause (parts_of net direction usage done (Some (port_of [] Unplaced None)))
      (map (shape_clause (codes "LAYER") design) port.shapes ++ port_place_lines port.status port.place)
      ≡ Some (parts_of net direction usage done (Some port))
  port_said port is =
      over_append clause (map (shape_clause (codes "LAYER") design) port.shapes) (port_place_lines port.status port.place)
      (parts_of net direction usage done (Some (port_of [] Unplaced None))) (parts_of net direction usage done (Some (port_of port.shapes Unplaced None)))
      (shapes_again [] port.shapes is.shapes)
      ∙ place_clauses_again port.shapes port.status port.place is.placed

module _ (design before : DesignModel) (sound : IsSound design.library) (net direction usage : Option (List ℕ)) where
  -- PORT begins a port behind those before it
  port_again : (done : List PortModel) (last : Option PortModel) (port : PortModel) → IsPort design.library port
      → over (pin_clause (scope_of design.library before)) (parts_of net direction usage done last) (port_clauses design port)
      ≡ Some (parts_of net direction usage (all_ports (parts_of net direction usage done last)) (Some port))
  unfolding over pin_clause port_start keyword_at nothing_at next_at
  port_again done last port is = port_said design before sound net direction usage (all_ports (parts_of net direction usage done last)) port is

  -- what has been said of ports
  pub record HavePorts (parts : PinClauses) (ports : List PortModel) : Type 0 where
    pub done : List PortModel
    pub last : Option PortModel
    pub are : parts ≡ parts_of net direction usage done last
    pub ports_are : all_ports (parts_of net direction usage done last) ≡ ports

  ports_again : (done : List PortModel) (last : Option PortModel) (front ports : List PortModel) → all_ports (parts_of net direction usage done last) ≡ front
      → All (IsPort design.library) ports
      → (next : PinClauses)
      × (over (pin_clause (scope_of design.library before)) (parts_of net direction usage done last) (flat_map (port_clauses design) ports) ≡ Some next)
      × HavePorts next (front ++ ports)
  unfolding over
  ports_again done last front [] is each =
      (parts_of net direction usage done last, refl, record { done = done; last = last; are = refl; ports_are = is ∙ sym (append-nil front) })
  ports_again done last front (port ∷ ports) is each =
      let later =
      ports_again (all_ports (parts_of net direction usage done last)) (Some port) (front ++ port ∷ []) ports (ap (λ all. all ++ port ∷ []) is)
      (All-tail (IsPort design.library) port ports each) in (
        later.0,
        over_append (pin_clause (scope_of design.library before)) (port_clauses design port) (flat_map (port_clauses design) ports)
            (parts_of net direction usage done last)
            (parts_of net direction usage (all_ports (parts_of net direction usage done last)) (Some port))
            (port_again done last port (All-head (IsPort design.library) port ports each)) ∙ later.1,
        subst (HavePorts later.0) (append_assoc front (port ∷ []) ports) later.2,
      )

-- the words that are kept
module _ (scope : NetScopeModel) where
  net_kept : (net : Option (List ℕ)) → IsNameIfAny net
      → over (pin_clause scope) no_pin_clauses (kept_clause (codes "NET") net) ≡ Some (parts_of net None None [] None)
  unfolding over pin_clause pin_net_clause net_of_pin keyword_at name_at nothing_at next_at
  net_kept None is = refl
  net_kept (Some name) is = rw is refl

  direction_kept : (net direction : Option (List ℕ)) → IsKept direction
      → over (pin_clause scope) (parts_of net None None [] None) (kept_clause (codes "DIRECTION") direction) ≡ Some (parts_of net direction None [] None)
  unfolding over pin_clause direction_clause word_in keyword_at word_at nothing_at next_at
  direction_kept net None is = refl
  direction_kept net (Some word) is = rw is refl

  usage_kept : (net direction usage : Option (List ℕ)) → IsKept usage
      → over (pin_clause scope) (parts_of net direction None [] None) (kept_clause (codes "USE") usage) ≡ Some (parts_of net direction usage [] None)
  unfolding over pin_clause pin_use_clause word_in keyword_at word_at nothing_at next_at
  usage_kept net direction None is = refl
  usage_kept net direction (Some word) is = rw is refl

  kept_again : (pin : PinModel) → IsPin scope.library pin
      → over (pin_clause scope) no_pin_clauses (kept_clauses pin) ≡ Some (parts_of pin.net_name pin.direction pin.usage [] None)
  kept_again pin is =
      over_append (pin_clause scope) (kept_clause (codes "NET") pin.net_name ++ kept_clause (codes "DIRECTION") pin.direction)
      (kept_clause (codes "USE") pin.usage) no_pin_clauses (parts_of pin.net_name pin.direction None [] None)
      (over_append (pin_clause scope) (kept_clause (codes "NET") pin.net_name) (kept_clause (codes "DIRECTION") pin.direction) no_pin_clauses
      (parts_of pin.net_name None None [] None) (net_kept pin.net_name is.net_name)
      ∙ direction_kept pin.net_name pin.direction is.direction)
      ∙ usage_kept pin.net_name pin.direction pin.usage is.usage

-- a kept word as a clause
kept_free : (keyword : List ℕ) (word : Option (List ℕ)) → IsFree keyword → IsKept word → list_all stays_one (kept_words word) ≡ true
    → All AreFree (kept_clause keyword word)
kept_free keyword None key is one = All-nil AreFree
kept_free keyword (Some word) key is one =
    All-cons AreFree (keyword ∷ word ∷ []) [] (free_cons key (free_cons (free_word word is (first_passes stays_one word [] one)) free_nil)) (All-nil AreFree)

name_free : (keyword : List ℕ) (word : Option (List ℕ)) → IsFree keyword → IsNameIfAny word → list_all stays_one (kept_words word) ≡ true
    → All AreFree (kept_clause keyword word)
name_free keyword None key is one = All-nil AreFree
name_free keyword (Some word) key is one =
    All-cons AreFree (keyword ∷ word ∷ []) [] (free_cons key (free_cons (free_name word is (first_passes stays_one word [] one)) free_nil)) (All-nil AreFree)

place_clauses_free : (status : Status) (place : Option Place) → IsPlaced status place → All AreFree (port_place_lines status place)
place_clauses_free status None is = All-nil AreFree
place_clauses_free status (Some place) is = All-cons AreFree (placement_clause status (Some place)) [] (placement_free status (Some place) is) (All-nil AreFree)

module _ (design : DesignModel) (sound : IsSound design.library) where
  port_free : (port : PortModel) → IsPort design.library port → list_all stays_one (names_of_layers design port.shapes) ≡ true
      → All AreFree (port_clauses design port)
  port_free port is one =
      All-cons AreFree (codes "PORT" ∷ []) (map (shape_clause (codes "LAYER") design) port.shapes ++ port_place_lines port.status port.place)
      (free_cons (free_literal (codes "PORT") refl refl refl) free_nil)
      (All-append AreFree (map (shape_clause (codes "LAYER") design) port.shapes) (port_place_lines port.status port.place)
      (shapes_free design sound (codes "LAYER") port.shapes (free_literal (codes "LAYER") refl refl refl) is.shapes one)
      (place_clauses_free port.status port.place is.placed))

  ports_free : (ports : List PortModel) → All (IsPort design.library) ports
      → list_all stays_one (flat_map (λ (port : PortModel). names_of_layers design port.shapes) ports) ≡ true
      → All AreFree (flat_map (port_clauses design) ports)
  ports_free [] each one = All-nil AreFree
  ports_free (port ∷ ports) each one =
      All-append AreFree (port_clauses design port) (flat_map (port_clauses design) ports)
      (port_free port (All-head (IsPort design.library) port ports each)
      (first_run_passes stays_one (names_of_layers design port.shapes) (flat_map (λ (p : PortModel). names_of_layers design p.shapes) ports) one))
      (ports_free ports (All-tail (IsPort design.library) port ports each)
      (next_run_passes stays_one (names_of_layers design port.shapes) (flat_map (λ (p : PortModel). names_of_layers design p.shapes) ports) one))

  module _ (before : DesignModel) (pin : PinModel) (is : IsPin design.library pin) where
    pin_in_again : (names : List (List ℕ)) → place_of pin.name names ≡ None
        → pin_in (scope_of design.library before) names ((codes "-" ∷ pin.name ∷ []) ∷ pin_clauses design pin) ≡ Some pin
    unfolding pin_in pin_head mark_at name_at nothing_at next_at
    pin_in_again names new =
        let ports = ports_again design before sound pin.net_name pin.direction pin.usage [] None [] pin.ports refl is.ports in
        let whole =
        over_append (pin_clause (scope_of design.library before)) (kept_clauses pin) (flat_map (port_clauses design) pin.ports) no_pin_clauses
        (parts_of pin.net_name pin.direction pin.usage [] None) (kept_again (scope_of design.library before) pin is) ∙ ports.1 in
        rw (is.name, new, whole, ports.2.are, ports.2.ports_are) refl

    module _ (one : StayOne (pin_entry_names design pin)) where
      -- the runs of names, each of which stays one
      ports_one : list_all stays_one (flat_map (λ (port : PortModel). names_of_layers design port.shapes) pin.ports) ≡ true
      ports_one =
          next_run_passes stays_one (pin.name ∷ kept_words pin.net_name ++ kept_words pin.direction ++ kept_words pin.usage)
          (flat_map (λ (port : PortModel). names_of_layers design port.shapes) pin.ports) one

      kept_one : list_all stays_one (pin.name ∷ kept_words pin.net_name ++ kept_words pin.direction ++ kept_words pin.usage) ≡ true
      kept_one =
          first_run_passes stays_one (pin.name ∷ kept_words pin.net_name ++ kept_words pin.direction ++ kept_words pin.usage)
          (flat_map (λ (port : PortModel). names_of_layers design port.shapes) pin.ports) one

      words_one : list_all stays_one (kept_words pin.net_name ++ kept_words pin.direction ++ kept_words pin.usage) ≡ true
      words_one = others_pass stays_one pin.name (kept_words pin.net_name ++ kept_words pin.direction ++ kept_words pin.usage) kept_one

      two_one : list_all stays_one (kept_words pin.net_name ++ kept_words pin.direction) ≡ true
      two_one = first_run_passes stays_one (kept_words pin.net_name ++ kept_words pin.direction) (kept_words pin.usage) words_one

      clauses_free : All AreFree (pin_clauses design pin)
      clauses_free =
          All-append AreFree (kept_clauses pin) (flat_map (port_clauses design) pin.ports)
          (All-append AreFree (kept_clause (codes "NET") pin.net_name ++ kept_clause (codes "DIRECTION") pin.direction) (kept_clause (codes "USE") pin.usage)
          (All-append AreFree (kept_clause (codes "NET") pin.net_name) (kept_clause (codes "DIRECTION") pin.direction)
          (name_free (codes "NET") pin.net_name (free_literal (codes "NET") refl refl refl) is.net_name
          (first_run_passes stays_one (kept_words pin.net_name) (kept_words pin.direction) two_one))
          (kept_free (codes "DIRECTION") pin.direction (free_literal (codes "DIRECTION") refl refl refl) is.direction
          (next_run_passes stays_one (kept_words pin.net_name) (kept_words pin.direction) two_one)))
          (kept_free (codes "USE") pin.usage (free_literal (codes "USE") refl refl refl) is.usage
          (next_run_passes stays_one (kept_words pin.net_name ++ kept_words pin.direction) (kept_words pin.usage) words_one)))
          (ports_free pin.ports is.ports ports_one)

      head_free : AreFree (codes "-" ∷ pin.name ∷ [])
      head_free =
          free_cons (free_literal (codes "-") refl refl refl)
          (free_cons (free_name pin.name is.name (first_passes stays_one pin.name
          (kept_words pin.net_name ++ kept_words pin.direction ++ kept_words pin.usage) kept_one)) free_nil)

      pin_inside : AreInside (pin_said design pin)
      pin_inside = inside_append head_free.inside (clauses_inside (pin_clauses design pin) clauses_free)

      pub pin_again : (front : List PinModel) → length front < ENTRY_LIMIT → place_of pin.name (pin_names front) ≡ None → (rest : Words)
          → pin_entry (scope_of design.library before) front (pin_words design pin ++ rest) ≡ Some (front ++ pin ∷ [], rest)
      unfolding pin_entry
      pin_again front few new rest =
          rw (
            room_is (length front) ENTRY_LIMIT few,
            said_again (pin_said design pin) rest pin_inside,
            clauses_again (codes "-" ∷ pin.name ∷ []) (pin_clauses design pin) head_free.plus (no_pluses (pin_clauses design pin) clauses_free),
            pin_in_again (pin_names front) new,
          ) refl

      pub pin_printable : list_all is_printable (pin_words design pin) ≡ true
      pin_printable = said_printable pin_inside

      pub pin_line : (front : List PinModel) → length front < ENTRY_LIMIT → place_of pin.name (pin_names front) ≡ None
          → DenotesForm (pin_entry (scope_of design.library before) front) (line (pin_words design pin)) (front ++ pin ∷ [])
      pin_line front few new =
          line_says (pin_entry (scope_of design.library before) front) (pin_words design pin) (front ++ pin ∷ []) pin_printable (pin_again front few new)

-- all of them
pin_goes : (design : DesignModel) (pin : PinModel) (rest : Words) → at_end (pin_words design pin ++ rest) ≡ false
pin_goes design pin rest = refl

pub pins_again : (design before : DesignModel) (pin : PinModel) (pins : List PinModel) → IsSound design.library → ArePins design.library (pin ∷ pins)
    → StayOne (flat_map (pin_entry_names design) (pin ∷ pins)) → (rest : Words)
    → pins_at (scope_of design.library before) (section_words (codes "PINS") (pin_words design) (pin ∷ pins) ++ rest) ≡ Some (pin ∷ pins, rest)
unfolding pins_at
pins_again design before pin pins sound are one rest =
    section_again (codes "PINS") (pin_entry (scope_of design.library before)) (pin_words design) (λ entries. entries) refl
    (entry_shortens (scope_of design.library before)) pin pins few
    (record {
      goes = pin_goes design;
      read = λ front x after is.
          pin_again design sound before x (middle (IsPin design.library) (pin ∷ pins) front x after is are.each)
          (middle (λ p. StayOne (pin_entry_names design p)) (pin ∷ pins) front x after is (each_passes stays_one (pin_entry_names design) (pin ∷ pins) one))
          front (less front x after is) (not_before (λ (p : PinModel). p.name) front x after (subst (λ ps. AreApart (pin_names ps)) is are.apart));
    }) rest where
      few : length (pin ∷ pins) ≤ NUMBER_LIMIT
      few = omega (arith, are.few)

      less : (front : List PinModel) (x : PinModel) (after : List PinModel) → pin ∷ pins ≡ front ++ (x ∷ after) → length front < ENTRY_LIMIT
      less front x after is = omega (arith, fewer_before (pin ∷ pins) front x after is, are.few)

-- the lines of the section have its words
pub pins_lines : (design : DesignModel) (pins : List PinModel) → IsSound design.library → ArePins design.library pins
    → StayOne (flat_map (pin_entry_names design) pins) → Lines (pins_text design pins) (section_words (codes "PINS") (pin_words design) pins)
pins_lines design pins sound are one =
    section_lines (codes "PINS") (λ pin. line (pin_words design pin)) (pin_words design) pins (free_literal (codes "PINS") refl refl refl)
    (omega (arith, are.few))
    (λ k d less. lines_of_words (pin_words design (get_or pins k d)) (pin_printable design sound design (get_or pins k d) (are.each k d less)
    (each_passes stays_one (pin_entry_names design) pins one k d less)))
