-- Pins that are read have names of their own, and ports with rectangles on layers with metal and places where they
-- should.
use Rattle.std.proofs.Common.{◌≡◌, ℕ, true, false, nat_le, List, [], ◌∷◌, ◌++◌, length, All, Option, None, Some, is_some, codes, refl, arith}
use Rattle.std.proofs.lemmas.Bool.Decides.{nat_tests}
use Rattle.std.proofs.lemmas.List.{map_push, length_push}
use Rattle.std.proofs.lemmas.List.Elements.{All-push, All-nil}
use Rattle.leg_lemmas.proofs.Options.{none_is}
use Rattle.leg_lex.specs.Words.{Words, is_at, keyword_at, mark_at, nothing_at, is_name, is_word}
use Rattle.leg_lex.specs.Statements.{statement_at, clauses_of}
use Rattle.leg_lex.specs.NameLookup.{place_of}
use Rattle.leg_lex.proofs.NameLookup.{apart_push}
use Rattle.leg_lex.proofs.GivesAll.{over_gives}
use Rattle.leg_grammar.specs.Def.NetScope.{NetScopeModel}
use Rattle.leg_design_records.specs.declared.limits.TheConstants.{ENTRY_LIMIT}
use Rattle.leg_grammar.specs.Def.Guard.{when, unless}
use Rattle.leg_grammar.specs.Def.Clause.{is_clause}
use Rattle.leg_grammar.specs.Mask.{past_mask}
use Rattle.leg_grammar.specs.Profiles.{is_wide}
use Rattle.leg_grammar.specs.Def.Placement.{says_place}
use Rattle.leg_grammar.specs.Def.PinClauses.{PinClauses, no_pin_clauses, net_of_pin, word_in, last_port, all_ports, port_start, port_rect, port_polygon, port_via, pin_net_clause, direction_clause, pin_use_clause, port_place, pin_clause}
use Rattle.leg_grammar.specs.Def.Port.{empty_port, past_rules, layer_rect, layer_polygon}
use Rattle.leg_grammar.specs.Def.Pin.{pin_head, pin_in, pin_entry, pins_at}
use Rattle.leg_design_records.specs.Records.{PortModel, PinModel, pin_names}
use Rattle.leg_design_records.specs.WellFormedParts.{IsKept, IsNameIfAny, IsPort, IsPin, ArePins}
use Rattle.leg_design_common.proofs.Gives.{Gives, gives_none, gives_some, gives_bind, gives_skip, gives_if, unless_gives, name_gives, word_gives, section_gives}
use Rattle.leg_design_common.proofs.ReadPlacement.{rect_gives, placed_gives}
use Rattle.leg_design_common.proofs.ReadPolygons.{AreAreas, polygon_gives}
use Rattle.leg_design_floorplan.proofs.MetalShapes.{with_rect_metal, with_rects_metal}
use Rattle.leg_design_floorplan.proofs.PortVias.{with_via_gives}
use Rattle.leg_design_records.specs.WellFormedParts.{IsArea, IsMetalShape}
use Rattle.leg_grammar.specs.Def.Layers.{layer_named_at}

net_of_pin_gives : (clause : Words) → Gives (λ name. is_name name ≡ true) (net_of_pin clause)
unfolding net_of_pin
net_of_pin_gives clause =
    gives_skip (keyword_at (codes "NET") clause) (λ start.
    gives_bind (name_gives start.1) (λ name named.
    gives_skip (nothing_at name.1) (λ end.
    gives_some _ named)))

word_in_gives : (keyword : List ℕ) (clause : Words) → Gives (λ word. is_word word ≡ true) (word_in keyword clause)
unfolding word_in
word_in_gives keyword clause =
    gives_skip (keyword_at keyword clause) (λ start.
    gives_bind (word_gives start.1) (λ word plain.
    gives_skip (nothing_at word.1) (λ end.
    gives_some _ plain)))

module _ (scope : NetScopeModel) where
  abbrev IsPortIfAny : Option PortModel → Type 0
  IsPortIfAny None = Unit {0}
  IsPortIfAny (Some port) = IsPort scope.library port

  -- what the clauses before said is well-formed
  record ArePinClauses (parts : PinClauses) : Type 0 where
    net_name : IsNameIfAny parts.net_name
    direction : IsKept parts.direction
    usage : IsKept parts.usage
    done : All (IsPort scope.library) parts.done
    last : IsPortIfAny parts.last

  empty_is : IsPort scope.library empty_port
  empty_is = record { shapes = All-nil (IsMetalShape scope.library); placed = tt }

  last_is : (parts : PinClauses) → ArePinClauses parts → IsPort scope.library (last_port parts)
  last_is parts before = by parts.last refl where
    by : (last : Option PortModel) → parts.last ≡ last → IsPort scope.library (last_port parts)
    by None is = rw is empty_is
    by (Some port) is = rw is (rw is at before.last)

  all_are : (parts : PinClauses) → ArePinClauses parts → All (IsPort scope.library) (all_ports parts)
  all_are parts before = by parts.last refl where
    by : (last : Option PortModel) → parts.last ≡ last → All (IsPort scope.library) (all_ports parts)
    by None is = rw is before.done
    by (Some port) is = rw is (All-push (IsPort scope.library) parts.done port before.done (rw is at before.last))

  module _ (parts : PinClauses) (clause : Words) (before : ArePinClauses parts) where
    port_start_gives : Gives ArePinClauses (port_start parts clause)
    unfolding port_start
    port_start_gives =
        gives_skip (keyword_at (codes "PORT") clause) (λ start.
        gives_skip (nothing_at start.1) (λ end.
        gives_some _ (record { net_name = before.net_name; direction = before.direction; usage = before.usage; done = all_are parts before; last = empty_is })))

    layer_rect_gives : Gives (λ on. IsArea on.1) (layer_rect scope.profile scope.library clause)
    unfolding layer_rect
    layer_rect_gives =
        gives_skip (keyword_at (codes "LAYER") clause) (λ start.
        gives_skip (layer_named_at scope.library start.1) (λ layer.
        gives_skip (past_mask scope.profile layer.1) (λ mask.
        gives_skip (past_rules mask.1) (λ rules.
        gives_bind (rect_gives rules.1) (λ rect area.
        gives_skip (nothing_at rect.1) (λ end.
        gives_some _ area))))))

    port_rect_gives : Gives ArePinClauses (port_rect scope parts clause)
    unfolding port_rect
    port_rect_gives =
        let last = last_is parts before in
        gives_bind layer_rect_gives (λ on area.
        gives_some _ (record {
          net_name = before.net_name;
          direction = before.direction;
          usage = before.usage;
          done = before.done;
          last = record { shapes = with_rect_metal scope.library on.0 on.1 (last_port parts).shapes area last.shapes; placed = last.placed };
        }))

    layer_polygon_gives : Gives (λ on. AreAreas on.1) (layer_polygon scope.profile scope.library clause)
    unfolding layer_polygon
    layer_polygon_gives =
        gives_skip (when (is_wide scope.profile)) (λ wide.
        gives_skip (keyword_at (codes "POLYGON") clause) (λ start.
        gives_skip (layer_named_at scope.library start.1) (λ layer.
        gives_skip (past_mask scope.profile layer.1) (λ mask.
        gives_skip (past_rules mask.1) (λ rules.
        gives_bind (polygon_gives rules.1) (λ slabs areas.
        gives_skip (nothing_at slabs.1) (λ end.
        gives_some _ areas)))))))

    port_polygon_gives : Gives ArePinClauses (port_polygon scope parts clause)
    unfolding port_polygon
    port_polygon_gives =
        let last = last_is parts before in
        gives_bind layer_polygon_gives (λ on areas.
        gives_some _ (record {
          net_name = before.net_name;
          direction = before.direction;
          usage = before.usage;
          done = before.done;
          last = record { shapes = with_rects_metal scope.library on.0 on.1 (last_port parts).shapes areas.0 last.shapes; placed = last.placed };
        }))

    port_via_gives : Gives ArePinClauses (port_via scope parts clause)
    unfolding port_via
    port_via_gives =
        let last = last_is parts before in
        gives_bind (with_via_gives scope (last_port parts).shapes clause last.shapes) (λ shapes metal.
        gives_some _ (record {
          net_name = before.net_name;
          direction = before.direction;
          usage = before.usage;
          done = before.done;
          last = record { shapes = metal; placed = last.placed };
        }))

    port_place_gives : Gives ArePinClauses (port_place parts clause)
    unfolding port_place
    port_place_gives =
        let last = last_is parts before in
        gives_skip (unless (is_some (last_port parts).place)) (λ once.
        gives_bind (placed_gives clause) (λ placed holds.
        gives_some _ (record {
          net_name = before.net_name;
          direction = before.direction;
          usage = before.usage;
          done = before.done;
          last = record { shapes = last.shapes; placed = holds };
        })))

    pin_clause_gives : Gives ArePinClauses (pin_clause scope parts clause)
    unfolding pin_clause pin_net_clause direction_clause pin_use_clause
    pin_clause_gives =
        gives_if (is_at (codes "NET") clause)
        (gives_skip (unless (is_some parts.net_name)) (λ once.
        gives_bind (net_of_pin_gives clause) (λ name named.
        gives_some _ (record { net_name = named; direction = before.direction; usage = before.usage; done = before.done; last = before.last }))))
        (gives_if (is_at (codes "DIRECTION") clause)
        (gives_skip (unless (is_some parts.direction)) (λ once.
        gives_bind (word_in_gives (codes "DIRECTION") clause) (λ word plain.
        gives_some _ (record { net_name = before.net_name; direction = plain; usage = before.usage; done = before.done; last = before.last }))))
        (gives_if (is_at (codes "USE") clause)
        (gives_skip (unless (is_some parts.usage)) (λ once.
        gives_bind (word_in_gives (codes "USE") clause) (λ word plain.
        gives_some _ (record { net_name = before.net_name; direction = before.direction; usage = plain; done = before.done; last = before.last }))))
        (gives_if (is_at (codes "PORT") clause) port_start_gives
        (gives_if (is_at (codes "LAYER") clause) port_rect_gives
        (gives_if (says_place clause) port_place_gives
        (gives_if (is_at (codes "VIA") clause) port_via_gives
        (gives_if (is_at (codes "POLYGON") clause) port_polygon_gives
        (gives_if _ gives_none
        (gives_skip (when (is_clause clause)) (λ _. gives_some parts before))))))))))

  pin_head_gives : (names : List (List ℕ)) (head : Words) → Gives (λ name. (is_name name ≡ true) × (place_of name names ≡ None)) (pin_head names head)
  unfolding pin_head
  pin_head_gives names head =
      gives_skip (mark_at 45 head) (λ dash.
      gives_bind (name_gives dash.1) (λ name named.
      gives_bind (unless_gives (is_some (place_of name.0 names))) (λ new free.
      gives_skip (nothing_at name.1) (λ end.
      gives_some name.0 (named, none_is (place_of name.0 names) free)))))

  no_pin_clauses_are : ArePinClauses no_pin_clauses
  no_pin_clauses_are = record { net_name = tt; direction = tt; usage = tt; done = All-nil (IsPort scope.library); last = tt }

  pub pin_in_gives : (names : List (List ℕ)) (parts : List Words)
      → Gives (λ pin. IsPin scope.library pin × (place_of pin.name names ≡ None)) (pin_in scope names parts)
  unfolding pin_in
  pin_in_gives names [] = gives_none
  pin_in_gives names (head ∷ clauses) =
      gives_bind (pin_head_gives names head) (λ name new.
      gives_bind (over_gives ArePinClauses (pin_clause scope) pin_clause_gives no_pin_clauses clauses no_pin_clauses_are) (λ parts are.
      gives_some _ (record { name = new.0; net_name = are.net_name; direction = are.direction; usage = are.usage; ports = all_are parts are }, new.1)))

  with_pin : (pins : List PinModel) (pin : PinModel) → ArePins scope.library pins → nat_le ENTRY_LIMIT (length pins) ≡ false → IsPin scope.library pin
      → place_of pin.name (pin_names pins) ≡ None → ArePins scope.library (pins ++ pin ∷ [])
  with_pin pins pin before room holds new = record {
    each = All-push (IsPin scope.library) pins pin before.each holds;
    apart = rw (map_push (λ (p : PinModel). p.name) pins pin) (apart_push pin.name (pin_names pins) new before.apart);
    few = rw (length_push pins pin) (grind (arith, nat_tests));
  }

  pin_entry_gives : (pins : List PinModel) (words : Words) → ArePins scope.library pins
      → Gives (λ said. ArePins scope.library said.0) (pin_entry scope pins words)
  unfolding pin_entry
  pin_entry_gives pins words before =
      gives_bind (unless_gives (nat_le ENTRY_LIMIT (length pins))) (λ free room.
      gives_skip (statement_at words) (λ statement.
      gives_bind (pin_in_gives (pin_names pins) (clauses_of statement.0)) (λ pin holds.
      gives_some _ (with_pin pins pin before room holds.0 holds.1))))

  pub no_pins : ArePins scope.library []
  no_pins = record { each = All-nil (IsPin scope.library); apart = λ i less. absurd (omega arith); few = omega arith }

  pub pins_give : (words : Words) → Gives (λ said. ArePins scope.library said.0) (pins_at scope words)
  unfolding pins_at
  pins_give words = section_gives (ArePins scope.library) (codes "PINS") (pin_entry scope) pin_entry_gives [] words no_pins
