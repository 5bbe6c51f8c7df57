-- What the forms of a DEF say of nets is well-formed.
use Rattle.std.proofs.Common.{◌≡◌, ◌≤◌, Bool, true, false, ◌==◌, List, [], ◌++◌, length, Contains, Option, is_some, codes, ⊎_elim, refl, arith}
use Rattle.std.proofs.lemmas.Bool.{true≢false}
use Rattle.std.proofs.lemmas.List.Elements.{All-nil, Contains-append_left, Contains-append_right, Contains-append_cases}
use Rattle.leg_lex.specs.Words.{Words, is_at}
use Rattle.leg_lib_records.specs.Records.{LibraryModel}
use Rattle.leg_design_records.specs.declared.limits.TheConstants.{ENTRY_LIMIT, PART_LIMIT}
use Rattle.leg_grammar.specs.Def.Guard.{when, unless}
use Rattle.leg_grammar.specs.Def.NetScope.{NetScopeModel}
use Rattle.leg_grammar.specs.Def.Header.{word_after, design_name_at, units_at}
use Rattle.leg_grammar.specs.Def.Die.{die_at}
use Rattle.leg_grammar.specs.Def.Row.{row_at}
use Rattle.leg_grammar.specs.Def.Track.{track_at}
use Rattle.leg_grammar.specs.Def.Via.{vias_at}
use Rattle.leg_grammar.specs.Def.Component.{components_at}
use Rattle.leg_grammar.specs.Def.Pin.{pins_at}
use Rattle.leg_grammar.specs.Def.Blockage.{blockages_at}
use Rattle.leg_grammar.specs.Def.LonePins.{NetLists}
use Rattle.leg_design_records.specs.Records.{NetModel, wire_count}
use Rattle.leg_grammar.specs.declared.profile.Profile.{Profile}
use Rattle.leg_grammar.specs.declared.profile.Profile.TheVariants.{Narrow, Wide}
use Rattle.leg_grammar.specs.Def.DroppedRow.{dropped_row_at}
use Rattle.leg_grammar.specs.Def.Parts.{DesignParts, no_parts, net_scope, parts_scope, divider_form, bus_form, name_form, units_form, die_form, kept_row_form, dropped_row_form, row_form, track_form, rules_form, vias_form, components_form, pins_form, blockages_form, nets_form, special_form, with_turned_vias, turned_parts, nets_section_form, special_section_form}
use Rattle.leg_grammar.specs.Def.Rule.{rules_at, rules_of}
use Rattle.leg_grammar.specs.Def.SkippedForms.{past_def_section, past_def_form}
use Rattle.leg_grammar.specs.Def.Form.{header_form, def_form_at}
use Rattle.leg_design_records.specs.WellFormedNets.{AreInOneNet}
use Rattle.leg_design_common.proofs.Gives.{Gives, gives_none, gives_some, gives_bind, gives_skip, gives_if, unless_gives}
use Rattle.leg_design_common.proofs.Either.{gives_either}
use Rattle.leg_design_floorplan.proofs.ReadTurnedVias.{turned_vias_behind}
use Rattle.leg_design_nets.proofs.ReadNets.{IsKnownNet, AreEntries, nets_give}
use Rattle.leg_design_nets.proofs.ReadLonePins.{HasEntries}
use Rattle.leg_design_nets.proofs.LaterScopes.{Grows, nets_grow, vias_grow, components_grow, pins_grow, rules_grow, more_vias_grow}

abbrev pub lists_of : List NetModel → List NetModel → NetLists
lists_of nets special = record { nets = nets; special = special }

-- The entries so far; what they may name is empty where it hasn't appeared yet.
pub record HasNetsSoFar (before : NetScopeModel) (vias components pins : Bool) (nets special : List NetModel) : Type 0 where
  pub no_vias : vias ≡ false → before.vias ≡ []
  pub no_components : components ≡ false → before.components ≡ []
  pub no_pins : pins ≡ false → before.pins ≡ []
  pub entries : HasEntries before (lists_of nets special)

abbrev pub HasNetParts : DesignParts → Type 0
HasNetParts parts =
    HasNetsSoFar (parts_scope parts) parts.has.vias parts.has.components parts.has.pins parts.design.nets parts.design.special

entries_grow : (before next : NetScopeModel) (lists : NetLists) → Grows before next → HasEntries before lists → HasEntries next lists
entries_grow before next lists grows entries = record {
  nets = nets_grow before next false lists.nets grows entries.nets;
  nets_apart = entries.nets_apart;
  special = nets_grow before next true lists.special grows entries.special;
  special_apart = entries.special_apart;
  one_net = entries.one_net;
  few = entries.few;
  few_wires = entries.few_wires;
}

-- the order of the two sections doesn't matter
other_order : (nets special : List NetModel) → AreInOneNet (nets ++ special) → AreInOneNet (special ++ nets)
other_order nets special before a b t in_a in_b = before a b t (moved a in_a) (moved b in_b) where
  moved : (c : NetModel) → Contains (special ++ nets) c → Contains (nets ++ special) c
  moved c there =
      ⊎_elim (λ here. Contains-append_right nets special c here) (λ other. Contains-append_left nets special c other)
      (Contains-append_cases special nets c there)

-- the other section is all of them
only_others : (nets others : List NetModel) → AreInOneNet (nets ++ others) → AreInOneNet others
only_others nets others before a b t in_a in_b =
    before a b t (Contains-append_right nets others a in_a) (Contains-append_right nets others b in_b)

-- a section begins, beside the other's entries
begins : (before : NetScopeModel) (special : Bool) (others : List NetModel) → AreInOneNet others → length others ≤ ENTRY_LIMIT → wire_count others ≤ PART_LIMIT
    → AreEntries before special others []
begins before special others one_net few few_wires = record {
  each = All-nil (IsKnownNet before special);
  apart = λ i less. absurd (omega arith);
  one_net = one_net;
  few = omega arith;
  few_wires = omega arith;
}

never : {P : Type 0} → true ≡ false → P
never is = absurd (true≢false is)

module _ (parts : DesignParts) (words : Words) (sound : HasNetParts parts) where
  -- where something is said, this still holds
  abbrev Keeps : Option (DesignParts × Words) → Type 0
  Keeps said = Gives (λ (next : DesignParts × Words). HasNetParts next.0) said

  divider_keeps : Keeps (divider_form parts words)
  unfolding divider_form
  divider_keeps = gives_skip (unless (is_some parts.design.divider)) (λ once. gives_skip (word_after (codes "DIVIDERCHAR") words) (λ word. gives_some _ sound))

  bus_keeps : Keeps (bus_form parts words)
  unfolding bus_form
  bus_keeps = gives_skip (unless (is_some parts.design.bus)) (λ once. gives_skip (word_after (codes "BUSBITCHARS") words) (λ word. gives_some _ sound))

  name_keeps : Keeps (name_form parts words)
  unfolding name_form
  name_keeps = gives_skip (unless parts.has.name) (λ once. gives_skip (design_name_at words) (λ name. gives_some _ sound))

  units_keeps : Keeps (units_form parts words)
  unfolding units_form
  units_keeps =
      gives_skip (unless parts.has.units) (λ once.
      gives_skip (units_at words) (λ n.
      gives_skip (when (n.0 == parts.design.library.units)) (λ same. gives_some _ sound)))

  die_keeps : Keeps (die_form parts words)
  unfolding die_form
  die_keeps = gives_skip (unless parts.has.die) (λ once. gives_skip (die_at words) (λ die. gives_some _ sound))

  kept_row_keeps : Keeps (kept_row_form parts words)
  unfolding kept_row_form
  kept_row_keeps = gives_skip (row_at parts.design.library words) (λ row. gives_some _ sound)

  dropped_row_keeps : (profile : Profile) → Keeps (dropped_row_form profile parts words)
  unfolding dropped_row_form
  dropped_row_keeps Narrow = gives_none
  dropped_row_keeps (Wide masks soft) = gives_skip (dropped_row_at parts.design.library words) (λ site. gives_some _ sound)

  row_keeps : Keeps (row_form parts words)
  unfolding row_form
  row_keeps =
      gives_either (kept_row_form parts words) (dropped_row_form parts.profile parts words) kept_row_keeps (dropped_row_keeps parts.profile)

  track_keeps : Keeps (track_form parts words)
  unfolding track_form
  track_keeps = gives_skip (track_at parts.profile parts.design.library words) (λ track. gives_some _ sound)

  rules_keep : (profile : Profile) → Keeps (rules_form profile parts words)
  unfolding rules_form
  rules_keep Narrow = gives_skip (past_def_section words) (λ section. gives_some _ sound)
  rules_keep (Wide masks soft) =
      gives_skip (past_def_section words) (λ section.
      let grows = rules_grow (parts_scope parts) (rules_of (rules_at parts.design.library words)) in
      gives_some _ (record {
        no_vias = sound.no_vias;
        no_components = sound.no_components;
        no_pins = sound.no_pins;
        entries = entries_grow (parts_scope parts) _ (lists_of parts.design.nets parts.design.special) grows sound.entries;
      }))

  vias_keep : Keeps (vias_form parts words)
  unfolding vias_form
  vias_keep =
      gives_bind (unless_gives parts.has.vias) (λ once new.
      gives_skip (vias_at parts.profile parts.design.library words) (λ vias.
      let grows = vias_grow (parts_scope parts) vias.0 (sound.no_vias new) in
      gives_some _ (record {
        no_vias = never;
        no_components = sound.no_components;
        no_pins = sound.no_pins;
        entries = entries_grow (parts_scope parts) _ (lists_of parts.design.nets parts.design.special) grows sound.entries;
      })))

  components_keep : Keeps (components_form parts words)
  unfolding components_form
  components_keep =
      gives_bind (unless_gives parts.has.components) (λ once new.
      gives_skip (components_at parts.design.library words) (λ components.
      let grows = components_grow (parts_scope parts) components.0 (sound.no_components new) in
      gives_some _ (record {
        no_vias = sound.no_vias;
        no_components = never;
        no_pins = sound.no_pins;
        entries = entries_grow (parts_scope parts) _ (lists_of parts.design.nets parts.design.special) grows sound.entries;
      })))

  pins_keep : Keeps (pins_form parts words)
  unfolding pins_form
  pins_keep =
      gives_bind (unless_gives parts.has.pins) (λ once new.
      gives_skip (pins_at (parts_scope parts) words) (λ pins.
      let grows = pins_grow (parts_scope parts) pins.0 (sound.no_pins new) in
      gives_some _ (record {
        no_vias = sound.no_vias;
        no_components = sound.no_components;
        no_pins = never;
        entries = entries_grow (parts_scope parts) _ (lists_of parts.design.nets parts.design.special) grows sound.entries;
      })))

  blockages_keep : Keeps (blockages_form parts words)
  unfolding blockages_form
  blockages_keep =
      gives_skip (unless parts.has.blockages) (λ once. gives_skip (blockages_at parts.profile parts.design.library words) (λ blockages. gives_some _ sound))

  -- with the vias that words turn this still holds
  turned_keeps : (profile : Profile) → Gives HasNetParts (turned_parts profile parts words)
  unfolding turned_parts with_turned_vias
  turned_keeps Narrow = gives_none
  turned_keeps (Wide masks soft) =
      gives_bind (turned_vias_behind parts.design.library (record { vias = parts.design.vias; turned = parts.turned }) words) (λ made more.
      let grows = more_vias_grow (parts_scope parts) made.0.vias more.others made.0.turned more.behind in
      gives_some _ (record {
        no_vias = never;
        no_components = sound.no_components;
        no_pins = sound.no_pins;
        entries = entries_grow (parts_scope parts) _ (lists_of parts.design.nets parts.design.special) grows sound.entries;
      }))

  nets_section_keeps : (made : DesignParts) → HasNetParts made → Keeps (nets_section_form made words)
  unfolding nets_section_form
  nets_section_keeps made holds =
      let entries = holds.entries in
      let few = entries.few in
      let few_wires = entries.few_wires in
      gives_bind (nets_give (parts_scope made) false made.design.special
      (begins (parts_scope made) false made.design.special (only_others made.design.nets made.design.special entries.one_net)
      (omega arith)
      (omega arith)) words) (λ nets are.
      gives_some _ (record {
        no_vias = holds.no_vias;
        no_components = holds.no_components;
        no_pins = holds.no_pins;
        entries = record {
          nets = are.each;
          nets_apart = are.apart;
          special = entries.special;
          special_apart = entries.special_apart;
          one_net = are.one_net;
          few = are.few;
          few_wires = are.few_wires;
        };
      }))

  nets_keep : Keeps (nets_form parts words)
  unfolding nets_form
  nets_keep =
      gives_skip (unless parts.has.nets) (λ once.
      gives_either _ _ (nets_section_keeps parts sound) (gives_bind (turned_keeps parts.profile) nets_section_keeps))

  special_section_keeps : (made : DesignParts) → HasNetParts made → Keeps (special_section_form made words)
  unfolding special_section_form
  special_section_keeps made holds =
      let entries = holds.entries in
      let few = entries.few in
      let few_wires = entries.few_wires in
      gives_bind (nets_give (parts_scope made) true made.design.nets
      (begins (parts_scope made) true made.design.nets (only_others made.design.special made.design.nets
      (other_order made.design.nets made.design.special entries.one_net)) (omega arith) (omega arith)) words) (λ special are.
      let few_too = are.few in
      let few_wires_too = are.few_wires in
      gives_some _ (record {
        no_vias = holds.no_vias;
        no_components = holds.no_components;
        no_pins = holds.no_pins;
        entries = record {
          nets = entries.nets;
          nets_apart = entries.nets_apart;
          special = are.each;
          special_apart = are.apart;
          one_net = other_order special.0 made.design.nets are.one_net;
          few = omega arith;
          few_wires = omega arith;
        };
      }))

  special_keep : Keeps (special_form parts words)
  unfolding special_form
  special_keep =
      gives_skip (unless parts.has.special) (λ once.
      gives_either _ _ (special_section_keeps parts sound) (gives_bind (turned_keeps parts.profile) special_section_keeps))

  header_keeps : Keeps (header_form parts words)
  unfolding header_form
  header_keeps =
      gives_if (is_at (codes "DIVIDERCHAR") words) divider_keeps
      (gives_if (is_at (codes "BUSBITCHARS") words) bus_keeps
      (gives_if (is_at (codes "DESIGN") words) name_keeps
      (gives_if (is_at (codes "UNITS") words) units_keeps
      (gives_if (is_at (codes "DIEAREA") words) die_keeps
      (gives_if (is_at (codes "ROW") words) row_keeps
      (gives_if (is_at (codes "TRACKS") words) track_keeps
      (gives_if (is_at (codes "NONDEFAULTRULES") words) (rules_keep parts.profile)
      (gives_skip (past_def_form parts.profile words) (λ form. gives_some _ sound)))))))))

  pub net_form_keeps : Keeps (def_form_at parts words)
  unfolding def_form_at
  net_form_keeps =
      gives_if (is_at (codes "VIAS") words) vias_keep
      (gives_if (is_at (codes "COMPONENTS") words) components_keep
      (gives_if (is_at (codes "PINS") words) pins_keep
      (gives_if (is_at (codes "BLOCKAGES") words) blockages_keep
      (gives_if (is_at (codes "SPECIALNETS") words) special_keep
      (gives_if (is_at (codes "NETS") words) nets_keep header_keeps)))))

pub no_net_parts : (profile : Profile) (library : LibraryModel) → HasNetParts (no_parts profile library)
no_net_parts profile library = record {
  no_vias = λ new. refl;
  no_components = λ new. refl;
  no_pins = λ new. refl;
  entries = record {
    nets = All-nil (IsKnownNet (net_scope profile (no_parts profile library).design) false);
    nets_apart = λ i less. absurd (omega arith);
    special = All-nil (IsKnownNet (net_scope profile (no_parts profile library).design) true);
    special_apart = λ i less. absurd (omega arith);
    one_net = λ a b t in_a in_b lists_a lists_b. let less = in_a.1 in absurd (omega arith);
    few = omega arith;
    few_wires = omega arith;
  };
}
