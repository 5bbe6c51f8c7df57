-- What the forms of a DEF say is well-formed; of nets other lemmas tell.
use Rattle.std.proofs.Common.{◌≡◌, ℕ, Bool, true, false, ◌==◌, List, All, Option, is_some, refl, codes}
use Rattle.std.proofs.lemmas.List.Elements.{All-push, All-nil}
use Rattle.leg_lex.specs.Words.{Words, is_at, is_name, is_word, keyword_at, mark_at}
use Rattle.leg_geom.specs.Plane.{RectModel}
use Rattle.leg_lib_records.specs.Records.{LibraryModel, ViaModel}
use Rattle.leg_design_records.specs.declared.records.Component.{Component}
use Rattle.leg_design_records.specs.declared.records.Row.{Row}
use Rattle.leg_grammar.specs.Def.Guard.{when, unless}
use Rattle.leg_grammar.specs.Def.Header.{word_after, design_name_at, units_at}
use Rattle.leg_grammar.specs.Def.Net.{nets_at}
use Rattle.leg_design_records.specs.Records.{TrackModel, PinModel, BlockageModel}
use Rattle.leg_grammar.specs.declared.profile.Profile.{Profile}
use Rattle.leg_grammar.specs.declared.profile.Profile.TheVariants.{Narrow, Wide}
use Rattle.leg_grammar.specs.Def.DroppedRow.{dropped_row_at}
use Rattle.leg_grammar.specs.Def.Parts.{DesignParts, no_parts, net_scope, parts_scope, divider_form, bus_form, name_form, units_form, die_form, kept_row_form, dropped_row_form, row_form, track_form, rules_form, vias_form, components_form, pins_form, blockages_form, nets_form, special_form, with_turned_vias, turned_parts, nets_section_form, special_section_form}
use Rattle.leg_grammar.specs.Def.SkippedForms.{past_def_section, past_def_form}
use Rattle.leg_grammar.specs.Def.Form.{header_form, def_form_at}
use Rattle.leg_design_records.specs.WellFormedParts.{IsKept, IsArea, AreComponents, IsRow, IsTrack, AreVias, ArePins, AreBlockages}
use Rattle.leg_design_common.proofs.Gives.{Gives, gives_none, gives_some, gives_bind, gives_skip, gives_if, name_gives, word_gives}
use Rattle.leg_design_common.proofs.Either.{gives_either}
use Rattle.leg_design_floorplan.proofs.ReadDie.{die_gives}
use Rattle.leg_design_floorplan.proofs.ReadComponents.{components_give, no_components}
use Rattle.leg_design_floorplan.proofs.ReadRows.{row_gives}
use Rattle.leg_design_floorplan.proofs.ReadTracks.{track_gives}
use Rattle.leg_design_floorplan.proofs.ReadVias.{vias_give, no_vias}
use Rattle.leg_design_floorplan.proofs.ReadTurnedVias.{turned_vias_are}
use Rattle.leg_design_floorplan.proofs.ReadPins.{pins_give, no_pins}
use Rattle.leg_design_floorplan.proofs.ReadBlockages.{blockages_give, no_blockages}

-- what the forms before the sections gave is well-formed
pub record AreHeaderForms (library : LibraryModel) (has_name has_die : Bool) (name : List ℕ) (divider bus : Option (List ℕ)) (die : RectModel)
    (rows : List Row) (tracks : List TrackModel) : Type 0 where
  pub name_ : has_name ≡ true → is_name name ≡ true
  pub divider_ : IsKept divider
  pub bus_ : IsKept bus
  pub die_ : has_die ≡ true → IsArea die
  pub rows_ : All (IsRow library) rows
  pub tracks_ : All (IsTrack library) tracks

-- what the sections before those of nets gave is well-formed
pub record AreSections (library : LibraryModel) (vias : List ViaModel) (components : List Component) (pins : List PinModel)
    (blockages : List BlockageModel) : Type 0 where
  pub vias_ : AreVias library vias
  pub components_ : AreComponents library components
  pub pins_ : ArePins library pins
  pub blockages_ : AreBlockages library blockages

-- what was read so far is well-formed, and under this library
pub record HasSoundParts (library : LibraryModel) (parts : DesignParts) : Type 0 where
  pub same : parts.design.library ≡ library
  pub header : AreHeaderForms parts.design.library parts.has.name parts.has.die parts.design.name parts.design.divider parts.design.bus parts.design.die
      parts.design.rows parts.design.tracks
  pub sections : AreSections parts.design.library parts.design.vias parts.design.components parts.design.pins parts.design.blockages

word_after_gives : (keyword : List ℕ) (words : Words) → Gives (λ said. is_word said.0 ≡ true) (word_after keyword words)
unfolding word_after
word_after_gives keyword words =
    gives_skip (keyword_at keyword words) (λ start.
    gives_bind (word_gives start.1) (λ word plain.
    gives_skip (mark_at 59 word.1) (λ end.
    gives_some _ plain)))

design_name_gives : (words : Words) → Gives (λ said. is_name said.0 ≡ true) (design_name_at words)
unfolding design_name_at
design_name_gives words =
    gives_skip (keyword_at (codes "DESIGN") words) (λ start.
    gives_bind (name_gives start.1) (λ name named.
    gives_skip (mark_at 59 name.1) (λ end.
    gives_some _ named)))

module _ (library : LibraryModel) (parts : DesignParts) (words : Words) (sound : HasSoundParts library parts) where
  -- where something is said, the parts are still sound
  abbrev Keeps : Option (DesignParts × Words) → Type 0
  Keeps said = Gives (λ (next : DesignParts × Words). HasSoundParts library next.0) said

  divider_keeps : Keeps (divider_form parts words)
  unfolding divider_form
  divider_keeps =
      gives_skip (unless (is_some parts.design.divider)) (λ once.
      gives_bind (word_after_gives (codes "DIVIDERCHAR") words) (λ word plain.
      gives_some _ (record {
        same = sound.same;
        header = record {
          name_ = sound.header.name_;
          divider_ = plain;
          bus_ = sound.header.bus_;
          die_ = sound.header.die_;
          rows_ = sound.header.rows_;
          tracks_ = sound.header.tracks_;
        };
        sections = sound.sections;
      })))

  bus_keeps : Keeps (bus_form parts words)
  unfolding bus_form
  bus_keeps =
      gives_skip (unless (is_some parts.design.bus)) (λ once.
      gives_bind (word_after_gives (codes "BUSBITCHARS") words) (λ word plain.
      gives_some _ (record {
        same = sound.same;
        header = record {
          name_ = sound.header.name_;
          divider_ = sound.header.divider_;
          bus_ = plain;
          die_ = sound.header.die_;
          rows_ = sound.header.rows_;
          tracks_ = sound.header.tracks_;
        };
        sections = sound.sections;
      })))

  name_keeps : Keeps (name_form parts words)
  unfolding name_form
  name_keeps =
      gives_skip (unless parts.has.name) (λ once.
      gives_bind (design_name_gives words) (λ name named.
      gives_some _ (record {
        same = sound.same;
        header = record {
          name_ = λ there. named;
          divider_ = sound.header.divider_;
          bus_ = sound.header.bus_;
          die_ = sound.header.die_;
          rows_ = sound.header.rows_;
          tracks_ = sound.header.tracks_;
        };
        sections = sound.sections;
      })))

  units_keeps : Keeps (units_form parts words)
  unfolding units_form
  units_keeps =
      gives_skip (unless parts.has.units) (λ once.
      gives_skip (units_at words) (λ n.
      gives_skip (when (n.0 == parts.design.library.units)) (λ equal.
      gives_some _ (record { same = sound.same; header = sound.header; sections = sound.sections }))))

  die_keeps : Keeps (die_form parts words)
  unfolding die_form
  die_keeps =
      gives_skip (unless parts.has.die) (λ once.
      gives_bind (die_gives words) (λ die area.
      gives_some _ (record {
        same = sound.same;
        header = record {
          name_ = sound.header.name_;
          divider_ = sound.header.divider_;
          bus_ = sound.header.bus_;
          die_ = λ there. area;
          rows_ = sound.header.rows_;
          tracks_ = sound.header.tracks_;
        };
        sections = sound.sections;
      })))

  kept_row_keeps : Keeps (kept_row_form parts words)
  unfolding kept_row_form
  kept_row_keeps =
      gives_bind (row_gives parts.design.library words) (λ row holds.
      gives_some _ (record {
        same = sound.same;
        header = record {
          name_ = sound.header.name_;
          divider_ = sound.header.divider_;
          bus_ = sound.header.bus_;
          die_ = sound.header.die_;
          rows_ = All-push (IsRow parts.design.library) parts.design.rows row.0 sound.header.rows_ holds;
          tracks_ = sound.header.tracks_;
        };
        sections = sound.sections;
      }))

  dropped_row_keeps : (profile : Profile) → Keeps (dropped_row_form profile parts words)
  unfolding dropped_row_form
  dropped_row_keeps Narrow = gives_none
  dropped_row_keeps (Wide masks soft) =
      gives_skip (dropped_row_at parts.design.library words) (λ site.
      gives_some _ (record { same = sound.same; header = sound.header; sections = sound.sections }))

  row_keeps : Keeps (row_form parts words)
  unfolding row_form
  row_keeps =
      gives_either (kept_row_form parts words) (dropped_row_form parts.profile parts words) kept_row_keeps (dropped_row_keeps parts.profile)

  track_keeps : Keeps (track_form parts words)
  unfolding track_form
  track_keeps =
      gives_bind (track_gives parts.profile parts.design.library words) (λ track holds.
      gives_some _ (record {
        same = sound.same;
        header = record {
          name_ = sound.header.name_;
          divider_ = sound.header.divider_;
          bus_ = sound.header.bus_;
          die_ = sound.header.die_;
          rows_ = sound.header.rows_;
          tracks_ = All-push (IsTrack parts.design.library) parts.design.tracks track.0 sound.header.tracks_ holds;
        };
        sections = sound.sections;
      }))

  rules_keep : (profile : Profile) → Keeps (rules_form profile parts words)
  unfolding rules_form
  rules_keep Narrow = gives_skip (past_def_section words) (λ section. gives_some _ sound)
  rules_keep (Wide masks soft) =
      gives_skip (past_def_section words) (λ section.
      gives_some _ (record { same = sound.same; header = sound.header; sections = sound.sections }))

  vias_keep : Keeps (vias_form parts words)
  unfolding vias_form
  vias_keep =
      let sections = sound.sections in
      gives_skip (unless parts.has.vias) (λ once.
      gives_bind (vias_give parts.profile parts.design.library words) (λ vias each.
      gives_some _ (record {
        same = sound.same;
        header = sound.header;
        sections = record { vias_ = each; components_ = sections.components_; pins_ = sections.pins_; blockages_ = sections.blockages_ };
      })))

  components_keep : Keeps (components_form parts words)
  unfolding components_form
  components_keep =
      let sections = sound.sections in
      gives_skip (unless parts.has.components) (λ once.
      gives_bind (components_give parts.design.library words) (λ components each.
      gives_some _ (record {
        same = sound.same;
        header = sound.header;
        sections = record { vias_ = sections.vias_; components_ = each; pins_ = sections.pins_; blockages_ = sections.blockages_ };
      })))

  pins_keep : Keeps (pins_form parts words)
  unfolding pins_form
  pins_keep =
      let sections = sound.sections in
      gives_skip (unless parts.has.pins) (λ once.
      gives_bind (pins_give (parts_scope parts) words) (λ pins each.
      gives_some _ (record {
        same = sound.same;
        header = sound.header;
        sections = record { vias_ = sections.vias_; components_ = sections.components_; pins_ = each; blockages_ = sections.blockages_ };
      })))

  blockages_keep : Keeps (blockages_form parts words)
  unfolding blockages_form
  blockages_keep =
      let sections = sound.sections in
      gives_skip (unless parts.has.blockages) (λ once.
      gives_bind (blockages_give parts.profile parts.design.library words) (λ blockages are.
      gives_some _ (record {
        same = sound.same;
        header = sound.header;
        sections = record { vias_ = sections.vias_; components_ = sections.components_; pins_ = sections.pins_; blockages_ = are };
      })))

  -- with the vias that words turn they are sound too
  turned_keeps : (profile : Profile) → Gives (HasSoundParts library) (turned_parts profile parts words)
  unfolding turned_parts with_turned_vias
  turned_keeps Narrow = gives_none
  turned_keeps (Wide masks soft) =
      let sections = sound.sections in
      gives_bind (turned_vias_are parts.design.library (record { vias = parts.design.vias; turned = parts.turned }) words sections.vias_) (λ made are.
      gives_some _ (record {
        same = sound.same;
        header = sound.header;
        sections = record { vias_ = are; components_ = sections.components_; pins_ = sections.pins_; blockages_ = sections.blockages_ };
      }))

  nets_section_keeps : (made : DesignParts) → HasSoundParts library made → Keeps (nets_section_form made words)
  unfolding nets_section_form
  nets_section_keeps made holds =
      gives_skip (nets_at (parts_scope made) false made.design.special words) (λ nets.
      gives_some _ (record { same = holds.same; header = holds.header; sections = holds.sections }))

  nets_keep : Keeps (nets_form parts words)
  unfolding nets_form
  nets_keep =
      gives_skip (unless parts.has.nets) (λ once.
      gives_either _ _ (nets_section_keeps parts sound) (gives_bind (turned_keeps parts.profile) nets_section_keeps))

  special_section_keeps : (made : DesignParts) → HasSoundParts library made → Keeps (special_section_form made words)
  unfolding special_section_form
  special_section_keeps made holds =
      gives_skip (nets_at (parts_scope made) true made.design.nets words) (λ special.
      gives_some _ (record { same = holds.same; header = holds.header; sections = holds.sections }))

  special_keep : Keeps (special_form parts words)
  unfolding special_form
  special_keep =
      gives_skip (unless parts.has.special) (λ once.
      gives_either _ _ (special_section_keeps parts sound) (gives_bind (turned_keeps parts.profile) special_section_keeps))

  header_keeps : Keeps (header_form parts words)
  unfolding header_form
  header_keeps =
      gives_if (is_at (codes "DIVIDERCHAR") words) divider_keeps
      (gives_if (is_at (codes "BUSBITCHARS") words) bus_keeps
      (gives_if (is_at (codes "DESIGN") words) name_keeps
      (gives_if (is_at (codes "UNITS") words) units_keeps
      (gives_if (is_at (codes "DIEAREA") words) die_keeps
      (gives_if (is_at (codes "ROW") words) row_keeps
      (gives_if (is_at (codes "TRACKS") words) track_keeps
      (gives_if (is_at (codes "NONDEFAULTRULES") words) (rules_keep parts.profile)
      (gives_skip (past_def_form parts.profile words) (λ form. gives_some _ sound)))))))))

  pub form_keeps : Keeps (def_form_at parts words)
  unfolding def_form_at
  form_keeps =
      gives_if (is_at (codes "VIAS") words) vias_keep
      (gives_if (is_at (codes "COMPONENTS") words) components_keep
      (gives_if (is_at (codes "PINS") words) pins_keep
      (gives_if (is_at (codes "BLOCKAGES") words) blockages_keep
      (gives_if (is_at (codes "SPECIALNETS") words) special_keep
      (gives_if (is_at (codes "NETS") words) nets_keep header_keeps)))))

pub no_parts_sound : (profile : Profile) (library : LibraryModel) → HasSoundParts library (no_parts profile library)
no_parts_sound profile library = record {
  same = refl;
  header = record {
    name_ = λ there. absurd (let e : ⊥ = cc in e);
    divider_ = tt;
    bus_ = tt;
    die_ = λ there. absurd (let e : ⊥ = cc in e);
    rows_ = All-nil (IsRow library);
    tracks_ = All-nil (IsTrack library);
  };
  sections = record {
    vias_ = no_vias library;
    components_ = no_components library;
    pins_ = no_pins (net_scope profile (no_parts profile library).design);
    blockages_ = no_blockages library;
  };
}
