-- What each form of a DEF adds in the narrow profile it adds in each.
use Rattle.std.proofs.Common.{◌≡◌, List, true, false, ◌==◌, [], ◌∷◌, ◌++◌, Option, Some, is_some, codes, refl}
use Rattle.leg_lex.specs.Words.{Words, is_at}
use Rattle.leg_lib_records.specs.Records.{RuleModel}
use Rattle.leg_design_records.specs.Records.{DesignModel}
use Rattle.leg_grammar.specs.declared.profile.Profile.{Profile}
use Rattle.leg_grammar.specs.declared.profile.Profile.TheVariants.{Narrow, Wide}
use Rattle.leg_grammar.specs.Def.Guard.{when, unless}
use Rattle.leg_grammar.specs.Def.Header.{word_after, design_name_at, units_at}
use Rattle.leg_grammar.specs.Def.Die.{die_at}
use Rattle.leg_grammar.specs.Def.Row.{row_at}
use Rattle.leg_grammar.specs.Def.Component.{components_at}
use Rattle.leg_grammar.specs.Def.Rule.{rules_at, rules_of}
use Rattle.leg_grammar.specs.Def.SkippedForms.{past_def_section}
use Rattle.leg_grammar.specs.Def.Parts.{Appearances, DesignParts, net_scope, divider_form, bus_form, name_form, units_form, die_form, kept_row_form, dropped_row_form, row_form, track_form, rules_form, vias_form, components_form, pins_form, blockages_form, nets_form, special_form, turned_parts, nets_section_form, special_section_form}
use Rattle.leg_grammar.specs.Def.Form.{header_form, def_form_at}
use Rattle.leg_profile_laws.proofs.Keeps.{keeps_itself}
use Rattle.leg_profile_laws.proofs.Follows.{Follows, follows_bind, follows_some, follows_if, follows_or}
use Rattle.leg_profile_laws.proofs.SameVias.{vias_keep}
use Rattle.leg_profile_laws.proofs.SameTracks.{track_keeps}
use Rattle.leg_profile_laws.proofs.SamePins.{pins_keep}
use Rattle.leg_profile_laws.proofs.SameBlockages.{blockages_keep}
use Rattle.leg_profile_laws.proofs.SameSkippedForms.{skipped_keeps}
use Rattle.leg_profile_laws.proofs.SameNets.{nets_keep}

-- what the forms before gave, in this profile, with these nondefault rules: no row is dropped, and no via turned
abbrev pub read_in : Profile → List RuleModel → Appearances → DesignModel → DesignParts
read_in profile rules has design = record { profile = profile; has = has; design = design; dropped = []; rules = rules; turned = [] }

-- the same was read in both profiles, but for nondefault rules
pub record AreSame (profile : Profile) (narrow parts : DesignParts) : Type 0 where
  pub has : Appearances
  pub design : DesignModel
  pub rules : List RuleModel
  pub narrow_is : narrow ≡ read_in Narrow [] has design
  pub parts_are : parts ≡ read_in profile rules has design

module _ (profile : Profile) (rules : List RuleModel) (has : Appearances) (design : DesignModel) (words : Words) where
  -- what a form adds in both profiles
  abbrev Same : (DesignParts → Words → Option (DesignParts × Words)) → Type 0
  Same form = Follows (λ s t rest. AreSame profile s t) (form (read_in Narrow [] has design) words) (form (read_in profile rules has design) words)

module _ (profile : Profile) where
  also_same : (rules : List RuleModel) (has : Appearances) (design : DesignModel)
      → AreSame profile (read_in Narrow [] has design) (read_in profile rules has design)
  also_same rules has design = record { has = has; design = design; rules = rules; narrow_is = refl; parts_are = refl }

  module _ (rules : List RuleModel) (has : Appearances) (design : DesignModel) (words : Words) where
    are_same : (has : Appearances) (design : DesignModel) → AreSame profile (read_in Narrow [] has design) (read_in profile rules has design)
    are_same has design = also_same rules has design

    divider_same : Same profile rules has design words divider_form
    unfolding divider_form
    divider_same =
        follows_bind (keeps_itself (unless (is_some design.divider))) (λ once.
        follows_bind (keeps_itself (word_after (codes "DIVIDERCHAR") words)) (λ word.
        follows_some word.1 (are_same has (record design { divider = Some word.0 }))))

    bus_same : Same profile rules has design words bus_form
    unfolding bus_form
    bus_same =
        follows_bind (keeps_itself (unless (is_some design.bus))) (λ once.
        follows_bind (keeps_itself (word_after (codes "BUSBITCHARS") words)) (λ word.
        follows_some word.1 (are_same has (record design { bus = Some word.0 }))))

    name_same : Same profile rules has design words name_form
    unfolding name_form
    name_same =
        follows_bind (keeps_itself (unless has.name)) (λ once.
        follows_bind (keeps_itself (design_name_at words)) (λ name.
        follows_some name.1 (are_same (record has { name = true }) (record design { name = name.0 }))))

    units_same : Same profile rules has design words units_form
    unfolding units_form
    units_same =
        follows_bind (keeps_itself (unless has.units)) (λ once.
        follows_bind (keeps_itself (units_at words)) (λ n.
        follows_bind (keeps_itself (when (n.0 == design.library.units))) (λ same.
        follows_some n.1 (are_same (record has { units = true }) design))))

    die_same : Same profile rules has design words die_form
    unfolding die_form
    die_same =
        follows_bind (keeps_itself (unless has.die)) (λ once.
        follows_bind (keeps_itself (die_at words)) (λ die.
        follows_some die.1 (are_same (record has { die = true }) (record design { die = die.0 }))))

    kept_row_same : Same profile rules has design words kept_row_form
    unfolding kept_row_form
    kept_row_same =
        follows_bind (keeps_itself (row_at design.library words)) (λ row.
        follows_some row.1 (are_same has (record design { rows = design.rows ++ row.0 ∷ [] })))

    row_same : Same profile rules has design words row_form
    unfolding row_form dropped_row_form
    row_same = follows_or _ kept_row_same

    track_same : Same profile rules has design words track_form
    unfolding track_form
    track_same =
        follows_bind (track_keeps profile design.library words) (λ track.
        follows_some track.1 (are_same has (record design { tracks = design.tracks ++ track.0 ∷ [] })))

    rules_same : (of : Profile)
        → Follows (λ s t rest. AreSame profile s t) (rules_form Narrow (read_in Narrow [] has design) words)
        (rules_form of (read_in profile rules has design) words)
    unfolding rules_form
    rules_same Narrow = follows_bind (keeps_itself (past_def_section words)) (λ section. follows_some section.1 (are_same has design))
    rules_same (Wide masks soft) =
        follows_bind (keeps_itself (past_def_section words)) (λ section.
        follows_some section.1 (also_same (rules_of (rules_at design.library words)) has design))

    vias_same : Same profile rules has design words vias_form
    unfolding vias_form
    vias_same =
        follows_bind (keeps_itself (unless has.vias)) (λ once.
        follows_bind (vias_keep profile design.library words) (λ vias.
        follows_some vias.1 (are_same (record has { vias = true }) (record design { vias = vias.0 }))))

    components_same : Same profile rules has design words components_form
    unfolding components_form
    components_same =
        follows_bind (keeps_itself (unless has.components)) (λ once.
        follows_bind (keeps_itself (components_at design.library words)) (λ components.
        follows_some components.1 (are_same (record has { components = true }) (record design { components = components.0 }))))

    pins_same : Same profile rules has design words pins_form
    unfolding pins_form
    pins_same =
        follows_bind (keeps_itself (unless has.pins)) (λ once.
        follows_bind (pins_keep profile (net_scope profile design) rules words) (λ pins.
        follows_some pins.1 (are_same (record has { pins = true }) (record design { pins = pins.0 }))))

    blockages_same : Same profile rules has design words blockages_form
    unfolding blockages_form
    blockages_same =
        follows_bind (keeps_itself (unless has.blockages)) (λ once.
        follows_bind (blockages_keep profile design.library words) (λ blockages.
        follows_some blockages.1 (are_same (record has { blockages = true }) (record design { blockages = blockages.0 }))))

    nets_section_same : Same profile rules has design words nets_section_form
    unfolding nets_section_form
    nets_section_same =
        follows_bind (nets_keep (net_scope profile design) rules profile false design.special words) (λ nets.
        follows_some nets.1 (are_same (record has { nets = true }) (record design { nets = nets.0 })))

    nets_form_same : Same profile rules has design words nets_form
    unfolding nets_form turned_parts
    nets_form_same = follows_bind (keeps_itself (unless has.nets)) (λ once. follows_or _ nets_section_same)

    special_section_same : Same profile rules has design words special_section_form
    unfolding special_section_form
    special_section_same =
        follows_bind (nets_keep (net_scope profile design) rules profile true design.nets words) (λ special.
        follows_some special.1 (are_same (record has { special = true }) (record design { special = special.0 })))

    special_form_same : Same profile rules has design words special_form
    unfolding special_form turned_parts
    special_form_same = follows_bind (keeps_itself (unless has.special)) (λ once. follows_or _ special_section_same)

    header_same : Same profile rules has design words header_form
    unfolding header_form
    header_same =
        follows_if (is_at (codes "DIVIDERCHAR") words) divider_same
        (follows_if (is_at (codes "BUSBITCHARS") words) bus_same
        (follows_if (is_at (codes "DESIGN") words) name_same
        (follows_if (is_at (codes "UNITS") words) units_same
        (follows_if (is_at (codes "DIEAREA") words) die_same
        (follows_if (is_at (codes "ROW") words) row_same
        (follows_if (is_at (codes "TRACKS") words) track_same
        (follows_if (is_at (codes "NONDEFAULTRULES") words) (rules_same profile)
        (follows_bind (skipped_keeps profile words) (λ form. follows_some form.1 (are_same has design))))))))))

    form_same : Same profile rules has design words def_form_at
    unfolding def_form_at
    form_same =
        follows_if (is_at (codes "VIAS") words) vias_same
        (follows_if (is_at (codes "COMPONENTS") words) components_same
        (follows_if (is_at (codes "PINS") words) pins_same
        (follows_if (is_at (codes "BLOCKAGES") words) blockages_same
        (follows_if (is_at (codes "SPECIALNETS") words) special_form_same
        (follows_if (is_at (codes "NETS") words) nets_form_same header_same)))))

  -- One form, where the same was read before.
  pub forms_follow : (narrow parts : DesignParts) (words : Words) → AreSame profile narrow parts
      → Follows (λ s t rest. AreSame profile s t) (def_form_at narrow words) (def_form_at parts words)
  forms_follow narrow parts words same = rw (same.narrow_is, same.parts_are) (form_same same.rules same.has same.design words)
