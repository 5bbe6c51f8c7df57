-- Each entry of a design is read behind those before it.
use Rattle.std.proofs.Common.{◌≡◌, true, false, List, [], ◌∷◌, ◌++◌, subst, arith}
use Rattle.leg_lex.specs.NameLookup.{AreApart}
use Rattle.leg_output.specs.Words.{line}
use Rattle.leg_lib_records.specs.Records.{ViaModel}
use Rattle.leg_lib_records.specs.Sound.{IsSound}
use Rattle.leg_design_records.specs.declared.records.Component.{Component}
use Rattle.leg_design_records.specs.Records.{DesignModel, PinModel, BlockageModel, NetModel, design_via_names, component_names, pin_names}
use Rattle.leg_design_records.specs.WellFormedParts.{IsDesignVia, IsComponent, IsPin, IsBlockage}
use Rattle.leg_design_records.specs.WellFormed.{IsWellFormed}
use Rattle.leg_grammar.specs.declared.profile.Profile.TheVariants.{Narrow}
use Rattle.leg_grammar.specs.Def.Via.{via_entry}
use Rattle.leg_grammar.specs.Def.Component.{component_entry}
use Rattle.leg_grammar.specs.Def.Pin.{pin_entry}
use Rattle.leg_grammar.specs.Def.Blockage.{blockage_entry}
use Rattle.leg_grammar.specs.Def.Net.{net_entry}
use Rattle.leg_grammar.specs.Def.Parts.{net_scope}
use Rattle.leg_output.specs.Text.Vias.{via_words}
use Rattle.leg_output.specs.Text.Components.{component_words}
use Rattle.leg_output.specs.Text.Pins.{pin_words}
use Rattle.leg_output.specs.Text.Blockages.{blockage_words}
use Rattle.leg_output.specs.Text.Nets.{net_text}
use Rattle.leg_print_laws.specs.PrintedNames.{StayOne, via_entry_names, component_entry_names, pin_entry_names, blockage_entry_names, net_entry_names}
use Rattle.leg_print_laws.specs.Forms.{DenotesForm}
use Rattle.leg_print_laws.proofs.NumberedNames.{not_before, middle, fewer_before}
use Rattle.leg_print_laws.proofs.Vias.{via_line}
use Rattle.leg_print_laws.proofs.Components.{component_line}
use Rattle.leg_print_laws.proofs.Pins.{pin_line}
use Rattle.leg_print_laws.proofs.Blockages.{fewer_rects, blockage_line}
use Rattle.leg_print_laws.proofs.Nets.{HasParts, one_net_line}
use Rattle.leg_print_laws.proofs.SectionForms.{nets_are, special_are}

module _ (design : DesignModel) (sound : IsSound design.library) (well : IsWellFormed design) where
  pub via_said : (before after : List ViaModel) (via : ViaModel) → design.vias ≡ before ++ (via ∷ after) → StayOne (via_entry_names design via)
      → DenotesForm (via_entry Narrow design.library before) (line (via_words design via)) (before ++ via ∷ [])
  via_said before after via is one =
      via_line design sound via (middle (IsDesignVia design.library) design.vias before via after is well.vias.each) one before
      (not_before (λ (v : ViaModel). v.name) before via after (subst (λ vs. AreApart (design_via_names vs)) is well.vias.apart))

  pub component_said : (before after : List Component) (component : Component) → design.components ≡ before ++ (component ∷ after)
      → StayOne (component_entry_names design component)
      → DenotesForm (component_entry design.library before) (line (component_words design component)) (before ++ component ∷ [])
  component_said before after component is one =
      component_line design sound component (middle (IsComponent design.library) design.components before component after is well.components.each) one before
      (omega (arith, fewer_before design.components before component after is, well.components.few))
      (not_before (λ (c : Component). c.name) before component after (subst (λ cs. AreApart (component_names cs)) is well.components.apart))

  pub pin_said : (before after : List PinModel) (pin : PinModel) → design.pins ≡ before ++ (pin ∷ after) → StayOne (pin_entry_names design pin)
      → DenotesForm (pin_entry (net_scope Narrow design) before) (line (pin_words design pin)) (before ++ pin ∷ [])
  pin_said before after pin is one =
      pin_line design sound design pin (middle (IsPin design.library) design.pins before pin after is well.pins.each) one before
      (omega (arith, fewer_before design.pins before pin after is, well.pins.few))
      (not_before (λ (p : PinModel). p.name) before pin after (subst (λ ps. AreApart (pin_names ps)) is well.pins.apart))

  pub blockage_entry_said : (before after : List BlockageModel) (blockage : BlockageModel) → design.blockages ≡ before ++ (blockage ∷ after)
      → StayOne (blockage_entry_names design blockage)
      → DenotesForm (blockage_entry Narrow design.library before) (line (blockage_words design blockage)) (before ++ blockage ∷ [])
  blockage_entry_said before after blockage is one =
      blockage_line design sound blockage (middle (IsBlockage design.library) design.blockages before blockage after is well.blockages.each) one before
      (omega (arith, fewer_before design.blockages before blockage after is, well.blockages.few))
      (fewer_rects design.blockages before blockage after is well.blockages.few_rects)

  has : HasParts design
  has = record { sound = sound; vias = well.vias; components = well.components; pins = well.pins }

  pub net_said : (before after : List NetModel) (net : NetModel) → design.nets ≡ before ++ (net ∷ after) → StayOne (net_entry_names design net)
      → DenotesForm (net_entry (net_scope Narrow design) false design.special before) (net_text design false net) (before ++ net ∷ [])
  net_said before after net is one = one_net_line design has false design.nets design.special (nets_are design has well.nets) before net after is one

  pub special_said : (before after : List NetModel) (net : NetModel) → design.special ≡ before ++ (net ∷ after) → StayOne (net_entry_names design net)
      → DenotesForm (net_entry (net_scope Narrow design) true [] before) (net_text design true net) (before ++ net ∷ [])
  special_said before after net is one = one_net_line design has true design.special [] (special_are design has well.nets) before net after is one
