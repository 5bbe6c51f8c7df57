-- A design that a DEF says is well-formed, and under the library that it was read with.
use Rattle.std.proofs.Common.{◌≡◌, ℕ, ◌≤◌, ◌&&◌, Bool, true, false, nat_lt, Some, codes, refl, arith}
use Rattle.std.proofs.lemmas.Bool.Decides.{nat_tests}
use Rattle.std.proofs.lemmas.List.Elements.{All-weaker}
use Rattle.std.proofs.lemmas.Option.{slice_get_within}
use Rattle.leg_lex.specs.Words.{Words, end_at, nothing_at}
use Rattle.leg_lex.specs.Until.{until}
use Rattle.leg_lex.specs.Statements.{at_end}
use Rattle.leg_lex.proofs.GivesAll.{until_gives}
use Rattle.leg_lib_records.specs.Records.{LibraryModel}
use Rattle.leg_design_records.specs.declared.limits.TheConstants.{PART_LIMIT}
use Rattle.leg_design_records.specs.declared.records.Terminal.{Terminal}
use Rattle.leg_design_records.specs.declared.records.Terminal.TheVariants.{Comp, Pin}
use Rattle.leg_design_records.specs.Records.{NetModel, DesignModel}
use Rattle.leg_grammar.specs.declared.profile.Profile.{Profile}
use Rattle.leg_grammar.specs.Def.Parts.{DesignParts, no_parts, parts_scope}
use Rattle.leg_grammar.specs.Def.Form.{def_form_at, all_nets, with_all_nets, design_of, design_in}
use Rattle.leg_design_records.specs.WellFormedNets.{IsTerminal, IsNet, HasNets}
use Rattle.leg_design_records.specs.WellFormed.{IsWellFormed}
use Rattle.leg_design_common.proofs.Gives.{Gives, gives_some, gives_bind, gives_skip, when_gives, unless_gives}
use Rattle.leg_design_nets.proofs.ReadTerminals.{IsKnownTerminal}
use Rattle.leg_design_nets.proofs.ReadNets.{IsKnownNet}
use Rattle.leg_design_nets.proofs.EntriesWithLonePins.{lone_pins_listed}
use Rattle.leg_design.proofs.Designs.{all_terminals, unused}
use Rattle.leg_design.proofs.ReadForms.{HasSoundParts, form_keeps, no_parts_sound}
use Rattle.leg_design.proofs.ReadNetForms.{HasNetParts, lists_of, net_form_keeps, no_net_parts}

not_more : (n : ℕ) → nat_lt PART_LIMIT n ≡ false → n ≤ PART_LIMIT
not_more n few = grind (arith, nat_tests)

-- of three that hold, the first and the last
first_and_last : (a b c : Bool) → (a && b && c) ≡ true → (a ≡ true) × (c ≡ true)
first_and_last true true true all = (refl, refl)
first_and_last true true false all = absurd (let e : ⊥ = cc in e)
first_and_last true false c all = absurd (let e : ⊥ = cc in e)
first_and_last false b c all = absurd (let e : ⊥ = cc in e)

module _ (parts : DesignParts) where
  said : DesignModel
  said = with_all_nets parts.design

  terminal_is : (t : Terminal) → IsKnownTerminal (parts_scope parts) t → IsTerminal said t
  unfolding said
  terminal_is (Comp c k) is = is
  terminal_is (Pin p) is = is

  net_is : (special : Bool) (net : NetModel) → IsKnownNet (parts_scope parts) special net → IsNet said special net
  unfolding said
  net_is special net is = record {
    name = is.name;
    no_must_join = is.no_must_join;
    usage = is.usage;
    terminals = All-weaker (IsKnownTerminal (parts_scope parts)) (IsTerminal said) terminal_is net.terminals is.terminals;
    once = is.once;
    wires = is.wires;
  }

  nets_are : HasNetParts parts → nat_lt PART_LIMIT (all_terminals parts.design) ≡ false → HasNets said
  unfolding said
  nets_are sound few =
      let all = lone_pins_listed (parts_scope parts) (lists_of parts.design.nets parts.design.special) sound.entries in
      let entries = all.entries in
      record {
        nets = record {
          each = All-weaker (IsKnownNet (parts_scope parts) false) (IsNet said false) (net_is false)
              (all_nets parts.design).nets entries.nets;
          apart = entries.nets_apart;
        };
        special = record {
          each = All-weaker (IsKnownNet (parts_scope parts) true) (IsNet said true) (net_is true)
              (all_nets parts.design).special entries.special;
          apart = entries.special_apart;
        };
        one_net = entries.one_net;
        lone = λ p pin at. all.in_nets p pin (slice_get_within parts.design.pins p pin at) at;
        few = entries.few;
        few_terminals = not_more (all_terminals parts.design) few;
        few_wires = entries.few_wires;
      }

  pub all_nets_are : HasNetParts parts → nat_lt PART_LIMIT (all_terminals parts.design) ≡ false → HasNets (with_all_nets parts.design)
  unfolding said
  all_nets_are sound few = nets_are sound few

-- both hold of what the forms say
record AreRead (library : LibraryModel) (parts : DesignParts) : Type 0 where
  sound : HasSoundParts library parts
  nets : HasNetParts parts

form_is_read : (library : LibraryModel) (parts : DesignParts) (words : Words) → AreRead library parts
    → Gives (λ said. AreRead library said.0) (def_form_at parts words)
form_is_read library parts words before = record {
  given = λ next is. record {
    sound = (form_keeps library parts words before.sound).given next is;
    nets = (net_form_keeps parts words before.nets).given next is;
  };
}

-- a well-formed design under this library
abbrev IsRead : LibraryModel → DesignModel → Type 0
IsRead library design = IsWellFormed design × (design.library ≡ library)

design_gives : (library : LibraryModel) (parts : DesignParts) → AreRead library parts → Gives (IsRead library) (design_of parts)
unfolding design_of
design_gives library parts are =
    let header = are.sound.header in
    let sections = are.sound.sections in
    gives_bind (when_gives (parts.has.name && parts.has.units && parts.has.die)) (λ there all.
    gives_skip (unused parts) (λ free.
    gives_bind (unless_gives (nat_lt PART_LIMIT (all_terminals parts.design))) (λ few is.
    let has = first_and_last parts.has.name parts.has.units parts.has.die all in
    gives_some _ (
      record {
        name = header.name_ has.0;
        divider = header.divider_;
        bus = header.bus_;
        die = header.die_ has.1;
        components = sections.components_;
        rows = header.rows_;
        tracks = header.tracks_;
        vias = sections.vias_;
        pins = sections.pins_;
        blockages = sections.blockages_;
        nets = all_nets_are parts are.nets is;
      },
      are.sound.same,
    ))))

forms_give : (profile : Profile) (library : LibraryModel) (words : Words)
    → Gives (λ forms. AreRead library forms.0) (until at_end def_form_at (no_parts profile library) words)
forms_give profile library words =
    until_gives (AreRead library) at_end def_form_at (form_is_read library) (no_parts profile library) words
    (record { sound = no_parts_sound profile library; nets = no_net_parts profile library })

text_gives : (profile : Profile) (library : LibraryModel) (words : Words) → Gives (IsRead library) (design_in profile library words)
unfolding design_in
text_gives profile library words =
    gives_bind (forms_give profile library words) (λ forms are.
    gives_skip (end_at (codes "DESIGN") forms.1) (λ end.
    gives_skip (nothing_at end.1) (λ nothing.
    design_gives library forms.0 are)))

-- A design that a DEF says under a library is well-formed.
pub reads_well_formed : (profile : Profile) (library : LibraryModel) (words : Words) (design : DesignModel) → design_in profile library words ≡ Some design
    → IsWellFormed design
reads_well_formed profile library words design is = ((text_gives profile library words).given design is).0

-- A design that a DEF says under a library has this library.
pub design_has_library : (profile : Profile) (library : LibraryModel) (words : Words)
    → Gives (λ design. design.library ≡ library) (design_in profile library words)
design_has_library profile library words = record { given = λ design is. ((text_gives profile library words).given design is).1 }
