-- The printed text of a design says the design.
use Rattle.std.proofs.Common.{◌≡◌, ℕ, ◌+◌, ◌<◌, ◌≤◌, Bool, true, false, List, [], ◌∷◌, ◌++◌, length, length-append, get_or, Option, None, Some, codes, decimal, refl, sym, ap, ◌∙◌, arith}
use Rattle.std.specs.List.{flat_map}
use Rattle.std.proofs.lemmas.List.{append_assoc, append-nil}
use Rattle.std.proofs.lemmas.Option.{same_Some}
use Rattle.leg_lex.specs.declared.limits.TheConstants.{NUMBER_LIMIT, TEXT_LIMIT}
use Rattle.leg_lex.specs.Words.{Words, is_keyword, keyword_at, next_at, end_at, nothing_at}
use Rattle.leg_lex.specs.Cut.{Cut}
use Rattle.leg_lex.specs.Denotes.{Denotes}
use Rattle.leg_lex.specs.Past.{past}
use Rattle.leg_output.specs.Words.{stays_one, line}
use Rattle.leg_print_words.proofs.LeadingBlanks.{first_passes, others_pass}
use Rattle.leg_print_words.proofs.Lines.{Lines, lines_nil, lines_append, lines_each, lines_of_words, lines_are_text, lines_have_only}
use Rattle.leg_lib_records.specs.Records.{ViaModel}
use Rattle.leg_lib_records.specs.Sound.{IsSound}
use Rattle.leg_design_records.specs.Records.{DesignModel}
use Rattle.leg_design_records.specs.WellFormedParts.{IsKept}
use Rattle.leg_design_records.specs.WellFormed.{IsWellFormed}
use Rattle.leg_grammar.specs.declared.profile.Profile.{Profile}
use Rattle.leg_grammar.specs.declared.profile.Profile.TheVariants.{Narrow}
use Rattle.leg_grammar.specs.Def.Header.{microns_at, units_in}
use Rattle.leg_grammar.specs.Def.Parts.{no_parts}
use Rattle.leg_grammar.specs.Def.Form.{design_in}
use Rattle.leg_output.specs.Text.Header.{version_words, word_words, kept_line, units_words, die_words, header_text}
use Rattle.leg_output.specs.Text.Rows.{row_words}
use Rattle.leg_output.specs.Text.Tracks.{track_words}
use Rattle.leg_output.specs.Text.Vias.{via_words}
use Rattle.leg_output.specs.Text.Components.{component_words}
use Rattle.leg_output.specs.Text.Pins.{pin_words}
use Rattle.leg_output.specs.Text.Blockages.{blockage_words}
use Rattle.leg_output.specs.Text.Nets.{net_words}
use Rattle.leg_output.specs.Text.Sections.{end_words, section_text}
use Rattle.leg_output.specs.Text.Whole.{rows_text, tracks_text, vias_text, components_text, pins_text, blockages_text, nets_text, design_text}
use Rattle.leg_design_records.specs.Names.{net_section}
use Rattle.leg_profile_laws.proofs.SameDesign.{words_same}
use Rattle.leg_print_laws.specs.Forms.{WordsDenote}
use Rattle.leg_print_laws.specs.PrintedNames.{StayOne, kept_words, row_names, track_names, via_entry_names, component_entry_names, pin_entry_names, blockage_entry_names, net_entry_names, printed_names}
use Rattle.leg_print_laws.proofs.FreeWords.{IsFree, free_literal, free_word, free_nil, free_cons}
use Rattle.leg_print_laws.proofs.NumberedNames.{each_passes, first_run_passes, next_run_passes}
use Rattle.leg_print_laws.proofs.PrintableWords.{said_printable}
use Rattle.leg_print_laws.proofs.HeaderLines.{units_after_again, name_printable, units_printable, die_printable}
use Rattle.leg_print_laws.proofs.Rows.{row_printable}
use Rattle.leg_print_laws.proofs.Tracks.{track_printable}
use Rattle.leg_print_laws.proofs.Vias.{vias_lines}
use Rattle.leg_print_laws.proofs.Components.{components_lines}
use Rattle.leg_print_laws.proofs.Pins.{pins_lines}
use Rattle.leg_print_laws.proofs.Blockages.{blockages_lines}
use Rattle.leg_print_laws.proofs.Nets.{HasParts, nets_lines}
use Rattle.leg_print_laws.proofs.Sections.{section_words}
use Rattle.leg_print_laws.proofs.FormsInTurn.{Leads, leads_append, leads_all}
use Rattle.leg_print_laws.proofs.Forms.{kept_line_words, header_leads, rows_lead, tracks_lead}
use Rattle.leg_print_laws.proofs.SectionForms.{has_some, appearances, said_parts, vias_lead, components_lead, pins_lead, blockages_lead, special_lead, nets_lead, nets_are, special_are, design_said}

-- the words of the whole text
abbrev naming_words : DesignModel → Words
naming_words design = version_words ++ kept_line_words (codes "DIVIDERCHAR") design.divider ++ kept_line_words (codes "BUSBITCHARS") design.bus

abbrev frame_words : DesignModel → Words
frame_words design = word_words (codes "DESIGN") design.name ++ units_words design.library.units ++ die_words design.die

abbrev forms_words : DesignModel → Words
forms_words design =
    (naming_words design ++ frame_words design) ++ flat_map (row_words design) design.rows ++ flat_map (track_words design) design.tracks
    ++ section_words (codes "VIAS") (via_words design) design.vias ++ section_words (codes "COMPONENTS") (component_words design) design.components
    ++ section_words (codes "PINS") (pin_words design) design.pins ++ section_words (codes "BLOCKAGES") (blockage_words design) design.blockages
    ++ section_words (net_section true) (net_words design true) design.special ++ section_words (net_section false) (net_words design false) design.nets

abbrev pub whole_words : DesignModel → Words
whole_words design = forms_words design ++ end_words (codes "DESIGN")

-- the names, part by part
record AllStayOne (design : DesignModel) : Type 0 where
  name : stays_one design.name ≡ true
  divider : StayOne (kept_words design.divider)
  bus : StayOne (kept_words design.bus)
  rows : StayOne (flat_map (row_names design) design.rows)
  tracks : StayOne (flat_map (track_names design) design.tracks)
  vias : StayOne (flat_map (via_entry_names design) design.vias)
  components : StayOne (flat_map (component_entry_names design) design.components)
  pins : StayOne (flat_map (pin_entry_names design) design.pins)
  blockages : StayOne (flat_map (blockage_entry_names design) design.blockages)
  special : StayOne (flat_map (net_entry_names design) design.special)
  nets : StayOne (flat_map (net_entry_names design) design.nets)

all_stay_one : (design : DesignModel) → StayOne (printed_names design) → AllStayOne design
unfolding printed_names
all_stay_one design one =
    let a = design.name ∷ kept_words design.divider in
    let b = a ++ kept_words design.bus in
    let c = b ++ flat_map (row_names design) design.rows in
    let d = c ++ flat_map (track_names design) design.tracks in
    let e = d ++ flat_map (via_entry_names design) design.vias in
    let f = e ++ flat_map (component_entry_names design) design.components in
    let g = f ++ flat_map (pin_entry_names design) design.pins in
    let h = g ++ flat_map (blockage_entry_names design) design.blockages in
    let i = h ++ flat_map (net_entry_names design) design.special in
    let in_i = first_run_passes stays_one i (flat_map (net_entry_names design) design.nets) one in
    let in_h = first_run_passes stays_one h (flat_map (net_entry_names design) design.special) in_i in
    let in_g = first_run_passes stays_one g (flat_map (blockage_entry_names design) design.blockages) in_h in
    let in_f = first_run_passes stays_one f (flat_map (pin_entry_names design) design.pins) in_g in
    let in_e = first_run_passes stays_one e (flat_map (component_entry_names design) design.components) in_f in
    let in_d = first_run_passes stays_one d (flat_map (via_entry_names design) design.vias) in_e in
    let in_c = first_run_passes stays_one c (flat_map (track_names design) design.tracks) in_d in
    let in_b = first_run_passes stays_one b (flat_map (row_names design) design.rows) in_c in
    let in_a = first_run_passes stays_one a (kept_words design.bus) in_b in record {
      name = first_passes stays_one design.name (kept_words design.divider) in_a;
      divider = others_pass stays_one design.name (kept_words design.divider) in_a;
      bus = next_run_passes stays_one a (kept_words design.bus) in_b;
      rows = next_run_passes stays_one b (flat_map (row_names design) design.rows) in_c;
      tracks = next_run_passes stays_one c (flat_map (track_names design) design.tracks) in_d;
      vias = next_run_passes stays_one d (flat_map (via_entry_names design) design.vias) in_e;
      components = next_run_passes stays_one e (flat_map (component_entry_names design) design.components) in_f;
      pins = next_run_passes stays_one f (flat_map (pin_entry_names design) design.pins) in_g;
      blockages = next_run_passes stays_one g (flat_map (blockage_entry_names design) design.blockages) in_h;
      special = next_run_passes stays_one h (flat_map (net_entry_names design) design.special) in_i;
      nets = next_run_passes stays_one i (flat_map (net_entry_names design) design.nets) one;
    }

-- there are no more vias than half of the text's bytes
count_lines : {X : Type 0} (text : X → List ℕ) (xs : List X) → ((x : X) → 1 < length (text x)) → length xs + length xs ≤ length (flat_map text xs)
count_lines text [] some = omega arith
count_lines text (x ∷ xs) some =
    let here = some x in
    let later = count_lines text xs some in
    rw (length-append (text x) (flat_map text xs)) (omega arith)

in_section : {X : Type 0} (keyword : List ℕ) (text : X → List ℕ) (xs : List X) → ((x : X) → 1 < length (text x))
    → length xs + length xs ≤ length (section_text keyword text xs)
in_section keyword text [] some = omega arith
in_section keyword text (x ∷ xs) some = fits _ (flat_map text (x ∷ xs)) (line (end_words keyword)) (count_lines text (x ∷ xs) some) where
  fits : (start middle end : List ℕ) → length (x ∷ xs) + length (x ∷ xs) ≤ length middle → length (x ∷ xs) + length (x ∷ xs) ≤ length (start ++ middle ++ end)
  fits start middle end le = rw (length-append (start ++ middle) end, length-append start middle) (omega arith)

inner : (a v b c d e f g : List ℕ) → length v ≤ length (a ++ v ++ b ++ c ++ d ++ e ++ f ++ g)
inner a v b c d e f g =
    rw (
      length-append (a ++ v ++ b ++ c ++ d ++ e ++ f) g,
      length-append (a ++ v ++ b ++ c ++ d ++ e) f,
      length-append (a ++ v ++ b ++ c ++ d) e,
      length-append (a ++ v ++ b ++ c) d,
      length-append (a ++ v ++ b) c,
      length-append (a ++ v) b,
      length-append a v,
    ) (omega arith)

few_vias : (design : DesignModel) → length (design_text design) ≤ TEXT_LIMIT → length design.vias ≤ NUMBER_LIMIT
unfolding design_text
few_vias design fits =
    let some : (via : ViaModel) → 1 < length (line (via_words design via)) = λ via. omega arith in
    let inside = in_section (codes "VIAS") (λ via. line (via_words design via)) design.vias some in
    let whole =
    inner (header_text design ++ rows_text design design.rows ++ tracks_text design design.tracks) (vias_text design design.vias)
    (components_text design design.components)
    (pins_text design design.pins) (blockages_text design design.blockages) (nets_text design true design.special) (nets_text design false design.nets)
    (line (end_words (codes "DESIGN"))) in
    omega (arith, fits, inside, whole)

-- lines of the header
kept_lines : (keyword : List ℕ) (word : Option (List ℕ)) → IsFree keyword → IsKept word → StayOne (kept_words word)
    → Lines (kept_line keyword word) (kept_line_words keyword word)
kept_lines keyword None key kept one = lines_nil
kept_lines keyword (Some word) key kept one =
    lines_of_words (word_words keyword word) (said_printable
    (free_cons key (free_cons (free_word word kept (first_passes stays_one word [] one)) free_nil)).inside)

module _ (design : DesignModel) (sound : IsSound design.library) (well : IsWellFormed design) (one : AllStayOne design)
    (few : length design.vias ≤ NUMBER_LIMIT) where
  has : HasParts design
  has = record { sound = sound; vias = well.vias; components = well.components; pins = well.pins }

  header_lines : Lines (header_text design) (naming_words design ++ frame_words design)
  header_lines =
      lines_append
      (lines_append (lines_append (lines_of_words version_words refl)
      (kept_lines (codes "DIVIDERCHAR") design.divider (free_literal (codes "DIVIDERCHAR") refl refl refl) well.divider one.divider))
      (kept_lines (codes "BUSBITCHARS") design.bus (free_literal (codes "BUSBITCHARS") refl refl refl) well.bus one.bus))
      (lines_append (lines_append (lines_of_words (word_words (codes "DESIGN") design.name) (name_printable design.name well.name one.name))
      (lines_of_words (units_words design.library.units) (units_printable design.library.units sound.most_units)))
      (lines_of_words (die_words design.die) (die_printable design.die well.die)))

  rows_lines : Lines (rows_text design design.rows) (flat_map (row_words design) design.rows)
  rows_lines =
      lines_each (λ row. line (row_words design row)) (row_words design) design.rows (λ k d less.
      lines_of_words (row_words design (get_or design.rows k d))
      (row_printable design (get_or design.rows k d) sound (well.rows k d less) (each_passes stays_one (row_names design) design.rows one.rows k d less)))

  tracks_lines : Lines (tracks_text design design.tracks) (flat_map (track_words design) design.tracks)
  tracks_lines =
      lines_each (λ track. line (track_words design track)) (track_words design) design.tracks (λ k d less.
      lines_of_words (track_words design (get_or design.tracks k d))
      (track_printable design sound (get_or design.tracks k d) (well.tracks k d less)
      (each_passes stays_one (track_names design) design.tracks one.tracks k d less)))

  whole_lines : Lines (design_text design) (whole_words design)
  unfolding design_text
  whole_lines =
      lines_append (lines_append (lines_append (lines_append
      (lines_append (lines_append (lines_append (lines_append (lines_append header_lines rows_lines) tracks_lines)
      (vias_lines design design.vias sound well.vias few one.vias)) (components_lines design design.components sound well.components one.components))
      (pins_lines design design.pins sound well.pins one.pins))
      (blockages_lines design design.blockages sound well.blockages one.blockages))
      (nets_lines design has true design.special [] (special_are design has well.nets) one.special))
      (nets_lines design has false design.nets design.special (nets_are design has well.nets) one.nets))
      (lines_of_words (end_words (codes "DESIGN")) refl)

  forms_lead : Leads (no_parts Narrow design.library) (forms_words design)
      (said_parts design (appearances (has_some design.vias) (has_some design.components) (has_some design.pins) (has_some design.blockages)
      (has_some design.special) (has_some design.nets))
      design.vias design.components design.pins design.blockages design.special design.nets)
  forms_lead =
      leads_append (leads_append (leads_append (leads_append (leads_append (leads_append (leads_append (leads_append
      (header_leads design sound well.name well.divider well.bus well.die)
      (rows_lead design sound [] design.rows well.rows one.rows))
      (tracks_lead design sound [] design.tracks well.tracks one.tracks))
      (vias_lead design has design.vias well.vias few one.vias))
      (components_lead design has (has_some design.vias) design.vias design.components well.components one.components))
      (pins_lead design has (has_some design.vias) (has_some design.components) design.vias design.components design.pins well.pins one.pins))
      (blockages_lead design has (has_some design.vias) (has_some design.components)
      (has_some design.pins) design.vias design.components design.pins design.blockages well.blockages))
      (special_lead design has (has_some design.vias) (has_some design.components) (has_some design.pins) (has_some design.blockages) design.special
      (special_are design has well.nets) one.special))
      (nets_lead design has (has_some design.vias) (has_some design.components) (has_some design.pins) (has_some design.blockages)
      (has_some design.special) design.special design.nets (nets_are design has well.nets) one.nets)

  whole_again : design_in Narrow design.library (whole_words design) ≡ Some design
  unfolding design_in end_at keyword_at nothing_at next_at
  whole_again =
      rw (
        leads_all (no_parts Narrow design.library) _ (forms_words design) (end_words (codes "DESIGN")) forms_lead refl,
        design_said design (has_some design.vias) (has_some design.components) (has_some design.pins) (has_some design.blockages) (has_some design.special)
            (has_some design.nets) well.nets,
      ) refl

-- The text says the design, in each profile.
pub text_says : (profile : Profile) (design : DesignModel) → IsSound design.library → IsWellFormed design → StayOne (printed_names design)
    → length (design_text design) ≤ TEXT_LIMIT
    → Denotes (design_in profile design.library) (design_text design) design
text_says profile design sound well one fits =
    let each = all_stay_one design one in
    let few = few_vias design fits in
    let found = lines_are_text (design_text design) (whole_words design) (whole_lines design sound well each few) in record {
      fits = fits;
      words = found.0;
      tokens = found.1;
      reads = ap (design_in profile design.library) found.2
          ∙ (words_same profile design.library (whole_words design)).kept design (whole_again design sound well each few);
    }

-- So do its words, however long it is, if the count of its vias is a number.
pub words_say : (profile : Profile) (design : DesignModel) → IsSound design.library → IsWellFormed design → StayOne (printed_names design)
    → length design.vias ≤ NUMBER_LIMIT → WordsDenote (design_in profile design.library) (design_text design) design
words_say profile design sound well one few =
    let each = all_stay_one design one in
    let found = lines_are_text (design_text design) (whole_words design) (whole_lines design sound well each few) in record {
      tokens = found.0;
      are = found.1;
      reads = ap (design_in profile design.library) found.2
          ∙ (words_same profile design.library (whole_words design)).kept design (whole_again design sound well each few);
    }

-- UNITS DISTANCE MICRONS stand in a row only where the units are said.
ends_first : (word : List ℕ) (rest : Words) → microns_at (word ∷ codes ";" ∷ rest) ≡ None
unfolding microns_at keyword_at next_at
ends_first word rest = by (is_keyword (codes "UNITS") word) refl where
  by : (units : Bool) → is_keyword (codes "UNITS") word ≡ units → microns_at (word ∷ codes ";" ∷ rest) ≡ None
  by true is = rw is refl
  by false is = rw is refl

past_word : (keyword word : List ℕ) (rest : Words) → is_keyword (codes "UNITS") keyword ≡ false
    → past microns_at (word_words keyword word ++ rest) ≡ past microns_at rest
unfolding past microns_at keyword_at next_at
past_word keyword word rest other = rw (other, ends_first word rest) refl

past_kept : (keyword : List ℕ) (word : Option (List ℕ)) (rest : Words) → is_keyword (codes "UNITS") keyword ≡ false
    → past microns_at (kept_line_words keyword word ++ rest) ≡ past microns_at rest
past_kept keyword None rest other = refl
past_kept keyword (Some word) rest other = past_word keyword word rest other

past_version : (rest : Words) → past microns_at (version_words ++ rest) ≡ past microns_at rest
unfolding past microns_at keyword_at next_at
past_version rest = refl

at_units : (n : ℕ) (rest : Words) → past microns_at (units_words n ++ rest) ≡ Some (tt, decimal n ∷ codes ";" ∷ rest)
unfolding past microns_at keyword_at next_at
at_units n rest = refl

-- a text's words begin so
record Begins (words front : Words) : Type 0 where
  tail : Words
  are : words ≡ front ++ tail

begins_itself : (words : Words) → Begins words words
begins_itself words = record { tail = []; are = sym (append-nil words) }

begins_more : {words front : Words} (more : Words) → Begins words front → Begins (words ++ more) front
begins_more {words} {front} more begins = record { tail = begins.tail ++ more; are = ap (λ all. all ++ more) begins.are ∙ append_assoc front begins.tail more }

in_turn : (version divider bus name units die tail : Words)
    → ((version ++ divider ++ bus) ++ (name ++ units ++ die)) ++ tail ≡ version ++ (divider ++ (bus ++ (name ++ (units ++ (die ++ tail)))))
in_turn version divider bus name units die tail =
    append_assoc (version ++ divider ++ bus) (name ++ units ++ die) tail
    ∙ append_assoc (version ++ divider) bus ((name ++ units ++ die) ++ tail)
    ∙ append_assoc version divider (bus ++ ((name ++ units ++ die) ++ tail))
    ∙ ap (λ all. version ++ (divider ++ (bus ++ all))) (append_assoc (name ++ units) die tail ∙ append_assoc name units (die ++ tail))

units_read : (design : DesignModel) → IsSound design.library → (tail : Words)
    → units_in ((naming_words design ++ frame_words design) ++ tail) ≡ Some design.library.units
unfolding units_in
units_read design sound tail =
    let divider = kept_line_words (codes "DIVIDERCHAR") design.divider in
    let bus = kept_line_words (codes "BUSBITCHARS") design.bus in
    let name = word_words (codes "DESIGN") design.name in
    let units = units_words design.library.units in
    let rest = die_words design.die ++ tail in
    let there : past microns_at ((naming_words design ++ frame_words design) ++ tail) ≡ Some (tt, decimal design.library.units ∷ codes ";" ∷ rest) =
    ap (past microns_at) (in_turn version_words divider bus name units (die_words design.die) tail)
    ∙ past_version (divider ++ (bus ++ (name ++ (units ++ rest))))
    ∙ past_kept (codes "DIVIDERCHAR") design.divider (bus ++ (name ++ (units ++ rest))) refl
    ∙ past_kept (codes "BUSBITCHARS") design.bus (name ++ (units ++ rest)) refl
    ∙ past_word (codes "DESIGN") design.name (units ++ rest) refl
    ∙ at_units design.library.units rest in
    rw (there, units_after_again design.library.units rest sound.least_units sound.most_units) refl

units_are : (design : DesignModel) → IsSound design.library → units_in (whole_words design) ≡ Some design.library.units
units_are design sound =
    let begins : Begins (whole_words design) (naming_words design ++ frame_words design) =
    begins_more (end_words (codes "DESIGN"))
    (begins_more (section_words (net_section false) (net_words design false) design.nets)
    (begins_more (section_words (net_section true) (net_words design true) design.special)
    (begins_more (section_words (codes "BLOCKAGES") (blockage_words design) design.blockages)
    (begins_more (section_words (codes "PINS") (pin_words design) design.pins)
    (begins_more (section_words (codes "COMPONENTS") (component_words design) design.components)
    (begins_more (section_words (codes "VIAS") (via_words design) design.vias)
    (begins_more (flat_map (track_words design) design.tracks)
    (begins_more (flat_map (row_words design) design.rows) (begins_itself (naming_words design ++ frame_words design)))))))))) in
    ap units_in begins.are ∙ units_read design sound begins.tail

-- The text says the units of the library.
pub text_says_units : (design : DesignModel) → IsSound design.library → IsWellFormed design → StayOne (printed_names design)
    → length (design_text design) ≤ TEXT_LIMIT
    → Denotes units_in (design_text design) design.library.units
text_says_units design sound well one fits =
    let found =
    lines_are_text (design_text design) (whole_words design) (whole_lines design sound well (all_stay_one design one) (few_vias design fits)) in record {
      fits = fits;
      words = found.0;
      tokens = found.1;
      reads = ap units_in found.2 ∙ units_are design sound;
    }

-- It says no other design, where a text is cut in one way.
pub text_says_only : (profile : Profile) (design other : DesignModel) → IsSound design.library → IsWellFormed design → StayOne (printed_names design)
    → length (design_text design) ≤ TEXT_LIMIT
    → ((p q : List (List ℕ)) → Cut p (design_text design) → Cut q (design_text design) → p ≡ q)
    → Denotes (design_in profile design.library) (design_text design) other → other ≡ design
text_says_only profile design other sound well one fits cut says =
    let each = all_stay_one design one in
    let few = few_vias design fits in
    let words = lines_have_only (design_text design) (whole_words design) cut (whole_lines design sound well each few) says.words says.tokens in
    same_Some other design (sym says.reads ∙ ap (design_in profile design.library) words
    ∙ (words_same profile design.library (whole_words design)).kept design (whole_again design sound well each few))
