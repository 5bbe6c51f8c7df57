-- Each form of the printed text leads on.
use Rattle.std.proofs.Common.{◌≡◌, ℕ, ◌≤◌, Bool, true, false, List, [], ◌∷◌, ◌++◌, All, Option, None, Some, codes, IsTrue, refl, sym, subst, arith}
use Rattle.std.specs.List.{flat_map}
use Rattle.std.proofs.lemmas.List.{append_assoc, append-nil}
use Rattle.std.proofs.lemmas.List.Elements.{All-head, All-tail}
use Rattle.leg_lex.specs.declared.limits.TheConstants.{UNITS_LIMIT}
use Rattle.leg_lex.specs.Words.{Words, is_name}
use Rattle.leg_lex.specs.Statements.{statement_at, up_to}
use Rattle.leg_output.specs.Words.{stays_one, line}
use Rattle.leg_geom.specs.Plane.{RectModel}
use Rattle.leg_lib_records.specs.Records.{LibraryModel}
use Rattle.leg_lib_records.specs.Sound.{IsSound}
use Rattle.leg_design_records.specs.declared.records.Row.{Row}
use Rattle.leg_design_records.specs.Records.{DesignModel, TrackModel}
use Rattle.leg_design_records.specs.WellFormedParts.{IsKept, IsArea, IsRow, IsTrack}
use Rattle.leg_design_records.proofs.SameTerminal.{number_itself}
use Rattle.leg_grammar.specs.declared.profile.Profile.TheVariants.{Narrow}
use Rattle.leg_grammar.specs.Def.Parts.{DesignParts, no_die, no_parts, divider_form, bus_form, name_form, units_form, die_form, kept_row_form, row_form, track_form}
use Rattle.leg_grammar.specs.Def.SkippedForms.{past_def_form}
use Rattle.leg_grammar.specs.Def.Form.{header_form, def_form_at}
use Rattle.leg_output.specs.Text.Header.{version_words, word_words, units_words, die_words}
use Rattle.leg_output.specs.Text.Rows.{row_words}
use Rattle.leg_output.specs.Text.Tracks.{track_words}
use Rattle.leg_print_laws.specs.Forms.{DenotesForm}
use Rattle.leg_print_laws.specs.PrintedNames.{StayOne, row_names, track_names}
use Rattle.leg_print_laws.proofs.NumberedNames.{first_run_passes, next_run_passes}
use Rattle.leg_print_laws.proofs.PrintableWords.{line_says}
use Rattle.leg_print_laws.proofs.HeaderLines.{word_again, name_again, units_again, die_again}
use Rattle.leg_print_laws.proofs.Rows.{row_again}
use Rattle.leg_print_laws.proofs.Tracks.{track_again}
use Rattle.leg_print_laws.proofs.FormsInTurn.{Leads, leads_nil, leads_append, leads_form}

-- KEYWORD word ; where the word was kept
abbrev pub kept_line_words : List ℕ → Option (List ℕ) → Words
kept_line_words keyword None = []
kept_line_words keyword (Some word) = word_words keyword word

-- what the forms of the header gave
abbrev header_parts : LibraryModel → Bool → Bool → Bool → Option (List ℕ) → Option (List ℕ) → List ℕ → RectModel → DesignParts
header_parts library named with_units with_die divider bus name die = record {
  profile = Narrow;
  has = record ((no_parts Narrow library).has) { name = named; units = with_units; die = with_die };
  design = record ((no_parts Narrow library).design) { divider = divider; bus = bus; name = name; die = die };
  dropped = [];
  rules = [];
  turned = [];
}

module _ (library : LibraryModel) where
  version_leads : Leads (no_parts Narrow library) version_words (no_parts Narrow library)
  unfolding def_form_at header_form past_def_form statement_at up_to
  version_leads = leads_form (no_parts Narrow library) version_words (no_parts Narrow library) (omega arith) (λ rest. refl) read where
    read : (rest : Words) → def_form_at (no_parts Narrow library) (version_words ++ rest) ≡ Some (no_parts Narrow library, rest)
    read rest = refl

  -- what was kept before the name
  abbrev kept : Option (List ℕ) → Option (List ℕ) → DesignParts
  kept divider bus = header_parts library false false false divider bus [] no_die

  divider_leads : (divider : Option (List ℕ)) → IsKept divider
      → Leads (no_parts Narrow library) (kept_line_words (codes "DIVIDERCHAR") divider) (kept divider None)
  unfolding def_form_at header_form divider_form
  divider_leads None is = leads_nil (no_parts Narrow library)
  divider_leads (Some word) is = leads_form (no_parts Narrow library) (word_words (codes "DIVIDERCHAR") word) _ (omega arith) (λ rest. refl) read where
    read : (rest : Words) → def_form_at (no_parts Narrow library) (word_words (codes "DIVIDERCHAR") word ++ rest) ≡ Some (kept (Some word) None, rest)
    read rest = rw (word_again (codes "DIVIDERCHAR") word rest refl is) refl

  bus_leads : (divider bus : Option (List ℕ)) → IsKept bus → Leads (kept divider None) (kept_line_words (codes "BUSBITCHARS") bus) (kept divider bus)
  unfolding def_form_at header_form bus_form
  bus_leads divider None is = leads_nil (kept divider None)
  bus_leads divider (Some word) is = leads_form (kept divider None) (word_words (codes "BUSBITCHARS") word) _ (omega arith) (λ rest. refl) read where
    read : (rest : Words) → def_form_at (kept divider None) (word_words (codes "BUSBITCHARS") word ++ rest) ≡ Some (kept divider (Some word), rest)
    read rest = rw (word_again (codes "BUSBITCHARS") word rest refl is) refl

  module _ (divider bus : Option (List ℕ)) where
    name_leads : (name : List ℕ) → is_name name ≡ true
        → Leads (kept divider bus) (word_words (codes "DESIGN") name) (header_parts library true false false divider bus name no_die)
    unfolding def_form_at header_form name_form
    name_leads name is = leads_form (kept divider bus) (word_words (codes "DESIGN") name) _ (omega arith) (λ rest. refl) read where
      read : (rest : Words) → def_form_at (kept divider bus) (word_words (codes "DESIGN") name ++ rest) ≡ Some
          (header_parts library true false false divider bus name no_die, rest)
      read rest = rw (name_again name rest is) refl

    units_leads : (name : List ℕ) → 1 ≤ library.units → library.units ≤ UNITS_LIMIT
        → Leads (header_parts library true false false divider bus name no_die) (units_words library.units)
        (header_parts library true true false divider bus name no_die)
    unfolding def_form_at header_form units_form
    units_leads name some most =
        leads_form (header_parts library true false false divider bus name no_die) (units_words library.units) _ (omega arith) (λ rest. refl) read where
          read : (rest : Words) → def_form_at (header_parts library true false false divider bus name no_die) (units_words library.units ++ rest) ≡ Some
              (header_parts library true true false divider bus name no_die, rest)
          read rest = rw (units_again library.units rest some most, number_itself library.units) refl

    die_leads : (name : List ℕ) (die : RectModel) → IsArea die
        → Leads (header_parts library true true false divider bus name no_die) (die_words die) (header_parts library true true true divider bus name die)
    unfolding def_form_at header_form die_form
    die_leads name die is = leads_form (header_parts library true true false divider bus name no_die) (die_words die) _ (omega arith) (λ rest. refl) read where
      read : (rest : Words) → def_form_at (header_parts library true true false divider bus name no_die) (die_words die ++ rest) ≡ Some
          (header_parts library true true true divider bus name die, rest)
      read rest = rw (die_again die rest is) refl

pub header_leads : (design : DesignModel) → IsSound design.library → IsTrue (is_name design.name) → IsKept design.divider → IsKept design.bus
    → IsArea design.die
    → Leads (no_parts Narrow design.library)
    ((version_words ++ kept_line_words (codes "DIVIDERCHAR") design.divider ++ kept_line_words (codes "BUSBITCHARS") design.bus)
    ++ (word_words (codes "DESIGN") design.name ++ units_words design.library.units ++ die_words design.die))
    (header_parts design.library true true true design.divider design.bus design.name design.die)
header_leads design sound name divider bus die =
    leads_append
    (leads_append (leads_append (version_leads design.library) (divider_leads design.library design.divider divider))
    (bus_leads design.library design.divider design.bus bus))
    (leads_append (leads_append (name_leads design.library design.divider design.bus design.name name)
    (units_leads design.library design.divider design.bus design.name sound.least_units sound.most_units))
    (die_leads design.library design.divider design.bus design.name design.die die))

module _ (design : DesignModel) (sound : IsSound design.library) where
  -- rows and tracks
  abbrev pub framed : List Row → List TrackModel → DesignParts
  framed rows tracks =
      let header = header_parts design.library true true true design.divider design.bus design.name design.die in
      record header { design = record (header.design) { rows = rows; tracks = tracks } }

  pub rows_lead : (front rows : List Row) → All (IsRow design.library) rows → StayOne (flat_map (row_names design) rows)
      → Leads (framed front []) (flat_map (row_words design) rows) (framed (front ++ rows) [])
  unfolding def_form_at header_form row_form kept_row_form
  rows_lead front [] each one = subst (λ all. Leads (framed front []) [] (framed all [])) (sym (append-nil front)) (leads_nil (framed front []))
  rows_lead front (row ∷ rows) each one =
      leads_append (leads_form (framed front []) (row_words design row) (framed (front ++ row ∷ []) []) (omega arith) (λ rest. refl) read)
      (subst (λ all. Leads (framed (front ++ row ∷ []) []) (flat_map (row_words design) rows) (framed all [])) (append_assoc front (row ∷ []) rows)
      (rows_lead (front ++ row ∷ []) rows (All-tail (IsRow design.library) row rows each)
      (next_run_passes stays_one (row_names design row) (flat_map (row_names design) rows) one))) where
        read : (rest : Words) → def_form_at (framed front []) (row_words design row ++ rest) ≡ Some (framed (front ++ row ∷ []) [], rest)
        read rest =
            rw (row_again design row sound (All-head (IsRow design.library) row rows each)
            (first_run_passes stays_one (row_names design row) (flat_map (row_names design) rows) one) rest) refl

  pub tracks_lead : (front tracks : List TrackModel) → All (IsTrack design.library) tracks → StayOne (flat_map (track_names design) tracks)
      → Leads (framed design.rows front) (flat_map (track_words design) tracks) (framed design.rows (front ++ tracks))
  unfolding def_form_at header_form track_form
  tracks_lead front [] each one =
      subst (λ all. Leads (framed design.rows front) [] (framed design.rows all)) (sym (append-nil front)) (leads_nil (framed design.rows front))
  tracks_lead front (track ∷ tracks) each one =
      leads_append (leads_form (framed design.rows front) (track_words design track) (framed design.rows (front ++ track ∷ [])) (omega arith)
      (λ rest. refl) read)
      (subst (λ all. Leads (framed design.rows (front ++ track ∷ [])) (flat_map (track_words design) tracks) (framed design.rows all))
      (append_assoc front (track ∷ []) tracks)
      (tracks_lead (front ++ track ∷ []) tracks (All-tail (IsTrack design.library) track tracks each)
      (next_run_passes stays_one (track_names design track) (flat_map (track_names design) tracks) one))) where
        read : (rest : Words) → def_form_at (framed design.rows front) (track_words design track ++ rest) ≡ Some
            (framed design.rows (front ++ track ∷ []), rest)
        read rest =
            rw (track_again design sound track (All-head (IsTrack design.library) track tracks each)
            (first_run_passes stays_one (track_names design track) (flat_map (track_names design) tracks) one) rest) refl

-- VERSION is read past, whatever was said before
pub version_line : (parts : DesignParts) → DenotesForm (def_form_at parts) (line version_words) parts
unfolding def_form_at header_form past_def_form statement_at up_to
version_line parts = line_says (def_form_at parts) version_words parts refl read where
  read : (rest : Words) → def_form_at parts (version_words ++ rest) ≡ Some (parts, rest)
  read rest = refl
