-- The entry of a via is read as the via, and the section as all of them.
use Rattle.std.proofs.Common.{◌≡◌, ◌≤◌, true, false, List, [], ◌∷◌, ◌++◌, All, length, get_or, map, None, Some, codes, refl, sym, ap, ◌∙◌, subst}
use Rattle.std.specs.List.{list_all, flat_map}
use Rattle.std.proofs.lemmas.List.{append_assoc, append-nil}
use Rattle.std.proofs.lemmas.List.Elements.{All-head, All-tail}
use Rattle.leg_lex.specs.declared.limits.TheConstants.{NUMBER_LIMIT}
use Rattle.leg_lex.specs.Words.{Words, next_at, keyword_at, mark_at, name_at, nothing_at}
use Rattle.leg_lex.specs.NameLookup.{place_of, AreApart}
use Rattle.leg_lex.specs.Until.{over}
use Rattle.leg_lex.specs.Statements.{at_end}
use Rattle.leg_output.specs.Words.{stays_one, line, is_printable}
use Rattle.leg_print_words.proofs.LeadingBlanks.{first_passes, others_pass}
use Rattle.leg_print_words.proofs.Lines.{Lines, lines_of_words}
use Rattle.leg_lib_records.specs.declared.records.Shape.{Shape}
use Rattle.leg_lib_records.specs.Records.{ViaModel}
use Rattle.leg_lib_records.specs.Sound.{IsSound}
use Rattle.leg_design_records.specs.Records.{DesignModel, design_via_names}
use Rattle.leg_design_records.specs.WellFormedParts.{IsMetalShape, IsDesignVia, AreVias}
use Rattle.leg_grammar.specs.declared.profile.Profile.TheVariants.{Narrow}
use Rattle.leg_grammar.specs.Def.Via.{via_rect, via_clause, via_head, shapes_in, via_in, via_entry, vias_at}
use Rattle.leg_design_floorplan.proofs.Vias.{entry_shortens}
use Rattle.leg_output.specs.Text.Points.{corner_words}
use Rattle.leg_output.specs.Text.Clauses.{shape_clause}
use Rattle.leg_output.specs.Text.Vias.{via_said, via_words}
use Rattle.leg_output.specs.Text.Whole.{vias_text}
use Rattle.leg_print_laws.specs.PrintedNames.{StayOne, via_entry_names, names_of_layers}
use Rattle.leg_print_laws.specs.Forms.{DenotesForm}
use Rattle.leg_print_laws.proofs.FreeWords.{AreInside, AreFree, free_literal, free_name, free_nil, free_cons, inside_append}
use Rattle.leg_print_laws.proofs.Again.{said_again, clauses_again}
use Rattle.leg_print_laws.proofs.NumberedNames.{not_before, middle, each_passes}
use Rattle.leg_print_laws.proofs.Points.{corners_again}
use Rattle.leg_print_laws.proofs.Clauses.{clauses_inside, no_pluses, metal_named, layer_again, shapes_free}
use Rattle.leg_print_laws.proofs.Sections.{section_words, section_again, section_lines}
use Rattle.leg_print_laws.proofs.PrintableWords.{said_printable, line_says}

module _ (design : DesignModel) (sound : IsSound design.library) where
  rect_again : (front : List Shape) (shape : Shape) → IsMetalShape design.library shape
      → via_clause design.library front (shape_clause (codes "RECT") design shape) ≡ Some (front ++ shape ∷ [])
  unfolding via_clause via_rect keyword_at nothing_at next_at
  rect_again front shape is =
      rw (
        layer_again design sound shape.layer (corner_words shape.rect) (metal_named design sound shape is),
        corners_again shape.rect [] is.rect,
        is.metal,
      ) refl

  rects_again : (front shapes : List Shape) → All (IsMetalShape design.library) shapes
      → over (via_clause design.library) front (map (shape_clause (codes "RECT") design) shapes) ≡ Some (front ++ shapes)
  unfolding over
  rects_again front [] each = rw (append-nil front) refl
  rects_again front (shape ∷ shapes) each =
      rw (rect_again front shape (All-head (IsMetalShape design.library) shape shapes each))
      (rects_again (front ++ shape ∷ []) shapes (All-tail (IsMetalShape design.library) shape shapes each) ∙ ap Some (append_assoc front (shape ∷ []) shapes))

  module _ (via : ViaModel) (is : IsDesignVia design.library via) where
    via_in_again : (front : List ViaModel) → place_of via.name (design_via_names front) ≡ None
        → via_in Narrow design.library front ((codes "-" ∷ via.name ∷ []) ∷ map (shape_clause (codes "RECT") design) via.shapes) ≡ Some via
    unfolding via_in shapes_in via_head mark_at name_at nothing_at next_at
    via_in_again front new =
        rw (is.name, is.new, new, rects_again [] via.shapes is.shapes, sym is.good, sym is.default_via) refl

    module _ (one : StayOne (via_entry_names design via)) where
      head_free : AreFree (codes "-" ∷ via.name ∷ [])
      head_free =
          free_cons (free_literal (codes "-") refl refl refl)
          (free_cons (free_name via.name is.name (first_passes stays_one via.name (names_of_layers design via.shapes) one)) free_nil)

      clauses_free : All AreFree (map (shape_clause (codes "RECT") design) via.shapes)
      clauses_free =
          shapes_free design sound (codes "RECT") via.shapes (free_literal (codes "RECT") refl refl refl) is.shapes
          (others_pass stays_one via.name (names_of_layers design via.shapes) one)

      via_inside : AreInside (via_said design via)
      via_inside = inside_append head_free.inside (clauses_inside (map (shape_clause (codes "RECT") design) via.shapes) clauses_free)

      pub via_again : (front : List ViaModel) → place_of via.name (design_via_names front) ≡ None → (rest : Words)
          → via_entry Narrow design.library front (via_words design via ++ rest) ≡ Some (front ++ via ∷ [], rest)
      unfolding via_entry
      via_again front new rest =
          rw (
            said_again (via_said design via) rest via_inside,
            clauses_again (codes "-" ∷ via.name ∷ []) (map (shape_clause (codes "RECT") design) via.shapes) head_free.plus
                (no_pluses (map (shape_clause (codes "RECT") design) via.shapes) clauses_free),
            via_in_again front new,
          ) refl

      pub via_printable : list_all is_printable (via_words design via) ≡ true
      via_printable = said_printable via_inside

      pub via_line : (front : List ViaModel) → place_of via.name (design_via_names front) ≡ None
          → DenotesForm (via_entry Narrow design.library front) (line (via_words design via)) (front ++ via ∷ [])
      via_line front new = line_says (via_entry Narrow design.library front) (via_words design via) (front ++ via ∷ []) via_printable (via_again front new)

-- all of them
via_goes : (design : DesignModel) (via : ViaModel) (rest : Words) → at_end (via_words design via ++ rest) ≡ false
via_goes design via rest = refl

pub vias_again : (design : DesignModel) (via : ViaModel) (vias : List ViaModel) → IsSound design.library → AreVias design.library (via ∷ vias)
    → length (via ∷ vias) ≤ NUMBER_LIMIT
    → StayOne (flat_map (via_entry_names design) (via ∷ vias)) → (rest : Words)
    → vias_at Narrow design.library (section_words (codes "VIAS") (via_words design) (via ∷ vias) ++ rest) ≡ Some (via ∷ vias, rest)
unfolding vias_at
vias_again design via vias sound are few one rest =
    section_again (codes "VIAS") (via_entry Narrow design.library) (via_words design) (λ entries. entries) refl (entry_shortens Narrow design.library) via vias few
    (record {
      goes = via_goes design;
      read = λ before x after is.
          via_again design sound x (middle (IsDesignVia design.library) (via ∷ vias) before x after is are.each)
          (middle (λ v. StayOne (via_entry_names design v)) (via ∷ vias) before x after is (each_passes stays_one (via_entry_names design) (via ∷ vias) one))
          before (not_before (λ (v : ViaModel). v.name) before x after (subst (λ vs. AreApart (design_via_names vs)) is are.apart));
    }) rest

-- the lines of the section have its words
pub vias_lines : (design : DesignModel) (vias : List ViaModel) → IsSound design.library → AreVias design.library vias → length vias ≤ NUMBER_LIMIT
    → StayOne (flat_map (via_entry_names design) vias) → Lines (vias_text design vias) (section_words (codes "VIAS") (via_words design) vias)
vias_lines design vias sound are few one =
    section_lines (codes "VIAS") (λ via. line (via_words design via)) (via_words design) vias (free_literal (codes "VIAS") refl refl refl) few
    (λ k d less. lines_of_words (via_words design (get_or vias k d)) (via_printable design sound (get_or vias k d) (are.each k d less)
    (each_passes stays_one (via_entry_names design) vias one k d less)))
