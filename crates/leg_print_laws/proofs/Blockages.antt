-- The entry of a blockage is read as the blockage, and the section as all of them.
use Rattle.std.proofs.Common.{◌≡◌, ℕ, ◌+◌, ◌<◌, ◌≤◌, true, false, ◌&&◌, nat_lt, nat_le, List, [], ◌∷◌, ◌++◌, All, length, get_or, Option, None, Some, codes, refl, ap, ◌∙◌, arith}
use Rattle.std.specs.List.{list_all, flat_map}
use Rattle.std.proofs.lemmas.List.{append_assoc}
use Rattle.std.proofs.lemmas.List.Elements.{All-head, All-weaker}
use Rattle.std.proofs.lemmas.Bool.{lt-ltb, le-leb}
use Rattle.leg_lex.specs.declared.limits.TheConstants.{NUMBER_LIMIT}
use Rattle.leg_lex.specs.Words.{Words, next_at, keyword_at, mark_at}
use Rattle.leg_lex.specs.Until.{until}
use Rattle.leg_lex.specs.Statements.{at_end}
use Rattle.leg_lex.proofs.Until.{ends}
use Rattle.leg_output.specs.Words.{stays_one, line, is_printable}
use Rattle.leg_print_words.proofs.LeadingBlanks.{first_passes}
use Rattle.leg_print_words.proofs.Lines.{Lines, lines_of_words}
use Rattle.leg_geom.specs.Plane.{RectModel}
use Rattle.leg_lib_records.specs.Records.{LibraryModel}
use Rattle.leg_lib_records.specs.Sound.{IsSound}
use Rattle.leg_design_records.specs.declared.limits.TheConstants.{ENTRY_LIMIT, PART_LIMIT}
use Rattle.leg_design_records.specs.Records.{DesignModel, BlockageModel, rect_count}
use Rattle.leg_design_records.specs.WellFormedParts.{IsArea, IsLayerOfBlockage, IsBlockage, AreBlockages}
use Rattle.leg_grammar.specs.declared.profile.Profile.TheVariants.{Narrow}
use Rattle.leg_grammar.specs.Def.BlockageClause.{blockage_clause}
use Rattle.leg_grammar.specs.Def.Blockage.{blocked_layer_at, at_no_plus, one_rect, one_area, at_semicolon, rects_at, blockage_at, is_kept, is_room_for, blockage_entry, blockages_at}
use Rattle.leg_design_floorplan.proofs.Blockages.{one_area_shortens, entry_shortens}
use Rattle.leg_output.specs.Names.{layer_name}
use Rattle.leg_output.specs.Text.Blockages as printed
use Rattle.leg_output.specs.Text.Blockages.{blocked_layer_words, rect_words, blockage_words}
use Rattle.leg_output.specs.Text.Whole.{blockages_text}
use Rattle.leg_print_laws.specs.PrintedNames.{StayOne, name_of_layer, blockage_entry_names}
use Rattle.leg_print_laws.specs.Forms.{DenotesForm}
use Rattle.leg_print_laws.proofs.FreeWords.{AreInside, AreFree, free_literal, free_name, free_nil, free_cons, free_append, free_each}
use Rattle.leg_print_laws.proofs.Again.{all_again}
use Rattle.leg_print_laws.proofs.NumberedNames.{middle, fewer_before, each_passes}
use Rattle.leg_print_laws.proofs.Points.{corners_again, corners_free}
use Rattle.leg_print_laws.proofs.Clauses.{with_metal_named, layer_again}
use Rattle.leg_print_laws.proofs.Sections.{section_words, section_again, section_lines}
use Rattle.leg_print_laws.proofs.PrintableWords.{said_printable, line_says}

-- rectangles, up to the semicolon
one_again : (front : List RectModel) (rect : RectModel) (rest : Words) → IsArea rect
    → one_area Narrow front (rect_words rect ++ rest) ≡ Some (front ++ rect ∷ [], rest)
unfolding one_area one_rect keyword_at next_at
one_again front rect rest is = rw (corners_again rect rest is) refl

more_again : (first : RectModel) (rects : List RectModel) (rest : Words) → All IsArea (first ∷ rects)
    → until at_semicolon (one_area Narrow) (first ∷ []) (flat_map rect_words rects ++ (codes ";" ∷ rest)) ≡ Some (first ∷ rects, codes ";" ∷ rest)
more_again first rects rest each =
    all_again at_semicolon (one_area Narrow) rect_words (λ made. made) (codes ";" ∷ rest) (one_area_shortens Narrow) refl (first ∷ []) rects
    (λ before x after is. record {
      goes = refl;
      read = one_again before x _ (middle IsArea (first ∷ rects) before x after is each);
    })

rects_again : (rects : List RectModel) (rest : Words) → 1 ≤ length rects → All IsArea rects
    → rects_at Narrow (flat_map rect_words rects ++ (codes ";" ∷ rest)) ≡ Some (rects, rest)
unfolding rects_at mark_at next_at
rects_again [] rest some each = absurd (omega arith)
rects_again (rect ∷ rects) rest some each =
    ap (rects_at Narrow) (append_assoc (rect_words rect) (flat_map rect_words rects) (codes ";" ∷ rest))
    ∙ rw (one_again [] rect (flat_map rect_words rects ++ (codes ";" ∷ rest)) (All-head IsArea rect rects each), more_again rect rects rest each) refl

-- no clause is printed
no_clauses : (layer : Option ℕ) (rects : List RectModel) (rest : Words) → 1 ≤ length rects
    → until at_no_plus (blockage_clause Narrow layer) true (flat_map rect_words rects ++ rest) ≡ Some (true, flat_map rect_words rects ++ rest)
no_clauses layer [] rest some = absurd (omega arith)
no_clauses layer (rect ∷ rects) rest some = ends at_no_plus (blockage_clause Narrow layer) true (flat_map rect_words (rect ∷ rects) ++ rest) refl

-- a blockage whose layer has metal is kept
stays_kept : (library : LibraryModel) (layer : Option ℕ) → IsLayerOfBlockage library layer → is_kept library layer ≡ true
stays_kept library None is = refl
stays_kept library (Some layer) is = is

-- there is room for it
room : (blockage : BlockageModel) (front : List BlockageModel) → length front < ENTRY_LIMIT
    → rect_count front + length blockage.rects ≤ PART_LIMIT → is_room_for blockage front ≡ true
room blockage front few few_rects = met (length front) ENTRY_LIMIT (rect_count front + length blockage.rects) PART_LIMIT few few_rects where
  met : (a b c d : ℕ) → a < b → c ≤ d → (nat_lt a b && nat_le c d) ≡ true
  met a b c d less le = rw (lt-ltb a b less, le-leb c d le) refl

-- the rectangles of entries before one, and its own, are no more than all
rects_before : (before : List BlockageModel) (blockage : BlockageModel) (after : List BlockageModel)
    → rect_count before + length blockage.rects ≤ rect_count (before ++ (blockage ∷ after))
rects_before [] blockage after = omega arith
rects_before (first ∷ before) blockage after =
    let later = rects_before before blockage after in
    omega (arith, later)

pub fewer_rects : (all before : List BlockageModel) (blockage : BlockageModel) (after : List BlockageModel)
    → all ≡ before ++ (blockage ∷ after) → rect_count all ≤ PART_LIMIT
    → rect_count before + length blockage.rects ≤ PART_LIMIT
fewer_rects all before blockage after is few =
    let within = rects_before before blockage after in
    omega (arith, ap rect_count is, within, few)

-- the words of an entry, in turn
in_turn : (layer rects rest : Words) → ((codes "-" ∷ layer ++ rects) ++ codes ";" ∷ []) ++ rest ≡ codes "-" ∷ (layer ++ (rects ++ (codes ";" ∷ rest)))
in_turn layer rects rest =
    ap (λ words. codes "-" ∷ words)
    (append_assoc (layer ++ rects) (codes ";" ∷ []) rest ∙ append_assoc layer rects (codes ";" ∷ rest))

rect_free : (rect : RectModel) → IsArea rect → AreFree (rect_words rect)
rect_free rect is = free_cons (free_literal (codes "RECT") refl refl refl) (corners_free rect is)

module _ (design : DesignModel) (sound : IsSound design.library) where
  blocked_again : (layer : Option ℕ) (rest : Words) → IsLayerOfBlockage design.library layer
      → blocked_layer_at design.library (blocked_layer_words design layer ++ rest) ≡ Some (layer, rest)
  unfolding blocked_layer_at keyword_at next_at
  blocked_again None rest is = refl
  blocked_again (Some layer) rest is = rw (layer_again design sound layer rest (with_metal_named design sound layer is)) refl

  blocked_free : (layer : Option ℕ) → IsLayerOfBlockage design.library layer
      → list_all stays_one (name_of_layer design layer) ≡ true → AreFree (blocked_layer_words design layer)
  blocked_free None is one = free_cons (free_literal (codes "PLACEMENT") refl refl refl) free_nil
  blocked_free (Some layer) is one =
      free_cons (free_literal (codes "LAYER") refl refl refl)
      (free_cons (free_name (layer_name design layer) (with_metal_named design sound layer is).is_one
      (first_passes stays_one (layer_name design layer) [] one)) free_nil)

  module _ (blockage : BlockageModel) (is : IsBlockage design.library blockage) where
    blockage_at_again : (rest : Words) → blockage_at Narrow design.library (blockage_words design blockage ++ rest) ≡ Some ((blockage, true), rest)
    unfolding blockage_at mark_at next_at
    blockage_at_again rest =
        ap (blockage_at Narrow design.library) (in_turn (blocked_layer_words design blockage.layer) (flat_map rect_words blockage.rects) rest)
        ∙ rw (
          blocked_again blockage.layer (flat_map rect_words blockage.rects ++ (codes ";" ∷ rest)) is.layer,
          no_clauses blockage.layer blockage.rects (codes ";" ∷ rest) is.some,
          rects_again blockage.rects rest is.some is.rects,
        ) refl

    pub blockage_again : (front : List BlockageModel) → length front < ENTRY_LIMIT → rect_count front + length blockage.rects ≤ PART_LIMIT
        → (rest : Words)
        → blockage_entry Narrow design.library front (blockage_words design blockage ++ rest) ≡ Some (front ++ blockage ∷ [], rest)
    unfolding blockage_entry
    blockage_again front few few_rects rest =
        rw (blockage_at_again rest, stays_kept design.library blockage.layer is.layer, room blockage front few few_rects) refl

    module _ (one : StayOne (blockage_entry_names design blockage)) where
      blockage_inside : AreInside (printed.blockage_parts design blockage)
      blockage_inside =
          (free_append (free_cons (free_literal (codes "-") refl refl refl) (blocked_free blockage.layer is.layer one))
          (free_each rect_words blockage.rects (All-weaker IsArea (λ rect. AreFree (rect_words rect)) rect_free blockage.rects is.rects))).inside

      pub blockage_printable : list_all is_printable (blockage_words design blockage) ≡ true
      blockage_printable = said_printable blockage_inside

      pub blockage_line : (front : List BlockageModel) → length front < ENTRY_LIMIT → rect_count front + length blockage.rects ≤ PART_LIMIT
          → DenotesForm (blockage_entry Narrow design.library front) (line (blockage_words design blockage)) (front ++ blockage ∷ [])
      blockage_line front few few_rects =
          line_says (blockage_entry Narrow design.library front) (blockage_words design blockage) (front ++ blockage ∷ []) blockage_printable
          (blockage_again front few few_rects)

-- all of them
blockage_goes : (design : DesignModel) (blockage : BlockageModel) (rest : Words) → at_end (blockage_words design blockage ++ rest) ≡ false
blockage_goes design blockage rest = refl

pub blockages_again : (design : DesignModel) (blockage : BlockageModel) (blockages : List BlockageModel) → IsSound design.library
    → AreBlockages design.library (blockage ∷ blockages) → (rest : Words)
    → blockages_at Narrow design.library (section_words (codes "BLOCKAGES") (blockage_words design) (blockage ∷ blockages) ++ rest)
    ≡ Some (blockage ∷ blockages, rest)
unfolding blockages_at
blockages_again design blockage blockages sound are rest =
    section_again (codes "BLOCKAGES") (blockage_entry Narrow design.library) (blockage_words design) (λ entries. entries) refl
    (entry_shortens Narrow design.library) blockage blockages few
    (record {
      goes = blockage_goes design;
      read = λ before x after is.
          blockage_again design sound x (middle (IsBlockage design.library) (blockage ∷ blockages) before x after is are.each)
          before (less before x after is) (fewer_rects (blockage ∷ blockages) before x after is are.few_rects);
    }) rest where
      few : length (blockage ∷ blockages) ≤ NUMBER_LIMIT
      few = omega (arith, are.few)

      less : (before : List BlockageModel) (x : BlockageModel) (after : List BlockageModel) → blockage ∷ blockages ≡ before ++ (x ∷ after)
          → length before < ENTRY_LIMIT
      less before x after is = omega (arith, fewer_before (blockage ∷ blockages) before x after is, are.few)

-- the lines of the section have its words
pub blockages_lines : (design : DesignModel) (blockages : List BlockageModel) → IsSound design.library → AreBlockages design.library blockages
    → StayOne (flat_map (blockage_entry_names design) blockages)
    → Lines (blockages_text design blockages) (section_words (codes "BLOCKAGES") (blockage_words design) blockages)
blockages_lines design blockages sound are one =
    section_lines (codes "BLOCKAGES") (λ blockage. line (blockage_words design blockage)) (blockage_words design) blockages
    (free_literal (codes "BLOCKAGES") refl refl refl)
    (omega (arith, are.few))
    (λ k d less. lines_of_words (blockage_words design (get_or blockages k d)) (blockage_printable design sound (get_or blockages k d) (are.each k d less)
    (each_passes stays_one (blockage_entry_names design) blockages one k d less)))
