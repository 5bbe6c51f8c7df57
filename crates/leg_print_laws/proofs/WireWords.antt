-- The words of wires stay words, and the wiring of a net is read as its wires.
use Rattle.std.proofs.Common.{◌≡◌, ℕ, ◌<◌, ℤ, pos, Bool, true, false, List, [], ◌∷◌, ◌++◌, All, length, map, Option, None, Some, codes, refl, sym, ◌∙◌, arith}
use Rattle.std.specs.List.{list_all, flat_map}
use Rattle.std.proofs.lemmas.List.{append-nil}
use Rattle.std.proofs.lemmas.List.Elements.{All-head, All-tail, All-cons, All-nil}
use Rattle.std.proofs.lemmas.List.Folds.{flat_map-map}
use Rattle.leg_lex.specs.Words.{Words, is_at, next_at, keyword_at}
use Rattle.leg_lex.specs.Until.{until}
use Rattle.leg_lex.specs.Number.{IsNumber}
use Rattle.leg_output.specs.Words.{stays_one, words_in_lines}
use Rattle.leg_print_words.proofs.LeadingBlanks.{first_passes, others_pass}
use Rattle.leg_geom.specs.Plane.{PointModel}
use Rattle.leg_lib_records.specs.Sound.{IsSound}
use Rattle.leg_design_records.specs.declared.records.Wire.{Wire}
use Rattle.leg_design_records.specs.declared.records.Wire.TheVariants.{Segment, ViaAt, Patch}
use Rattle.leg_design_records.specs.Records.{DesignModel}
use Rattle.leg_design_records.specs.WellFormedParts.{IsPosition, AreVias}
use Rattle.leg_design_records.specs.WellFormedNets.{IsWireWidth, IsWire}
use Rattle.leg_grammar.specs.declared.profile.Profile.TheVariants.{Narrow}
use Rattle.leg_grammar.specs.Def.PathItem.{at_path_end}
use Rattle.leg_grammar.specs.Def.Wiring.{at_no_new, new_path, paths_at, wiring_start, wires_at, wiring_at}
use Rattle.leg_grammar.specs.Def.Parts.{net_scope}
use Rattle.leg_output.specs.Names.{layer_name}
use Rattle.leg_design_records.specs.Names.{via_name}
use Rattle.leg_output.specs.Text.Wires.{number_words, width_words, point_words, given_extension, wire_words, lower_layer_of_via}
use Rattle.leg_output.specs.Text.Nets.{wiring_lines}
use Rattle.leg_print_laws.specs.PrintedNames.{StayOne, wire_names}
use Rattle.leg_print_laws.proofs.FreeWords.{AreInside, AreFree, free_literal, free_name, free_number, free_nil, free_cons, free_append, inside_nil, inside_cons, inside_each}
use Rattle.leg_print_laws.proofs.Again.{some_again}
use Rattle.leg_print_laws.proofs.NumberedNames.{middle, first_run_passes, next_run_passes}
use Rattle.leg_print_laws.proofs.Points.{spot_free}
use Rattle.leg_print_laws.proofs.Wires.{IsGiven, given_is}
use Rattle.leg_print_laws.proofs.DesignWires.{path_layer, wire_again, lower_named, via_is_name}

extension_free : (extension : Option ℤ) → IsGiven extension → AreFree (number_words extension)
extension_free None is = free_nil
extension_free (Some z) is = free_cons (free_number z is.0) free_nil

point_free : (p : PointModel) (extension : Option ℤ) → IsPosition p → IsGiven extension → AreFree (point_words p extension)
point_free p extension is given =
    free_cons (free_literal (codes "(") refl refl refl) (free_cons (free_number p.x is.x) (free_cons (free_number p.y is.y)
    (free_append (extension_free extension given) (free_cons (free_literal (codes ")") refl refl refl) free_nil))))

-- the width is a number, where it is printed
abbrev IsNumberIf : Bool → ℤ → Type 0
IsNumberIf false width = Unit {0}
IsNumberIf true width = IsNumber width

width_free : (special : Bool) (width : ℤ) → IsNumberIf special width → AreFree (width_words special width)
width_free false width is = free_nil
width_free true width is = free_cons (free_number width is) free_nil

module _ (design : DesignModel) (sound : IsSound design.library) (vias : AreVias design.library design.vias) where
  width_number : (special : Bool) (layer : ℕ) (width : ℤ) → IsWireWidth design.library special layer width → IsNumberIf special width
  width_number false layer width is = tt
  width_number true layer width is = is.0

  zero_number : (special : Bool) → IsNumberIf special (pos 0)
  zero_number false = tt
  zero_number true = zero_is where
    zero_is : IsNumber (pos 0)
    zero_is = omega arith

  pub wire_free : (special : Bool) (wire : Wire) → IsWire design.library design.vias special wire → StayOne (wire_names design wire)
      → AreFree (wire_words design special wire)
  wire_free special (Segment layer from to width ext_from ext_to) is one =
      free_append (free_append
      (free_cons (free_name (layer_name design layer) (path_layer design sound vias layer is.routes).named.is_one
      (first_passes stays_one (layer_name design layer) [] one)) (width_free special width (width_number special layer width is.width_)))
      (point_free from (given_extension design.library special layer ext_from) is.from_ (given_is design.library special layer ext_from is.from_extension)))
      (point_free to (given_extension design.library special layer ext_to) is.to_ (given_is design.library special layer ext_to is.to_extension))
  wire_free special (ViaAt number at) is one =
      let layer = layer_name design (lower_layer_of_via design number) in
      free_append (free_append
      (free_cons (free_name layer (lower_named design sound vias number is.1.0 is.1.1 is.1.2)
      (first_passes stays_one layer (via_name design number ∷ []) one)) (width_free special (pos 0) (zero_number special)))
      (spot_free at is.0))
      (free_cons (free_name (via_name design number) (via_is_name design sound vias number is.1.0 is.1.1 is.1.2)
      (first_passes stays_one (via_name design number) [] (others_pass stays_one layer (via_name design number ∷ []) one))) free_nil)
  wire_free special (Patch layer at rect) is one =
      free_append
      (free_cons (free_name (layer_name design layer) (path_layer design sound vias layer is.1).named.is_one
      (first_passes stays_one (layer_name design layer) [] one)) (spot_free at is.2))
      (free_cons (free_literal (codes "RECT") refl refl refl) (free_cons (free_literal (codes "(") refl refl refl)
      (free_cons (free_number rect.x1 is.3.x1) (free_cons (free_number rect.y1 is.3.y1)
      (free_cons (free_number rect.x2 is.3.x2) (free_cons (free_number rect.y2 is.3.y2)
      (free_cons (free_literal (codes ")") refl refl refl) free_nil)))))))

  module _ (special : Bool) where
    abbrev more_words : Wire → Words
    more_words wire = codes "NEW" ∷ wire_words design special wire

    -- behind a wire stands NEW or nothing
    ends_path : (wires : List Wire) → at_path_end (flat_map more_words wires ++ []) ≡ true
    ends_path [] = refl
    ends_path (wire ∷ wires) = refl

    no_north : (wires : List Wire) → is_at (codes "N") (flat_map more_words wires ++ []) ≡ false
    no_north [] = refl
    no_north (wire ∷ wires) = refl

    more_again : (front : List Wire) (wire : Wire) (back : List Wire) → IsWire design.library design.vias special wire
        → new_path (net_scope Narrow design) special front (more_words wire ++ (flat_map more_words back ++ [])) ≡ Some
        (front ++ wire ∷ [], flat_map more_words back ++ [])
    unfolding new_path keyword_at next_at
    more_again front wire back is = rw (wire_again design sound vias special wire is (flat_map more_words back ++ []) (ends_path back) (no_north back)) refl

    some_word : (wire : Wire) → 0 < length (more_words wire)
    some_word wire = omega arith

    more_wires : (wire : Wire) (wires : List Wire) → All (IsWire design.library design.vias special) wires
        → until at_no_new (new_path (net_scope Narrow design) special) (wire ∷ []) (flat_map more_words wires ++ []) ≡ Some (wire ∷ wires, [])
    more_wires wire wires each =
        some_again at_no_new (new_path (net_scope Narrow design) special) more_words (λ ws. wire ∷ ws) [] some_word refl wires (λ before w after is. record {
          goes = refl;
          read = more_again (wire ∷ before) w after (middle (IsWire design.library design.vias special) wires before w after is each);
        })

    pub wiring_again : (wire : Wire) (wires : List Wire) → All (IsWire design.library design.vias special) (wire ∷ wires)
        → wiring_at (net_scope Narrow design) special (codes "ROUTED" ∷ (wire_words design special wire ++ words_in_lines (map more_words wires))) ≡ Some
        (wire ∷ wires, [])
    unfolding wiring_at wires_at wiring_start paths_at next_at
    wiring_again wire wires each =
        let words = flat_map more_words wires in
        let same : words_in_lines (map more_words wires) ≡ words ++ [] = flat_map-map (λ v. v) more_words wires ∙ sym (append-nil words) in
        rw (
          same,
          wire_again design sound vias special wire (All-head (IsWire design.library design.vias special) wire wires each) (words ++ []) (ends_path wires)
              (no_north wires),
          more_wires wire wires (All-tail (IsWire design.library design.vias special) wire wires each),
        ) refl

    more_free : (wires : List Wire) → All (IsWire design.library design.vias special) wires → list_all stays_one (flat_map (wire_names design) wires) ≡ true
        → All (λ words. AreInside words) (map more_words wires)
    more_free [] each one = All-nil AreInside
    more_free (wire ∷ wires) each one =
        All-cons AreInside (more_words wire) (map more_words wires)
        (inside_cons (record { printable = refl; semicolon = refl })
        (wire_free special wire (All-head (IsWire design.library design.vias special) wire wires each)
        (first_run_passes stays_one (wire_names design wire) (flat_map (wire_names design) wires) one)).inside)
        (more_free wires (All-tail (IsWire design.library design.vias special) wire wires each)
        (next_run_passes stays_one (wire_names design wire) (flat_map (wire_names design) wires) one))

    -- the lines of the wires stay words
    pub wires_inside : (wires : List Wire) → All (IsWire design.library design.vias special) wires
        → list_all stays_one (flat_map (wire_names design) wires) ≡ true → AreInside (words_in_lines (wiring_lines design special wires))
    wires_inside [] each one = inside_nil
    wires_inside (wire ∷ wires) each one =
        inside_each (λ words. words) (wiring_lines design special (wire ∷ wires))
        (All-cons AreInside (codes "+" ∷ codes "ROUTED" ∷ wire_words design special wire) (map more_words wires)
        (inside_cons (record { printable = refl; semicolon = refl }) (inside_cons (record { printable = refl; semicolon = refl })
        (wire_free special wire (All-head (IsWire design.library design.vias special) wire wires each)
        (first_run_passes stays_one (wire_names design wire) (flat_map (wire_names design) wires) one)).inside))
        (more_free wires (All-tail (IsWire design.library design.vias special) wire wires each)
        (next_run_passes stays_one (wire_names design wire) (flat_map (wire_names design) wires) one)))
