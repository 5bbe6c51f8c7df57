-- The words of a wire of a design are read as the wire.
use Rattle.std.proofs.Common.{◌≡◌, ℕ, zero, suc, ◌+◌, ◌<◌, ◌⊎◌, inl, inr, Bool, true, false, not, ◌&&◌, List, [], ◌∷◌, ◌++◌, length, slice_get, unwrap_or, ℤ, pos, Option, None, Some, codes, refl, sym, ap, ◌∙◌, subst, arith}
use Rattle.std.proofs.lemmas.Bool.{false≢true}
use Rattle.std.proofs.lemmas.List.{append_assoc}
use Rattle.std.proofs.lemmas.Option.{slice_get_within}
use Rattle.leg_lemmas.proofs.Places.{all_at}
use Rattle.leg_lex.specs.Words.{Words, is_at, is_name}
use Rattle.leg_geom.specs.Plane.{PointModel}
use Rattle.leg_lib_records.specs.declared.records.Layer.{Layer}
use Rattle.leg_lib_records.specs.Records.{LibraryModel, ViaModel}
use Rattle.leg_lib_records.specs.Joins.{is_wiring_word, join_layers}
use Rattle.leg_lib_records.specs.GoodVia.{is_good_via, uses_of, parts_of}
use Rattle.leg_lib_records.specs.References.{IsViaOf}
use Rattle.leg_lib_records.specs.Sound.{IsSound}
use Rattle.leg_design_records.specs.declared.records.Wire.{Wire}
use Rattle.leg_design_records.specs.declared.records.Wire.TheVariants.{Segment, ViaAt, Patch}
use Rattle.leg_design_records.specs.Layers.{is_routing}
use Rattle.leg_design_records.specs.Wires.{default_extension}
use Rattle.leg_design_records.specs.Records.{DesignModel}
use Rattle.leg_design_records.specs.WellFormedParts.{IsPosition, IsDesignVia, AreVias}
use Rattle.leg_design_records.specs.WellFormedNets.{IsSegment, IsWire}
use Rattle.leg_grammar.specs.declared.profile.Profile.TheVariants.{Narrow}
use Rattle.leg_grammar.specs.Def.NetScope.{via_named}
use Rattle.leg_grammar.specs.Def.PathItem.{at_path_end}
use Rattle.leg_grammar.specs.Def.Wiring.{path_at}
use Rattle.leg_grammar.specs.Def.Parts.{net_scope}
use Rattle.leg_output.specs.Names.{layer_name}
use Rattle.leg_design_records.specs.Names.{design_via, via_name}
use Rattle.leg_output.specs.Text.Wires.{width_words, point_words, given_extension, segment_words, wire_words, via_wire_words, patch_words, lower_layer_of_via}
use Rattle.leg_print_laws.proofs.NumberedNames.{found, name_is}
use Rattle.leg_print_laws.proofs.Tracks.{layer_named}
use Rattle.leg_print_laws.proofs.GoodVias.{good_joins, lowest_is, across_good}
use Rattle.leg_print_laws.proofs.Wires.{IsPathLayer, written_as, segment_path, via_path, patch_path, given_is, extension_again}

-- an element of two lists is one of the first or of the second
pub either_list : {X : Type 0} (xs ys : List X) (i : ℕ) (x : X) → slice_get (xs ++ ys) i ≡ Some x
    → (slice_get xs i ≡ Some x) ⊎ ((j : ℕ) × (i ≡ length xs + j) × (slice_get ys j ≡ Some x))
either_list [] ys i x is = inr (i, omega arith, is)
either_list (y ∷ xs) ys zero x is = inl is
either_list (y ∷ xs) ys (suc i) x is = by (either_list xs ys i x is) where
  by : (slice_get xs i ≡ Some x) ⊎ ((j : ℕ) × (i ≡ length xs + j) × (slice_get ys j ≡ Some x))
      → (slice_get xs i ≡ Some x) ⊎ ((j : ℕ) × (suc i ≡ length (y ∷ xs) + j) × (slice_get ys j ≡ Some x))
  by (inl first) = inl first
  by (inr later) = inr (later.0, omega (arith, later.1), later.2)

-- What is known of a good via that wires name.
record IsNamedVia (design : DesignModel) (number : ℕ) (via : ViaModel) : Type 0 where
  name : is_name via.name ≡ true
  there : via_named (net_scope Narrow design) via.name ≡ Some number
  good : is_good_via design.library via.name via.shapes ≡ true

free_word : (wiring rest : Bool) → (not wiring && rest) ≡ true → wiring ≡ false
free_word false rest is = refl
free_word true rest is = absurd (false≢true is)

no_wiring_word : (library : LibraryModel) (via : ViaModel) → is_good_via library via.name via.shapes ≡ true → is_wiring_word via.name ≡ false
unfolding is_good_via
no_wiring_word library via good = free_word (is_wiring_word via.name) (join_layers (uses_of library.layers) (parts_of via.shapes)) good

module _ (design : DesignModel) (sound : IsSound design.library) (vias : AreVias design.library design.vias) where
  routing_there : (layer : ℕ) → is_routing design.library layer ≡ true → layer < length design.library.layers
  routing_there layer routes = by (slice_get design.library.layers layer) refl where
    by : (found : Option Layer) → slice_get design.library.layers layer ≡ found → layer < length design.library.layers
    by None is = absurd (false≢true (rw is at routes))
    by (Some l) is = slice_get_within design.library.layers layer l is

  pub path_layer : (layer : ℕ) → is_routing design.library layer ≡ true → IsPathLayer design.library layer (layer_name design layer)
  path_layer layer routes = record { named = layer_named design layer sound (routing_there layer routes); routes = routes }

  via_known : (number : ℕ) (via : ViaModel) → design_via design number ≡ Some via → via.good ≡ true → IsNamedVia design number via
  via_known number via is good = by (either_list design.library.vias design.vias number via is) where
    by : (slice_get design.library.vias number ≡ Some via) ⊎ ((j : ℕ) × (number ≡ length design.library.vias + j) × (slice_get design.vias j ≡ Some via))
        → IsNamedVia design number via
    by (inl first) = record {
      name = name_is (λ (v : ViaModel). v.name) design.library.vias number via first sound.names.vias.each;
      there = rw (found (λ (v : ViaModel). v.name) design.library.vias number via first sound.names.vias.apart) refl;
      good = sym (all_at (IsViaOf design.library) design.library.vias number via sound.references.vias first).good ∙ good;
    }
    by (inr (j, at, later)) =
        let one : IsDesignVia design.library via = all_at (IsDesignVia design.library) design.vias j via vias.each later in record {
          name = one.name;
          there = rw (one.new, found (λ (v : ViaModel). v.name) design.vias j via later vias.apart) (ap Some (sym at));
          good = sym one.good ∙ good;
        }

  -- the words of a segment
  segment_again : (special : Bool) (layer : ℕ) (from to : PointModel) (width ext_from ext_to : ℤ)
      → IsSegment design.library special layer from to width ext_from ext_to → (rest : Words) → at_path_end rest ≡ true
      → path_at (net_scope Narrow design) special (segment_words design special layer from to width ext_from ext_to ++ rest) ≡ Some
      (Segment layer from to width ext_from ext_to ∷ [], rest)
  segment_again special layer from to width ext_from ext_to is rest ends =
      let first = given_extension design.library special layer ext_from in
      let next = given_extension design.library special layer ext_to in
      ap (λ words. path_at (net_scope Narrow design) special (layer_name design layer ∷ words))
      (append_assoc (width_words special width ++ point_words from first) (point_words to next) rest
      ∙ append_assoc (width_words special width) (point_words from first) (point_words to next ++ rest))
      ∙ segment_path (net_scope Narrow design) refl special layer (layer_name design layer)
      (path_layer layer is.routes) from to width is.from_ is.to_ is.straight is.long is.width_ first next rest
      (given_is design.library special layer ext_from is.from_extension) (given_is design.library special layer ext_to is.to_extension) ends
      ∙ ap (λ e. Some (Segment layer from to width e (unwrap_or next (default_extension design.library (written_as special width) layer)) ∷ [], rest))
      (extension_again design.library special layer ext_from width)
      ∙ ap (λ e. Some (Segment layer from to width ext_from e ∷ [], rest)) (extension_again design.library special layer ext_to width)

  -- the words of a via
  via_again : (special : Bool) (number : ℕ) (at : PointModel) (via : ViaModel) → IsPosition at → design_via design number ≡ Some via → via.good ≡ true
      → (rest : Words) → at_path_end rest ≡ true → is_at (codes "N") rest ≡ false
      → path_at (net_scope Narrow design) special (via_wire_words design special number at ++ rest) ≡ Some (ViaAt number at ∷ [], rest)
  via_again special number at via is there good rest ends no_north =
      let known = via_known number via there good in
      let two = good_joins design.library via.shapes via.name known.good in
      let other = across_good (net_scope Narrow design) number via two.0 two.1 there good two.2 in
      let lower : lower_layer_of_via design number ≡ two.0 = rw there (lowest_is two.0 via.shapes two.2.on_low two.2.each) in
      let named : via_name design number ≡ via.name = rw there refl in
      ap (λ words. path_at (net_scope Narrow design) special (layer_name design (lower_layer_of_via design number) ∷ words))
      (append_assoc (width_words special (pos 0) ++ point_words at None) (via_name design number ∷ []) rest
      ∙ append_assoc (width_words special (pos 0)) (point_words at None) (via_name design number ∷ rest))
      ∙ ap (λ layer. path_at (net_scope Narrow design) special
      (layer_name design layer ∷ (width_words special (pos 0) ++ (point_words at None ++ (via_name design number ∷ rest))))) lower
      ∙ ap (λ word. path_at (net_scope Narrow design) special (layer_name design two.0 ∷
      (width_words special (pos 0) ++ (point_words at None ++ (word ∷ rest)))))
      named
      ∙ via_path (net_scope Narrow design) refl special two.0 (layer_name design two.0) (path_layer two.0 two.2.low_routes) at number other.0 via.name rest is
      (record { named = known.name; free = no_wiring_word design.library via known.good; there = known.there; leads = other.1; upright = refl }) ends no_north

  -- the words of any wire
  pub wire_again : (special : Bool) (wire : Wire) → IsWire design.library design.vias special wire → (rest : Words) → at_path_end rest ≡ true
      → is_at (codes "N") rest ≡ false
      → path_at (net_scope Narrow design) special (wire_words design special wire ++ rest) ≡ Some (wire ∷ [], rest)
  wire_again special (Segment layer from to width ext_from ext_to) is rest ends no_north =
      segment_again special layer from to width ext_from ext_to is rest ends
  wire_again special (ViaAt number at) is rest ends no_north = via_again special number at is.1.0 is.0 is.1.1 is.1.2 rest ends no_north
  wire_again special (Patch layer at rect) is rest ends no_north =
      subst (λ kind. path_at (net_scope Narrow design) kind (patch_words design layer at rect ++ rest) ≡ Some (Patch layer at rect ∷ [], rest)) (sym is.0)
      (patch_path (net_scope Narrow design) refl layer (layer_name design layer) at rect rest (path_layer layer is.1) is.2 is.3 ends)

  -- the names that a via is printed with
  pub lower_named : (number : ℕ) (via : ViaModel) → design_via design number ≡ Some via → via.good ≡ true
      → is_name (layer_name design (lower_layer_of_via design number)) ≡ true
  lower_named number via there good =
      let known = via_known number via there good in
      let two = good_joins design.library via.shapes via.name known.good in
      let lower : lower_layer_of_via design number ≡ two.0 = rw there (lowest_is two.0 via.shapes two.2.on_low two.2.each) in
      rw lower (path_layer two.0 two.2.low_routes).named.is_one

  pub via_is_name : (number : ℕ) (via : ViaModel) → design_via design number ≡ Some via → via.good ≡ true → is_name (via_name design number) ≡ true
  via_is_name number via there good = rw there (via_known number via there good).name
