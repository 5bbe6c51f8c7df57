-- What a via or a macro that is read refers to is there: its layers, its site, and names of pins that are apart.
use Rattle.std.proofs.Common.{◌≡◌, ℕ, ◌<◌, Bool, true, false, not, ◌&&◌, List, [], ◌∷◌, length, map, All, IfSome, Option, None, Some, is_none, IsTrue, refl, sym, codes}
use Rattle.std.proofs.lemmas.List.Elements.{All-nil, All-cons, All-push, All-append}
use Rattle.leg_lex.specs.Words.{Words, is_name, is_at, keyword_at, name_at, end_at, end_of, nothing_at}
use Rattle.leg_lex.specs.Until.{over}
use Rattle.leg_lex.specs.Past.{past}
use Rattle.leg_lex.specs.Statements.{statement_at, statements_at, only, the, at_end}
use Rattle.leg_lex.specs.NameLookup.{place_of}
use Rattle.leg_lex.proofs.Gives.{Gives, gives_none, gives_some, gives_bind, gives_skip, gives_choice, gives_if}
use Rattle.leg_lex.proofs.GivesAll.{until_gives, over_gives, named_gives_within}
use Rattle.leg_geom.specs.Plane.{RectModel}
use Rattle.leg_lib_records.specs.declared.raw.RawLayer.{RawLayer}
use Rattle.leg_lib_records.specs.declared.raw.RawSite.{RawSite}
use Rattle.leg_lib_records.specs.declared.raw.RawShape.{RawShape}
use Rattle.leg_lib_records.specs.Records.{RawLibraryModel, RawViaModel, RawPinModel, RawMasterModel}
use Rattle.leg_lib_records.specs.Joins.{is_wiring_word, join_layers}
use Rattle.leg_lib_records.specs.GoodVia.{raw_uses, raw_parts, is_raw_good_via}
use Rattle.leg_lib_records.specs.LibraryNames.{AreNames}
use Rattle.leg_lib_records.specs.References.{AreRawShapesOn, IsRawViaOf, IsRawMasterOf}
use Rattle.leg_lib_records.proofs.LibraryNames.{no_names, names_push}
use Rattle.leg_grammar.specs.declared.profile.Profile.{Profile}
use Rattle.leg_grammar.specs.declared.profile.Profile.TheVariants.{Narrow, Wide}
use Rattle.leg_grammar.specs.Def.GeneratedVia.{is_generated}
use Rattle.leg_grammar.specs.Lef.Geometry.{Drawn, nothing_drawn, draws_metal, layer_of_geometry, drawn_rect, shapes_on, drawn_polygon, width_of_path, drawn_path, is_off_metal, is_other_shape, geometry_part, geometry_at, no_way, drawn_copies, drawn_via}
use Rattle.leg_grammar.specs.Lef.Point.{rect_in, size_in}
use Rattle.leg_grammar.specs.Lef.Polygon.{is_read_polygon, polygon_in}
use Rattle.leg_grammar.specs.Lef.GeneratedVia.{raw_generated_shapes}
use Rattle.leg_grammar.specs.Lef.Via.{flags_at, ViaParts, no_via_parts, layer_of_via, spoils, with_drawn, via_part, generated_parts, via_parts_in, is_good, kept, via_at}
use Rattle.leg_grammar.specs.Lef.Copies.{is_iterated, copies_in}
use Rattle.leg_grammar.specs.Lef.PlacedVia.{is_placed_via}
use Rattle.leg_grammar.specs.Lef.Path.{is_read_path, half_of, path_in}
use Rattle.leg_grammar.specs.Lef.Pin.{PinParts, no_pin_parts, port_at, pin_part, supply_of_any, pin_at}
use Rattle.leg_grammar.specs.declared.macro_statements.MacroStatements.{MacroStatements}
use Rattle.leg_grammar.specs.Lef.Macro.{MacroParts, no_macro_parts, macro_pin, macro_obstruction, macro_density, macro_timing, macro_statement, macro_part, origin_of_any, symmetry_of_any, site_in, site_of_any, macro_said, macro_at}
use Rattle.leg_lib.proofs.SoundNames.{name_gives}
use Rattle.leg_lib.proofs.GeneratedVias.{generated_gives}
use Rattle.leg_lib.proofs.SoundCopies.{copies_give, placed_via_gives}

-- the layer that statements are on, and those of the shapes, are layers of the library
record IsDrawnOn (layers : ℕ) (drawn : Drawn) : Type 0 where
  pub on : IfSome drawn.on (λ k. k < layers)
  pub shapes : AreRawShapesOn layers drawn.shapes

nothing_on : (layers : ℕ) → IsDrawnOn layers nothing_drawn
nothing_on layers = record { on = tt; shapes = All-nil (λ (shape : RawShape). shape.layer < layers) }

-- the shapes of rectangles are on their layer
shapes_on_layer : (layers number : ℕ) (rects : List RectModel) → number < layers → AreRawShapesOn layers (shapes_on number rects)
shapes_on_layer layers number [] within = All-nil (λ (shape : RawShape). shape.layer < layers)
shapes_on_layer layers number (rect ∷ rects) within =
    All-cons (λ (shape : RawShape). shape.layer < layers) (record { layer = number; rect = rect }) (shapes_on number rects) within
    (shapes_on_layer layers number rects within)

module _ (profile : Profile) (library : RawLibraryModel) where
  abbrev count : ℕ
  count = length library.layers

  -- the vias before are of the library
  abbrev HasVias : Type 0
  HasVias = All (IsRawViaOf library.layers) library.vias

  on_gives : (on : Option ℕ) → IfSome on (λ k. k < count) → Gives (λ k. k < count) on
  on_gives None within = gives_none
  on_gives (Some k) within = gives_some k within

  rect_gives : (drawn : Drawn) (statement : Words) → IsDrawnOn count drawn → Gives (IsDrawnOn count) (drawn_rect profile library drawn statement)
  unfolding drawn_rect
  rect_gives drawn statement is =
      gives_bind (on_gives drawn.on is.on) (λ number within.
      gives_if (draws_metal library.layers number)
      (gives_skip (rect_in profile statement) (λ rect.
      gives_some _ (record {
        on = is.on;
        shapes = All-push (λ shape. shape.layer < count) drawn.shapes
            (record { layer = number; rect = rect }) is.shapes within;
      })))
      (gives_some drawn is))

  polygon_gives : (drawn : Drawn) (statement : Words) → IsDrawnOn count drawn → Gives (IsDrawnOn count) (drawn_polygon profile library drawn statement)
  unfolding drawn_polygon
  polygon_gives drawn statement is =
      gives_bind (on_gives drawn.on is.on) (λ number within.
      gives_if (draws_metal library.layers number)
      (gives_skip (polygon_in profile statement) (λ slabs.
      gives_some _ (record {
        on = is.on;
        shapes = All-append (λ shape. shape.layer < count) drawn.shapes (shapes_on number slabs) is.shapes
            (shapes_on_layer count number slabs within);
      })))
      (gives_some drawn is))

  copies_on_give : (drawn : Drawn) (statement : Words) → IsDrawnOn count drawn → Gives (IsDrawnOn count) (drawn_copies profile library drawn statement)
  unfolding drawn_copies
  copies_on_give drawn statement is =
      gives_bind (on_gives drawn.on is.on) (λ number within.
      gives_if (draws_metal library.layers number)
      (gives_skip (copies_in profile statement) (λ copies.
      gives_bind (copies_give count (shapes_on number copies.0) (shapes_on_layer count number copies.0 within) copies.1 no_way drawn.shapes is.shapes)
      (λ shapes held.
      gives_some _ (record { on = is.on; shapes = held }))))
      (gives_some drawn is))

  path_gives : (drawn : Drawn) (statement : Words) → IsDrawnOn count drawn → Gives (IsDrawnOn count) (drawn_path profile library drawn statement)
  unfolding drawn_path
  path_gives drawn statement is =
      gives_bind (on_gives drawn.on is.on) (λ number within.
      gives_skip (width_of_path library drawn.width number) (λ width.
      gives_skip (half_of width) (λ half.
      gives_skip (path_in profile half statement) (λ rects.
      gives_some _ (record {
        on = is.on;
        shapes = All-append (λ shape. shape.layer < count) drawn.shapes (shapes_on number rects) is.shapes
            (shapes_on_layer count number rects within);
      })))))

  drawn_via_gives : HasVias → (drawn : Drawn) (statement : Words) → IsDrawnOn count drawn
      → Gives (IsDrawnOn count) (drawn_via profile library drawn statement)
  unfolding drawn_via
  drawn_via_gives vias drawn statement is =
      gives_bind (placed_via_gives profile library vias drawn.shapes statement is.shapes) (λ shapes held.
      gives_some _ (record { on = is.on; shapes = held }))

  geometry_layer_gives : (statement : Words) → Gives (λ k. k < count) (layer_of_geometry profile library statement)
  unfolding layer_of_geometry
  geometry_layer_gives statement =
      gives_skip (keyword_at (codes "LAYER") statement) (λ start.
      gives_skip (name_at start.1) (λ name.
      gives_bind (named_gives_within (λ (l : RawLayer). l.name) name.0 library.layers) (λ number within.
      gives_if _ (gives_some number within) gives_none)))

  part_gives : HasVias → (drawn : Drawn) (statement : Words) → IsDrawnOn count drawn → Gives (IsDrawnOn count) (geometry_part profile library drawn statement)
  unfolding geometry_part
  part_gives vias drawn statement is =
      gives_if (is_at (codes "LAYER") statement)
      (gives_bind (geometry_layer_gives statement) (λ number within. gives_some _ (record { on = within; shapes = is.shapes })))
      (gives_if (is_iterated profile statement) (copies_on_give drawn statement is)
      (gives_if (is_at (codes "RECT") statement) (rect_gives drawn statement is)
      (gives_if (is_at (codes "WIDTH") statement) (gives_some _ (record { on = is.on; shapes = is.shapes }))
      (gives_if (is_at (codes "CLASS") statement) (gives_some drawn is)
      (gives_if (is_read_polygon profile statement) (polygon_gives drawn statement is)
      (gives_if (is_other_shape statement && is_off_metal library drawn.on) (gives_some drawn is)
      (gives_if (is_read_path profile statement) (path_gives drawn statement is)
      (gives_if (is_placed_via profile statement) (drawn_via_gives vias drawn statement is) gives_none))))))))

  geometry_gives : HasVias → (words : Words) → Gives (λ said. AreRawShapesOn count said.0) (geometry_at profile library words)
  unfolding geometry_at
  geometry_gives vias words =
      gives_skip (statements_at words) (λ body.
      gives_bind (over_gives (IsDrawnOn count) (geometry_part profile library) (part_gives vias) nothing_drawn body.0 (nothing_on count)) (λ drawn is.
      gives_some _ is.shapes))

  -- vias
  via_layer_gives : (statement : Words) → Gives (λ k. k < count) (layer_of_via library statement)
  unfolding layer_of_via
  via_layer_gives statement =
      gives_skip (keyword_at (codes "LAYER") statement) (λ start.
      gives_skip (name_at start.1) (λ name.
      gives_skip (nothing_at name.1) (λ end.
      named_gives_within (λ (l : RawLayer). l.name) name.0 library.layers)))

  drawn_on : (parts : ViaParts) (said : Option Drawn) → IsDrawnOn count parts.drawn → Gives (IsDrawnOn count) said
      → IsDrawnOn count (with_drawn parts said).drawn
  drawn_on parts None is on = record { on = is.on; shapes = All-nil (λ (shape : RawShape). shape.layer < count) }
  drawn_on parts (Some drawn) is on = on.given drawn refl

  via_part_gives : (parts : ViaParts) (statement : Words) → IsDrawnOn count parts.drawn
      → Gives (λ next. IsDrawnOn count next.drawn) (via_part profile library parts statement)
  unfolding via_part
  via_part_gives parts statement is =
      gives_if (spoils profile statement) (gives_some _ is)
      (gives_if (is_at (codes "LAYER") statement)
      (gives_bind (via_layer_gives statement) (λ number within. gives_some _ (record { on = within; shapes = is.shapes })))
      (gives_if (is_at (codes "RECT") statement)
      (gives_bind (rect_gives parts.drawn statement is) (λ drawn held. gives_some _ held))
      (gives_if (is_read_polygon profile statement)
      (gives_some _ (drawn_on parts (drawn_polygon profile library parts.drawn statement) is (polygon_gives parts.drawn statement is)))
      (gives_some parts is))))

  all_via_parts : (statements : List Words) → Gives (λ parts. IsDrawnOn count parts.drawn) (over (via_part profile library) no_via_parts statements)
  all_via_parts statements =
      over_gives (λ parts. IsDrawnOn count parts.drawn) (via_part profile library) via_part_gives no_via_parts statements (nothing_on count)

  generated_on : (said : Option (List RawShape)) → Gives (AreRawShapesOn count) said → IsDrawnOn count (generated_parts said).drawn
  generated_on None on = nothing_on count
  generated_on (Some shapes) on = record { on = tt; shapes = on.given shapes refl }

  via_parts_give : (statements : List Words) → Gives (λ parts. IsDrawnOn count parts.drawn) (via_parts_in profile library statements)
  unfolding via_parts_in
  via_parts_give statements = by profile (all_via_parts statements) where
    by : (other : Profile) → Gives (λ parts. IsDrawnOn count parts.drawn) (over (via_part other library) no_via_parts statements)
        → Gives (λ parts. IsDrawnOn count parts.drawn) (via_parts_in other library statements)
    by Narrow each = each
    by (Wide masks soft) each =
        gives_if (is_generated statements)
        (gives_some _ (generated_on (raw_generated_shapes library statements) (generated_gives library statements))) each

  kept_on : (good : Bool) (shapes : List RawShape) → AreRawShapesOn count shapes → AreRawShapesOn count (kept good shapes)
  kept_on true shapes on = on
  kept_on false shapes on = All-nil (λ (shape : RawShape). shape.layer < count)

  good_is : (name : List ℕ) (parts : ViaParts)
      → is_good library name parts ≡ is_raw_good_via library.layers name (kept (is_good library name parts) parts.drawn.shapes)
  unfolding is_raw_good_via
  good_is name parts = by parts.is_spoilt (is_wiring_word name) (join_layers (raw_uses library.layers) (raw_parts parts.drawn.shapes)) refl where
    by : (spoilt word joins : Bool) → join_layers (raw_uses library.layers) (raw_parts parts.drawn.shapes) ≡ joins
        → (not spoilt && not word && joins) ≡ (not word && join_layers (raw_uses library.layers)
        (raw_parts (kept (not spoilt && not word && joins) parts.drawn.shapes)))
    by true true joins is = refl
    by true false joins is = refl
    by false true joins is = refl
    by false false true is = sym is
    by false false false is = refl

  via_gives : (words : Words) → Gives (λ said. IsRawViaOf library.layers said.0) (via_at profile library words)
  unfolding via_at
  via_gives words =
      gives_skip (keyword_at (codes "VIA") words) (λ start.
      gives_skip (name_at start.1) (λ name.
      gives_skip (statements_at (flags_at name.1).1) (λ body.
      gives_bind (via_parts_give body.0) (λ parts is.
      gives_skip (end_of name.0 body.1) (λ end.
      gives_some _ (record {
        on_layers = kept_on (is_good library name.0 parts) parts.drawn.shapes is.shapes;
        good = good_is name.0 parts;
      }))))))

  -- A via that is read has layers of the library, and is good just where it is marked so.
  pub via_refers : (words rest : Words) (via : RawViaModel) → via_at profile library words ≡ Some (via, rest) → IsRawViaOf library.layers via
  via_refers words rest via said = (via_gives words).given (via, rest) said

  -- pins
  pin_part_gives : HasVias → (parts : PinParts) (words : Words) → AreRawShapesOn count parts.shapes
      → Gives (λ said. AreRawShapesOn count said.0.shapes) (pin_part profile library parts words)
  unfolding pin_part port_at
  pin_part_gives vias parts words on =
      gives_if (is_at (codes "PORT") words)
      (gives_bind {Q = λ port. AreRawShapesOn count port.0} (gives_skip (keyword_at (codes "PORT") words) (λ start.
      gives_bind (geometry_gives vias start.1) (λ shapes is.
      gives_skip (keyword_at (codes "END") shapes.1) (λ end.
      gives_some (shapes.0, end.1) is)))) (λ port is.
      gives_some _ (All-append (λ shape. shape.layer < count) parts.shapes port.0 on is)))
      (gives_skip (statement_at words) (λ statement. gives_some _ on))

  pin_gives : HasVias → (words : Words) → Gives (λ said. IsTrue (is_name said.0.name) × AreRawShapesOn count said.0.shapes) (pin_at profile library words)
  unfolding pin_at
  pin_gives vias words =
      gives_skip (keyword_at (codes "PIN") words) (λ start.
      gives_bind (name_gives start.1) (λ name named.
      gives_bind (until_gives (λ parts. AreRawShapesOn count parts.shapes) at_end (pin_part profile library) (pin_part_gives vias) no_pin_parts name.1
      (All-nil (λ (shape : RawShape). shape.layer < count))) (λ parts is.
      gives_skip (only (codes "USE") parts.0.statements) (λ found.
      gives_skip (supply_of_any found) (λ supply.
      gives_skip (end_of name.0 parts.1) (λ end.
      gives_some _ (named, is)))))))

  -- macros
  record ArePartsOn (parts : MacroParts) : Type 0 where
    pub names : AreNames (map (λ pin. pin.name) parts.pins)
    pub pins : All (λ pin. AreRawShapesOn count pin.shapes) parts.pins
    pub obstructions : AreRawShapesOn count parts.obstructions

  no_parts_on : ArePartsOn no_macro_parts
  no_parts_on = record {
    names = no_names;
    pins = All-nil (λ (pin : RawPinModel). AreRawShapesOn count pin.shapes);
    obstructions = All-nil (λ (shape : RawShape). shape.layer < count);
  }

  none_there : (o : Option ℕ) → is_none o ≡ true → o ≡ None
  none_there None is = refl
  none_there (Some k) is = absurd (let e : ⊥ = cc in e)

  macro_pin_gives : HasVias → (parts : MacroParts) (words : Words) → ArePartsOn parts
      → Gives (λ said. ArePartsOn said.0) (macro_pin profile library parts words)
  unfolding macro_pin
  macro_pin_gives vias parts words on =
      gives_bind (pin_gives vias words) (λ pin is.
      gives_choice (is_none (place_of pin.0.name (map (λ p. p.name) parts.pins))) (λ new.
      gives_some _ (record {
        names = names_push (λ p. p.name) parts.pins pin.0 on.names is.0 (none_there _ new);
        pins = All-push (λ p. AreRawShapesOn count p.shapes) parts.pins pin.0 on.pins is.1;
        obstructions = on.obstructions;
      })) (λ other. gives_none))

  macro_obstruction_gives : HasVias → (parts : MacroParts) (words : Words) → ArePartsOn parts
      → Gives (λ said. ArePartsOn said.0) (macro_obstruction profile library parts words)
  unfolding macro_obstruction
  macro_obstruction_gives vias parts words on =
      gives_skip (keyword_at (codes "OBS") words) (λ start.
      gives_bind (geometry_gives vias start.1) (λ shapes is.
      gives_skip (keyword_at (codes "END") shapes.1) (λ end.
      gives_some _ (record {
        names = on.names;
        pins = on.pins;
        obstructions = All-append (λ shape. shape.layer < count) parts.obstructions shapes.0 on.obstructions is;
      }))))

  macro_part_gives : HasVias → (parts : MacroParts) (words : Words) → ArePartsOn parts
      → Gives (λ said. ArePartsOn said.0) (macro_part profile library parts words)
  unfolding macro_part macro_density macro_timing macro_statement
  macro_part_gives vias parts words on =
      gives_if (is_at (codes "PIN") words) (macro_pin_gives vias parts words on)
      (gives_if (is_at (codes "OBS") words) (macro_obstruction_gives vias parts words on)
      (gives_if (is_at (codes "DENSITY") words)
      (gives_skip (keyword_at (codes "DENSITY") words) (λ start. gives_skip (past (keyword_at (codes "END")) start.1) (λ end. gives_some _ on)))
      (gives_if (is_at (codes "TIMING") words)
      (gives_skip (keyword_at (codes "TIMING") words) (λ start. gives_skip (past (end_at (codes "TIMING")) start.1) (λ end. gives_some _ on)))
      (gives_skip (statement_at words) (λ statement. gives_some _ (record { names = on.names; pins = on.pins; obstructions = on.obstructions }))))))

  site_gives : (found : Option Words) → Gives (λ site. IfSome site (λ k. k < length library.sites)) (site_of_any library found)
  unfolding site_in
  site_gives None = gives_some None tt
  site_gives (Some statement) =
      gives_bind {Q = λ k. k < length library.sites} (gives_skip (keyword_at (codes "SITE") statement) (λ start.
      gives_skip (name_at start.1) (λ name.
      gives_bind (named_gives_within (λ (s : RawSite). s.name) name.0 library.sites) (λ number within.
      gives_skip (nothing_at name.1) (λ end.
      gives_some number within))))) (λ k within. gives_some (Some k) within)

  said_gives : (statements : List Words) → Gives (λ (said : MacroStatements). IfSome said.site (λ k. k < length library.sites)) (macro_said library statements)
  unfolding macro_said
  said_gives statements =
      gives_skip (the (codes "SIZE") statements) (λ of_size.
      gives_skip (size_in of_size) (λ size.
      gives_skip (only (codes "ORIGIN") statements) (λ of_origin.
      gives_skip (origin_of_any of_origin) (λ origin.
      gives_skip (only (codes "SYMMETRY") statements) (λ of_symmetry.
      gives_skip (symmetry_of_any of_symmetry) (λ symmetric.
      gives_skip (only (codes "SITE") statements) (λ of_site.
      gives_bind (site_gives of_site) (λ site within.
      gives_some _ within))))))))

  macro_gives : HasVias → (words : Words) → Gives (λ said. IsRawMasterOf library.layers library.sites said.0) (macro_at profile library words)
  unfolding macro_at
  macro_gives vias words =
      gives_skip (keyword_at (codes "MACRO") words) (λ start.
      gives_skip (name_at start.1) (λ name.
      gives_bind (until_gives ArePartsOn at_end (macro_part profile library) (macro_part_gives vias) no_macro_parts name.1 no_parts_on) (λ parts on.
      gives_bind (said_gives parts.0.statements) (λ said within.
      gives_skip (end_of name.0 parts.1) (λ end.
      gives_some _ (record { site = within; pin_names = on.names; pins = on.pins; obstructions = on.obstructions }))))))

  -- A macro that is read has a site and layers of the library, and no two of its pins have one name.
  pub macro_refers : HasVias → (words rest : Words) (master : RawMasterModel) → macro_at profile library words ≡ Some (master, rest)
      → IsRawMasterOf library.layers library.sites master
  macro_refers vias words rest master said = (macro_gives vias words).given (master, rest) said
