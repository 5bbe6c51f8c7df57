-- What statements of ports and obstructions say in the narrow profile they say in each.
use Rattle.std.proofs.Common.{◌≡◌, ℕ, Bool, true, false, ◌&&◌, ◌||◌, List, [], ◌∷◌, ◌++◌, map, Option, None, Some, codes, if◌then◌else◌, refl, arith}
use Rattle.std.proofs.lemmas.Bool.{false≢true, not-true, and_parts, and_from}
use Rattle.std.specs.Char.{to_ascii_lowercase}
use Rattle.std.specs.List.{list_all}
use Rattle.leg_lex.specs.Words.{Words, ◌>>=◌, is_keyword, is_at, is_word, next_at, keyword_at, name_at, nothing_at}
use Rattle.leg_lex.specs.NameLookup.{place_of}
use Rattle.leg_lex.specs.Statements.{statements_at}
use Rattle.leg_lex.proofs.NameLookup.{same_name}
use Rattle.leg_geom.specs.Plane.{RectModel}
use Rattle.leg_lib_records.specs.Measure.{rect_between}
use Rattle.leg_lib_records.specs.Records.{RawLibraryModel, raw_layer_names}
use Rattle.leg_grammar.specs.declared.profile.Profile.{Profile}
use Rattle.leg_grammar.specs.declared.profile.Profile.TheVariants.{Narrow, Wide}
use Rattle.leg_grammar.specs.declared.profile.Masks.TheVariants.{Refused, Dropped}
use Rattle.leg_grammar.specs.Profiles.{is_wide}
use Rattle.leg_grammar.specs.Mask.{mask_at, past_mask}
use Rattle.leg_grammar.specs.Lef.Point.{coordinates_at, point_at, rect_in}
use Rattle.leg_grammar.specs.Lef.Polygon.{is_read_polygon}
use Rattle.leg_grammar.specs.Lef.Copies.{behind_mask, at_iterate, is_iterated}
use Rattle.leg_grammar.specs.Lef.PlacedVia.{is_placed_via}
use Rattle.leg_grammar.specs.Lef.Path.{is_read_path}
use Rattle.leg_grammar.specs.Lef.Geometry.{Drawn, nothing_drawn, draws_metal, says_nothing, layer_of_geometry, drawn_rect, on_layer, drawn_polygon, drawn_copies, drawn_path, drawn_via, written_width, is_off_metal, is_other_shape, geometry_part, geometry_at}
use Rattle.leg_profile_laws.proofs.Keeps.{Keeps, keeps_none, keeps_itself, keeps_bind, keeps_if, keeps_weaker, over_keeps}
use Rattle.leg_profile_laws.proofs.Letters.{letter_no_length}

-- two corners, and nothing after them
abbrev corners : Words → Option RectModel
corners words =
    point_at words >>= λ p.
    point_at p.1 >>= λ q.
    nothing_at q.1 >>= λ end.
    rect_between p.0 q.0

-- a corner doesn't begin with MASK
no_mask : (words : Words) → is_at (codes "MASK") words ≡ true → corners words ≡ None
unfolding point_at coordinates_at
no_mask [] there = absurd (let e : ⊥ = cc in e)
no_mask (word ∷ words) there =
    let same : map to_ascii_lowercase word ≡ map to_ascii_lowercase (codes "MASK") =
    same_name (map to_ascii_lowercase word) (map to_ascii_lowercase (codes "MASK")) there in
    rw (same, letter_no_length 109 word _ words (omega arith) same) refl

-- nor with ITERATE
no_iterate : (words : Words) → is_at (codes "ITERATE") words ≡ true → corners words ≡ None
unfolding point_at coordinates_at
no_iterate [] there = absurd (let e : ⊥ = cc in e)
no_iterate (word ∷ words) there =
    let same : map to_ascii_lowercase word ≡ map to_ascii_lowercase (codes "ITERATE") =
    same_name (map to_ascii_lowercase word) (map to_ascii_lowercase (codes "ITERATE")) there in
    rw (same, letter_no_length 105 word _ words (omega arith) same) refl

-- nor with a mask and ITERATE
no_mask_and_iterate : (profile : Profile) (words : Words) → at_iterate (past_mask profile words >>= λ mask. Some mask.1) ≡ true → corners words ≡ None
unfolding past_mask
no_mask_and_iterate Narrow words there = no_iterate words there
no_mask_and_iterate (Wide Refused soft) words there = no_iterate words there
no_mask_and_iterate (Wide Dropped soft) words there = by (is_at (codes "MASK") words) refl where
  by : (test : Bool) → is_at (codes "MASK") words ≡ test → corners words ≡ None
  by true is = no_mask words is
  by false is = no_iterate words (rw is at there)

-- so a rectangle with ITERATE isn't one of the narrow profile
iterated_no_rect : (profile : Profile) (statement : Words) → at_iterate (behind_mask profile statement) ≡ true → rect_in Narrow statement ≡ None
unfolding behind_mask next_at rect_in keyword_at past_mask
iterated_no_rect profile [] there = absurd (let e : ⊥ = cc in e)
iterated_no_rect profile (first ∷ words) there = by (is_keyword (codes "RECT") first) refl where
  by : (test : Bool) → is_keyword (codes "RECT") first ≡ test → rect_in Narrow (first ∷ words) ≡ None
  by true is = rw is (no_mask_and_iterate profile words there)
  by false is = rw is refl

-- what begins with POLYGON begins with no other keyword
polygon_alone : (statement : Words) → is_at (codes "POLYGON") statement ≡ true
    → (is_at (codes "WIDTH") statement ≡ false) × (is_at (codes "CLASS") statement ≡ false)
polygon_alone [] there = absurd (let e : ⊥ = cc in e)
polygon_alone (word ∷ words) there =
    let same : map to_ascii_lowercase word ≡ map to_ascii_lowercase (codes "POLYGON") =
    same_name (map to_ascii_lowercase word) (map to_ascii_lowercase (codes "POLYGON")) there in (
      rw same refl,
      rw same refl,
    )

iterated_parts : (wide rect polygon iterate : Bool) → (wide && (rect || polygon) && iterate) ≡ true → ((rect || polygon) ≡ true) × (iterate ≡ true)
iterated_parts true true polygon true is = (refl, refl)
iterated_parts true false true true is = (refl, refl)
iterated_parts true true polygon false is = absurd (let e : ⊥ = cc in e)
iterated_parts true false true false is = absurd (let e : ⊥ = cc in e)
iterated_parts true false false iterate is = absurd (let e : ⊥ = cc in e)
iterated_parts false rect polygon iterate is = absurd (let e : ⊥ = cc in e)

corners_same : (profile : Profile) (words : Words) → Keeps (corners words) (past_mask profile words >>= λ mask. corners mask.1)
unfolding past_mask mask_at
corners_same Narrow words = keeps_itself (corners words)
corners_same (Wide Refused soft) words = keeps_itself (corners words)
corners_same (Wide Dropped soft) words = by (is_at (codes "MASK") words) refl where
  by : (test : Bool) → is_at (codes "MASK") words ≡ test → Keeps (corners words) (past_mask (Wide Dropped soft) words >>= λ mask. corners mask.1)
  by true there = rw (no_mask words there) (keeps_none _)
  by false there = rw there (keeps_itself (corners words))

-- words that say nothing in the narrow profile say nothing in each
silent_same : (profile : Profile) (words : List (List ℕ)) → list_all (says_nothing Narrow) words ≡ true → list_all (says_nothing profile) words ≡ true
silent_same profile [] all = refl
silent_same Narrow (word ∷ words) all = all
silent_same (Wide masks soft) (word ∷ words) all =
    let parts = and_parts (says_nothing Narrow word) (list_all (says_nothing Narrow) words) all in
    let here = and_parts (is_word word) _ parts.0 in
    and_from (is_word word && true) (list_all (says_nothing (Wide masks soft)) words) (and_from (is_word word) true here.0 refl)
    (silent_same (Wide masks soft) words parts.1)

-- A shape that is read past, or refused, and is now read.
read_past : {Y : Type 0} (other off : Bool) (said new : Option Y) → (off ≡ true → new ≡ said) → Keeps (if other && off then said else None) new
read_past false off said new same = keeps_none new
read_past true false said new same = keeps_none new
read_past true true said new same = rw (same refl) (keeps_itself said)

-- What is said where a test is met, and where it isn't.
keeps_either : {Y : Type 0} (test : Bool) {said new old : Option Y} → (test ≡ true → Keeps said new) → Keeps said old → Keeps said (if test then new else old)
keeps_either true new old = new refl
keeps_either false new old = old

module _ (profile : Profile) where
  rect_same : (statement : Words) → Keeps (rect_in Narrow statement) (rect_in profile statement)
  unfolding rect_in past_mask mask_at
  rect_same statement = keeps_bind (keeps_itself (keyword_at (codes "RECT") statement)) (λ start. corners_same profile start.1)

  module _ (library : RawLibraryModel) where
    layer_same : (statement : Words) → Keeps (layer_of_geometry Narrow library statement) (layer_of_geometry profile library statement)
    unfolding layer_of_geometry
    layer_same statement =
        keeps_bind (keeps_itself (keyword_at (codes "LAYER") statement)) (λ start.
        keeps_bind (keeps_itself (name_at start.1)) (λ name.
        keeps_bind (keeps_itself (place_of name.0 (raw_layer_names library))) (λ number.
        keeps_weaker (list_all (says_nothing Narrow) name.1) (list_all (says_nothing profile) name.1) (Some number) (silent_same profile name.1))))

    -- A rectangle on a layer.
    pub drawn_rect_keeps : (drawn : Drawn) (statement : Words) → Keeps (drawn_rect Narrow library drawn statement) (drawn_rect profile library drawn statement)
    unfolding drawn_rect
    drawn_rect_keeps drawn statement =
        keeps_bind (keeps_itself drawn.on) (λ number.
        keeps_if (draws_metal library.layers number)
        (keeps_bind (rect_same statement) (λ rect.
        keeps_itself (Some (record drawn { shapes = drawn.shapes ++ record { layer = number; rect = rect } ∷ [] })))) (keeps_itself (Some drawn)))

    -- On a layer without metal a polygon is read past.
    polygon_past : (drawn : Drawn) (statement : Words) → is_off_metal library drawn.on ≡ true → drawn_polygon profile library drawn statement ≡ Some drawn
    unfolding drawn_polygon
    polygon_past drawn statement off = by drawn.on refl where
      by : (on : Option ℕ) → drawn.on ≡ on → drawn_polygon profile library drawn statement ≡ Some drawn
      by None is = absurd (false≢true (rw is at off))
      by (Some number) is = rw (is, not-true (draws_metal library.layers number) (rw is at off)) refl

    polygon_keeps : (drawn : Drawn) (statement : Words)
        → Keeps (if is_other_shape statement && is_off_metal library drawn.on then Some drawn else None)
        (if is_read_polygon profile statement then drawn_polygon profile library drawn statement
        else (if is_other_shape statement && is_off_metal library drawn.on then Some drawn
        else (if is_read_path profile statement then drawn_path profile library drawn statement
        else (if is_placed_via profile statement then drawn_via profile library drawn statement else None))))
    polygon_keeps drawn statement =
        keeps_either (is_read_polygon profile statement)
        (λ read. read_past (is_other_shape statement) (is_off_metal library drawn.on) (Some drawn) (drawn_polygon profile library drawn statement)
        (polygon_past drawn statement))
        (keeps_if (is_other_shape statement && is_off_metal library drawn.on) (keeps_itself (Some drawn)) (keeps_none _))

    -- So are copies.
    copies_past : (drawn : Drawn) (statement : Words) → is_off_metal library drawn.on ≡ true → drawn_copies profile library drawn statement ≡ Some drawn
    unfolding drawn_copies
    copies_past drawn statement off = by drawn.on refl where
      by : (on : Option ℕ) → drawn.on ≡ on → drawn_copies profile library drawn statement ≡ Some drawn
      by None is = absurd (false≢true (rw is at off))
      by (Some number) is = rw (is, not-true (draws_metal library.layers number) (rw is at off)) refl

    -- On a layer with metal no rectangle of the narrow profile has ITERATE.
    copied_rect_keeps : (drawn : Drawn) (statement : Words) → at_iterate (behind_mask profile statement) ≡ true
        → Keeps (drawn_rect Narrow library drawn statement) (drawn_copies profile library drawn statement)
    unfolding drawn_rect drawn_copies
    copied_rect_keeps drawn statement there =
        keeps_bind (keeps_itself drawn.on) (λ number.
        keeps_if (draws_metal library.layers number) (rw (iterated_no_rect profile statement there) (keeps_none _)) (keeps_itself (Some drawn)))

    copies_keep : (drawn : Drawn) (statement : Words) → is_iterated profile statement ≡ true
        → Keeps (if is_at (codes "RECT") statement then drawn_rect Narrow library drawn statement
        else (if is_at (codes "WIDTH") statement then Some (record drawn { width = Some (written_width statement) })
        else (if is_at (codes "CLASS") statement then Some drawn
        else (if is_other_shape statement && is_off_metal library drawn.on then Some drawn else None))))
        (drawn_copies profile library drawn statement)
    copies_keep drawn statement iterated = by (is_at (codes "RECT") statement) refl where
      parts : ((is_at (codes "RECT") statement || is_at (codes "POLYGON") statement) ≡ true) × (at_iterate (behind_mask profile statement) ≡ true)
      parts =
          iterated_parts (is_wide profile) (is_at (codes "RECT") statement) (is_at (codes "POLYGON") statement) (at_iterate (behind_mask profile statement))
          iterated

      by : (test : Bool) → is_at (codes "RECT") statement ≡ test
          → Keeps (if is_at (codes "RECT") statement then drawn_rect Narrow library drawn statement
          else (if is_at (codes "WIDTH") statement then Some (record drawn { width = Some (written_width statement) })
          else (if is_at (codes "CLASS") statement then Some drawn
          else (if is_other_shape statement && is_off_metal library drawn.on then Some drawn else None))))
          (drawn_copies profile library drawn statement)
      by true is = rw is (copied_rect_keeps drawn statement parts.1)
      by false is =
          let other = polygon_alone statement (rw is at parts.0) in
          rw (is, other.0, other.1)
          (read_past (is_other_shape statement) (is_off_metal library drawn.on) (Some drawn) (drawn_copies profile library drawn statement)
          (copies_past drawn statement))

    part_same : (drawn : Drawn) (statement : Words) → Keeps (geometry_part Narrow library drawn statement) (geometry_part profile library drawn statement)
    unfolding geometry_part
    part_same drawn statement =
        keeps_if (is_at (codes "LAYER") statement) (keeps_bind (layer_same statement) (λ number. keeps_itself (Some (on_layer drawn number))))
        (keeps_either (is_iterated profile statement) (copies_keep drawn statement)
        (keeps_if (is_at (codes "RECT") statement) (drawn_rect_keeps drawn statement)
        (keeps_if (is_at (codes "WIDTH") statement) (keeps_itself (Some (record drawn { width = Some (written_width statement) })))
        (keeps_if (is_at (codes "CLASS") statement) (keeps_itself (Some drawn))
        (polygon_keeps drawn statement)))))

    -- All statements.
    pub geometry_keeps : (words : Words) → Keeps (geometry_at Narrow library words) (geometry_at profile library words)
    unfolding geometry_at
    geometry_keeps words =
        keeps_bind (keeps_itself (statements_at words)) (λ body.
        keeps_bind (over_keeps (geometry_part Narrow library) (geometry_part profile library) part_same nothing_drawn body.0) (λ drawn.
        keeps_itself (Some (drawn.shapes, body.1))))
