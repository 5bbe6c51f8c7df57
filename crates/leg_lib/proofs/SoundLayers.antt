-- What holds of every layer that texts say.
use Rattle.std.proofs.Common.{◌≡◌, Bool, true, false, if◌then◌else◌, List, Option, None, Some, IfSome, unwrap_or, ℤ, pos, int_lt, ◌≤ℤ◌, ◌<ℤ◌, arith, codes}
use Rattle.std.specs.List.{find, after_first}
use Rattle.std.proofs.lemmas.Int.{ints}
use Rattle.leg_lemmas.proofs.Integers.{lt_from_test, least_from_test}
use Rattle.leg_lex.specs.Words.{Words, is_keyword, length_at, keyword_at, name_at, end_of}
use Rattle.leg_lex.specs.Statements.{statements_at, only, the}
use Rattle.leg_lex.proofs.Gives.{Gives, gives_none, gives_some, gives_bind, gives_skip, gives_choice, gives_if}
use Rattle.leg_lib_records.specs.declared.records.Direction.{Direction}
use Rattle.leg_lib_records.specs.declared.raw.RawKind.TheVariants as raw
use Rattle.leg_lib_records.specs.declared.raw.RawLayer.{RawLayer}
use Rattle.leg_grammar.specs.Lef.Layer.{length_in, width_in, width_of_any, routing, kind_in, spacing_in, spacing_of_any, at_row_end, second_in_row, table_value, table_value_of_any, spacing_of, type_in, direction_of_any, first_of_one_word, is_table, layer_at}
use Rattle.leg_lib_records.specs.Sound.{HasRawWidth, IsSoundRawLayer}

-- What is read as a width is above 0.
width_gives : (statement : Words) → Gives (λ w. pos 0 <ℤ w) (width_in statement)
unfolding width_in
width_gives statement =
    gives_skip (length_in statement) (λ width.
    gives_choice (int_lt (pos 0) width) (λ less. gives_some width (lt_from_test (pos 0) width less)) (λ other. gives_none))

any_width_gives : (found : Option Words) → Gives (λ width. IfSome width (λ w. pos 0 <ℤ w)) (width_of_any found)
any_width_gives None = gives_some None tt
any_width_gives (Some statement) = gives_bind (width_gives statement) (λ width wide. gives_some (Some width) wide)

routing_gives : (direction : Option Direction) (width : Option ℤ) → IfSome width (λ w. pos 0 <ℤ w) → Gives HasRawWidth (routing direction width)
routing_gives None width wide = gives_none
routing_gives (Some direction) None wide = gives_none
routing_gives (Some direction) (Some width) wide = gives_some (raw.Routing direction width) wide

other_gives : (cut : Bool) → Gives HasRawWidth (Some (if cut then raw.Cut else raw.Other))
other_gives true = gives_some raw.Cut tt
other_gives false = gives_some raw.Other tt

kind_gives : (statements : List Words) → Gives HasRawWidth (kind_in statements)
unfolding kind_in
kind_gives statements =
    gives_skip (the (codes "TYPE") statements) (λ statement.
    gives_skip (type_in statement) (λ type.
    gives_skip (only (codes "DIRECTION") statements) (λ found.
    gives_skip (direction_of_any found) (λ direction.
    gives_bind (any_width_gives (first_of_one_word (codes "WIDTH") statements)) (λ width wide.
    gives_if (is_keyword (codes "ROUTING") type) (routing_gives direction width wide) (other_gives (is_keyword (codes "CUT") type)))))))

-- What is read as a spacing is at least 0.
spacing_gives : (statement : Words) → Gives (λ s. pos 0 ≤ℤ s) (spacing_in statement)
unfolding spacing_in
spacing_gives statement =
    gives_skip (length_in statement) (λ spacing.
    gives_choice (int_lt spacing (pos 0)) (λ less. gives_none) (λ least. gives_some spacing (least_from_test spacing (pos 0) least)))

any_spacing_gives : (found : Option Words) → Gives (λ spacing. IfSome spacing (λ s. pos 0 ≤ℤ s)) (spacing_of_any found)
any_spacing_gives None = gives_some None tt
any_spacing_gives (Some statement) = gives_bind (spacing_gives statement) (λ spacing least. gives_some (Some spacing) least)

second_gives : (row : Words) → Gives (λ spacing. IfSome spacing (λ s. pos 0 ≤ℤ s)) (second_in_row row)
unfolding second_in_row
second_gives row =
    gives_if (at_row_end row) (gives_some None tt) (
    gives_skip (length_at row) (λ width.
    gives_if (at_row_end width.1) (gives_some None tt) (
    gives_skip (length_at width.1) (λ spacing.
    gives_choice (int_lt spacing.0 (pos 0)) (λ less. gives_none) (λ least. gives_some (Some spacing.0) (least_from_test spacing.0 (pos 0) least))))))

table_gives : (found : Option Words) → Gives (λ spacing. IfSome spacing (λ s. pos 0 ≤ℤ s)) (table_value_of_any found)
unfolding table_value
table_gives None = gives_some None tt
table_gives (Some statement) = second_gives (after_first (is_keyword (codes "WIDTH")) statement)

first_least : (written tabled : Option ℤ) → IfSome written (λ s. pos 0 ≤ℤ s) → IfSome tabled (λ s. pos 0 ≤ℤ s)
    → pos 0 ≤ℤ unwrap_or written (unwrap_or tabled (pos 0))
first_least None None a b = omega (arith, ints)
first_least None (Some s) a b = b
first_least (Some s) tabled a b = a

all_spacing_gives : (statements : List Words) → Gives (λ s. pos 0 ≤ℤ s) (spacing_of statements)
unfolding spacing_of
all_spacing_gives statements =
    gives_bind (any_spacing_gives (first_of_one_word (codes "SPACING") statements)) (λ written a.
    gives_bind (table_gives (find is_table statements)) (λ tabled b.
    gives_some (unwrap_or written (unwrap_or tabled (pos 0))) (first_least written tabled a b)))

layer_gives : (words : Words) → Gives (λ said. IsSoundRawLayer said.0) (layer_at words)
unfolding layer_at
layer_gives words =
    gives_skip (keyword_at (codes "LAYER") words) (λ start.
    gives_skip (name_at start.1) (λ name.
    gives_skip (statements_at name.1) (λ body.
    gives_bind (kind_gives body.0) (λ kind wide.
    gives_bind (all_spacing_gives body.0) (λ spacing least.
    gives_skip (end_of name.0 body.1) (λ end.
    gives_some (record { name = name.0; kind = kind; spacing = spacing }, end.1) (record { width = wide; spacing = least })))))))

-- A layer that is read is sound.
pub layer_sound : (words rest : Words) (layer : RawLayer) → layer_at words ≡ Some (layer, rest) → IsSoundRawLayer layer
layer_sound words rest layer said = (layer_gives words).given (layer, rest) said
