-- The widths of a rule that is read are above 0, and those of layers of the library.
use Rattle.std.proofs.Common.{◌≡◌, ℕ, ◌<◌, [], length, All, Some, is_none, pos, ◌<ℤ◌, int_lt, codes, refl, subst, sym}
use Rattle.std.proofs.lemmas.List.Elements.{All-nil, All-push}
use Rattle.leg_lemmas.proofs.Integers.{lt_from_test}
use Rattle.leg_lex.specs.Words.{Words, is_at, keyword_at, name_at, length_at, end_of, nothing_at}
use Rattle.leg_lex.specs.Until.{until}
use Rattle.leg_lex.specs.Statements.{statements_at, the, at_end}
use Rattle.leg_lex.specs.NameLookup.{place_of}
use Rattle.leg_lex.proofs.Gives.{Gives, gives_none, gives_some, gives_bind, gives_skip, gives_choice, gives_if}
use Rattle.leg_lex.proofs.GivesAll.{until_gives, named_gives_within}
use Rattle.leg_lib_records.specs.declared.raw.RawLayer.{RawLayer}
use Rattle.leg_lib_records.specs.declared.raw.RawRuleWidth.{RawRuleWidth}
use Rattle.leg_lib_records.specs.Records.{RawLibraryModel, raw_via_names}
use Rattle.leg_grammar.specs.declared.profile.Profile.{Profile}
use Rattle.leg_grammar.specs.Lef.Via.{via_at, with_via}
use Rattle.leg_grammar.specs.Lef.Rule.{rule_width_in, rule_layer_at, RuleParts, rule_parts, has_width, with_width, with_rule_via, past_rule_part, rule_part}

-- a width above 0, on one of this many layers
record IsWidthOn (layers : ℕ) (scaled : RawRuleWidth) : Type 0 where
  pub wide : pos 0 <ℤ scaled.width
  pub within : scaled.layer < layers

-- what the parts of a rule give
pub record AreSoundParts (parts : RuleParts) : Type 0 where
  pub wide : All (λ width. pos 0 <ℤ width.width) parts.widths
  pub on : All (λ width. width.layer < length parts.library.layers) parts.widths

width_gives : (statement : Words) → Gives (λ w. pos 0 <ℤ w) (rule_width_in statement)
unfolding rule_width_in
width_gives statement =
    gives_skip (keyword_at (codes "WIDTH") statement) (λ start.
    gives_skip (length_at start.1) (λ width.
    gives_skip (nothing_at width.1) (λ end.
    gives_choice (int_lt (pos 0) width.0) (λ less. gives_some width.0 (lt_from_test (pos 0) width.0 less)) (λ other. gives_none))))

layer_gives : (library : RawLibraryModel) (words : Words) → Gives (λ said. IsWidthOn (length library.layers) said.0) (rule_layer_at library words)
unfolding rule_layer_at
layer_gives library words =
    gives_skip (keyword_at (codes "LAYER") words) (λ start.
    gives_skip (name_at start.1) (λ name.
    gives_bind (named_gives_within (λ (l : RawLayer). l.name) name.0 library.layers) (λ layer within.
    gives_skip (statements_at name.1) (λ body.
    gives_skip (the (codes "WIDTH") body.0) (λ statement.
    gives_bind (width_gives statement) (λ width wide.
    gives_skip (end_of name.0 body.1) (λ end.
    gives_some _ (record { wide = wide; within = within }))))))))

with_width_gives : (parts : RuleParts) (words : Words) → AreSoundParts parts → Gives (λ said. AreSoundParts said.0) (with_width parts words)
unfolding with_width
with_width_gives parts words sound =
    gives_bind (layer_gives parts.library words) (λ width is.
    gives_if (has_width width.0.layer parts.widths) gives_none
    (gives_some _ (record {
      wide = All-push (λ (w : RawRuleWidth). pos 0 <ℤ w.width) parts.widths width.0 sound.wide is.wide;
      on = All-push (λ (w : RawRuleWidth). w.layer < length parts.library.layers) parts.widths width.0 sound.on is.within;
    })))

-- a via adds no layer
via_gives : (profile : Profile) (library : RawLibraryModel) (words : Words) → Gives (λ said. said.0.layers ≡ library.layers) (with_via profile library words)
unfolding with_via
via_gives profile library words =
    gives_skip (via_at profile library words) (λ via.
    gives_if (is_none (place_of via.0.name (raw_via_names library))) (gives_some _ refl) gives_none)

with_via_gives : (profile : Profile) (parts : RuleParts) (words : Words) → AreSoundParts parts
    → Gives (λ said. AreSoundParts said.0) (with_rule_via profile parts words)
unfolding with_rule_via
with_via_gives profile parts words sound =
    gives_bind (via_gives profile parts.library words) (λ via same.
    gives_some _ (record { wide = sound.wide; on = subst (λ layers. All (λ width. width.layer < length layers) parts.widths) (sym same) sound.on }))

part_gives : (profile : Profile) (parts : RuleParts) (words : Words) → AreSoundParts parts
    → Gives (λ said. AreSoundParts said.0) (rule_part profile parts words)
unfolding rule_part
part_gives profile parts words sound =
    gives_if (is_at (codes "LAYER") words) (with_width_gives parts words sound)
    (gives_if (is_at (codes "VIA") words) (with_via_gives profile parts words sound)
    (gives_skip (past_rule_part words) (λ part. gives_some (parts, part.1) sound)))

no_parts_sound : (library : RawLibraryModel) → AreSoundParts (rule_parts library [])
no_parts_sound library = record {
  wide = All-nil (λ (width : RawRuleWidth). pos 0 <ℤ width.width);
  on = All-nil (λ (width : RawRuleWidth). width.layer < length library.layers);
}

-- All parts of a rule together.
pub parts_sound : (profile : Profile) (library : RawLibraryModel) (words rest : Words) (parts : RuleParts)
    → until at_end (rule_part profile) (rule_parts library []) words ≡ Some (parts, rest) → AreSoundParts parts
parts_sound profile library words rest parts said =
    (until_gives AreSoundParts at_end (rule_part profile) (part_gives profile) (rule_parts library []) words (no_parts_sound library)).given (parts, rest) said
