-- Nondefault rules: each part takes a word, and what the loop over them keeps.
use Rattle.std.proofs.Common.{◌≡◌, ◌<◌, true, false, [], ◌∷◌, ◌++◌, length, None, Some, is_none, codes, arith}
use Rattle.leg_lex.specs.Words.{Words, is_at}
use Rattle.leg_lex.specs.Until.{until}
use Rattle.leg_lex.specs.Statements.{the, at_end}
use Rattle.leg_lex.specs.NameLookup.{place_of}
use Rattle.leg_lex.proofs.Until as loops
use Rattle.leg_lex.proofs.Until.{Below, Shortens, below_none, below_some, below_bind, below_ask, below_if, until_below}
use Rattle.leg_lex.proofs.Shorter.{keyword_below, name_below, end_of_below}
use Rattle.leg_lex.proofs.Statements.{statements_below}
use Rattle.leg_lib_records.specs.Records.{RawLibraryModel, raw_layer_names, raw_rule_names}
use Rattle.leg_grammar.specs.declared.profile.Profile.{Profile}
use Rattle.leg_grammar.specs.Lef.Rule.{rule_width_in, rule_layer_at, RuleParts, rule_parts, has_width, with_width, with_rule_via, past_rule_part, rule_part, add_rule, with_rule}
use Rattle.leg_lib.proofs.PastForms.{past_section_below, past_statement_below}
use Rattle.leg_lib.proofs.Vias.{with_via_below}

layer_below : (library : RawLibraryModel) (words : Words) → Below (length words) (rule_layer_at library words)
unfolding rule_layer_at
layer_below library words =
    below_bind (omega arith) (keyword_below (codes "LAYER") words) (λ start less.
    below_bind (omega arith) (name_below start.1) (λ name fewer.
    below_ask (place_of name.0 (raw_layer_names library)) (λ layer.
    below_bind (omega arith) (statements_below name.1) (λ body shorter.
    below_ask (the (codes "WIDTH") body.0) (λ statement.
    below_ask (rule_width_in statement) (λ width.
    below_bind (omega arith) (end_of_below name.0 body.1) (λ end last.
    below_some (record { layer = layer; width = width }) end.1 last)))))))

width_below : (parts : RuleParts) (words : Words) → Below (length words) (with_width parts words)
unfolding with_width
width_below parts words =
    below_bind (omega arith) (layer_below parts.library words) (λ width less.
    below_if (has_width width.0.layer parts.widths) (below_none (length words))
    (below_some (rule_parts parts.library (parts.widths ++ width.0 ∷ [])) width.1 less))

via_below : (profile : Profile) (parts : RuleParts) (words : Words) → Below (length words) (with_rule_via profile parts words)
unfolding with_rule_via
via_below profile parts words =
    below_bind (omega arith) (with_via_below profile parts.library words) (λ via less. below_some (rule_parts via.0 parts.widths) via.1 less)

past_part_below : (words : Words) → Below (length words) (past_rule_part words)
unfolding past_rule_part
past_part_below words = below_if (is_at (codes "SPACING") words) (past_section_below (codes "SPACING") words) (past_statement_below words)

part_shortens : (profile : Profile) → Shortens (rule_part profile)
unfolding rule_part
part_shortens profile parts words =
    below_if (is_at (codes "LAYER") words) (width_below parts words)
    (below_if (is_at (codes "VIA") words) (via_below profile parts words)
    (below_bind (omega arith) (past_part_below words) (λ part less. below_some parts part.1 less)))

pub part_shorter : (profile : Profile) (parts more : RuleParts) (words rest : Words) → rule_part profile parts words ≡ Some (more, rest)
    → length rest < length words
part_shorter profile parts more words rest said = (part_shortens profile parts words).left more rest said

-- one more part
pub parts_on : (profile : Profile) (parts more : RuleParts) (words rest : Words) → rule_part profile parts words ≡ Some (more, rest)
    → is_at (codes "END") words ≡ false → until at_end (rule_part profile) parts words ≡ until at_end (rule_part profile) more rest
parts_on profile parts more words rest said goes =
    loops.goes_on at_end (rule_part profile) (part_shortens profile) parts more words rest goes said

-- no more parts
pub parts_end : (profile : Profile) (parts : RuleParts) (words : Words) → is_at (codes "END") words ≡ true
    → until at_end (rule_part profile) parts words ≡ Some (parts, words)
parts_end profile parts words stops = loops.ends at_end (rule_part profile) parts words stops

-- what stands there is no part
pub parts_fail : (profile : Profile) (parts : RuleParts) (words : Words) → rule_part profile parts words ≡ None → is_at (codes "END") words ≡ false
    → until at_end (rule_part profile) parts words ≡ None
parts_fail profile parts words said goes = loops.fails at_end (rule_part profile) parts words goes said

pub with_rule_below : (profile : Profile) (library : RawLibraryModel) (words : Words) → Below (length words) (with_rule profile library words)
unfolding with_rule
with_rule_below profile library words =
    below_bind (omega arith) (keyword_below (codes "NONDEFAULTRULE") words) (λ start less.
    below_bind (omega arith) (name_below start.1) (λ name fewer.
    below_bind (omega arith) (until_below at_end (rule_part profile) (part_shortens profile) (rule_parts library []) name.1) (λ parts no_more.
    below_bind (omega arith) (end_of_below name.0 parts.1) (λ end last.
    below_if (is_none (place_of name.0 (raw_rule_names parts.0.library)))
    (below_some (add_rule (record { name = name.0; widths = parts.0.widths }) parts.0.library) end.1 last)
    (below_none (length words))))))
