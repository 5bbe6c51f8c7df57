-- Nondefault rules, in the wide profile (LEF/DEF 5.8, "Nondefault Rule"; that all but widths and vias is read past is lefdef's
-- own rule).
use Rattle.std.specs.Prelude.{ℕ, ℤ, pos, Bool, ◌&&◌, ◌==◌, int_lt, if◌then◌else◌, List, [], ◌∷◌, ◌++◌, Option, None, Some, is_none, codes}
use Rattle.std.specs.List.{list_any}
use Rattle.leg_lex.specs.Words.{Words, ◌>>=◌, is_at, keyword_at, name_at, length_at, end_of, nothing_at}
use Rattle.leg_lex.specs.Until.{until}
use Rattle.leg_lex.specs.Statements.{statements_at, the, at_end}
use Rattle.leg_lex.specs.NameLookup.{place_of}
use Rattle.leg_lib_records.specs.declared.raw.RawRuleWidth.{RawRuleWidth}
use Rattle.leg_lib_records.specs.Records.{RawRuleModel, RawLibraryModel, raw_layer_names, raw_rule_names}
use Rattle.leg_grammar.specs.declared.profile.Profile.{Profile}
use Rattle.leg_grammar.specs.Profiles.{is_wide}
use Rattle.leg_grammar.specs.Lef.Via.{with_via}
use Rattle.leg_grammar.specs.Lef.SkippedForms.{past_lef_section, past_statement}

-- where a rule is read
abbrev pub is_at_rule : Profile → Words → Bool
is_at_rule profile words = is_wide profile && is_at (codes "NONDEFAULTRULE") words

-- WIDTH LEN: above 0
unfoldable pub rule_width_in : Words → Option ℤ
rule_width_in statement = do
  start ← keyword_at (codes "WIDTH") statement
  width ← length_at start.1
  end ← nothing_at width.1
  if int_lt (pos 0) width.0 then Some width.0 else None

-- LAYER NAME statements END NAME: the one WIDTH is the width on this layer, and the rest is read past
unfoldable pub rule_layer_at : RawLibraryModel → Words → Option (RawRuleWidth × Words)
rule_layer_at library words = do
  start ← keyword_at (codes "LAYER") words
  name ← name_at start.1
  layer ← place_of name.0 (raw_layer_names library)
  body ← statements_at name.1
  statement ← the (codes "WIDTH") body.0
  width ← rule_width_in statement
  end ← end_of name.0 body.1
  Some (record { layer = layer; width = width }, end.1)

-- what the parts before gave: the library with the vias of the rule, and the widths of the rule
pub record RuleParts : Type 0 where
  pub library : RawLibraryModel
  pub widths : List RawRuleWidth

abbrev pub rule_parts : RawLibraryModel → List RawRuleWidth → RuleParts
rule_parts library widths = record { library = library; widths = widths }

abbrev pub has_width : ℕ → List RawRuleWidth → Bool
has_width layer widths = list_any (λ width. width.layer == layer) widths

-- a layer has one width at most
unfoldable pub with_width : RuleParts → Words → Option (RuleParts × Words)
with_width parts words = do
  width ← rule_layer_at parts.library words
  if has_width width.0.layer parts.widths then None else Some (rule_parts parts.library (parts.widths ++ width.0 ∷ []), width.1)

-- a via of a rule is one as any other
unfoldable pub with_rule_via : Profile → RuleParts → Words → Option (RuleParts × Words)
with_rule_via profile parts words = do
  via ← with_via profile parts.library words
  Some (rule_parts via.0 parts.widths, via.1)

-- SPACING .. END SPACING and all other statements are read past
unfoldable pub past_rule_part : Words → Option (Unit {0} × Words)
past_rule_part words = if is_at (codes "SPACING") words then past_lef_section (codes "SPACING") words else past_statement words

-- one more part
unfoldable pub rule_part : Profile → RuleParts → Words → Option (RuleParts × Words)
rule_part profile parts words =
    if is_at (codes "LAYER") words then with_width parts words
    else (if is_at (codes "VIA") words then with_rule_via profile parts words
    else (past_rule_part words >>= λ part. Some (parts, part.1)))

abbrev pub add_rule : RawRuleModel → RawLibraryModel → RawLibraryModel
add_rule rule library = record library { rules = library.rules ++ rule ∷ [] }

-- NONDEFAULTRULE NAME parts END NAME: its name is new
unfoldable pub with_rule : Profile → RawLibraryModel → Words → Option (RawLibraryModel × Words)
with_rule profile library words = do
  start ← keyword_at (codes "NONDEFAULTRULE") words
  name ← name_at start.1
  parts ← until at_end (rule_part profile) (rule_parts library []) name.1
  end ← end_of name.0 parts.1
  if is_none (place_of name.0 (raw_rule_names parts.0.library))
      then Some (add_rule (record { name = name.0; widths = parts.0.widths }) parts.0.library, end.1) else None
