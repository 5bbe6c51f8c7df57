-- The nondefault rules of the DEF count before those of the library.
use Rattle.std.proofs.Common.{◌≡◌, ℕ, ◌+◌, ◌<◌, List, length, None, Some, option_map, refl, sym}
use Rattle.std.specs.Option.{option_or}
use Rattle.std.proofs.lemmas.List.{length-map}
use Rattle.leg_lex.specs.NameLookup.{place_of}
use Rattle.leg_lex.proofs.NameLookup.{place_stands}
use Rattle.leg_lib_records.specs.Records.{LibraryModel, RuleModel, rule_names}
use Rattle.leg_grammar.specs.Def.Rule.{design_rule_names}

-- a rule of the library that has a name stands among its rules
pub rule_within : (name : List ℕ) (library : LibraryModel) (number : ℕ) → Some number ≡ place_of name (rule_names library) → number < length library.rules
rule_within name library number is =
    let stands = place_stands name (rule_names library) number (sym is) in
    let within = stands.within in
    rw (length-map library.rules (λ r. r.name)) at within

-- a rule that the DEF hasn't, counts behind those of the DEF
pub rule_second : (rules : List RuleModel) (library : LibraryModel) (name : List ℕ) (number : ℕ) → None ≡ place_of name (design_rule_names rules)
    → Some number ≡ place_of name (rule_names library)
    → Some (length rules + number) ≡ option_or (place_of name (design_rule_names rules))
    (option_map (λ k. length rules + k) (place_of name (rule_names library)))
rule_second rules library name number none found = rw (← none, ← found) refl
