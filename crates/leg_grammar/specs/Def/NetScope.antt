-- The profile in which nets are read, what is read before them, of which they name parts, and which vias are turned (LEF/DEF 5.8, "Nets",
-- "Special Nets"; which of two vias or rules of one name counts is lefdef's own rule).
use Rattle.std.specs.Prelude.{ℕ, ◌+◌, List, ◌++◌, length, Option, Some, option_map, slice_get}
use Rattle.std.specs.Option.{option_or}
use Rattle.leg_lex.specs.NameLookup.{place_of}
use Rattle.leg_lib_records.specs.Records.{LibraryModel, ViaModel, RuleModel, via_names, rule_names}
use Rattle.leg_grammar.specs.declared.profile.Profile.{Profile}
use Rattle.leg_grammar.specs.Def.Rule.{design_rule_names}
use Rattle.leg_grammar.specs.declared.turned_via.TurnedVia.{TurnedVia}
use Rattle.leg_design_records.specs.declared.records.Component.{Component}
use Rattle.leg_design_records.specs.Records.{PinModel, design_via_names}

-- the nondefault rules are those of the DEF, and `rule` is the number of that under which wires are read, if there is one
pub record NetScopeModel : Type 0 where
  pub profile : Profile
  pub library : LibraryModel
  pub vias : List ViaModel
  pub turned : List TurnedVia
  pub components : List Component
  pub pins : List PinModel
  pub rules : List RuleModel
  pub rule : Option ℕ

-- the via of this number, of those of a library and of a design: those of the library count first
abbrev pub via_of_number : LibraryModel → List ViaModel → ℕ → Option ViaModel
via_of_number library vias number = slice_get (library.vias ++ vias) number

-- the number of the via of this name
abbrev pub number_of_via : LibraryModel → List ViaModel → List ℕ → Option ℕ
number_of_via library vias name =
    option_or (place_of name (via_names library)) (option_map (λ k. length library.vias + k) (place_of name (design_via_names vias)))

-- the same of the vias that are in scope
abbrev pub via_numbered : NetScopeModel → ℕ → Option ViaModel
via_numbered scope number = via_of_number scope.library scope.vias number

abbrev pub via_named : NetScopeModel → List ℕ → Option ℕ
via_named scope name = number_of_via scope.library scope.vias name

-- the nondefault rule of this number: those of the DEF count first
abbrev pub rule_numbered : NetScopeModel → ℕ → Option RuleModel
rule_numbered scope number = slice_get (scope.rules ++ scope.library.rules) number

-- the number of the nondefault rule of this name
abbrev pub rule_named : NetScopeModel → List ℕ → Option ℕ
rule_named scope name =
    option_or (place_of name (design_rule_names scope.rules))
    (option_map (λ k. length scope.rules + k) (place_of name (rule_names scope.library)))

-- the same where wires are read under this rule
abbrev pub under_rule : NetScopeModel → ℕ → NetScopeModel
under_rule scope rule = record scope { rule = Some rule }
