-- The scope of pins and nets in each profile.
use Rattle.std.proofs.Common.{List, None}
use Rattle.leg_lib_records.specs.Records.{RuleModel}
use Rattle.leg_grammar.specs.declared.profile.Profile.{Profile}
use Rattle.leg_grammar.specs.Def.NetScope.{NetScopeModel}

-- the same scope, where they are read in this profile, with these nondefault rules and under none
abbrev pub read_as : Profile → List RuleModel → NetScopeModel → NetScopeModel
read_as profile rules scope = record scope { profile = profile; rules = rules; rule = None }
