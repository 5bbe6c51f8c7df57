-- What a profile is asked for (lefdef's own rule).
use Rattle.std.specs.Prelude.{Bool, true, false}
use Rattle.leg_grammar.specs.declared.profile.Profile.{Profile}
use Rattle.leg_grammar.specs.declared.profile.Profile.TheVariants.{Narrow, Wide}

-- whether forms that are of the wide profile alone are read
abbrev pub is_wide : Profile → Bool
is_wide Narrow = false
is_wide (Wide masks soft) = true
