-- Names that no via has, sought one after the other.
use Rattle.std.proofs.Common.{◌≡◌, ℕ, suc, ◌+◌, ◌-◌, ◌<◌, true, false, List, None, Some, is_some, refl, arith}
use Rattle.leg_lib_records.specs.Records.{LibraryModel, ViaModel}
use Rattle.leg_grammar.specs.Def.NetScope.{number_of_via}
use Rattle.leg_grammar.specs.Def.TurnedVia.{numbered_name, new_name_from}

module _ (library : LibraryModel) (vias : List ViaModel) (name : List ℕ) (count number : ℕ) (less : number < count) where
  one_fewer : count - number ≡ suc (count - (number + 1))
  one_fewer = omega arith

  -- The name of this number is the first that no via has.
  pub name_found : is_some (number_of_via library vias (numbered_name name number)) ≡ false
      → new_name_from library vias name (count - number) number ≡ Some (numbered_name name number)
  unfolding new_name_from
  name_found free = rw (one_fewer, free) refl

  -- A via has it: the first is among those behind it.
  pub name_taken : is_some (number_of_via library vias (numbered_name name number)) ≡ true
      → new_name_from library vias name (count - number) number ≡ new_name_from library vias name (count - (number + 1)) (number + 1)
  unfolding new_name_from
  name_taken taken = rw (one_fewer, taken) refl

-- There are no more names.
pub no_names : (library : LibraryModel) (vias : List ViaModel) (name : List ℕ) (number : ℕ) → new_name_from library vias name (number - number) number ≡ None
unfolding new_name_from
no_names library vias name number = let none : number - number ≡ 0 = omega arith in rw none refl
