use Rattle.std.proofs.Common.{◌≡◌, ◌+◌, ◌-◌, ◌≤◌, suc, length}
use Rattle.leg_grammar.specs.Def.TurnedVia.{new_name_from, new_name}
use Rattle.leg_design_floorplan.proofs.new_name.new_name.Given as goal

-- the first new name is the first from this number on
abbrev pub invariant-numbers : goal.invariant-numbers
invariant-numbers g l =
    (new_name_from l.library l.vias l.name (suc (length l.library.vias + length l.vias) - l.number) l.number ≡ new_name l.library l.vias l.name)
    × (l.number ≤ suc (length l.library.vias + length l.vias))

abbrev pub decreases-numbers : goal.decreases-numbers
decreases-numbers g l = suc (length l.library.vias + length l.vias) - l.number
