-- Terminals that are the same.
use Rattle.std.specs.Prelude.{Bool, false, ◌&&◌, ◌==◌, List}
use Rattle.std.specs.List.{list_any}
use Rattle.leg_design_records.specs.declared.records.Terminal.{Terminal}
use Rattle.leg_design_records.specs.declared.records.Terminal.TheVariants.{Comp, Pin}

abbrev pub is_same_terminal : Terminal → Terminal → Bool
is_same_terminal (Comp c k) (Comp d l) = c == d && k == l
is_same_terminal (Pin p) (Pin q) = p == q
is_same_terminal (Comp c k) (Pin p) = false
is_same_terminal (Pin p) (Comp c k) = false

abbrev pub is_among : Terminal → List Terminal → Bool
is_among terminal terminals = list_any (is_same_terminal terminal) terminals
