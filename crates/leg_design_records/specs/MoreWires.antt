-- Entries of nets that get wires.
use Rattle.std.specs.Prelude.{List, [], ◌∷◌, ◌++◌}
use Rattle.leg_design_records.specs.declared.records.Wire.{Wire}
use Rattle.leg_design_records.specs.Records.{NetModel}

-- the elements in their order, each with one of the second list; those that none is left for stay as they are
unfoldable pub each_with : {X Y : Type 0} → (X → Y → X) → List X → List Y → List X
each_with f [] ys = []
each_with f (x ∷ xs) [] = x ∷ xs
each_with f (x ∷ xs) (y ∷ ys) = f x y ∷ each_with f xs ys

-- The entries in their order, each with the wires of one list after its own: the first list's for the first entry, and so
-- on.
abbrev pub with_more_wires : List NetModel → List (List Wire) → List NetModel
with_more_wires nets lists = each_with (λ (net : NetModel) (wires : List Wire). record net { wires = net.wires ++ wires }) nets lists
