-- What a clause reads of the free parts (lefdef's own rule).
use Rattle.std.specs.Prelude.{◌≡◌, ℕ, IfSome, Option}
use Rattle.leg_c_memory.specs.declared.free.FreeParts.{FreeParts}

-- the object that they lie in
abbrev pub parts_object : FreeParts → ℕ
parts_object f = f.above.object

-- the parts, if there are any, lie in the object b
abbrev pub IsOf : ℕ → Option FreeParts → Type 0
IsOf b parts = IfSome parts (λ f. parts_object f ≡ b)
