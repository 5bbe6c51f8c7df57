-- How rows may lie (lefdef's own rule, after LEF/DEF 5.8, "Rows").
use Rattle.std.specs.Prelude.{Bool, true, false}
use Rattle.leg_geom.specs.declared.orient.Orient.{Orient}
use Rattle.leg_geom.specs.declared.orient.Orient.TheVariants.{N, S, W, E, FN, FS, FW, FE}

-- a row isn't turned: it may be mirrored
abbrev pub is_upright : Orient → Bool
is_upright N = true
is_upright S = true
is_upright FN = true
is_upright FS = true
is_upright W = false
is_upright E = false
is_upright FW = false
is_upright FE = false
