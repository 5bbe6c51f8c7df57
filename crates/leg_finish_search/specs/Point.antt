-- Points of a lattice (lefdef's own rule).
use Rattle.std.specs.Prelude.{ℕ, ◌<◌}
use Rattle.leg_finish_search.specs.declared.lattice.GridPoint.{GridPoint}

-- it is one of a lattice of so many levels, rows and columns
pub record IsPointOf (levels rows columns : ℕ) (point : GridPoint) : Type 0 where
  pub level : point.level < levels
  pub row : point.row < rows
  pub column : point.column < columns
