-- A flat design: the metal of a design as rectangles, and the pieces of its nets.
use Rattle.std.specs.Prelude.{◌≡◌, ℕ, ◌+◌, ◌*◌, ◌^◌, ◌<◌, ◌≤◌, List, All, length}
use Rattle.leg_design_records.specs.declared.limits.TheConstants.{PART_LIMIT}
use Rattle.leg_design_records.specs.declared.records.Terminal.{Terminal}
use Rattle.leg_rules.specs.declared.piece.Piece.{Piece}
use Rattle.leg_rules.specs.Metal.Flat.{FlatModel, pieces_with}

-- a net of a flat with this many shapes: its pieces are terminals and then wires, and their numbers fit in 32 bits
pub record ArePieces (shapes : ℕ) (pieces : List Piece) : Type 0 where
  pub terminals : List Terminal
  pub wires : ℕ
  pub are : pieces ≡ pieces_with terminals wires
  pub few : length pieces ≤ 2 * PART_LIMIT + shapes

-- a flat keeps the limit of shapes, and the numbers of its nets and their pieces fit in 32 bits
pub record IsWithinLimits (flat : FlatModel) : Type 0 where
  pub shapes : length flat.shapes ≤ PART_LIMIT
  pub nets : length flat.pieces < 2 ^ 32
  pub pieces : All (λ pieces. length pieces < 2 ^ 32) flat.pieces
  pub of_nets : All (ArePieces (length flat.shapes)) flat.pieces
