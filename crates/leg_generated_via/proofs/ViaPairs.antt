-- The numbers of generated vias are within their limit, and so they are coordinates.
use Rattle.std.proofs.Common.{◌≡◌, ℤ, Some, arith}
use Rattle.leg_lex.specs.Number.{IsNumber}
use Rattle.leg_lex.specs.Words.{Words, length_at}
use Rattle.leg_geom.specs.Plane.{IsCoordinate}
use Rattle.leg_grammar.specs.declared.generated_via.ViaNumbers.{ViaNumbers}
use Rattle.leg_grammar.specs.declared.generated_via.ViaNumbers.TheVariants.{Units, Microns}
use Rattle.leg_grammar.specs.Def.Guard.{is_within}
use Rattle.leg_grammar.specs.Def.GeneratedVia.{via_number_at}
use Rattle.leg_design_common.proofs.Gives.{Gives, gives_some, gives_bind, gives_skip, when_gives}
use Rattle.leg_design_common.proofs.ReadPlacement.{whole_gives}
use Rattle.leg_design_common.proofs.Areas.{within_is}

number_gives : (numbers : ViaNumbers) (words : Words) → Gives (λ said. IsNumber said.0) (via_number_at numbers words)
unfolding via_number_at
number_gives Units words = whole_gives words
number_gives Microns words =
    gives_skip (length_at words) (λ length.
    gives_bind (when_gives (is_within length.0)) (λ _ within.
    gives_some _ (within_is length.0 within)))

number_in_plane : (z : ℤ) → IsNumber z → IsCoordinate z
number_in_plane z number = omega arith

pub number_is_coordinate : (numbers : ViaNumbers) (words : Words) (z : ℤ) (rest : Words) → via_number_at numbers words ≡ Some (z, rest) → IsCoordinate z
number_is_coordinate numbers words z rest said = number_in_plane z ((number_gives numbers words).given (z, rest) said)
