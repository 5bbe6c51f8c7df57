-- A placement is read back.
use Rattle.std.proofs.Common.{◌≡◌, [], ◌∷◌, Option, None, Some, codes, refl}
use Rattle.leg_lex.specs.Words.{next_at, keyword_at, nothing_at}
use Rattle.leg_geom.specs.declared.place.Place.{Place}
use Rattle.leg_design_records.specs.declared.records.Status.{Status}
use Rattle.leg_design_records.specs.declared.records.Status.TheVariants.{Unplaced, Placed, Fixed, Cover}
use Rattle.leg_design_records.specs.WellFormedParts.{IsPosition, IsPlaced}
use Rattle.leg_grammar.specs.Def.Placement.{place_at, place_as, placed_in}
use Rattle.leg_grammar.specs.Def.Component.{unplaced_in, placement_in, placement_of}
use Rattle.leg_output.specs.Text.Points.{place_words}
use Rattle.leg_output.specs.Text.Clauses.{placement_clause}
use Rattle.leg_print_laws.proofs.FreeWords.{AreFree, free_literal, free_nil, free_cons}
use Rattle.leg_print_laws.proofs.Points.{place_again, place_free}

place_alone : (place : Place) → IsPosition place.at → place_at (place_words place) ≡ Some (place, [])
place_alone place is = place_again place [] is

pub placed_again : (status : Status) (place : Place) → IsPlaced status (Some place) → placed_in (placement_clause status (Some place)) ≡ Some (status, place)
unfolding placed_in place_as next_at nothing_at
placed_again Unplaced place is = absurd is
placed_again Placed place is = rw (place_alone place is) refl
placed_again Fixed place is = rw (place_alone place is) refl
placed_again Cover place is = rw (place_alone place is) refl

pub placement_again : (status : Status) (place : Option Place) → IsPlaced status place
    → placement_of (placement_clause status place ∷ []) ≡ Some (status, place)
unfolding placement_of placement_in unplaced_in placed_in place_as keyword_at next_at nothing_at
placement_again Unplaced None is = refl
placement_again Unplaced (Some place) is = absurd is
placement_again Placed None is = absurd is
placement_again Placed (Some place) is = rw (place_alone place is) refl
placement_again Fixed None is = absurd is
placement_again Fixed (Some place) is = rw (place_alone place is) refl
placement_again Cover None is = absurd is
placement_again Cover (Some place) is = rw (place_alone place is) refl

pub placement_free : (status : Status) (place : Option Place) → IsPlaced status place → AreFree (placement_clause status place)
placement_free Unplaced None is = free_cons (free_literal (codes "UNPLACED") refl refl refl) free_nil
placement_free Unplaced (Some place) is = absurd is
placement_free Placed None is = absurd is
placement_free Placed (Some place) is = free_cons (free_literal (codes "PLACED") refl refl refl) (place_free place is)
placement_free Fixed None is = absurd is
placement_free Fixed (Some place) is = free_cons (free_literal (codes "FIXED") refl refl refl) (place_free place is)
placement_free Cover None is = absurd is
placement_free Cover (Some place) is = free_cons (free_literal (codes "COVER") refl refl refl) (place_free place is)
