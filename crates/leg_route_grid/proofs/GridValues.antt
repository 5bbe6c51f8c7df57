-- The values of the grid are the lines of tracks.
use Rattle.std.proofs.Common.{◌≡◌, ℕ, suc, zero, ◌*◌, ◌<◌, ◌≤◌, ◌↔◌, ℤ, pos, negsuc, ◌+ℤ◌, ◌-ℤ◌, ◌*ℤ◌, ◌≤ℤ◌, ◌<ℤ◌, List, All, AllPairs, Contains, arith}
use Rattle.std.proofs.Math.Nat.{mul-le-mul_right}
use Rattle.std.proofs.lemmas.Int.{ints}
use Rattle.std.proofs.lemmas.List.Elements.{All-contains, Contains-get_or}
use Rattle.leg_lex.specs.Number.{IsNumber}
use Rattle.leg_lib_records.specs.declared.records.Direction.TheVariants.{Horizontal, Vertical}
use Rattle.leg_lib_records.specs.Records.{LibraryModel}
use Rattle.leg_design_records.specs.declared.records.Axis.TheVariants.{X, Y}
use Rattle.leg_design_records.specs.Records.{TrackModel, DesignModel}
use Rattle.leg_design_records.specs.WellFormedParts.{IsTrack}
use Rattle.leg_design_records.specs.WellFormed.{IsWellFormed}
use Rattle.leg_rules.specs.Route.Tracks.{IsLineOf, IsGridX, IsGridY}
use Rattle.leg_rules.specs.Route.GridSize.{AreValues}
use Rattle.leg_route_grid.specs.Steps.Lines.{IsLineAlong}

module _ (design : DesignModel) (z : ℤ) where
  pub x_lines : IsLineAlong design.library design.tracks Vertical X z ↔ IsGridX design z
  x_lines = (
    λ line. record {
      number = line.is.serve.number;
      width = line.is.serve.width;
      vertical = line.is.serve.runs;
      track = record { track = line.track; given = line.given; along = line.is.along; are_for = line.is.serve.are_for; line = line.is.line };
    },
    λ x. record {
      track = x.track.track;
      given = x.track.given;
      is = record {
        along = x.track.along;
        serve = record { number = x.number; width = x.width; runs = x.vertical; are_for = x.track.are_for };
        line = x.track.line;
      };
    },
  )

  pub y_lines : IsLineAlong design.library design.tracks Horizontal Y z ↔ IsGridY design z
  y_lines = (
    λ line. record {
      number = line.is.serve.number;
      width = line.is.serve.width;
      horizontal = line.is.serve.runs;
      track = record { track = line.track; given = line.given; along = line.is.along; are_for = line.is.serve.are_for; line = line.is.line };
    },
    λ y. record {
      track = y.track.track;
      given = y.track.given;
      is = record {
        along = y.track.along;
        serve = record { number = y.number; width = y.width; runs = y.horizontal; are_for = y.track.are_for };
        line = y.track.line;
      };
    },
  )

-- values in order are those that were gathered
pub in_order : (IsValue IsLine : ℤ → Type 0) (gathered values : List ℤ) → AllPairs (λ a b. a <ℤ b) values
    → ((z : ℤ) → Contains values z ↔ Contains gathered z) → ((z : ℤ) → Contains gathered z ↔ IsLine z) → ((z : ℤ) → IsLine z ↔ IsValue z)
    → AreValues IsValue values
in_order IsValue IsLine gathered values rising same are is = record {
  increasing = rising;
  each = λ k d within. (is _).0 ((are _).0 ((same _).0 (Contains-get_or values k d within)));
  all = λ z value. (same z).1 ((are z).1 ((is z).1 value));
}

between : (start : ℤ) (k last step : ℕ) → k ≤ last → IsNumber start → IsNumber (start +ℤ pos (last * step)) → IsNumber (start +ℤ pos (k * step))
between start k last step below from to = let less : k * step ≤ last * step = mul-le-mul_right step below in omega (arith, ints)

line_within : (start count step : ℤ) (k : ℕ) → IsNumber start → pos 1 ≤ℤ count → pos 1 ≤ℤ step → IsNumber (start +ℤ ((count -ℤ pos 1) *ℤ step)) → pos k <ℤ count
    → IsNumber (start +ℤ (pos k *ℤ step))
line_within start (pos (suc n)) (pos s) k from some apart to below =
    between start k n s (let b : k < suc n = omega (arith, ints) in omega (arith, b)) from
    (let e : pos (suc n) -ℤ pos 1 ≡ pos n = omega (arith, ints) in rw e at to)
line_within start (pos zero) step k from some apart to below = absurd (omega (arith, ints))
line_within start (negsuc n) step k from some apart to below = absurd (omega (arith, ints))
line_within start count (negsuc s) k from some apart to below = absurd (omega (arith, ints))

pub line_is_number : (library : LibraryModel) (track : TrackModel) (z : ℤ) → IsTrack library track → IsLineOf track z → IsNumber z
line_is_number library track z is line = rw line.is (line_within track.start track.count track.step line.k is.start is.some is.apart is.end line.within)

-- all values of the grid are numbers that a DEF may have
pub xs_within : (design : DesignModel) (xs : List ℤ) → IsWellFormed design → AreValues (IsGridX design) xs → All IsNumber xs
xs_within design xs proper are k d within =
    let x = are.each k d within in
    line_is_number design.library x.track.track _ (All-contains (IsTrack design.library) design.tracks x.track.track proper.tracks x.track.given) x.track.line

pub ys_within : (design : DesignModel) (ys : List ℤ) → IsWellFormed design → AreValues (IsGridY design) ys → All IsNumber ys
ys_within design ys proper are k d within =
    let y = are.each k d within in
    line_is_number design.library y.track.track _ (All-contains (IsTrack design.library) design.tracks y.track.track proper.tracks y.track.given) y.track.line
