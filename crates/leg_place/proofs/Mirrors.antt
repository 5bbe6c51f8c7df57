-- Which orientation is another one mirrored on the y axis, and which orientations fit a row's.
use Rattle.std.proofs.Common.{◌≡◌, ◌==◌, ◌⊎◌, ℕ, pos, ◌-ℤ◌, if◌then◌else◌, Bool, IsTrue, inl, inr, refl, sym, ap, ◌∙◌, arith}
use Rattle.std.specs.Ordering.{int_eq}
use Rattle.std.proofs.lemmas.Int.{ints}
use Rattle.leg_geom.specs.Plane.{PointModel}
use Rattle.leg_geom.specs.declared.orient.Orient.{Orient}
use Rattle.leg_geom.specs.declared.orient.Orient.TheVariants.{N, S, W, E, FN, FS, FW, FE}
use Rattle.leg_geom.specs.Orientation.{turned, both_edges, IsMirrored}
use Rattle.leg_geom.proofs.Points.{same_point}
use Rattle.leg_rules.specs.Placement.Sites.{Fits}
use Rattle.leg_place.specs.Steps.SiteSpan.{orient_rank}

-- a point of the box 4 wide and 2 high, which each orientation takes elsewhere
abbrev point : PointModel
point = record { x = pos 1; y = pos 0 }

-- the orientation that takes the point here
abbrev orient_from : PointModel → Orient
orient_from p =
    if int_eq p.x (pos 1) then (if int_eq p.y (pos 0) then N else FS)
    else (if int_eq p.x (pos 3) then (if int_eq p.y (pos 2) then S else FN)
    else (if int_eq p.x (pos 2) then (if int_eq p.y (pos 1) then W else FE)
    else (if int_eq p.y (pos 3) then E else FW)))

orient_told : (o : Orient) → orient_from (turned o (pos 4) (pos 2) point) ≡ o
orient_told N = refl
orient_told S = refl
orient_told W = refl
orient_told E = refl
orient_told FN = refl
orient_told FS = refl
orient_told FW = refl
orient_told FE = refl

-- there is one alone
pub mirrored_once : (o a b : Orient) → IsMirrored o a → IsMirrored o b → a ≡ b
mirrored_once o a b is_a is_b =
    sym (orient_told a) ∙ ap orient_from (is_a (pos 4) (pos 2) point ∙ sym (is_b (pos 4) (pos 2) point)) ∙ orient_told b

-- what is mirrored twice is as it was
mirrored_back : (o m : Orient) → IsMirrored o m → IsMirrored m o
mirrored_back o m is w h p =
    let low : (turned m w h (record { x = pos 0; y = pos 0 })).x ≡ both_edges o w h -ℤ (turned o w h (record { x = pos 0; y = pos 0 })).x =
    ap (λ s. s.x) (is w h (record { x = pos 0; y = pos 0 })) in
    let high : (turned m w h (record { x = w; y = h })).x ≡ both_edges o w h -ℤ (turned o w h (record { x = w; y = h })).x =
    ap (λ s. s.x) (is w h (record { x = w; y = h })) in
    let here : (turned m w h p).x ≡ both_edges o w h -ℤ (turned o w h p).x = ap (λ s. s.x) (is w h p) in
    same_point (turned o w h p) (record { x = both_edges m w h -ℤ (turned m w h p).x; y = (turned m w h p).y }) (omega (arith, ints, low, high, here))
    (sym (ap (λ s. s.y) (is w h p)))

-- the orientation of a rank
abbrev orient_ranked : ℕ → Orient
orient_ranked n =
    if n == 0 then N else (if n == 1 then S else (if n == 2 then W
    else (if n == 3 then E else (if n == 4 then FN else (if n == 5 then FS else (if n == 6 then FW else FE))))))

ranked_back : (o : Orient) → orient_ranked (orient_rank o) ≡ o
ranked_back N = refl
ranked_back S = refl
ranked_back W = refl
ranked_back E = refl
ranked_back FN = refl
ranked_back FS = refl
ranked_back FW = refl
ranked_back FE = refl

-- orientations of one rank are one
pub same_rank : (a b : Orient) → orient_rank a ≡ orient_rank b → a ≡ b
same_rank a b same = sym (ranked_back a) ∙ ap orient_ranked same ∙ ranked_back b

-- an orientation fits rows of its own, and with Y symmetry those that are it mirrored
module _ (orient mirrored : Orient) (y_symmetric : Bool) (is_mirrored : IsMirrored orient mirrored) where
  pub fits_mirrored : IsTrue y_symmetric → Fits mirrored y_symmetric orient
  fits_mirrored symmetric = inr (symmetric, mirrored_back orient mirrored is_mirrored)

  -- and no others
  pub fitting_is : (row : Orient) → Fits row y_symmetric orient → (row ≡ orient) ⊎ (IsTrue y_symmetric × (row ≡ mirrored))
  fitting_is row (inl same) = inl (sym same)
  fitting_is row (inr mirror) = inr (mirror.0, mirrored_once orient row mirrored (mirrored_back row orient mirror.1) is_mirrored)
