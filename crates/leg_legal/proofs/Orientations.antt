-- Whether an orientation fits a row, and which one a component takes there.
use Rattle.std.proofs.Common.{◌≡◌, ◌==◌, ℕ, ℤ, if◌then◌else◌, Bool, Option, None, Some, inl, inr, refl, sym, ap, subst, ◌∙◌, arith}
use Rattle.std.proofs.lemmas.Bool.{cases_eq}
use Rattle.std.proofs.lemmas.Int.{ints}
use Rattle.leg_geom.specs.Plane.{PointModel}
use Rattle.leg_geom.specs.declared.orient.Orient.{Orient}
use Rattle.leg_geom.specs.declared.orient.Orient.TheVariants.{N, S, W, E, FN, FS, FW, FE}
use Rattle.leg_geom.specs.Orientation.{IsMirrored}
use Rattle.leg_rules.specs.Placement.Sites.{Fits}
use Rattle.leg_rules.specs.Legalise.Preference.{IsTurned}
use Rattle.leg_place.proofs.Mirrors.{mirrored_once}
use Rattle.leg_rules.specs.Legalise.Places.{Takes}
use Rattle.leg_legal.proofs.Decisions.{HoldsOrNot, never_or_not, both_or_not, either_or_not, true_or_not}

-- orientations by numbers
abbrev number : Orient → ℕ
number N = 0
number S = 1
number W = 2
number E = 3
number FN = 4
number FS = 5
number FW = 6
number FE = 7

abbrev numbered : ℕ → Orient
numbered n =
    if n == 0 then N else (if n == 1 then S else (if n == 2 then W
    else (if n == 3 then E else (if n == 4 then FN else (if n == 5 then FS else (if n == 6 then FW else FE))))))

numbered_back : (o : Orient) → numbered (number o) ≡ o
numbered_back N = refl
numbered_back S = refl
numbered_back W = refl
numbered_back E = refl
numbered_back FN = refl
numbered_back FS = refl
numbered_back FW = refl
numbered_back FE = refl

orients_same_or_not : (a b : Orient) → HoldsOrNot (a ≡ b)
orients_same_or_not a b =
    elim (cases_eq (number a) (number b)) [
      | inl same ↦ inl (sym (numbered_back a) ∙ ap numbered same ∙ numbered_back b)
      | inr differ ↦ inr (λ same. differ (ap number same))
    ]

-- the one that is an orientation mirrored on the y axis
abbrev mirror : Orient → Orient
mirror N = FN
mirror S = FS
mirror W = FW
mirror E = FE
mirror FN = N
mirror FS = S
mirror FW = W
mirror FE = E

abbrev spot_at : ℤ → ℤ → PointModel
spot_at x y = record { x = x; y = y }

spot : {x u y v : ℤ} → x ≡ u → y ≡ v → spot_at x y ≡ spot_at u v
spot e f = λ i. record { x = e i; y = f i }

mirror_is : (o : Orient) → IsMirrored o (mirror o)
mirror_is N w h p = spot (omega (arith, ints)) refl
mirror_is S w h p = spot (omega (arith, ints)) refl
mirror_is W w h p = spot (omega (arith, ints)) refl
mirror_is E w h p = spot (omega (arith, ints)) refl
mirror_is FN w h p = spot (omega (arith, ints)) refl
mirror_is FS w h p = spot (omega (arith, ints)) refl
mirror_is FW w h p = spot (omega (arith, ints)) refl
mirror_is FE w h p = spot (omega (arith, ints)) refl

mirrored_or_not : (o mirrored : Orient) → HoldsOrNot (IsMirrored o mirrored)
mirrored_or_not o mirrored =
    elim (orients_same_or_not mirrored (mirror o)) [
      | inl same ↦ inl (subst (IsMirrored o) (sym same) (mirror_is o))
      | inr differ ↦ inr (λ is. differ (mirrored_once o mirrored (mirror o) is (mirror_is o)))
    ]

-- whether an orientation fits a row, and whether a component is turned there
pub fits_or_not : (row : Orient) (y_symmetric : Bool) (orient : Orient) → HoldsOrNot (Fits row y_symmetric orient)
fits_or_not row y_symmetric orient =
    either_or_not (orients_same_or_not orient row) (both_or_not (true_or_not y_symmetric) (mirrored_or_not row orient))

pub turned_or_not : (row : Orient) (y_symmetric : Bool) (old : Option Orient) → HoldsOrNot (IsTurned row y_symmetric old)
turned_or_not row y_symmetric None = inr (λ turned. turned)
turned_or_not row y_symmetric (Some old) = never_or_not (fits_or_not row y_symmetric old)

-- the orientation that a component takes
pub taken_orient : (row : Orient) (y_symmetric : Bool) (old : Option Orient) → (orient : Orient) × Takes row y_symmetric old orient
taken_orient row y_symmetric None = (row, refl)
taken_orient row y_symmetric (Some old) =
    elim (fits_or_not row y_symmetric old) [
      | inl fits ↦ (old, inl (fits, refl))
      | inr never ↦ (row, inr (never, refl))
    ]
