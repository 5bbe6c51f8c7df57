-- The rectangles between the edges of a band, taken two by two.
use Rattle.std.proofs.Common.{◌≡◌, ◌-◌, ◌/◌, ◌≤◌, ℤ, pos, List, [], ◌∷◌, ◌++◌, length, take, drop, get_or, refl, ap, ◌∙◌, append_assoc, arith}
use Rattle.std.proofs.lemmas.List.{take_all}
use Rattle.leg_geom.specs.Plane.{RectModel}
use Rattle.leg_polygon.specs.Slab.{runs}

-- two edges more
pub more_runs : (done now whole : List RectModel) (band : ℤ × ℤ) (rest : List ℤ) → 2 ≤ length rest → done ++ runs band rest ≡ whole
    → now ≡ done ++ record { x1 = get_or rest 0 (pos 0); y1 = band.0; x2 = get_or rest 1 (pos 0); y2 = band.1 } ∷ []
    → now ++ runs band (take (length rest - 2) (drop 2 rest)) ≡ whole
more_runs done now whole band [] long so_far more = absurd (omega (arith, long))
more_runs done now whole band (west ∷ []) long so_far more = absurd (omega (arith, long))
more_runs done now whole band (west ∷ east ∷ others) long so_far more =
    let left : length (west ∷ east ∷ others) - 2 ≡ length others = omega arith in
    let all : take (length (west ∷ east ∷ others) - 2) others ≡ others = ap (λ n. take n others) left ∙ take_all (length others) others (omega arith) in
    ap (λ zs. now ++ runs band zs) all ∙ ap (λ rs. rs ++ runs band others) more
    ∙ append_assoc done (record { x1 = west; y1 = band.0; x2 = east; y2 = band.1 } ∷ []) (runs band others) ∙ so_far

-- two edges make a rectangle
pub length-runs : (band : ℤ × ℤ) (es : List ℤ) → length (runs band es) ≡ length es / 2
length-runs band [] = refl
length-runs band (a ∷ []) = refl
length-runs band (a ∷ b ∷ es) = let rest = length-runs band es in omega (arith, rest)
