-- Which of some rectangles share a unit square with a box.
use Rattle.std.proofs.Common.{◌≡◌, ℕ, ◌<◌, List, ◌∷◌, ◌++◌, length, Some, slice_get, All, Contains, refl, sym, ◌∙◌}
use Rattle.std.proofs.lemmas.List.Elements.{All-contains, Contains-append_right}
use Rattle.std.proofs.lemmas.Option.{slice_get_read, slice_get_within, same_Some}
use Rattle.leg_lemmas.proofs.Contents.{Contains-here}
use Rattle.leg_geom.specs.Plane.{RectModel, ShareSquare}
use Rattle.leg_geom.proofs.Gaps.{ShareSquare-gaps}
use Rattle.leg_sweep.specs.Near.{IsNear, AreNear}
use Rattle.leg_place.specs.Steps.Floorplan.{IsMet}

-- the rectangle of this number shares no unit square with the box
abbrev pub IsClearAt : List RectModel → RectModel → ℕ → Type 0
IsClearAt rects box number = (rect : RectModel) → slice_get rects number ≡ Some rect → ¬ ShareSquare box rect

-- where none of the near ones does, none does
pub none_met : (rects : List RectModel) (box : RectModel) (numbers : List ℕ) → AreNear rects box 0 numbers → All (IsClearAt rects box) numbers
    → IsMet rects box → ⊥
none_met rects box numbers near clear met =
    let number = met.has.0 in
    let at : slice_get rects number ≡ Some met.rect = slice_get_read rects (length rects) number met.rect refl met.has.1 (sym met.has.2) in
    let gaps = ShareSquare-gaps box met.rect met.shared in
    let is_near : IsNear rects box 0 number = record { other = met.rect; there = at; x = gaps.0; y = gaps.1 } in
    All-contains (IsClearAt rects box) numbers number clear (near.all number is_near) met.rect at met.shared

-- the rectangle that was read is the one of this number
pub clear_at : (rects : List RectModel) (box : RectModel) (number : ℕ) (rect : RectModel) → slice_get rects number ≡ Some rect
    → ¬ ShareSquare box rect → IsClearAt rects box number
clear_at rects box number rect at clear other there shared =
    let same : other ≡ rect = same_Some other rect (sym there ∙ at) in
    clear (rw same at shared)

-- the next of what is left is the number of a rectangle
pub next_within : (rects : List RectModel) (box : RectModel) (all before left rest : List ℕ) (number : ℕ) → AreNear rects box 0 all
    → all ≡ before ++ left → left ≡ number ∷ rest → number < length rects
next_within rects box all before left rest number near is next =
    let has : Contains all number = rw (is, next) (Contains-append_right before (number ∷ rest) number (Contains-here number rest)) in
    let one : IsNear rects box 0 number = All-contains (IsNear rects box 0) all number near.each has in
    slice_get_within rects number one.other one.there
