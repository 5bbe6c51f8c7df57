-- How many rectangles vias have, counted up to a limit.
use Rattle.std.proofs.Common.{◌≡◌, ℕ, ◌+◌, ◌<◌, List, [], ◌∷◌, ◌++◌, length, take, get_or, min, sym, ap, ◌∙◌, arith}
use Rattle.std.proofs.lemmas.List.{take_more}
use Rattle.leg_lib_records.specs.Records.{ViaModel}
use Rattle.leg_grammar.specs.Def.CutArray.{shape_count}

shape_count_push : (vias : List ViaModel) (via : ViaModel) → shape_count (vias ++ via ∷ []) ≡ shape_count vias + length via.shapes
shape_count_push [] via = omega arith
shape_count_push (first ∷ vias) via =
    let more = shape_count_push vias via in
    omega (arith, more)

-- One via more has so many rectangles more.
pub more_shapes : (vias all : List ViaModel) (via : ViaModel) (shapes more limit : ℕ) → all ≡ vias ++ via ∷ [] → shapes ≡ min (shape_count vias) limit
    → more ≡ min (shapes + length via.shapes) limit → more ≡ min (shape_count all) limit
more_shapes vias all via shapes more limit is before after =
    let count : shape_count all ≡ shape_count vias + length via.shapes = ap shape_count is ∙ shape_count_push vias via in
    grind (arith, count, before, after)

-- the same, where the vias so far are the first of a list
pub one_via_more : (vias : List ViaModel) (via : ViaModel) (i shapes more limit : ℕ) → i < length vias → via ≡ get_or vias i via
    → shapes ≡ min (shape_count (take i vias)) limit → more ≡ min (shapes + length via.shapes) limit → more ≡ min (shape_count (take (i + 1) vias)) limit
one_via_more vias via i shapes more limit less is before after =
    let next : take (i + 1) vias ≡ take i vias ++ via ∷ [] = take_more vias i via less ∙ ap (λ v. take i vias ++ v ∷ []) (sym is) in
    more_shapes (take i vias) (take (i + 1) vias) via shapes more limit next before after
