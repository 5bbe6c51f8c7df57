-- The design after components have taken places.
use Rattle.std.proofs.Common.{◌≡◌, ℕ, ◌+◌, ◌<◌, List, [], ◌∷◌, ◌++◌, length, take, get_or, Option, None, Some, slice_get, All, refl, sym, ap, subst, ◌∙◌}
use Rattle.std.proofs.lemmas.List.{length-set, take_more}
use Rattle.leg_lemmas.proofs.Places.{there_is}
use Rattle.leg_geom.specs.declared.place.Place.{Place}
use Rattle.leg_design_records.specs.Records.{DesignModel}
use Rattle.leg_design_records.specs.declared.records.Component.{Component}
use Rattle.leg_legal.specs.declared.taken.Taken.{Taken}
use Rattle.leg_rules.specs.Legalise.Run.{placed_at, moved_to}
use Rattle.leg_legal.specs.Steps.AfterPlaces.{CanTake, placed_if_any, placed_one, placed_all}

-- one more component after others
pub placed_more : (design : DesignModel) (taken : List Taken) (next : Taken)
    → placed_all design (taken ++ next ∷ []) ≡ placed_one (placed_all design taken) next
placed_more design [] next = refl
placed_more design (first ∷ others) next = placed_more (placed_one design first) others next

-- the component that is there is PLACED
pub placed_there : (design : DesignModel) (taken : Taken) (component : Component) → slice_get design.components taken.number ≡ Some component
    → placed_one design taken ≡ moved_to design taken.number component taken.place
placed_there design taken component at = ap (placed_if_any design taken.number taken.place) at

-- the last of several is PLACED after the others
pub placed_last : (design : DesignModel) (taken : List Taken) (next : Taken) (component : Component)
    → slice_get (placed_all design taken).components next.number ≡ Some component
    → placed_all design (taken ++ next ∷ []) ≡ moved_to (placed_all design taken) next.number component next.place
placed_last design taken next component at = placed_more design taken next ∙ placed_there (placed_all design taken) next component at

-- there are as many components as before
count_if_any : (design : DesignModel) (c : ℕ) (place : Place) (any : Option Component)
    → length (placed_if_any design c place any).components ≡ length design.components
count_if_any design c place None = refl
count_if_any design c place (Some component) = length-set design.components c (placed_at component place)

pub same_count : (design : DesignModel) (taken : List Taken) → length (placed_all design taken).components ≡ length design.components
same_count design [] = refl
same_count design (first ∷ others) =
    same_count (placed_one design first) others ∙ count_if_any design first.number first.place (slice_get design.components first.number)

-- the next one of a list of components can take its place
pub can_take_next : (design : DesignModel) (taken : List Taken) (i : ℕ) (next : Taken) → All (CanTake design) taken → i < length taken
    → next ≡ get_or taken i next → CanTake design next
can_take_next design taken i next can below is = subst (CanTake design) (sym is) (can i next below)

-- and it does
pub placed_next : (design : DesignModel) (taken : List Taken) (i : ℕ) (next : Taken) → i < length taken → next ≡ get_or taken i next
    → placed_all design (take (i + 1) taken) ≡ placed_one (placed_all design (take i taken)) next
placed_next design taken i next below is =
    ap (λ (list : List Taken). placed_all design list) (take_more taken i next below)
    ∙ ap (λ (one : Taken). placed_all design (take i taken ++ one ∷ [])) (sym is)
    ∙ placed_more design (take i taken) next

-- what a change does that is told by the component that was there
pub placed_by : (now after : DesignModel) (next : Taken) → next.number < length now.components
    → ((before : Component) → slice_get now.components next.number ≡ Some before → after ≡ moved_to now next.number before next.place)
    → after ≡ placed_one now next
placed_by now after next below told =
    let there = there_is now.components next.number below in
    told there.0 there.1 ∙ sym (placed_there now next there.0 there.1)
