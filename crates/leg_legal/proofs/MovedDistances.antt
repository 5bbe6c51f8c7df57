-- How far components move that take places.
use Rattle.std.proofs.Common.{◌≡◌, ℕ, ◌<◌, ℤ, pos, List, length, set, get_or, Option, None, Some, slice_get, refl, sym, ap, ◌∙◌, inl, inr, arith}
use Rattle.std.proofs.Math.ListN.{replicate}
use Rattle.std.proofs.lemmas.Bool.{cases_eq}
use Rattle.std.proofs.lemmas.Int.{ints}
use Rattle.std.proofs.lemmas.List.{length-set, length-replicate, get_or-replicate}
use Rattle.std.proofs.lemmas.List.Elements.{All-set}
use Rattle.std.proofs.lemmas.Option.{same_Some, slice_get-get_or, slice_get_within}
use Rattle.leg_lemmas.proofs.Places.{set_here, set_elsewhere}
use Rattle.leg_geom.specs.Plane.{PointModel, RectModel}
use Rattle.leg_geom.specs.declared.place.Place.{Place}
use Rattle.leg_design_records.specs.Records.{DesignModel}
use Rattle.leg_design_records.specs.declared.records.Component.{Component}
use Rattle.leg_legal.specs.declared.taken.Taken.{Taken}
use Rattle.leg_rules.specs.Legalise.Run.{placed_at, moved_to}
use Rattle.leg_rules.specs.Legalise.Start.{start_of, distance, distance_to, moved_by}
use Rattle.leg_legal.specs.Steps.Distances.{IsMoveDistance, AreDistances}
use Rattle.leg_legal.specs.Steps.AfterPlaces.{placed_one}
use Rattle.leg_legal.proofs.OneMove.{is_here, elsewhere}
use Rattle.leg_legal.proofs.AfterPlaces.{placed_there}

-- a point is no way from itself
none_apart : (p : PointModel) → distance p p ≡ 0
none_apart p = omega (arith, ints)

-- what keeps its place doesn't move
at_start : (die : RectModel) (place : Option Place) → distance_to (start_of die place) place ≡ 0
at_start die None = refl
at_start die (Some place) = none_apart place.at

-- an element of so many equal ones
in_replicate : (n i : ℕ) (z : ℤ) → i < n → slice_get (replicate n z) i ≡ Some z
in_replicate n i z below =
    slice_get-get_or (replicate n z) i z (omega (arith, length-replicate n z)) ∙ ap Some (get_or-replicate n i z z below)

-- no component has moved yet
pub none_moved : (design : DesignModel) (each : List ℤ) → each ≡ replicate (length design.components) (pos 0) → AreDistances design design each
none_moved design each is = rw is (record {
  count = length-replicate (length design.components) (pos 0);
  distances = λ c old new at_old at_new.
      let same : new ≡ old = same_Some new old (sym at_new ∙ at_old) in
      let stays : moved_by design.die old new ≡ 0 = rw same (at_start design.die old.place) in
      rw stays (in_replicate (length design.components) c (pos 0) (slice_get_within design.components c old at_old));
  within = λ k d below.
      let n : ℕ = length design.components in
      let zero_there : get_or (replicate n (pos 0)) k d ≡ pos 0 = get_or-replicate n k (pos 0) d (omega (arith, length-replicate n (pos 0))) in
      rw zero_there (record { least = omega (arith, ints); most = omega (arith, ints) });
})

-- one more component takes its place
module _ (before now : DesignModel) (each : List ℤ) (taken : Taken) (component : Component) (z : ℤ)
    (at : slice_get before.components taken.number ≡ Some component)
    (is : z ≡ pos (distance taken.place.at (start_of before.die component.place))) (within : IsMoveDistance z)
    (count : length now.components ≡ length before.components) (known : AreDistances before now each) where
  below : taken.number < length before.components
  below = slice_get_within before.components taken.number component at

  abbrev current : Component
  current = get_or now.components taken.number component

  is_current : slice_get now.components taken.number ≡ Some current
  is_current = slice_get-get_or now.components taken.number component (omega (arith, below, count))

  was : slice_get each taken.number ≡ Some (get_or each taken.number z)
  was = slice_get-get_or each taken.number z (omega (arith, below, known.count))

  distance_here : (old new : Component) → slice_get before.components taken.number ≡ Some old
      → slice_get (moved_to now taken.number current taken.place).components taken.number ≡ Some new
      → slice_get (set each taken.number z) taken.number ≡ Some (pos (moved_by before.die old new))
  distance_here old new at_old at_new =
      let same_old : old ≡ component = same_Some old component (sym at_old ∙ at) in
      let same_new : new ≡ placed_at current taken.place = is_here now taken.number current taken.place is_current new at_new in
      set_here each taken.number (get_or each taken.number z) z was ∙ rw (same_old, same_new) (ap Some is)

  distance_elsewhere : (c : ℕ) (old new : Component) → (c ≡ taken.number → ⊥) → slice_get before.components c ≡ Some old
      → slice_get (moved_to now taken.number current taken.place).components c ≡ Some new
      → slice_get (set each taken.number z) c ≡ Some (pos (moved_by before.die old new))
  distance_elsewhere c old new apart at_old at_new =
      set_elsewhere each taken.number c z (λ same. apart (sym same)) ∙ known.distances c old new at_old
      (sym (elsewhere now taken.number current taken.place is_current c apart) ∙ at_new)

  moved : AreDistances before (moved_to now taken.number current taken.place) (set each taken.number z)
  moved = record {
    count = length-set each taken.number z ∙ known.count;
    distances = λ c old new at_old at_new.
        elim (cases_eq c taken.number) [
          | inl same ↦ rw same (distance_here old new (rw same at at_old) (rw same at at_new))
          | inr apart ↦ distance_elsewhere c old new apart at_old at_new
        ];
    within = All-set IsMoveDistance each taken.number z within known.within;
  }

  pub one_more : AreDistances before (placed_one now taken) (set each taken.number z)
  one_more = rw (placed_there now taken current is_current) moved
