-- A rectangle that meets the box is among those that are near, and without one none does.
use Rattle.std.proofs.Common.{◌≡◌, ℕ, ◌<◌, ◌++◌, ◌∷◌, [], ◌∙◌, length, All, Some, slice_get, Contains, sym, ap, refl, append_assoc, arith}
use Rattle.std.proofs.lemmas.Bool.{false≢true}
use Rattle.std.proofs.lemmas.List.{append-nil}
use Rattle.std.proofs.lemmas.List.Elements.{All-push}
use Rattle.std.proofs.lemmas.Option.{slice_get_read}
use Rattle.leg_geom.specs.Plane.{ShareSquare}
use Rattle.leg_sweep.specs.Near.{AreNear}
use Rattle.leg_place.proofs.MetRects.{IsClearAt, none_met, clear_at, next_within}
use Rattle.leg_place.proofs.placement_blockages.PlacementBlockages.meet.Goals as goal

pub index-requires : goal.index-requires
index-requires g c =
    let rects = c.self.inside.rects.items in
    let number : ℕ = c.in-Some.number in
    let near : AreNear rects c.args.rect.now 0 c.near-number-items.result = rw c.self.invariant at c.near-number-items.ensures in
    let within : number < length rects =
    next_within rects c.args.rect.now c.near-number-items.result c.loop-number.yielded c.loop-number.number-iterator c.next.new.self number near
    (sym c.into_iter-number-iterator.ensures.into_iter_gives ∙ c.loop-number.invariant.so_far) c.in-Some.ensures.steps in
    omega (arith, within, c.self.inside.rects.ok.0)

pub returns-then-overlaps : goal.returns-then-overlaps
returns-then-overlaps g c =
    let rects = c.self.inside.rects.items in
    let rect = c.index.result.now in
    let number : ℕ = c.in-Some.number in
    let near : AreNear rects c.args.rect.now 0 c.near-number-items.result = rw c.self.invariant at c.near-number-items.ensures in
    let within : number < length rects =
    next_within rects c.args.rect.now c.near-number-items.result c.loop-number.yielded c.loop-number.number-iterator c.next.new.self number near
    (sym c.into_iter-number-iterator.ensures.into_iter_gives ∙ c.loop-number.invariant.so_far) c.in-Some.ensures.steps in
    let has : Contains rects rect = (number, within, sym c.index.ensures) in
    (λ t. record { rect = rect; has = rw (← c.self.view_is) has; shared = c.if-overlaps.ensures.0 refl }, λ met. refl)

pub loop-number-preserved : goal.loop-number-preserved
loop-number-preserved g c =
    let rects = c.self.inside.rects.items in
    let rect = c.index.result.now in
    let number : ℕ = c.in-Some.number in
    let near : AreNear rects c.args.rect.now 0 c.near-number-items.result = rw c.self.invariant at c.near-number-items.ensures in
    let within : number < length rects =
    next_within rects c.args.rect.now c.near-number-items.result c.loop-number.yielded c.loop-number.number-iterator c.next.new.self number near
    (sym c.into_iter-number-iterator.ensures.into_iter_gives ∙ c.loop-number.invariant.so_far) c.in-Some.ensures.steps in
    let far : ¬ ShareSquare c.args.rect.now rect = λ shared. false≢true (c.if-overlaps.ensures.1 shared) in
    let at : slice_get rects number ≡ Some rect = slice_get_read rects (length rects) number rect refl within c.index.ensures in
    record {
      can = tt;
      ends = tt;
      so_far =
          c.loop-number.invariant.so_far ∙ ap (λ xs. c.loop-number.yielded ++ xs) c.in-Some.ensures.steps
          ∙ sym (append_assoc c.loop-number.yielded (number ∷ []) c.next.new.self);
      clear =
          All-push (IsClearAt rects c.args.rect.now) c.loop-number.yielded number c.loop-number.invariant.clear
          (clear_at rects c.args.rect.now number rect at far);
    }

pub returns : goal.returns
returns g c =
    let rects = c.self.inside.rects.items in
    let all = c.near-number-items.result in
    let done : all ≡ c.loop-number.yielded =
    sym c.into_iter-number-iterator.ensures.into_iter_gives ∙ c.loop-number.invariant.so_far
    ∙ ap (λ xs. c.loop-number.yielded ++ xs) c.in-None.ensures.steps.0 ∙ append-nil c.loop-number.yielded in
    let near : AreNear rects c.args.rect.now 0 all = rw c.self.invariant at c.near-number-items.ensures in
    let clear : All (IsClearAt rects c.args.rect.now) all = rw done c.loop-number.invariant.clear in
    (λ t. absurd (false≢true t), λ met. absurd (none_met rects c.args.rect.now all near clear (rw c.self.view_is met)))
