-- A close shape is among those that are near, and without one the metal is clean.
use Rattle.std.proofs.Common.{◌≡◌, ℕ, ◌<◌, ◌++◌, ◌∷◌, [], ◌∙◌, length, All, Some, slice_get, Contains, sym, ap, refl, append_assoc}
use Rattle.std.proofs.lemmas.Bool.{false≢true}
use Rattle.std.proofs.lemmas.List.{append-nil}
use Rattle.std.proofs.lemmas.List.Elements.{All-push}
use Rattle.std.proofs.lemmas.Option.{slice_get_read}
use Rattle.leg_sweep.specs.Near.{AreNear}
use Rattle.leg_rules.specs.Spacing.Clean.{net_metal}
use Rattle.leg_rules.specs.Spacing.RequiredSpacing.{greatest_spacing_on}
use Rattle.leg_rules.specs.Spacing.Closer.{AreCloserThan}
use Rattle.leg_wire.proofs.NearShapes.{rects_of, IsFarAt, next_within, far_at, far_from_all}
use Rattle.leg_wire.proofs.clean_metal.clean_indexed.Goals as goal

pub bounds-shapes-number : goal.bounds-shapes-number
bounds-shapes-number g c =
    rw c.shapes-shapes.ensures.is
    (next_within c.args.flat.now.shapes c.args.index.now c.args.rect c.greatest_spacing_on-spacing.result c.near-number-items.result c.loop-number.yielded
    c.loop-number.number-iterator c.next.new.self c.in-Some.number
    c.requires c.near-number-items.ensures (sym c.into_iter-number-iterator.ensures.into_iter_gives ∙ c.loop-number.invariant.so_far) c.in-Some.ensures.steps)

pub returns-then-are_closer_than : goal.returns-then-are_closer_than
returns-then-are_closer_than g c =
    let library = c.args.library.now in
    let flat = c.args.flat.now in
    let shape = c.index-shapes-number.result in
    let number : ℕ = c.in-Some.number in
    let close = rw (c.greatest_spacing_on-spacing.ensures.is, c.net_metal-metal.ensures) at (c.if-are_closer_than.ensures.0 refl) in
    let within : number < length flat.shapes =
    next_within flat.shapes c.args.index.now c.args.rect c.greatest_spacing_on-spacing.result c.near-number-items.result c.loop-number.yielded
    c.loop-number.number-iterator c.next.new.self number
    c.requires c.near-number-items.ensures (sym c.into_iter-number-iterator.ensures.into_iter_gives ∙ c.loop-number.invariant.so_far) c.in-Some.ensures.steps in
    let is = rw c.shapes-shapes.ensures.is at c.index-shapes-number.is in
    let has : Contains flat.shapes shape = (number, within, sym is) in
    (λ t. absurd (false≢true t), λ clean. absurd (clean.far shape has close))

pub loop-number-preserved : goal.loop-number-preserved
loop-number-preserved g c =
    let shapes = c.shapes-shapes.result.now in
    let shape = c.index-shapes-number.result in
    let number : ℕ = c.in-Some.number in
    let reach = c.greatest_spacing_on-spacing.result in
    let metal = c.net_metal-metal.result in
    let within : number < length shapes = rw c.shapes-shapes.ensures.is
    (next_within c.args.flat.now.shapes c.args.index.now c.args.rect reach c.near-number-items.result c.loop-number.yielded c.loop-number.number-iterator
    c.next.new.self number
    c.requires c.near-number-items.ensures (sym c.into_iter-number-iterator.ensures.into_iter_gives ∙ c.loop-number.invariant.so_far) c.in-Some.ensures.steps)
    in
    let far : ¬ AreCloserThan reach metal shape = λ close. false≢true (c.if-are_closer_than.ensures.1 close) in
    let at : slice_get shapes number ≡ Some shape = slice_get_read shapes (length shapes) number shape refl within c.index-shapes-number.is in
    record {
      can = tt;
      ends = tt;
      so_far =
          c.loop-number.invariant.so_far ∙ ap (λ xs. c.loop-number.yielded ++ xs) c.in-Some.ensures.steps
          ∙ sym (append_assoc c.loop-number.yielded (number ∷ []) c.next.new.self);
      far = All-push (IsFarAt shapes reach metal) c.loop-number.yielded number c.loop-number.invariant.far (far_at shapes reach metal number shape at far);
    }

pub returns : goal.returns
returns g c =
    let library = c.args.library.now in
    let flat = c.args.flat.now in
    let metal = net_metal c.args.net c.args.layer c.args.rect in
    let spacing = greatest_spacing_on library c.args.layer in
    let all = c.near-number-items.result in
    let done : all ≡ c.loop-number.yielded =
    sym c.into_iter-number-iterator.ensures.into_iter_gives ∙ c.loop-number.invariant.so_far ∙ ap (λ xs. c.loop-number.yielded ++ xs) c.in-None.ensures.steps.0
    ∙ append-nil c.loop-number.yielded in
    let near : AreNear (rects_of flat.shapes) c.args.rect spacing all =
    rw (c.requires, c.greatest_spacing_on-spacing.ensures.is) at c.near-number-items.ensures in
    let far : All (IsFarAt flat.shapes spacing metal) all =
    rw done (rw (c.shapes-shapes.ensures.is, c.greatest_spacing_on-spacing.ensures.is, c.net_metal-metal.ensures) at c.loop-number.invariant.far) in
    (λ t. record { far = far_from_all flat.shapes spacing metal all near far }, λ clean. refl)
