-- A close shape shows that the metal isn't clean, and without one it is.
use Rattle.std.proofs.Common.{◌≡◌, ◌+◌, ◌++◌, ◌∷◌, [], ◌∙◌, All, Contains, take, sym, ap, refl, arith}
use Rattle.std.proofs.lemmas.Bool.{false≢true}
use Rattle.std.proofs.lemmas.List.{take_all, take_more}
use Rattle.std.proofs.lemmas.List.Elements.{All-push, All-contains}
use Rattle.leg_rules.specs.declared.shape.Shape.{Shape}
use Rattle.leg_rules.specs.Spacing.Clean.{net_metal}
use Rattle.leg_rules.specs.Spacing.Closer.{AreCloserThan}
use Rattle.leg_rules.specs.Spacing.RequiredSpacing.{greatest_spacing_on}
use Rattle.leg_wire.proofs.clean_metal.clean.Goals as goal

pub returns-then-are_closer_than : goal.returns-then-are_closer_than
returns-then-are_closer_than g c =
    let library = c.args.library.now in
    let flat = c.args.flat.now in
    let shape = c.shape-item.result in
    let close = rw (c.greatest_spacing_on-spacing.ensures.is, c.net_metal-metal.ensures) at (c.if-are_closer_than.ensures.0 refl) in
    let has : Contains flat.shapes shape = rw (← c.shapes-shape-items.ensures.is) (c.loop-shape.shape-index, c.loop-shape-test.true, sym c.shape-item.is) in
    (λ t. absurd (false≢true t), λ clean. absurd (clean.far shape has close))

pub loop-shape-preserved : goal.loop-shape-preserved
loop-shape-preserved g c =
    let i = c.loop-shape.shape-index in
    let shapes = c.shapes-shape-items.result.now in
    let shape = c.shape-item.result in
    let more : take (i + 1) shapes ≡ take i shapes ++ shape ∷ [] =
    take_more shapes i shape (omega (arith, c.loop-shape-test.true)) ∙ ap (λ z. take i shapes ++ z ∷ []) (sym c.shape-item.is) in
    let IsFar : Shape → Type 0 = λ s. ¬ AreCloserThan c.greatest_spacing_on-spacing.result c.net_metal-metal.result s in
    let far : IsFar shape = λ close. false≢true (c.if-are_closer_than.ensures.1 close) in
    rw more (All-push IsFar (take i shapes) shape c.loop-shape.invariant far)

pub returns : goal.returns
returns g c =
    let library = c.args.library.now in
    let flat = c.args.flat.now in
    let metal = net_metal c.args.net c.args.layer c.args.rect in
    let spacing = greatest_spacing_on library c.args.layer in
    let all = take_all c.loop-shape.shape-index c.shapes-shape-items.result.now (omega arith) in
    let none : All (λ (s : Shape). ¬ AreCloserThan spacing metal s) flat.shapes =
    rw (all, c.shapes-shape-items.ensures.is, c.greatest_spacing_on-spacing.ensures.is, c.net_metal-metal.ensures) at c.loop-shape.invariant in (
      λ t. record { far = λ shape has. All-contains (λ (s : Shape). ¬ AreCloserThan spacing metal s) flat.shapes shape none has },
      λ clean. refl,
    )
