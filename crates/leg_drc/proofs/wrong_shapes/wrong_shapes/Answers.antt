-- One more shape with which this is wrong, or not.
use Rattle.std.proofs.Common.{◌≡◌, Some, slice_get, refl, sym, ◌∙◌, arith}
use Rattle.std.proofs.lemmas.Bool.{false≢true}
use Rattle.std.proofs.lemmas.Option.{slice_get_read}
use Rattle.leg_drc.specs.Violations.{IsShapeWith}
use Rattle.leg_drc.specs.Steps.Kinds.{IsWrongShape}
use Rattle.leg_drc.proofs.NumbersBelow.{below_none, below_more, below_skip}
use Rattle.leg_drc.proofs.ShapeNumbers.{shape_with, with_shape, below_all}
use Rattle.leg_drc.proofs.wrong_shapes.wrong_shapes.Goals as goal
use Rattle.leg_drc.proofs.wrong_shapes.wrong_shapes.Goals.{then-holds+in_ok-push, else-holds}

pub loop-number-init : goal.loop-number-init
loop-number-init g c =
    rw c.new-numbers.ensures.items
    (below_none (IsShapeWith (IsWrongShape c.args.kind c.args.design.now c.args.deck.now c.args.flat.now) c.args.flat.now))

pub loop-number-preserved : goal.loop-number-preserved
loop-number-preserved g c =
    let flat = c.args.flat.now in
    let wrong = IsWrongShape c.args.kind c.args.design.now c.args.deck.now flat in
    let i = c.loop-number.number in
    let numbers = c.loop-number.numbers.items in
    let shape = c.shape-item.result in
    let at : slice_get flat.shapes i ≡ Some shape =
    rw (← c.shapes-shape-items.ensures.is) (slice_get_read c.shapes-shape-items.result.now _ i shape refl (omega arith) c.shape-item.is) in
    elim c.if-holds.branch [
      | then-holds+in_ok-push w ↦
          rw (w.numbers-is, w.in_ok-push.ensures.items)
          (below_more (IsShapeWith wrong flat) i numbers c.loop-number.invariant (shape_with wrong flat i shape at (c.holds.ensures.0 w.if-holds.true)))
      | else-holds w ↦
          rw w.numbers-is
          (below_skip (IsShapeWith wrong flat) i numbers c.loop-number.invariant
          (λ is. false≢true (sym w.if-holds.false ∙ c.holds.ensures.1 (with_shape wrong flat i shape at is))))
    ]

pub returns : goal.returns
returns g c =
    below_all (IsWrongShape c.args.kind c.args.design.now c.args.deck.now c.args.flat.now) c.args.flat.now c.loop-number.number c.loop-number.numbers.items
    (rw (← c.shapes-shape-items.ensures.is) (omega arith)) c.loop-number.invariant
