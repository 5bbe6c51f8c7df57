-- One more shape is the net's, or it isn't.
use Rattle.std.proofs.Common.{◌≡◌, Some, slice_get, refl, sym, ◌∙◌, arith}
use Rattle.std.proofs.lemmas.Bool.{false≢true}
use Rattle.std.proofs.lemmas.Option.{slice_get_read}
use Rattle.leg_wire.proofs.NetNumbers.{below_more, below_skip, below_all, of_owner, owner_of}
use Rattle.leg_wire.proofs.net_shapes.numbers_of_net.Goals as goal
use Rattle.leg_wire.proofs.net_shapes.numbers_of_net.Goals.{then-is_net+in_ok-push, else-is_net}

pub loop-number-preserved : goal.loop-number-preserved
loop-number-preserved g c =
    let shapes = c.args.shapes.now in
    let net = c.args.net in
    let i = c.loop-number.number in
    let numbers = c.loop-number.numbers.items in
    let shape = c.index-shapes-number.result in
    let at : slice_get shapes i ≡ Some shape = slice_get_read shapes _ i shape refl (omega arith) c.index-shapes-number.is in
    elim c.if-is_net.branch [
      | then-is_net+in_ok-push w ↦
          rw (w.numbers-is, w.in_ok-push.ensures.items)
          (below_more shapes net i numbers c.loop-number.invariant (of_owner shapes i shape at net (c.is_net.ensures.0 w.if-is_net.true)))
      | else-is_net w ↦
          rw w.numbers-is (below_skip shapes net i numbers c.loop-number.invariant
          (λ of_net. false≢true (sym w.if-is_net.false ∙ c.is_net.ensures.1 (owner_of shapes i shape at net of_net))))
    ]

pub returns : goal.returns
returns g c = below_all c.args.shapes.now c.args.net c.loop-number.number c.loop-number.numbers.items (omega arith) c.loop-number.invariant
