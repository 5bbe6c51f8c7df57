-- One more piece that is apart, or not.
use Rattle.std.proofs.Common.{sym, ◌∙◌, arith}
use Rattle.std.proofs.lemmas.Bool.{false≢true}
use Rattle.leg_drc.specs.Steps.CutOff.{IsApart}
use Rattle.leg_drc.proofs.NumbersBelow.{below_more, below_skip}
use Rattle.leg_drc.proofs.FirstMark.{first_mark, none_apart, apart_all}
use Rattle.leg_drc.proofs.supply.pieces_apart.Goals as goal
use Rattle.leg_drc.proofs.supply.pieces_apart.Goals.{then-is_apart+in_ok-push, else-is_apart}

pub returns-in_default : goal.returns-in_default
returns-in_default g c =
    rw c.new-pieces.ensures.items (none_apart c.args.marks.now c.args.groups.now (sym c.first_marked.ensures ∙ c.in_default.is))

pub is_apart-requires-clause-first : goal.is_apart-requires-clause-first
is_apart-requires-clause-first g c = first_mark c.args.marks.now c.in-Some.first (sym c.first_marked.ensures ∙ c.in-Some.is)

pub loop-piece-preserved : goal.loop-piece-preserved
loop-piece-preserved g c =
    let apart = IsApart c.args.marks.now c.args.groups.now in
    let i = c.loop-piece.piece in
    let pieces = c.loop-piece.pieces.items in
    elim c.if-is_apart.branch [
      | then-is_apart+in_ok-push w ↦
          rw (w.pieces-is, w.in_ok-push.ensures.items) (below_more apart i pieces c.loop-piece.invariant (c.is_apart.ensures.0 w.if-is_apart.true))
      | else-is_apart w ↦
          rw w.pieces-is (below_skip apart i pieces c.loop-piece.invariant (λ is. false≢true (sym w.if-is_apart.false ∙ c.is_apart.ensures.1 is)))
    ]

pub returns : goal.returns
returns g c = apart_all c.args.marks.now c.args.groups.now c.loop-piece.piece c.loop-piece.pieces.items (omega arith) c.loop-piece.invariant
