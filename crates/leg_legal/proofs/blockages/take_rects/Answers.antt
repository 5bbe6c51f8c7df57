-- One more rectangle is taken.
use Rattle.std.proofs.Common.{◌≡◌, ◌+◌, ◌++◌, ◌∷◌, [], ◌∙◌, take, sym, ap, append_assoc, arith}
use Rattle.std.proofs.lemmas.List.{append-nil, take_all, take_more}
use Rattle.leg_legal.proofs.blockages.take_rects.Goals as goal

pub take_box-requires : goal.take_box-requires
take_box-requires g c = (c.loop-rect.invariant c.requires.0 c.requires.1).rows

pub loop-rect-init : goal.loop-rect-init
loop-rect-init g c = λ boxes known. rw (append-nil boxes) known

pub loop-rect-preserved : goal.loop-rect-preserved
loop-rect-preserved g c = λ boxes known.
    let i = c.loop-rect.rect-index in
    let rects = c.args.rects.now in
    let rect = c.rect-item.result in
    let more : take (i + 1) rects ≡ take i rects ++ rect ∷ [] =
    take_more rects i rect (omega (arith, c.loop-rect-test.true)) ∙ ap (λ z. take i rects ++ z ∷ []) (sym c.rect-item.is) in
    let grown = c.in_ok-take_box.ensures (boxes ++ take i rects) (c.loop-rect.invariant boxes known) in
    rw (more, ← append_assoc) grown

pub returns : goal.returns
returns g c = λ boxes known.
    let all = take_all c.loop-rect.rect-index c.args.rects.now (omega (arith, c.loop-rect-test.false)) in
    rw all at (c.loop-rect.invariant boxes known)
