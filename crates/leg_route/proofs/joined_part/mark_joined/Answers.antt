-- One mark more.
use Rattle.std.proofs.Common.{◌≡◌, ◌+◌, ◌++◌, ◌∷◌, ◌<◌, [], length, take, get_or, arith}
use Rattle.std.proofs.lemmas.Grind.{common_steps}
use Rattle.std.proofs.lemmas.List.{take_more, take_all}
use Rattle.std.proofs.lemmas.List.Elements.{All-get_or}
use Rattle.leg_route.proofs.PartMarks.{marked_none, marked_more}
use Rattle.leg_route.proofs.joined_part.mark_joined.Goals as goal

pub loop-piece-init : goal.loop-piece-init
loop-piece-init g c =
    let size : c.args.joined.now.len ≡ length c.args.joined.now.items = grind (arith, common_steps) in
    rw (c.in_ok-resize.ensures.items, size) (marked_none c.args.joined.now.items c.args.count c.requires.few)

pub loop-piece-preserved : goal.loop-piece-preserved
loop-piece-preserved g c =
    let come = c.args.come.now in
    let i = c.loop-piece.piece-index in
    let low : get_or come i 0 < c.args.count = All-get_or (λ piece. piece < c.args.count) come i 0 (omega arith) c.requires.within in
    let more : take (i + 1) come ≡ take i come ++ get_or come i 0 ∷ [] = take_more come i 0 (omega arith) in
    rw more (marked_more c.args.joined.now.items c.loop-piece.joined.items c.args.count (take i come) (get_or come i 0) c.loop-piece.invariant low)

pub returns : goal.returns
returns g c = rw (take_all c.loop-piece.piece-index c.args.come.now (omega arith)) at c.loop-piece.invariant
