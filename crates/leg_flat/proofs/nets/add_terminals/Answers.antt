use Rattle.std.proofs.Common.{◌≡◌, length, refl, ◌∙◌, arith}
use Rattle.std.proofs.lemmas.List.{get_or_default}
use Rattle.leg_flat.proofs.MorePlaces.{asked, added_skipped, added_more}
use Rattle.leg_flat.proofs.nets.add_terminals.Goals as goal
use Rattle.leg_flat.proofs.nets.add_terminals.Goals.{then-is_none+in_ok-push+in_ok-push-2, else-is_none}

pub loop-terminal-preserved : goal.loop-terminal-preserved
loop-terminal-preserved g c = elim c.if-is_none.branch [
  | then-is_none+in_ok-push+in_ok-push-2 w ↦ rw (w.places-is, w.pieces-is) (record {
    added = added_more c.args.net c.args.terminals.now c.loop-terminal.terminal-index _ c.args.places.now c.loop-terminal.places c.args.pieces.now.items
        c.loop-terminal.pieces.items c.requires.once c.loop-terminal-test.true
        (get_or_default _ _ _ _ c.loop-terminal-test.true) c.loop-terminal.invariant.added w.push.new.self w.push-then-is_none.new.self.items
        (asked c.place_of.result _ c.is_none.result c.is_none.ensures c.place_of.ensures ∙ w.if-is_none.true) w.in_ok-push-2.ensures.items (
        let count : w.len.result ≡ length c.loop-terminal.pieces.items = omega arith in
        λ q. w.in_ok-push.ensures q ∙ rw count refl);
    few = omega (arith, w.in_ok-push-2.ensures.len, c.loop-terminal.invariant.few);
  })
  | else-is_none w ↦ rw (w.places-is, w.pieces-is) (record {
    added = added_skipped c.args.net c.args.terminals.now c.loop-terminal.terminal-index _ c.args.places.now c.loop-terminal.places c.args.pieces.now.items
        c.loop-terminal.pieces.items c.requires.once c.loop-terminal-test.true
        (get_or_default _ _ _ _ c.loop-terminal-test.true) c.loop-terminal.invariant.added
        (asked c.place_of.result _ c.is_none.result c.is_none.ensures c.place_of.ensures ∙ w.if-is_none.false);
    few = omega (arith, c.loop-terminal.invariant.few);
  })
]
