-- One piece more: another one of its group was looked at before, or it is looked at now.
use Rattle.std.proofs.Common.{◌≡◌, ◌<◌, length, get_or, true≢false, refl, sym, subst, ◌∙◌, below_more, arith}
use Rattle.std.proofs.lemmas.Option.{slice_get-get_or}
use Rattle.leg_rules.specs.Finish.Reach.{IsUnreachable}
use Rattle.leg_finish.proofs.GroupNodes.{own_at, not_least}
use Rattle.leg_finish.proofs.reach.unreachable_piece.Goals as goal

pub is_unreachable-requires-clause-least : goal.is_unreachable-requires-clause-least
is_unreachable-requires-clause-least g c =
    let firsts = c.as_slice-firsts.result.now in
    let k = c.loop-piece.piece in
    rw (← c.as_slice-firsts.ensures) (own_at firsts k (get_or firsts k 0) (omega arith) refl (omega arith))

pub loop-piece-preserved-then-first-piece : goal.loop-piece-preserved-then-first-piece
loop-piece-preserved-then-first-piece g c =
    let design = c.args.grid.now.design in
    let flat = c.args.flat.now in
    let net = c.args.net.now.net in
    let firsts = c.args.net.now.firsts in
    let k = c.loop-piece.piece in
    let within : k < length firsts = rw (← c.as_slice-firsts.ensures) (omega arith) in
    let differ : get_or firsts k 0 ≡ k → ⊥ = rw (← c.as_slice-firsts.ensures) (λ same. omega arith) in
    let none = c.loop-piece.invariant.none in
    record {
      none =
          below_more (λ j. ¬ IsUnreachable design flat net j) k none
          (not_least flat net firsts c.requires.is_open.firsts (c.joined_both_ways.ensures flat net) (c.joined_onward.ensures flat net) design k
          (get_or firsts k 0) (slice_get-get_or firsts k 0 within)
          differ none);
      count = c.loop-piece.invariant.count;
    }

pub loop-piece-preserved : goal.loop-piece-preserved
loop-piece-preserved g c =
    let design = c.args.grid.now.design in
    let flat = c.args.flat.now in
    let net = c.args.net.now.net in
    let firsts = c.as_slice-firsts.result.now in
    let k = c.loop-piece.piece in
    let same : get_or firsts k 0 ≡ k = omega arith in
    record {
      none =
          below_more (λ j. ¬ IsUnreachable design flat net j) k c.loop-piece.invariant.none
          (λ is. true≢false (sym (c.in_ok-unreachable.ensures.unreachable.1 (subst (λ j. IsUnreachable design flat net j) (sym same) is))
          ∙ c.if-unreachable.false));
      count = c.in_ok-unreachable.ensures.count ∙ c.loop-piece.invariant.count;
    }

pub returns-then-unreachable-clause-found : goal.returns-then-unreachable-clause-found
returns-then-unreachable-clause-found g c =
    let firsts = c.as_slice-firsts.result.now in
    let k = c.loop-piece.piece in
    let same : get_or firsts k 0 ≡ k = omega arith in
    record {
      unreachable = c.in_ok-unreachable.ensures.unreachable.0 c.if-unreachable.true;
      first = λ j less. c.loop-piece.invariant.none j (omega (arith, less, same));
    }

pub returns-clause-found : goal.returns-clause-found
returns-clause-found g c = λ k is.
    let there = is.there in
    let long = rw (← c.as_slice-firsts.ensures) at c.requires.is_open.firsts.count in
    c.loop-piece.invariant.none k (omega (arith, there, long)) is
