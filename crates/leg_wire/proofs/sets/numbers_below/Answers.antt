-- One more number.
use Rattle.std.proofs.Common.{◌≡◌, ℕ, ◌∙◌, sym, ap, arith}
use Rattle.std.specs.List.{range_with_len}
use Rattle.std.proofs.lemmas.List.{map-id}
use Rattle.std.proofs.lemmas.List.FromFn.{map-range_with_len_more}
use Rattle.leg_wire.proofs.sets.numbers_below.Goals as goal

pub loop-number-preserved : goal.loop-number-preserved
loop-number-preserved g c =
    rw (c.in_ok-push.ensures.items, c.loop-number.invariant)
    (sym (map-range_with_len_more (λ (n : ℕ). n) 0 c.loop-number.number c.loop-number.number (omega arith)))

pub returns : goal.returns
returns g c =
    let all : c.loop-number.number ≡ c.args.count = omega arith in
    c.loop-number.invariant ∙ map-id (range_with_len 0 c.loop-number.number) ∙ ap (range_with_len 0) all
