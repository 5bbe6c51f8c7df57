-- One more number.
use Rattle.std.proofs.Common.{◌≡◌, ℕ, ◌+◌, ◌-◌, ◌++◌, ◌∷◌, [], refl, arith, rules}
use Rattle.std.proofs.lemmas.List.{map-append}
use Rattle.leg_lemmas.proofs.Ranges.{range_more}
use Rattle.leg_sweep.proofs.groups.keys_from.Goals as goal

pub loop-number-preserved : goal.loop-number-preserved
loop-number-preserved g c =
    let first : ℕ = c.args.first in
    let number : ℕ = c.loop-number.number in
    let keys = c.loop-number.keys.items in
    let low = c.loop-number.auto.number in
    let next : number + 1 - first ≡ (number - first) + 1 = omega arith in
    let pushed : c.push.new.self.items ≡ keys ++ (c.curve_key.result, number) ∷ [] = search rules in
    rw (
      pushed,
      map-append (λ (key : ℕ × ℕ). key.1) keys ((c.curve_key.result, number) ∷ []),
      c.loop-number.invariant,
      next,
      range_more first (number - first) number (omega arith),
    ) refl
