use Rattle.std.proofs.Common.{◌≡◌, ◌∙◌, false, sym}
use Rattle.std.proofs.lemmas.Result.{err_from_is_err_and}
use Rattle.leg_lex.specs.Statements.{at_end}
use Rattle.leg_lex.proofs.Until.{ends, goes_on, fails}
use Rattle.leg_grammar.specs.Lef.Pin.{pin_part}
use Rattle.leg_lib.proofs.Pins.{pin_part_shortens, pin_part_shorter}
use Rattle.leg_lib.proofs.pin.all_parts.Goals as goal

pub parts-smaller : goal.parts-smaller
parts-smaller g c = pin_part_shorter c.args.profile c.args.library.now c.parts.parts c.add.new.self c.parts.words c.add.new.words c.in_ok-add.ensures

pub parts-preserved : goal.parts-preserved
parts-preserved g c =
    let more : at_end c.parts.words ≡ false = sym c.is_at.ensures ∙ c.parts-test.true in
    sym (goes_on at_end (pin_part c.args.profile c.args.library.now)
    (pin_part_shortens c.args.profile c.args.library.now) c.parts.parts c.add.new.self c.parts.words c.add.new.words more
    c.in_ok-add.ensures) ∙ c.parts.invariant

pub returns-in_err-add : goal.returns-in_err-add
returns-in_err-add g c =
    let more : at_end c.parts.words ≡ false = sym c.is_at.ensures ∙ c.parts-test.true in
    let p = err_from_is_err_and c.from_residual.result c.from_residual.ensures.1 in
    rw (p.1, p.2) (λ not_memory. sym c.parts.invariant
    ∙ fails at_end (pin_part c.args.profile c.args.library.now) c.parts.parts c.parts.words more (c.in_err-add.ensures not_memory))

pub returns : goal.returns
returns g c =
    sym c.parts.invariant ∙ ends at_end (pin_part c.args.profile c.args.library.now) c.parts.parts c.parts.words (sym c.is_at.ensures ∙ c.parts-test.false)
