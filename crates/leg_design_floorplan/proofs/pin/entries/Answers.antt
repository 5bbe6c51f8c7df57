use Rattle.std.proofs.Common.{◌≡◌, ◌∙◌, false, refl, sym}
use Rattle.std.proofs.lemmas.Result.{err_from_is_err_and}
use Rattle.leg_lex.specs.Statements.{at_end}
use Rattle.leg_lex.proofs.Until.{ends, goes_on, fails}
use Rattle.leg_grammar.specs.Def.Pin.{pin_entry}
use Rattle.leg_design_floorplan.proofs.Pins.{entry_shortens, entry_shorter}
use Rattle.leg_design_floorplan.proofs.pin.entries.Goals as goal

pub entries-init : goal.entries-init
entries-init g c = rw c.new-pins.ensures refl

pub entries-smaller : goal.entries-smaller
entries-smaller g c = entry_shorter c.args.scope.now c.entries.pins c.entry.new.pins c.entries.words c.entry.new.words c.in_ok-entry.ensures

pub entries-preserved : goal.entries-preserved
entries-preserved g c =
    let more : at_end c.entries.words ≡ false = sym c.is_at.ensures ∙ c.entries-test.true in
    sym (goes_on at_end (pin_entry c.args.scope.now) (entry_shortens c.args.scope.now) c.entries.pins c.entry.new.pins c.entries.words c.entry.new.words
    more c.in_ok-entry.ensures) ∙ c.entries.invariant

pub returns-in_err-entry : goal.returns-in_err-entry
returns-in_err-entry g c =
    let more : at_end c.entries.words ≡ false = sym c.is_at.ensures ∙ c.entries-test.true in
    let p = err_from_is_err_and c.from_residual.result c.from_residual.ensures.1 in
    rw (p.1, p.2) (λ not_memory. sym c.entries.invariant
    ∙ fails at_end (pin_entry c.args.scope.now) c.entries.pins c.entries.words more (c.in_err-entry.ensures not_memory))

pub returns : goal.returns
returns g c = sym c.entries.invariant ∙ ends at_end (pin_entry c.args.scope.now) c.entries.pins c.entries.words (sym c.is_at.ensures ∙ c.entries-test.false)
