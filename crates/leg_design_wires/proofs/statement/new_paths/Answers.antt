use Rattle.std.proofs.Common.{ap, not, sym, ◌∙◌}
use Rattle.leg_lex.proofs.Until.{ends, goes_on}
use Rattle.leg_grammar.specs.Def.Wiring.{at_no_new, new_path}
use Rattle.leg_design_wires.proofs.Wirings.{new_path_shortens, new_path_shorter}
use Rattle.leg_design_wires.proofs.statement.new_paths.Goals as goal

pub paths-preserved : goal.paths-preserved
paths-preserved g c =
    let scope = c.args.scope.now in
    let special = c.args.special in
    sym (goes_on at_no_new (new_path scope special) (new_path_shortens scope special) c.paths.wires.items c.in_ok-wires.wires.items c.paths.words
    c.new_path.new.words (ap not (sym c.is_at.ensures ∙ c.paths-test.true)) c.in_ok-wires.ensures) ∙ c.paths.invariant

pub paths-smaller : goal.paths-smaller
paths-smaller g c =
    new_path_shorter c.args.scope.now c.args.special c.paths.wires.items c.in_ok-wires.wires.items c.paths.words c.new_path.new.words c.in_ok-wires.ensures

pub returns : goal.returns
returns g c =
    sym c.paths.invariant
    ∙ ends at_no_new (new_path c.args.scope.now c.args.special) c.paths.wires.items c.paths.words (ap not (sym c.is_at.ensures ∙ c.paths-test.false))
