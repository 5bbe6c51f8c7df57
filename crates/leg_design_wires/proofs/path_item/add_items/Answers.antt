use Rattle.std.proofs.Common.{sym, ◌∙◌}
use Rattle.leg_lex.proofs.Until.{ends, goes_on}
use Rattle.leg_grammar.specs.Def.PathItem.{at_path_end, one_item}
use Rattle.leg_design_wires.proofs.PathItems.{one_item_shortens, one_item_shorter}
use Rattle.leg_design_wires.proofs.path_item.add_items.Goals as goal

pub items-preserved : goal.items-preserved
items-preserved g c =
    let scope = c.args.scope.now in
    let special = c.args.special in
    sym (goes_on at_path_end (one_item scope special) (one_item_shortens scope special) c.items.items.items c.one_item.new.items.items c.items.words
    c.one_item.new.words (sym c.is_at_path_end.ensures ∙ c.items-test.true) c.in_ok-one_item.ensures) ∙ c.items.invariant

pub items-smaller : goal.items-smaller
items-smaller g c =
    one_item_shorter c.args.scope.now c.args.special c.items.items.items c.one_item.new.items.items c.items.words c.one_item.new.words c.in_ok-one_item.ensures

pub returns : goal.returns
returns g c =
    sym c.items.invariant
    ∙ ends at_path_end (one_item c.args.scope.now c.args.special) c.items.items.items c.items.words (sym c.is_at_path_end.ensures ∙ c.items-test.false)
