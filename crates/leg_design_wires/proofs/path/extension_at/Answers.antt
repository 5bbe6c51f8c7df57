use Rattle.std.proofs.Common.{◌≡◌, false, sym, ◌∙◌}
use Rattle.leg_grammar.specs.Def.Path.{next_spot, is_same_spot}
use Rattle.leg_design_wires.proofs.Paths.{extension_leaves, extension_at_virtual}
use Rattle.leg_design_wires.proofs.path.extension_at.Goals as goal

pub returns-then-not-is_same_spot : goal.returns-then-not-is_same_spot
returns-then-not-is_same_spot c =
    let apart : false ≡ is_same_spot c.args.at c.next_spot.result = c.if-not-is_same_spot.ensures in
    let leaves : is_same_spot c.args.at (next_spot c.args.at c.in-ToPoint.x c.in-ToPoint.y) ≡ false = sym (rw c.next_spot.ensures at apart) in
    sym (extension_leaves c.args.at c.loop-next.extension c.args.items.now c.loop-next.next-index c.next-item.result c.in-ToPoint.x c.in-ToPoint.y
    c.in-ToPoint.written c.loop-next-test.true c.next-item.is (sym c.in-ToPoint.ensures) leaves)
    ∙ c.loop-next.invariant

pub returns-in-ToVirtual : goal.returns-in-ToVirtual
returns-in-ToVirtual c =
    sym (extension_at_virtual c.args.at c.loop-next.extension c.args.items.now c.loop-next.next-index c.next-item.result c.in-ToVirtual.x c.in-ToVirtual.y
    c.loop-next-test.true c.next-item.is (sym c.in-ToVirtual.ensures))
    ∙ c.loop-next.invariant
