use Rattle.std.proofs.Common.{◌≡◌, ◌==◌, true, false, Some, sym, ap, ◌∙◌}
use Rattle.std.specs.List.{list_any}
use Rattle.std.specs.Option.{option_copied}
use Rattle.leg_grammar.specs.Def.NetScope.{via_numbered}
use Rattle.leg_design_wires.proofs.ViaLayers.{across_lacks, across_is}
use Rattle.leg_grammar.specs.Def.Path.{other_layer}
use Rattle.leg_design_wires.proofs.path.across.Goals as goal

pub returns-then-not-has_layer : goal.returns-then-not-has_layer
returns-then-not-has_layer g c = λ not_memory.
    let numbered : via_numbered c.args.scope.now c.args.number ≡ Some c.in-Some.via.now = sym c.via_numbered.ensures ∙ ap option_copied c.in-Some.is in
    let lacks : list_any (λ shape. shape.layer == c.args.layer) c.in-Some.via.now.shapes ≡ false =
    rw (← c.via.view_is, ← c.as_slice-shapes.ensures) (sym c.if-not-has_layer.ensures) in
    across_lacks c.args.scope.now c.args.number c.args.layer c.in-Some.via.now numbered lacks

pub returns-in-Some-other_layer : goal.returns-in-Some-other_layer
returns-in-Some-other_layer g c =
    let numbered : via_numbered c.args.scope.now c.args.number ≡ Some c.in-Some.via.now = sym c.via_numbered.ensures ∙ ap option_copied c.in-Some.is in
    let has : list_any (λ shape. shape.layer == c.args.layer) c.in-Some.via.now.shapes ≡ true =
    rw (← c.via.view_is, ← c.as_slice-shapes.ensures) (sym c.if-not-has_layer.ensures) in
    let good : c.in-Some.via.now.good ≡ true = rw (← c.via.view_is) c.if-not-via.false in
    let leads : other_layer c.args.scope.now.library c.args.layer c.in-Some.via.now.shapes ≡ Some c.in-Some-other_layer.other =
    rw (← c.via.view_is, ← c.as_slice-shapes.ensures, ← c.scope.view_is, ← c.other_layer.ensures) c.in-Some-other_layer.is in
    across_is c.args.scope.now c.args.number c.args.layer c.in-Some.via.now numbered good has ∙ leads
