use Rattle.std.proofs.Common.{◌≡◌, ◌++◌, take}
use Rattle.std.specs.List.{flat_map}
use Rattle.leg_output.specs.Words.{line}
use Rattle.leg_output.specs.Text.Components.{component_words}
use Rattle.leg_print.proofs.components.push_components.Given as goal

abbrev pub invariant-loop-component : goal.invariant-loop-component
invariant-loop-component g l =
    l.text.items ≡ l.initial.text.items ++ flat_map (λ component. line (component_words l.design component)) (take l.component-index l.components)
