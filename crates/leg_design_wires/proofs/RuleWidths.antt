-- The width that a rule gives wires on a layer.
use Rattle.std.proofs.Common.{◌≡◌, ℕ, ◌+◌, ◌<◌, ◌≤◌, ◌==◌, true, false, List, length, get_or, drop, None, Some, refl}
use Rattle.std.proofs.lemmas.List.{drop_all}
use Rattle.leg_lex.proofs.EachElement.{at_front}
use Rattle.leg_lib_records.specs.declared.records.RuleWidth.{RuleWidth}
use Rattle.leg_grammar.specs.Def.Rule.{width_in}

-- It is that of the next of its widths.
pub width_here : (layer : ℕ) (widths : List RuleWidth) (i : ℕ) (width : RuleWidth) → i < length widths → width ≡ get_or widths i width
    → (width.layer == layer) ≡ true → width_in (drop i widths) layer ≡ Some width.width
width_here layer widths i width less is here = rw (at_front widths i width less is, here) refl

-- It isn't.
pub width_later : (layer : ℕ) (widths : List RuleWidth) (i : ℕ) (width : RuleWidth) → i < length widths → width ≡ get_or widths i width
    → (width.layer == layer) ≡ false → width_in (drop i widths) layer ≡ width_in (drop (i + 1) widths) layer
width_later layer widths i width less is other = rw (at_front widths i width less is, other) refl

-- No width is left.
pub width_nowhere : (layer : ℕ) (widths : List RuleWidth) (i : ℕ) → length widths ≤ i → width_in (drop i widths) layer ≡ None
width_nowhere layer widths i past = rw (drop_all i widths past) refl
