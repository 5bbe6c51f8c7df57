use Rattle.std.proofs.Common.{◌≡◌, ℕ, List, [], None, map, drop, Bor}
use Rattle.leg_lex.specs.Until.{over}
use Rattle.leg_grammar.specs.Def.CutPattern.{one_part}
use Rattle.leg_generated_via.proofs.cut_pattern.all_parts.Given as goal

abbrev pub invariant-loop-part : goal.invariant-loop-part
invariant-loop-part g l =
    over one_part l.made (map (λ (part : Bor (List ℕ)). part.now) (drop l.part-index l.parts))
    ≡ over one_part (record { rows = []; count = None }) (map (λ (part : Bor (List ℕ)). part.now) l.parts)
