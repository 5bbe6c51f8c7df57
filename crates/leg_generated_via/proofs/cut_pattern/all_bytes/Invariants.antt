use Rattle.std.proofs.Common.{◌≡◌, [], drop}
use Rattle.leg_lex.specs.Until.{over}
use Rattle.leg_grammar.specs.declared.cut_pattern.NextDigit.TheVariants.{Once}
use Rattle.leg_grammar.specs.Def.CutPattern.{one_byte}
use Rattle.leg_generated_via.proofs.cut_pattern.all_bytes.Given as goal

abbrev pub invariant-loop-byte : goal.invariant-loop-byte
invariant-loop-byte g l = over one_byte l.row (drop l.byte-index l.bytes) ≡ over one_byte (record { runs = []; next = Once }) l.bytes
