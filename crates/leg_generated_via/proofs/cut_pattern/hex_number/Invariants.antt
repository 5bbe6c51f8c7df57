use Rattle.std.proofs.Common.{◌≡◌, drop}
use Rattle.leg_lex.specs.Until.{over}
use Rattle.leg_grammar.specs.Def.CutPattern.{more_rows}
use Rattle.leg_generated_via.proofs.cut_pattern.hex_number.Given as goal

abbrev pub invariant-loop-byte : goal.invariant-loop-byte
invariant-loop-byte l = over more_rows l.number (drop l.byte-index l.bytes) ≡ over more_rows 0 l.bytes
