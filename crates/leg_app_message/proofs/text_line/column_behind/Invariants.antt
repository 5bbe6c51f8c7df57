use Rattle.std.proofs.Common.{◌≡◌, ◌≤◌, take}
use Rattle.std.specs.List.{fold}
use Rattle.leg_app_message.specs.TextLine.{next_column}
use Rattle.leg_app_message.proofs.text_line.column_behind.Given as goal

-- the column so far
abbrev pub invariant-loop-byte : goal.invariant-loop-byte
invariant-loop-byte l = (l.column ≡ fold next_column 0 (take l.byte-index l.front)) × (l.column ≤ l.byte-index)
