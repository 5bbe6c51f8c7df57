use Rattle.std.proofs.Common.{◌≡◌, ◌++◌, map, take}
use Rattle.leg_app_message.specs.TextLine.{shown_byte}
use Rattle.leg_app_message.proofs.text_line.push_shown_bytes.Given as goal

-- the bytes so far, as they are shown
abbrev pub invariant-loop-byte : goal.invariant-loop-byte
invariant-loop-byte g l = l.message.items ≡ l.fn.message.items ++ map shown_byte (take l.byte-index l.bytes)
