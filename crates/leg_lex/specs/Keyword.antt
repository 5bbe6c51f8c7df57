-- The keyword that a fault tells of.
use Rattle.std.specs.Prelude.{ℕ, List, take, min}
use Rattle.leg_lex.specs.declared.read_fault.Keyword.{Keyword}

-- its bytes
abbrev pub keyword_text : Keyword → List ℕ
keyword_text keyword = take (min keyword.len 16) keyword.bytes
