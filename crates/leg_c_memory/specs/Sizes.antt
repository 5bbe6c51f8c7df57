-- Sizes and places of memory (lefdef's own rule). A place is a count of bytes in the object that the memory lies in.
use Rattle.std.specs.Prelude.{◌≡◌, ℕ, ◌+◌, ◌%◌, ◌^◌, ◌<◌, ◌≤◌, max}
use Rattle.std.specs.Int.{next_multiple_of}
use denote.RawPtr.{Ptr, block_ptr, count_of}

-- A size that memory may have: one unit of 16 bytes, or several.
abbrev pub IsSize : ℕ → Type 0
IsSize n = (16 ≤ n) × (n % 16 ≡ 0)

-- The place and the size of a part of memory.
abbrev pub Span : Type 0
Span = ℕ × ℕ

-- Pointers into the span can be compared.
abbrev pub IsSpan : Span → Type 0
IsSpan s = IsSize s.1 × (s.0 + s.1 < 2 ^ 63)

-- The n bytes from p on may be lent.
abbrev pub IsMemory : Ptr → ℕ → Type 0
IsMemory p n = IsSpan (count_of p, n)

-- The size of the memory that serves a request for n bytes.
abbrev pub block_size : ℕ → ℕ
block_size n = next_multiple_of (max n 16) 16

-- The n bytes from p on are memory of the object b.
abbrev pub IsBlock : ℕ → Ptr → ℕ → Type 0
IsBlock b p n = (p ≡ block_ptr b (count_of p)) × IsMemory p n
