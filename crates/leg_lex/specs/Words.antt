-- What the words of a text denote, form by form: a function from a list of words to what the form denotes and
-- the words after it, or to nothing where the words aren't of the form.
use Rattle.std.specs.Prelude.{◌≡◌, ◌≢◌, ℕ, ℤ, Bool, true, false, not, ◌&&◌, ◌||◌, ◌==◌, if◌then◌else◌, List, [], ◌∷◌, length, map, Option, None, Some, Result, Ok, Err, codes}
use Rattle.std.specs.Char.{to_ascii_lowercase}
use Rattle.std.specs.List.{list_any}
use Rattle.std.specs.Str.{bytes_eq}
use Rattle.leg_lex.specs.Cut.{Kind, Plain, kind_of, is_white}
use Rattle.leg_lex.specs.Number.{whole_of, micron_of}
use Rattle.leg_lex.specs.declared.read_fault.ReadFault.{ReadFault}
use Rattle.leg_lex.specs.declared.read_fault.FaultKind.TheVariants.{Memory}

-- words without their lines: lines are reported in faults, and have no other meaning
abbrev pub Words : Type 0
Words = List (List ℕ)

-- first the one, and then the other of what the first denotes
infixl 10 ◌>>=◌
abbrev pub ◌>>=◌ : {A B : Type 0} → Option A → (A → Option B) → Option B
None >>= f = None
(Some x) >>= f = f x

-- What a reader answered, seen by view, and the words that it left are what the definition gives. It refuses
-- for another cause than memory only where the definition gives nothing.
abbrev pub Reads : {X Y : Type 0} → (X → Y) → Result X ReadFault → Words → Option (Y × Words) → Type 0
Reads view (Ok x) rest said = said ≡ Some (view x, rest)
Reads view (Err fault) rest said = fault.kind ≢ Memory → said ≡ None

-- the same where no words are left, or none are asked for
abbrev pub Means : {X Y : Type 0} → (X → Y) → Result X ReadFault → Option Y → Type 0
Means view (Ok x) said = said ≡ Some (view x)
Means view (Err fault) said = fault.kind ≢ Memory → said ≡ None

-- The word is this keyword, in capitals or small letters.
abbrev pub is_keyword : List ℕ → List ℕ → Bool
is_keyword keyword word = bytes_eq (map to_ascii_lowercase word) (map to_ascii_lowercase keyword)

-- a mark is one of ; ( ) + - *
abbrev pub is_mark_byte : ℕ → Bool
is_mark_byte b = b == 59 || b == 40 || b == 41 || b == 43 || b == 45 || b == 42

abbrev pub is_mark : List ℕ → Bool
is_mark (b ∷ []) = is_mark_byte b
is_mark word = false

-- a plain word begins here
abbrev pub is_plain_kind : Kind → Bool
is_plain_kind Plain = true
is_plain_kind kind = false

-- a plain word has one byte at least: the first begins a plain word, and none of the others is white
abbrev pub is_plain : List ℕ → Bool
is_plain [] = false
is_plain (b ∷ bytes) = is_plain_kind (kind_of b) && not (list_any is_white bytes)

-- the first quote (34) that isn't directly after a backslash (92) is the last byte
abbrev pub closes : ℕ → List ℕ → Bool
closes before [] = false
closes before (b ∷ bytes) = if b == 34 && not (before == 92) then length bytes == 0 else closes b bytes

-- a quoted word begins with a quote, and the quote that closes it is its last byte
abbrev pub is_closed : List ℕ → Bool
is_closed [] = false
is_closed (b ∷ bytes) = b == 34 && closes b bytes

-- a name is a plain word that is no mark
abbrev pub is_name : List ℕ → Bool
is_name word = is_plain word && not (is_mark word)

-- a name or a quoted word
abbrev pub is_word : List ℕ → Bool
is_word word = is_name word || is_closed word

-- whether the next word is this keyword
abbrev pub is_at : List ℕ → Words → Bool
is_at keyword [] = false
is_at keyword (word ∷ words) = is_keyword keyword word

-- the next word
unfoldable pub next_at : Words → Option (List ℕ × Words)
next_at [] = None
next_at (word ∷ words) = Some (word, words)

-- this keyword
unfoldable pub keyword_at : List ℕ → Words → Option (Unit {0} × Words)
keyword_at keyword words = do
  next ← next_at words
  if is_keyword keyword next.0 then Some (tt, next.1) else None

-- this mark, of one byte
unfoldable pub mark_at : ℕ → Words → Option (Unit {0} × Words)
mark_at mark words = do
  next ← next_at words
  if bytes_eq next.0 (mark ∷ []) then Some (tt, next.1) else None

-- a name
unfoldable pub name_at : Words → Option (List ℕ × Words)
name_at words = do
  next ← next_at words
  if is_name next.0 then Some (next.0, next.1) else None

-- a name or a quoted word
unfoldable pub word_at : Words → Option (List ℕ × Words)
word_at words = do
  next ← next_at words
  if is_word next.0 then Some (next.0, next.1) else None

-- a number that a word denotes, and the words after it
abbrev pub said_number : {E : Type 0} → Result ℤ E → Words → Option (ℤ × Words)
said_number (Ok z) words = Some (z, words)
said_number (Err fault) words = None

-- a whole number
unfoldable pub whole_at : Words → Option (ℤ × Words)
whole_at words = do
  next ← next_at words
  said_number (whole_of next.0) next.1

-- a length, in millionths of a micron
unfoldable pub length_at : Words → Option (ℤ × Words)
length_at words = do
  next ← next_at words
  said_number (micron_of next.0) next.1

-- `END` and this keyword
unfoldable pub end_at : List ℕ → Words → Option (Unit {0} × Words)
end_at keyword words = do
  end ← keyword_at (codes "END") words
  keyword_at keyword end.1

-- `END` and this name
unfoldable pub end_of : List ℕ → Words → Option (Unit {0} × Words)
end_of name words = do
  end ← keyword_at (codes "END") words
  named ← name_at end.1
  if bytes_eq named.0 name then Some (tt, named.1) else None

-- nothing more
unfoldable pub nothing_at : Words → Option (Unit {0})
nothing_at [] = Some tt
nothing_at (word ∷ words) = None
