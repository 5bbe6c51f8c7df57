-- How a text is cut into white bytes, comments, quoted words and plain words (LEF/DEF 5.8, "Rules for
-- LEF and DEF files"; that a `;` may be at the end of a word is lefdef's own rule).
use Rattle.std.specs.Prelude.{◌≡◌, ℕ, ◌+◌, Bool, true, false, not, ◌&&◌, ◌||◌, ◌==◌, nat_le, if◌then◌else◌, List, [], ◌∷◌, ◌++◌, take, drop, slice_index, MatchBool, count_by}
use Rattle.std.specs.List.{concat}

-- white space: tab, line feed, vertical tab, form feed, carriage return and blank
abbrev pub is_white : ℕ → Bool
is_white b = (nat_le 9 b && nat_le b 13) || b == 32

abbrev pub is_line_feed : ℕ → Bool
is_line_feed b = b == 10

pub data Kind : Type 0 where
  White : Kind
  Comment : Kind
  Quoted : Kind
  Plain : Kind

-- what begins with this byte: 35 is `#`, and 34 is `"`
abbrev pub kind_of : ℕ → Kind
kind_of b = if is_white b then White else (if b == 35 then Comment else (if b == 34 then Quoted else Plain))

-- no byte of the run stops it, and the byte after it does, if there is one
abbrev pub RunsTo : (ℕ → Bool) → List ℕ → List ℕ → Type 0
RunsTo stop [] [] = Unit {0}
RunsTo stop [] (next ∷ after) = stop next ≡ true
RunsTo stop (b ∷ run) after = (stop b ≡ false) × RunsTo stop run after

-- the first quote that isn't directly after a backslash is the last byte
abbrev pub Closes : ℕ → List ℕ → Type 0
Closes before [] = ⊥
Closes before (b ∷ bytes) = MatchBool (b == 34 && not (before == 92)) (bytes ≡ []) (Closes b bytes)

-- where a piece ends that begins with the byte b: a white byte is a piece by itself, a comment goes up to the
-- line feed, a quoted word to its closing quote, and a plain word up to the next white space
abbrev pub Ends : Kind → ℕ → List ℕ → List ℕ → Type 0
Ends White b bytes after = bytes ≡ []
Ends Comment b bytes after = RunsTo is_line_feed bytes after
Ends Quoted b bytes after = Closes b bytes
Ends Plain b bytes after = RunsTo is_white bytes after

-- the bytes are one piece, where these bytes come after it
abbrev pub IsPiece : List ℕ → List ℕ → Type 0
IsPiece [] after = ⊥
IsPiece (b ∷ bytes) after = Ends (kind_of b) b bytes after

-- the text begins with these pieces, one after the other, and this is the rest of it
abbrev pub CutTo : List ℕ → List (List ℕ) → List ℕ → Type 0
CutTo rest [] text = text ≡ rest
CutTo rest (piece ∷ pieces) text = (after : List ℕ) × (text ≡ piece ++ after) × IsPiece piece after × CutTo rest pieces after

-- these are the pieces of the text
abbrev pub Cut : List (List ℕ) → List ℕ → Type 0
Cut pieces text = CutTo [] pieces text

-- A quoted word begins in this line and doesn't end: after these pieces comes a quote (34) that begins no piece.
pub record IsUnclosed (text : List ℕ) (line : ℕ) : Type 0 where
  pub pieces : List (List ℕ)
  pub rest : List ℕ
  pub cut : CutTo rest pieces text
  pub quote : slice_index rest 0 ≡ 34
  pub endless : (n : ℕ) → ¬ IsPiece (take n rest) (drop n rest)
  pub counted : line ≡ 1 + count_by is_line_feed (concat pieces)
