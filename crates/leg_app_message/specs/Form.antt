-- The words of a form of a LEF that has a name.
use Rattle.std.specs.Prelude.{◌≡◌, ℕ, Bool, false, not, ◌&&◌, ◌||◌, if◌then◌else◌, List, [], ◌∷◌, codes}
use Rattle.std.specs.Str.{bytes_eq}
use Rattle.leg_lex.specs.Word.{Word}
use Rattle.leg_lex.specs.Words.{is_keyword}
use Rattle.leg_lib_records.specs.declared.scale_fault.ScaleKind.{ScaleKind}
use Rattle.leg_app_message.specs.Conversion.{begins_lengths, IsBehind}

-- such a form begins with this word
abbrev pub is_form : List ℕ → Bool
is_form word =
    is_keyword (codes "LAYER") word || is_keyword (codes "SITE") word || is_keyword (codes "MACRO") word || is_keyword (codes "VIA") word

-- A form of this name begins with these words. Where a `;` comes after the name, a form is meant that was before.
abbrev pub begins_form : List ℕ → List Word → Bool
begins_form name (form ∷ named ∷ next ∷ words) = bytes_eq named.text name && not (bytes_eq next.text (codes ";")) && is_form form.text
begins_form name words = false

-- these words end a form of this name
abbrev pub ends_form : List ℕ → List Word → Bool
ends_form name (end ∷ named ∷ words) = bytes_eq named.text name && is_keyword (codes "END") end.text
ends_form name words = false

-- the words from the first form of this name on
abbrev pub from_form : List ℕ → List Word → List Word
from_form name [] = []
from_form name (word ∷ words) = if begins_form name (word ∷ words) then word ∷ words else from_form name words

-- the words before the end of a form of this name
abbrev pub up_to_end : List ℕ → List Word → List Word
up_to_end name [] = []
up_to_end name (word ∷ words) = if ends_form name (word ∷ words) then [] else word ∷ up_to_end name words

-- the words of the first form of this name
abbrev pub words_of_form : List ℕ → List Word → List Word
words_of_form name words = up_to_end name (from_form name words)

-- this is the word with which the first form of this name begins
abbrev pub BeginsWith : List ℕ → List Word → List ℕ → Type 0
BeginsWith name words form = (line : ℕ) × (rest : List Word) × (from_form name words ≡ record { text = form; line = line } ∷ rest)

-- The length in this line, which may have such a fault, is a word of the first form of this name, which begins with this word; it stands
-- there behind a word of a length that is converted.
abbrev pub IsInForm : ScaleKind → List ℕ → List Word → List ℕ → List ℕ → ℕ → Type 0
IsInForm kind name words form written line =
    BeginsWith name words form × IsBehind (begins_lengths kind form) (words_of_form name words) (record { text = written; line = line })
