-- Bytes of printable words say what these words are read as.
use Rattle.std.proofs.Common.{◌≡◌, ℕ, true, List, [], ◌∷◌, ◌++◌, Option, Some, codes, refl}
use Rattle.leg_lex.specs.Words.{Words}
use Rattle.std.specs.List.{list_all}
use Rattle.leg_output.specs.Words.{line, is_printable}
use Rattle.leg_print_words.proofs.Printable.{printable_append}
use Rattle.leg_print_words.proofs.Lines.{Lines, lines_are_text, lines_of_words}
use Rattle.leg_print_laws.specs.Forms.{DenotesForm}
use Rattle.leg_print_laws.proofs.FreeWords.{AreInside}

pub lines_say : {Said : Type 0} (form : Words → Option (Said × Words)) (bytes : List ℕ) (words : Words) (said : Said) → Lines bytes words
    → ((rest : Words) → form (words ++ rest) ≡ Some (said, rest)) → DenotesForm form bytes said
lines_say form bytes words said lines reads =
    let found = lines_are_text bytes words lines in record {
      tokens = found.0;
      are = found.1;
      reads = λ rest. rw found.2 (reads rest);
    }

-- a statement's words with its semicolon are printable
pub said_printable : {said : Words} → AreInside said → list_all is_printable (said ++ codes ";" ∷ []) ≡ true
said_printable {said} inside = printable_append said (codes ";" ∷ []) inside.printable refl

pub line_says : {Said : Type 0} (form : Words → Option (Said × Words)) (words : Words) (said : Said) → list_all is_printable words ≡ true
    → ((rest : Words) → form (words ++ rest) ≡ Some (said, rest)) → DenotesForm form (line words) said
line_says form words said printable reads = lines_say form (line words) words said (lines_of_words words printable) reads
