-- What the first bytes of a file tell.
use Rattle.std.specs.Prelude.{ℕ, List, [], ◌∷◌, take, Option, None, Some, codes, if◌then◌else◌, ◌||◌}
use Rattle.std.specs.Str.{bytes_eq}
use Rattle.leg_app_message.specs.declared.note.Note.{Note}
use Rattle.leg_app_message.specs.declared.note.Note.TheVariants.{Gzip, Utf8Mark, Utf16Mark, Elf}

-- by the first bytes: those of gzip, of a byte order mark in UTF-8 and in both orders of UTF-16, and of an ELF file
abbrev pub signature_note : List ℕ → Option Note
signature_note text =
    if bytes_eq (take 2 text) (0x1f ∷ 0x8b ∷ []) then Some Gzip
    else (if bytes_eq (take 3 text) (0xef ∷ 0xbb ∷ 0xbf ∷ []) then Some Utf8Mark
    else (if bytes_eq (take 2 text) (0xff ∷ 0xfe ∷ []) || bytes_eq (take 2 text) (0xfe ∷ 0xff ∷ []) then Some Utf16Mark
    else (if bytes_eq (take 4 text) (0x7f ∷ codes "ELF") then Some Elf else None)))
