-- Notes on refused texts that seem to be no LEF or DEF, or the other one of the two.
use Rattle.std.specs.Prelude.{ℕ, Bool, true, false, List, [], Option, None, Some, codes}
use Rattle.leg_app_message.specs.declared.note.Note.{Note}
use Rattle.leg_app_message.specs.declared.note.Note.TheVariants.{Empty, Gzip, Utf8Mark, Utf16Mark, Elf, Binary, LefForDef, DefForLef, NoUnits, LastWord, EmptyLef, TooLong}

-- the line of a note
abbrev pub note_line : Option Note → List ℕ
note_line None = []
note_line (Some Empty) = codes "note: the text is empty, or has only white space\n"
note_line (Some Gzip) = codes "note: the text is compressed: unpack it first, with gunzip\n"
note_line (Some Utf8Mark) = codes "note: the text begins with a byte order mark: save it without one\n"
note_line (Some Utf16Mark) = codes "note: the text is UTF-16: save it as ASCII, or as UTF-8 without a byte order mark\n"
note_line (Some Elf) = codes "note: this is a program or an object file (ELF), and no text\n"
note_line (Some Binary) = codes "note: this is no text: it has a byte 0\n"
note_line (Some LefForDef) = codes "note: this looks like a LEF, and a DEF is expected here (of files the DEF is named first; on standard input the LEF comes first)\n"
note_line (Some DefForLef) = codes "note: this looks like a DEF, and a LEF is expected here (of files the DEF is named first; on standard input the LEF comes first)\n"
note_line (Some NoUnits) = codes "note: a DEF needs UNITS DISTANCE MICRONS n ; and this one has no UNITS\n"
note_line (Some LastWord) = codes "note: the text ends with this word: has it been cut?\n"
note_line (Some EmptyLef) = codes "note: a LEF that is given is empty, or has only white space\n"
note_line (Some TooLong) = []

-- whether no line is shown: of a file that is no text, of an empty one, or of one that is too long
abbrev pub hides_line : Option Note → Bool
hides_line None = false
hides_line (Some Empty) = true
hides_line (Some Gzip) = true
hides_line (Some Utf8Mark) = false
hides_line (Some Utf16Mark) = true
hides_line (Some Elf) = true
hides_line (Some Binary) = true
hides_line (Some LefForDef) = false
hides_line (Some DefForLef) = false
hides_line (Some NoUnits) = false
hides_line (Some LastWord) = false
hides_line (Some EmptyLef) = false
hides_line (Some TooLong) = true
