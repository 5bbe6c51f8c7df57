-- Messages on standard error.
use Rattle.std.specs.Prelude.{◌≡◌, ℕ, ◌+◌, List, [], ◌∷◌, ◌++◌, ◌⊎◌, nat_lt, if◌then◌else◌, length, map, Option, None, codes, decimal}
use Rattle.leg_lex.specs.Word.{Word}
use Rattle.leg_lex.specs.Tokens.{AreTokens}
use Rattle.leg_lex.specs.declared.limits.TheConstants.{TEXT_LIMIT}
use Rattle.leg_lex.specs.declared.read_fault.ReadFault.{ReadFault}
use Rattle.leg_lib_records.specs.declared.scale_fault.ScaleKind.{ScaleKind}
use Rattle.leg_lib_records.specs.declared.scale_fault.ScaleFault.{ScaleFault}
use Rattle.leg_lib_records.specs.Records.{RawLibraryModel}
use Rattle.leg_grammar.specs.declared.profile.Profile.{Profile}
use Rattle.leg_grammar.specs.declared.profile.Profile.TheVariants.{Narrow, Wide}
use Rattle.leg_grammar.specs.Lef.Library.{DenoteLibrary}
use Rattle.leg_app_reason.specs.declared.reason.Reason.{Reason}
use Rattle.leg_app_reason.specs.declared.reason.Reason.TheVariants.{Read, NoLibrary, Scale}
use Rattle.leg_app_input.specs.Stream.{HasEndLibrary, IsSplit}
use Rattle.leg_app_message.specs.declared.note.Note.{Note}
use Rattle.leg_app_message.specs.Advice.{advice_of}
use Rattle.leg_app_message.specs.Form.{IsInForm}
use Rattle.leg_app_message.specs.Conversion.{IsOfLibrary}
use Rattle.leg_app_message.specs.Length.{HasFault}
use Rattle.leg_app_message.specs.Note.{note_line, hides_line}
use Rattle.leg_app_message.specs.Remedy.{advice_on}
use Rattle.leg_app_message.specs.Sentence.{before_of, after_of, need_text, scale_sentence_of}
use Rattle.leg_app_message.specs.TextLine.{line_of, word_at, column_of, shown_byte, shown_line, shown_word, mark_line}
use Rattle.leg_app_message.specs.Texts.{TextsModel, path_of, part_of, text_of}

-- where a message points: a file and a line
abbrev pub place_text : TextsModel → ℕ → ℕ → List ℕ
place_text texts number line = path_of texts number ++ codes ":" ++ decimal line ++ codes ": " ++ part_of texts number

-- the same, with the column of a word, from 1
abbrev pub word_place_text : TextsModel → ℕ → ℕ → ℕ → List ℕ
word_place_text texts number line column =
    path_of texts number ++ codes ":" ++ decimal line ++ codes ":" ++ decimal (column + 1) ++ codes ": " ++ part_of texts number

-- the word at fault
abbrev pub word_of : List ℕ → ReadFault → List ℕ
word_of text fault = word_at fault.start fault.end text

-- where this word is, which is at fault; the line alone where there is none
abbrev pub place_of_word : TextsModel → ℕ → ReadFault → List ℕ → List ℕ
place_of_word texts number fault [] = place_text texts number fault.line
place_of_word texts number fault (b ∷ word) = word_place_text texts number fault.line (column_of fault.start (text_of texts number))

abbrev pub fault_place : TextsModel → ℕ → ReadFault → List ℕ
fault_place texts number fault = place_of_word texts number fault (word_of (text_of texts number) fault)

-- why a text is refused: it is too long, or by its fault
abbrev pub reason_of : TextsModel → List ℕ → ReadFault → Option (List ℕ) → List ℕ
reason_of texts text fault master =
    if nat_lt TEXT_LIMIT (length text) then codes "the text is longer than 268,435,456 bytes"
    else before_of fault.kind (word_of text fault) ++ shown_word (word_of text fault) ++ after_of fault.kind
    ++ need_text texts fault.need master (word_of text fault)
    ++ advice_on texts.profile fault.kind fault.need (nat_lt fault.file (length texts.lefs)) (word_of text fault)

-- the line at fault, and below it a mark under the word
abbrev pub marked_line : List ℕ → ReadFault → List ℕ
marked_line text fault = shown_line (line_of fault.line text) ++ mark_line (column_of fault.start text) (length (word_of text fault))

-- the message on a fault, which may need a pin of this macro: where and why, the line with the word, and a note
abbrev pub fault_message : TextsModel → ReadFault → Option (List ℕ) → Option Note → List ℕ
fault_message texts fault master note =
    fault_place texts fault.file fault ++ reason_of texts (text_of texts fault.file) fault master ++ codes "\n"
    ++ (if hides_line note then [] else marked_line (text_of texts fault.file) fault) ++ note_line note

-- standard input in which no LEF ends
abbrev pub no_library_reason : List ℕ
no_library_reason = codes "no END LIBRARY, with which the LEF ends: the DEF comes after it"

-- the message on a line of the text of this number: where and why, the line, and a note
abbrev pub line_message : TextsModel → ℕ → ℕ → List ℕ → Option Note → List ℕ
line_message texts number line reason note =
    place_text texts number line ++ reason ++ codes "\n"
    ++ (if hides_line note then [] else shown_line (line_of line (text_of texts number))) ++ note_line note

-- why a length isn't one in database units, and how many are a micron
abbrev pub scale_reason : ScaleKind → ℕ → List ℕ
scale_reason kind units = codes " " ++ scale_sentence_of kind ++ codes " (the DEF has " ++ decimal units ++ codes " units to the micron)\n"

-- the message on a length in this line of the LEF of this number, in a form that begins with this word and has this name
abbrev pub length_message : TextsModel → ℕ → ℕ → List ℕ → List ℕ → List ℕ → List ℕ → List ℕ
length_message texts number line form name length reason =
    place_text texts number line ++ form ++ codes " " ++ map shown_byte name ++ codes ": " ++ length ++ reason
    ++ shown_line (line_of line (text_of texts number))

-- what has lengths that are converted: nondefault rules in the wide profile alone
abbrev pub scaled_text : Profile → List ℕ
scaled_text Narrow = codes "layer, site, macro or via "
scaled_text (Wide masks soft) = codes "layer, site, macro, via or rule "

-- the message on a name alone
abbrev pub name_message : Profile → List ℕ → List ℕ → List ℕ
name_message profile name reason = scaled_text profile ++ map shown_byte name ++ codes ": a length of it" ++ reason

-- the message of what to do about a reason, where the DEF has this path
abbrev pub advice_message : {A : Type 0} → TextsModel → Reason A → List ℕ
advice_message texts reason = path_of texts (length texts.lefs) ++ codes ": " ++ advice_of reason ++ codes "\n"

-- A length of a LEF is shown, which has the fault at these units: it is a word of the first form of its name in the LEF, in the line that
-- is shown. It stands there behind a word of a length that is converted, and is one of what has that name in the library of the LEFs.
pub record ShowsLength (texts : TextsModel) (fault : ScaleFault) (units : ℕ) (message : List ℕ) : Type 0 where
  pub number : ℕ
  pub line : ℕ
  pub form : List ℕ
  pub written : List ℕ
  pub words : List Word
  pub are : AreTokens (text_of texts number) words
  pub there : IsInForm fault.kind fault.name words form written line
  pub library : RawLibraryModel
  pub of_lefs : DenoteLibrary texts.profile texts.lefs library
  pub kept : IsOfLibrary library fault.kind form fault.name written
  pub has : HasFault fault.kind units written
  pub is : message ≡ length_message texts number line form fault.name written (scale_reason fault.kind units)

-- a length is shown, or what has it is named
abbrev pub IsScaleMessage : TextsModel → ScaleFault → ℕ → List ℕ → Type 0
IsScaleMessage texts fault units message =
    ShowsLength texts fault units message ⊎ (message ≡ name_message texts.profile fault.name (scale_reason fault.kind units))

-- The message on a run that stopped for this reason.
abbrev pub IsMessage : {A : Type 0} → TextsModel → Reason A → List ℕ → Type 0
IsMessage texts (Read fault master) message = (note : Option Note) × (message ≡ fault_message texts fault master note)
IsMessage texts NoLibrary message = (note : Option Note) × (message ≡ line_message texts 0 1 no_library_reason note)
IsMessage texts (Scale fault units) message = IsScaleMessage texts fault units message
IsMessage texts reason message = message ≡ advice_message texts reason

-- the texts of standard input, which are read in the narrow profile
abbrev pub stream_texts : List ℕ → List ℕ → TextsModel
stream_texts lef def = record { profile = Narrow; names = None; lefs = lef ∷ []; def = def }

-- The texts of standard input: its LEF and its DEF, or all of it as the LEF where no LEF ends in it.
abbrev pub AreStreamTexts : List ℕ → TextsModel → Type 0
AreStreamTexts stream texts =
    ((lef : List ℕ) × (def : List ℕ) × IsSplit stream lef def × (texts ≡ stream_texts lef def))
    ⊎ ((¬ HasEndLibrary stream) × (texts ≡ stream_texts stream []))

-- The message on a run over standard input.
abbrev pub IsStreamMessage : {A : Type 0} → List ℕ → Reason A → List ℕ → Type 0
IsStreamMessage stream reason message = (texts : TextsModel) × AreStreamTexts stream texts × IsMessage texts reason message
