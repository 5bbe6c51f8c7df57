-- What is wrong with a text, in words.
use Rattle.std.specs.Prelude.{ℕ, List, [], ◌∷◌, ◌++◌, ◌==◌, if◌then◌else◌, Option, None, Some, map, codes, decimal}
use Rattle.std.specs.List.{list_any}
use Rattle.std.specs.Fmt.{signed_decimal}
use Rattle.leg_lex.specs.declared.read_fault.FaultKind.{FaultKind}
use Rattle.leg_lex.specs.declared.read_fault.FaultKind.TheVariants as kinds
use Rattle.leg_lex.specs.declared.read_fault.NameKind.{NameKind}
use Rattle.leg_lex.specs.declared.read_fault.NameKind.TheVariants as names
use Rattle.leg_lex.specs.declared.read_fault.Entry.{Entry}
use Rattle.leg_lex.specs.declared.read_fault.Entry.TheVariants as entries
use Rattle.leg_lex.specs.declared.read_fault.Need.{Need}
use Rattle.leg_lex.specs.declared.read_fault.Need.TheVariants as needs
use Rattle.leg_lex.specs.Keyword.{keyword_text}
use Rattle.leg_lib_records.specs.declared.scale_fault.ScaleKind.{ScaleKind}
use Rattle.leg_lib_records.specs.declared.scale_fault.ScaleKind.TheVariants as scale
use Rattle.leg_app_message.specs.TextLine.{shown_byte}
use Rattle.leg_app_message.specs.Texts.{TextsModel, path_of}

-- where a text ends that has this last word, or none
abbrev pub end_text : List ℕ → List ℕ
end_text [] = codes "the text ends too early"
end_text (b ∷ word) = codes "the text ends too early, after "

-- what comes before the word at fault, by the kind of the fault
abbrev pub before_of : FaultKind → List ℕ → List ℕ
before_of kinds.UnexpectedEnd word = end_text word
before_of kinds.EmptyRect word = codes "the rectangle, size or wire at "
before_of kinds.Diagonal word = codes "the wire to the point at "
before_of kinds.ViaLayer word = codes "via "
before_of kinds.PinTwice word = codes "the terminal at "
before_of kinds.TooMany word = codes "one entry too many begins at "
before_of kinds.BadVia word = codes "via "
before_of kinds.OddWidth word = codes "the wire width "
before_of kind word = []

-- what comes after it
abbrev pub after_of : FaultKind → List ℕ
after_of kinds.UnclosedString = codes "a quoted word begins in this line and has no closing quote"
after_of kinds.Unexpected = codes " is not allowed here"
after_of kinds.BadNumber = codes " is not allowed here"
after_of kinds.TooLarge = codes " is out of range"
after_of kinds.EmptyRect = codes " has no area: a side of it is 0 or negative"
after_of kinds.UnknownName = codes " is not the name of "
after_of kinds.DuplicateName = codes " is already the name of "
after_of kinds.Unsupported = codes " is not supported here, since it would change metal or a rule that is judged (docs/FORMATS.md)"
after_of kinds.Diagonal = codes " is neither horizontal nor vertical"
after_of kinds.ViaLayer = codes " has no metal on the layer on which its path is"
after_of kinds.PinTwice = codes " is in another net already"
after_of kinds.BadRow = codes " is not supported in a ROW"
after_of kinds.BadVia = codes " cannot be used in a wire: it needs metal around 0 0 on two routing layers with none between them, and cuts on the one cut layer between these"
after_of kinds.OddWidth = codes " is odd: a width is an even number of database units, so that the wire has a middle line"
after_of kinds.Memory = codes "out of memory"
after_of kind = []

-- what has a name
abbrev pub name_text : NameKind → List ℕ
name_text names.Layer = codes "a layer"
name_text names.Site = codes "a site"
name_text names.Macro = codes "a macro"
name_text names.Via = codes "a via"
name_text names.Component = codes "a component"
name_text names.Pin = codes "a pin of the block"
name_text names.MacroPin = codes "a pin of the macro"
name_text names.Net = codes "an entry of this section"
name_text names.Rule = codes "a nondefault rule"

-- where a name that is not known should be defined
abbrev pub known_text : NameKind → List ℕ
known_text names.Layer = codes " of the LEFs: check its spelling, in which capitals count, and that the LEF that defines it is given, ahead of those that use it"
known_text names.Site = codes " of the LEFs: check its spelling, in which capitals count, and that the LEF that defines it is given, ahead of those that use it"
known_text names.Macro = codes " of the LEFs: check its spelling, in which capitals count, and that the LEF that defines it is given"
known_text names.Via = codes " of the LEFs or of VIAS: check its spelling, in which capitals count, and that the LEF that defines it is given"
known_text names.Component = codes ": check its spelling, in which capitals count"
known_text names.Pin = codes ": check its spelling, in which capitals count"
known_text names.MacroPin = codes ": check its spelling, in which capitals count"
known_text names.Net = codes ": check its spelling, in which capitals count"
known_text names.Rule = codes " of the LEFs or of NONDEFAULTRULES: check its spelling, in which capitals count, and that the LEF that defines it is given"

-- how many entries there may be
abbrev pub most_text : Entry → List ℕ
most_text entries.Component = codes ": a DEF has at most 200,000 components (tools/drop-fillers takes fillers out)"
most_text entries.Pin = codes ": a DEF has at most 200,000 pins"
most_text entries.Net = codes ": NETS and SPECIALNETS together have at most 200,000 entries"
most_text entries.NetPart = codes ": the nets together have at most 4,000,000 terminals and 4,000,000 wires"
most_text entries.Blockage = codes ": a DEF has at most 200,000 blockages, with at most 4,000,000 rectangles"

-- what to do with a name that is defined twice
abbrev pub rename_text : NameKind → List ℕ
rename_text names.Layer = codes ": remove one of the two"
rename_text names.Site = codes ": remove one of the two"
rename_text names.Macro = codes ": remove one of the two"
rename_text names.Via = codes ": rename or remove one of the two"
rename_text names.Component = codes ": rename or remove one of the two"
rename_text names.Pin = codes ": rename or remove one of the two"
rename_text names.MacroPin = codes ": rename or remove one of the two"
rename_text names.Net = codes ": rename or join the two (tools/from-qflow joins entries of SPECIALNETS)"
rename_text names.Rule = codes ": rename or remove one of the two"

-- what to do about a number of a DEF that has a point
abbrev pub point_text : List ℕ → List ℕ
point_text word = if list_any (λ b. b == 46) word then codes " (tools/from-qflow rewrites numbers with a point)" else []

-- what is said first of what is needed
abbrev pub first_text : Need → List ℕ
first_text needs.OfKind = []
first_text (needs.Keyword keyword) = codes ": `"
first_text (needs.Mark mark) = codes ": `"
first_text needs.AnyWord = codes ": a word is needed"
first_text needs.Name = codes ": a name is needed"
first_text needs.Word = codes ": a name or a quoted word is needed"
first_text needs.FormName = codes ": the name of what ends here is needed"
first_text needs.Whole = codes ": a whole number of at most 2,000,000,000 in absolute value is needed"
first_text needs.Length = codes ": a number of microns is needed, of at most 2,000,000,000 in absolute value and with at most six decimals"
first_text needs.Nothing = codes ": the statement has to end before it (is a `;` missing?)"
first_text needs.Form = codes ": no statement or section that is read here begins with it"
first_text (needs.Statement keyword) = codes ": `"
first_text needs.NoSecond = codes ": it may stand here only once; is a `;` missing before it?"
first_text needs.Direction = codes ": HORIZONTAL or VERTICAL is needed"
first_text needs.Orient = codes ": N, S, W, E, FN, FS, FW or FE is needed"
first_text needs.RoutingLayer = codes ": a layer of TYPE ROUTING is needed"
first_text needs.SameUnits = codes ": the UNITS before have another number"
first_text (needs.Known kind) = name_text kind
first_text (needs.KnownPin number) = codes "a pin of "
first_text (needs.New kind) = name_text kind
first_text (needs.NewSince kind line) = name_text kind
first_text (needs.NewSinceText kind file line) = name_text kind
first_text (needs.AtLeast least) = codes ": at least "
first_text needs.AboveZero = codes ": more than 0 is needed"
first_text needs.Units = codes ": 1 to 20,000 database units to the micron are needed"
first_text needs.EndInRange = codes ": the last site or track that it begins lies beyond 2,000,000,000"
first_text (needs.Fewer entry) = most_text entry
first_text needs.OneLine = codes ": a row is one line of sites, DO n BY 1"
first_text (needs.SiteStep width) = codes ": the step in x has to be the width of the site, "
first_text needs.RowOrient = codes ": N, S, FN or FS is needed"
first_text needs.NoMask = codes ": a rectangle without MASK is needed"
first_text needs.PlainSite = codes ": a SITE without a pattern behind its name is needed"
first_text needs.PlainDie = codes ": two corners are needed, or four points that go round a rectangle"

-- the macro of which a pin is needed
abbrev pub master_text : Option (List ℕ) → List ℕ
master_text None = codes "the macro of this component"
master_text (Some name) = codes "macro " ++ map shown_byte name

-- then what differs from text to text: a keyword, a mark, a number, where a name is defined, or a macro
abbrev pub middle_text : TextsModel → Need → Option (List ℕ) → List ℕ
middle_text texts (needs.Keyword keyword) master = keyword_text keyword
middle_text texts (needs.Mark mark) master = mark ∷ []
middle_text texts (needs.Statement keyword) master = keyword_text keyword
middle_text texts (needs.KnownPin number) master = master_text master
middle_text texts (needs.New names.Via) master = codes ", which a LEF defines"
middle_text texts (needs.NewSince kind line) master = codes ", which line " ++ decimal line ++ codes " defines"
middle_text texts (needs.NewSinceText kind file line) master = codes ", which " ++ path_of texts file ++ codes ":" ++ decimal line ++ codes " defines"
middle_text texts (needs.AtLeast least) master = decimal least
middle_text texts (needs.SiteStep width) master = signed_decimal width
middle_text texts need master = []

-- and what is said last, in the place of this word
abbrev pub last_text : Need → List ℕ → List ℕ
last_text (needs.Keyword keyword) word = codes "` is needed"
last_text (needs.Mark mark) word = codes "` is needed"
last_text needs.Whole word = point_text word
last_text (needs.Statement keyword) word = codes "` is missing before it"
last_text (needs.Known kind) word = known_text kind
last_text (needs.KnownPin number) word = codes ": check its spelling, in which capitals count"
last_text (needs.New kind) word = rename_text kind
last_text (needs.NewSince kind line) word = rename_text kind
last_text (needs.NewSinceText kind file line) word = rename_text kind
last_text (needs.AtLeast least) word = codes " is needed"
last_text need word = []

-- what is needed in the place of this word
abbrev pub need_text : TextsModel → Need → Option (List ℕ) → List ℕ → List ℕ
need_text texts need master word = first_text need ++ middle_text texts need master ++ last_text need word

-- a length that isn't one in database units
abbrev pub scale_sentence_of : ScaleKind → List ℕ
scale_sentence_of scale.NotOnUnit = codes "is not a whole number of database units"
scale_sentence_of scale.TooLarge = codes "is beyond 2,000,000,000 database units"
scale_sentence_of scale.OddWidth = codes "is an odd number of database units, and the width of a routing layer is even, so that its wires have a middle line"
scale_sentence_of scale.Memory = codes "is not known"
