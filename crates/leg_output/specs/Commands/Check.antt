-- The lines that are printed: words separated by one blank, each line with a line feed at its end.
use Rattle.std.specs.Prelude.{ℕ, ℤ, List, ◌++◌, length, Option, codes, decimal}
use Rattle.std.specs.Fmt.{signed_decimal}
use Rattle.leg_lex.specs.declared.read_fault.ReadFault.{ReadFault}
use Rattle.leg_lex.specs.declared.read_fault.FaultKind.{FaultKind}
use Rattle.leg_lex.specs.declared.read_fault.FaultKind.TheVariants as kinds
use Rattle.leg_lib_records.specs.declared.scale_fault.ScaleKind.{ScaleKind}
use Rattle.leg_lib_records.specs.declared.scale_fault.ScaleKind.TheVariants as scale
use Rattle.leg_design_records.specs.Records.{DesignModel}
use Rattle.leg_design_records.specs.declared.fault.Fault.{Fault}
use Rattle.leg_rules.specs.Metal.Flat.{FlatModel}
use Rattle.leg_output.specs.Lines.{violations_text}

-- the lines of violations, and their number; those of metal name the shapes and pieces of the flat
abbrev pub listing_text : DesignModel → Option FlatModel → List Fault → List ℕ
listing_text design flat violations =
    violations_text design flat violations ++ codes "violations " ++ decimal (length violations) ++ codes "\n"

abbrev pub legal_text : List ℕ
legal_text = codes "legal\n"

-- the wirelength, in database units
abbrev pub wirelength_text : ℤ → List ℕ
wirelength_text length = codes "hpwl " ++ signed_decimal length ++ codes "\n"

abbrev pub too_many_text : List ℕ
too_many_text = codes "TOOMANY\n"

abbrev pub memory_text : List ℕ
memory_text = codes "MEMORY\n"

-- the name of a kind of fault
abbrev pub kind_name : FaultKind → List ℕ
kind_name kinds.UnclosedString = codes "UnclosedString"
kind_name kinds.UnexpectedEnd = codes "UnexpectedEnd"
kind_name kinds.Unexpected = codes "Unexpected"
kind_name kinds.BadNumber = codes "BadNumber"
kind_name kinds.TooLarge = codes "TooLarge"
kind_name kinds.EmptyRect = codes "EmptyRect"
kind_name kinds.UnknownName = codes "UnknownName"
kind_name kinds.DuplicateName = codes "DuplicateName"
kind_name kinds.Unsupported = codes "Unsupported"
kind_name kinds.Diagonal = codes "Diagonal"
kind_name kinds.ViaLayer = codes "ViaLayer"
kind_name kinds.PinTwice = codes "PinTwice"
kind_name kinds.TooMany = codes "TooMany"
kind_name kinds.BadRow = codes "BadRow"
kind_name kinds.BadVia = codes "BadVia"
kind_name kinds.OddWidth = codes "OddWidth"
kind_name kinds.Memory = codes "Memory"

-- a refused text: its number, the line, and the kind of fault
abbrev pub refused_line : ℕ → ℕ → FaultKind → List ℕ
refused_line file line kind =
    codes "REFUSED " ++ decimal file ++ codes " " ++ decimal line ++ codes " " ++ kind_name kind ++ codes "\n"

abbrev pub refused_text : ReadFault → List ℕ
refused_text fault = refused_line fault.file fault.line fault.kind

-- a stream in which no LEF ends
abbrev pub no_library_text : List ℕ
no_library_text = refused_line 0 1 kinds.UnexpectedEnd

abbrev pub scale_kind_name : ScaleKind → List ℕ
scale_kind_name scale.NotOnUnit = codes "NotOnUnit"
scale_kind_name scale.TooLarge = codes "TooLarge"
scale_kind_name scale.OddWidth = codes "OddWidth"
scale_kind_name scale.Memory = codes "Memory"

-- a length that the DEF's units can't express: the name of what has it, and why
abbrev pub scale_text : List ℕ → ScaleKind → List ℕ
scale_text name kind = codes "SCALE " ++ name ++ codes " " ++ scale_kind_name kind ++ codes "\n"
