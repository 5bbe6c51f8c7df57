-- What `finish` prints (lefdef's own rules): the text of the finished design and how many wires it got, or why there is none.
use Rattle.std.specs.Prelude.{ℕ, List, ◌++◌, length, Some, codes, decimal}
use Rattle.std.specs.List.{flat_map}
use Rattle.leg_design_records.specs.Records.{DesignModel}
use Rattle.leg_rules.specs.Metal.Flat.{FlatModel}
use Rattle.leg_output.specs.Names.{piece_text}
use Rattle.leg_design_records.specs.Names.{net_name, name_by}
use Rattle.leg_output.specs.Lines.{piece_at}
use Rattle.leg_output.specs.Text.Whole.{design_text}

-- a line of a word and a number
abbrev pub number_line : List ℕ → ℕ → List ℕ
number_line word number = word ++ decimal number ++ codes "\n"

-- how long the added wires are together, in database units, and how many of them are vias
abbrev pub wire_lines : ℕ → ℕ → List ℕ
wire_lines length vias = number_line (codes "# length ") length ++ number_line (codes "# vias ") vias

-- the finished design, and how long its added wires are
abbrev pub finished_text : DesignModel → ℕ → ℕ → List ℕ
finished_text design length vias = design_text design ++ wire_lines length vias

-- a net and a piece of it, which are named as in the line of an open net
abbrev pub unreachable_text : DesignModel → FlatModel → ℕ → ℕ → List ℕ
unreachable_text design flat net piece =
    codes "UNREACHABLE " ++ net_name design net ++ codes " " ++ name_by (piece_text design) (piece_at (Some flat) net piece) ++ codes "\n"

-- a net that is left
abbrev pub unfinished_line : DesignModel → ℕ → List ℕ
unfinished_line design net = codes "UNFINISHED " ++ net_name design net ++ codes "\n"

-- a line for each net that is left, and their number
abbrev pub unfinished_text : DesignModel → List ℕ → List ℕ
unfinished_text design nets = flat_map (unfinished_line design) nets ++ number_line (codes "unfinished ") (length nets)
