-- What `legalise` prints (lefdef's own rules): the text of the legalised design and how far components have moved, or why there is none.
use Rattle.std.specs.Prelude.{ℕ, ℤ, pos, List, [], ◌++◌, length, None, codes, decimal, int_lt, if◌then◌else◌}
use Rattle.std.specs.List.{flat_map, zip}
use Rattle.std.specs.Fmt.{signed_decimal}
use Rattle.leg_design_records.specs.Records.{DesignModel}
use Rattle.leg_design_records.specs.declared.records.Component.{Component}
use Rattle.leg_design_records.specs.declared.fault.Fault.{Fault}
use Rattle.leg_design_records.specs.Names.{component_name}
use Rattle.leg_output.specs.Lines.{violations_text}
use Rattle.leg_output.specs.Text.Whole.{design_text}

-- how far a component has moved, in database units; one that has not moved has no line
abbrev pub move_line : Component → ℤ → List ℕ
move_line component distance =
    if int_lt (pos 0) distance
    then codes "# move " ++ component.name ++ codes " " ++ signed_decimal distance ++ codes "\n"
    else []

-- a line for each component that has moved, in file order
abbrev pub move_lines : List Component → List ℤ → List ℕ
move_lines components distances = flat_map (λ (moved : Component × ℤ). move_line moved.0 moved.1) (zip components distances)

-- a line of a word and a length, in database units
abbrev pub length_line : List ℕ → ℤ → List ℕ
length_line word length = word ++ signed_decimal length ++ codes "\n"

-- the sum of the distances, and the greatest of them
abbrev pub total_lines : ℤ → ℤ → List ℕ
total_lines total greatest = length_line (codes "# total ") total ++ length_line (codes "# greatest ") greatest

-- the legalised design, and how far its components have moved
abbrev pub legalised_text : DesignModel → List ℤ → ℤ → ℤ → List ℕ
legalised_text design distances total greatest =
    design_text design ++ move_lines design.components distances ++ total_lines total greatest

-- the violations that components have which stay, and their number
abbrev pub fixed_illegal_text : DesignModel → List Fault → List ℕ
fixed_illegal_text design violations =
    violations_text design None violations ++ codes "FIXEDILLEGAL " ++ decimal (length violations) ++ codes "\n"

-- a component that fits no row
abbrev pub no_site_text : DesignModel → ℕ → List ℕ
no_site_text design c = codes "NOSITE " ++ component_name design c ++ codes "\n"

-- a component for which no position was free
abbrev pub no_room_text : DesignModel → ℕ → List ℕ
no_room_text design c = codes "NOROOM " ++ component_name design c ++ codes "\n"
