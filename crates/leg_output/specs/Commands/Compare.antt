-- What `compare` prints (lefdef's own rules): a line for each difference, in order, and a last line on all of them.
use Rattle.std.specs.Prelude.{ℕ, List, [], ◌++◌, get_or, codes, decimal}
use Rattle.std.specs.List.{flat_map}
use Rattle.leg_design_records.specs.Records.{DesignModel}
use Rattle.leg_rules.specs.declared.difference.Part.{Part}
use Rattle.leg_rules.specs.declared.difference.Part.TheVariants.{Name, Divider, BusBits, Die, Rows, Tracks, Blockages}
use Rattle.leg_rules.specs.declared.difference.Section.{Section}
use Rattle.leg_rules.specs.declared.difference.Section.TheVariants.{Vias, Components, Pins, SpecialNets, Nets}
use Rattle.leg_rules.specs.declared.difference.Change.{Change}
use Rattle.leg_rules.specs.declared.difference.Change.TheVariants.{Shapes, Macro, Place, Status, NetName, Direction, Usage, Ports, Terminals, LostWires, MoreWires}
use Rattle.leg_rules.specs.declared.difference.Difference.{Difference}
use Rattle.leg_rules.specs.declared.difference.Difference.TheVariants.{Whole, Gone, Changed, Added}
use Rattle.leg_rules.specs.declared.difference.Verdict.{Verdict}
use Rattle.leg_rules.specs.declared.difference.Verdict.TheVariants.{Same, Places, Wires, PlacesAndWires, Differs}
use Rattle.leg_rules.specs.Compare.Sections.{names_of}

-- the word of what a design has once
abbrev pub part_word : Part → List ℕ
part_word Name = codes "DESIGN"
part_word Divider = codes "DIVIDERCHAR"
part_word BusBits = codes "BUSBITCHARS"
part_word Die = codes "DIEAREA"
part_word Rows = codes "ROWS"
part_word Tracks = codes "TRACKS"
part_word Blockages = codes "BLOCKAGES"

-- the word of an entry of a section
abbrev pub section_word : Section → List ℕ
section_word Vias = codes "VIA"
section_word Components = codes "COMPONENT"
section_word Pins = codes "PIN"
section_word SpecialNets = codes "SPECIALNET"
section_word Nets = codes "NET"

-- the word of what of an entry differs
abbrev pub change_word : Change → List ℕ
change_word Shapes = codes "SHAPES"
change_word Macro = codes "MACRO"
change_word Status = codes "STATUS"
change_word Place = codes "PLACE"
change_word NetName = codes "NET"
change_word Direction = codes "DIRECTION"
change_word Usage = codes "USE"
change_word Ports = codes "PORTS"
change_word Terminals = codes "TERMINALS"
change_word LostWires = codes "LOSTWIRES"
change_word MoreWires = codes "MOREWIRES"

-- an entry: the word of its section, and its name
abbrev pub entry_text : DesignModel → Section → ℕ → List ℕ
entry_text design section number = section_word section ++ codes " " ++ get_or (names_of section design) number []

-- the line of a difference between a first and a second design
abbrev pub difference_line : DesignModel → DesignModel → Difference → List ℕ
difference_line first second (Whole part) = codes "DIFFERS " ++ part_word part ++ codes "\n"
difference_line first second (Gone section i) = codes "GONE " ++ entry_text first section i ++ codes "\n"
difference_line first second (Changed section change i) =
    codes "CHANGED " ++ entry_text first section i ++ codes " " ++ change_word change ++ codes "\n"
difference_line first second (Added section j) = codes "ADDED " ++ entry_text second section j ++ codes "\n"

-- the last line
abbrev pub verdict_line : Verdict → List ℕ
verdict_line Same = codes "same\n"
verdict_line (Places moves) = codes "places " ++ decimal moves ++ codes "\n"
verdict_line (Wires growths) = codes "wires " ++ decimal growths ++ codes "\n"
verdict_line (PlacesAndWires moves growths) = codes "places " ++ decimal moves ++ codes " wires " ++ decimal growths ++ codes "\n"
verdict_line (Differs count) = codes "differs " ++ decimal count ++ codes "\n"

abbrev pub comparison_text : DesignModel → DesignModel → List Difference → Verdict → List ℕ
comparison_text first second list verdict = flat_map (difference_line first second) list ++ verdict_line verdict

-- designs at other units: nothing else of them is compared
abbrev pub units_text : List ℕ
units_text = codes "DIFFERS UNITS\ndiffers 1\n"
