-- The entry of a net (LEF/DEF 5.8, "Nets", "Special Nets"; that each wire has a line of its own, and that all are
-- ROUTED, are lefdef's own rules).
use Rattle.std.specs.Prelude.{ℕ, Bool, List, [], ◌∷◌, ◌++◌, map, codes}
use Rattle.std.specs.List.{flat_map}
use Rattle.leg_lex.specs.Words.{Words}
use Rattle.leg_output.specs.Words.{spaced, words_in_lines}
use Rattle.leg_design_records.specs.declared.records.Terminal.{Terminal}
use Rattle.leg_design_records.specs.declared.records.Wire.{Wire}
use Rattle.leg_design_records.specs.Records.{DesignModel, NetModel}
use Rattle.leg_design_records.specs.Names.{terminal_names}
use Rattle.leg_output.specs.Text.Clauses.{clause_words, kept_clause}
use Rattle.leg_output.specs.Text.Wires.{wire_words}

-- ( component pin ), or ( PIN pin ) for a pin of the design
abbrev pub terminal_words : DesignModel → Terminal → Words
terminal_words design terminal =
    codes "(" ∷ (terminal_names design terminal).0 ∷ (terminal_names design terminal).1 ∷ codes ")" ∷ []

-- the words after the dash, up to the wires: name, terminals, and USE where it was kept
abbrev pub net_head : DesignModel → NetModel → Words
net_head design net =
    net.name ∷ flat_map (terminal_words design) net.terminals ++ clause_words (kept_clause (codes "USE") net.usage)

-- The words of each wire: the first comes after + ROUTED, each other one after NEW.
abbrev pub wiring_lines : DesignModel → Bool → List Wire → List Words
wiring_lines design special [] = []
wiring_lines design special (wire ∷ wires) =
    (codes "+" ∷ codes "ROUTED" ∷ wire_words design special wire)
    ∷ map (λ other. codes "NEW" ∷ wire_words design special other) wires

-- - name terminals + USE word wires
abbrev pub net_said : DesignModel → Bool → NetModel → Words
net_said design special net = codes "-" ∷ net_head design net ++ words_in_lines (wiring_lines design special net.wires)

-- the same with its semicolon
abbrev pub net_words : DesignModel → Bool → NetModel → Words
net_words design special net = net_said design special net ++ codes ";" ∷ []

-- words on a new line, which begins with two blanks
abbrev pub wire_line : Words → List ℕ
wire_line words = codes "\n " ++ spaced words

-- the words of the entry in several lines: each wire begins a new one, and the semicolon is on the last
abbrev pub net_text : DesignModel → Bool → NetModel → List ℕ
net_text design special net =
    codes "-" ++ spaced (net_head design net) ++ flat_map wire_line (wiring_lines design special net.wires) ++ codes " ;\n"
