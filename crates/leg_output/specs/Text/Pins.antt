-- The entry of a pin of the design (LEF/DEF 5.8, "Pins"; the order of its clauses is lefdef's own rule).
use Rattle.std.specs.Prelude.{List, [], ◌∷◌, ◌++◌, map, Option, None, Some, codes}
use Rattle.std.specs.List.{flat_map}
use Rattle.leg_lex.specs.Words.{Words}
use Rattle.leg_geom.specs.declared.place.Place.{Place}
use Rattle.leg_design_records.specs.declared.records.Status.{Status}
use Rattle.leg_design_records.specs.Records.{DesignModel, PortModel, PinModel}
use Rattle.leg_output.specs.Text.Clauses.{clause_words, kept_clause, shape_clause, placement_clause}

-- where a port is, if it is placed
abbrev pub port_place_lines : Status → Option Place → List Words
port_place_lines status None = []
port_place_lines status (Some place) = placement_clause status (Some place) ∷ []

-- PORT, its rectangles, and its place
abbrev pub port_clauses : DesignModel → PortModel → List Words
port_clauses design port =
    (codes "PORT" ∷ []) ∷ map (shape_clause (codes "LAYER") design) port.shapes ++ port_place_lines port.status port.place

-- NET, DIRECTION and USE, where they were kept
abbrev pub kept_clauses : PinModel → List Words
kept_clauses pin =
    kept_clause (codes "NET") pin.net_name ++ kept_clause (codes "DIRECTION") pin.direction
    ++ kept_clause (codes "USE") pin.usage

-- the same, and then the ports
abbrev pub pin_clauses : DesignModel → PinModel → List Words
pin_clauses design pin = kept_clauses pin ++ flat_map (port_clauses design) pin.ports

-- - name clauses
abbrev pub pin_said : DesignModel → PinModel → Words
pin_said design pin = codes "-" ∷ pin.name ∷ clause_words (pin_clauses design pin)

-- the same with its semicolon
abbrev pub pin_words : DesignModel → PinModel → Words
pin_words design pin = pin_said design pin ++ codes ";" ∷ []
