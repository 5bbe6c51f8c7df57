-- The clauses of a pin of the design (LEF/DEF 5.8, "Pins"; what is left out is lefdef's own rule).
use Rattle.std.specs.Prelude.{ℕ, if◌then◌else◌, List, [], ◌∷◌, ◌++◌, Option, None, Some, is_some, codes}
use Rattle.leg_lex.specs.Words.{Words, ◌>>=◌, is_at, keyword_at, name_at, word_at, nothing_at}
use Rattle.leg_grammar.specs.Def.NetScope.{NetScopeModel}
use Rattle.leg_grammar.specs.Def.Guard.{when, unless}
use Rattle.leg_grammar.specs.Def.Placement.{says_place, placed_in}
use Rattle.leg_grammar.specs.Def.Clause.{is_clause}
use Rattle.leg_grammar.specs.Def.Layers.{with_rect, with_rects}
use Rattle.leg_design_records.specs.Records.{PortModel}
use Rattle.leg_grammar.specs.Def.Port.{empty_port, layer_rect, layer_polygon}
use Rattle.leg_grammar.specs.Def.PortVia.{with_via}

-- what the clauses before gave: words that appear at most once, the ports that are whole, and the last port
pub record PinClauses : Type 0 where
  pub net_name : Option (List ℕ)
  pub direction : Option (List ℕ)
  pub usage : Option (List ℕ)
  pub done : List PortModel
  pub last : Option PortModel

abbrev pub no_pin_clauses : PinClauses
no_pin_clauses = record { net_name = None; direction = None; usage = None; done = []; last = None }

-- NET NAME
unfoldable pub net_of_pin : Words → Option (List ℕ)
net_of_pin clause = do
  start ← keyword_at (codes "NET") clause
  name ← name_at start.1
  end ← nothing_at name.1
  Some name.0

-- KEYWORD word
unfoldable pub word_in : List ℕ → Words → Option (List ℕ)
word_in keyword clause = do
  start ← keyword_at keyword clause
  word ← word_at start.1
  end ← nothing_at word.1
  Some word.0

-- the last port, or the first where none has begun
abbrev pub last_port : PinClauses → PortModel
last_port parts = port_or parts.last where
  port_or : Option PortModel → PortModel
  port_or None = empty_port
  port_or (Some port) = port

-- all ports
abbrev pub all_ports : PinClauses → List PortModel
all_ports parts = ports_and parts.last where
  ports_and : Option PortModel → List PortModel
  ports_and None = parts.done
  ports_and (Some port) = parts.done ++ port ∷ []

-- PORT begins a port
unfoldable pub port_start : PinClauses → Words → Option PinClauses
port_start parts clause = do
  start ← keyword_at (codes "PORT") clause
  end ← nothing_at start.1
  Some (record parts { done = all_ports parts; last = Some empty_port })

-- LAYER, which adds a rectangle to the last port
unfoldable pub port_rect : NetScopeModel → PinClauses → Words → Option PinClauses
port_rect scope parts clause = do
  on ← layer_rect scope.profile scope.library clause
  Some (record parts { last = Some (record (last_port parts) { shapes = with_rect scope.library on.0 on.1 (last_port parts).shapes }) })

-- POLYGON, which adds the slabs of a polygon to the last port
unfoldable pub port_polygon : NetScopeModel → PinClauses → Words → Option PinClauses
port_polygon scope parts clause = do
  on ← layer_polygon scope.profile scope.library clause
  Some (record parts { last = Some (record (last_port parts) { shapes = with_rects scope.library on.0 on.1 (last_port parts).shapes }) })

-- VIA, which adds the rectangles of a via to the last port
unfoldable pub port_via : NetScopeModel → PinClauses → Words → Option PinClauses
port_via scope parts clause = do
  shapes ← with_via scope (last_port parts).shapes clause
  Some (record parts { last = Some (record (last_port parts) { shapes = shapes }) })

-- PLACED, FIXED or COVER with a place, at most once in a port
unfoldable pub port_place : PinClauses → Words → Option PinClauses
port_place parts clause = do
  once ← unless (is_some (last_port parts).place)
  placed ← placed_in clause
  Some (record parts { last = Some (record (last_port parts) { status = placed.0; place = Some placed.1 }) })

-- NET NAME, at most once
unfoldable pub pin_net_clause : PinClauses → Words → Option PinClauses
pin_net_clause parts clause = do
  once ← unless (is_some parts.net_name)
  name ← net_of_pin clause
  Some (record parts { net_name = Some name })

-- DIRECTION word, at most once
unfoldable pub direction_clause : PinClauses → Words → Option PinClauses
direction_clause parts clause = do
  once ← unless (is_some parts.direction)
  word ← word_in (codes "DIRECTION") clause
  Some (record parts { direction = Some word })

-- USE word, at most once
unfoldable pub pin_use_clause : PinClauses → Words → Option PinClauses
pin_use_clause parts clause = do
  once ← unless (is_some parts.usage)
  word ← word_in (codes "USE") clause
  Some (record parts { usage = Some word })

-- one more clause
unfoldable pub pin_clause : NetScopeModel → PinClauses → Words → Option PinClauses
pin_clause scope parts clause =
    if is_at (codes "NET") clause then pin_net_clause parts clause
    else (if is_at (codes "DIRECTION") clause then direction_clause parts clause
    else (if is_at (codes "USE") clause then pin_use_clause parts clause
    else (if is_at (codes "PORT") clause then port_start parts clause
    else (if is_at (codes "LAYER") clause then port_rect scope parts clause
    else (if says_place clause then port_place parts clause
    else (if is_at (codes "VIA") clause then port_via scope parts clause
    else (if is_at (codes "POLYGON") clause then port_polygon scope parts clause
    else (if is_at (codes "MASK") clause then None
    else (when (is_clause clause) >>= λ _. Some parts)))))))))
