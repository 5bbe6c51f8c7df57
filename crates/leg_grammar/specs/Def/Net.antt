-- Entries of NETS and SPECIALNETS (LEF/DEF 5.8, "Nets", "Special Nets"; what is left out, and how much there may be, are
-- lefdef's own rules).
use Rattle.std.specs.Prelude.{ℕ, ◌+◌, Bool, not, ◌&&◌, ◌||◌, nat_le, nat_lt, if◌then◌else◌, List, [], ◌∷◌, ◌++◌, length, Option, None, Some, is_some, codes}
use Rattle.leg_lex.specs.Words.{Words, ◌>>=◌, is_keyword, is_at, keyword_at, mark_at, name_at, word_at}
use Rattle.leg_lex.specs.Until.{until}
use Rattle.leg_lex.specs.Statements.{statement_at, is_plus}
use Rattle.leg_lex.specs.NameLookup.{place_of}
use Rattle.leg_design_records.specs.declared.limits.TheConstants.{ENTRY_LIMIT, PART_LIMIT}
use Rattle.leg_design_records.specs.declared.records.Wire.{Wire}
use Rattle.leg_grammar.specs.declared.profile.Profile.{Profile}
use Rattle.leg_grammar.specs.Profiles.{is_wide}
use Rattle.leg_grammar.specs.Def.Guard.{unless, is_over}
use Rattle.leg_grammar.specs.Def.NetScope.{NetScopeModel, under_rule}
use Rattle.leg_grammar.specs.Def.Terminal.{terminal_form, at_no_terminal}
use Rattle.leg_grammar.specs.Def.Wiring.{is_wiring, wiring_at, rule_at}
use Rattle.leg_grammar.specs.Def.SpecialShape.{shape_at}
use Rattle.leg_grammar.specs.Def.Section.{section_at}
use Rattle.leg_design_records.specs.Records.{NetModel, net_names, terminal_count, wire_count}
use Rattle.leg_design_records.specs.Names.{net_section}

-- what the clauses before gave; the rule is the number of a nondefault rule
pub record NetParts : Type 0 where
  pub usage : Option (List ℕ)
  pub wires : List Wire
  pub rule : Option ℕ

abbrev pub no_net_parts : NetParts
no_net_parts = record { usage = None; wires = []; rule = None }

-- words that wiring may not have, as clauses
abbrev pub is_left_out_of_wiring : Words → Bool
is_left_out_of_wiring clause =
    is_at (codes "TAPERRULE") clause || is_at (codes "STYLE") clause || is_at (codes "MASK") clause
    || is_at (codes "VIRTUAL") clause

-- clauses that would change a shape or a rule
abbrev pub is_left_out : Bool → Words → Bool
is_left_out special clause =
    is_at (codes "NONDEFAULTRULE") clause || is_at (codes "SUBNET") clause || is_at (codes "VPIN") clause
    || is_left_out_of_wiring clause
    || (special && (is_at (codes "RECT") clause || is_at (codes "POLYGON") clause || is_at (codes "VIA") clause))

-- USE word, at most once
unfoldable pub use_clause : NetParts → Words → Option (NetParts × Words)
use_clause parts clause = do
  once ← unless (is_some parts.usage)
  start ← keyword_at (codes "USE") clause
  word ← word_at start.1
  Some (record parts { usage = Some word.0 }, word.1)

-- whether a clause names the rule of an entry: in NETS of the wide profile alone
abbrev pub is_rule_clause : Profile → Bool → Words → Bool
is_rule_clause profile special clause = is_wide profile && not special && is_at (codes "NONDEFAULTRULE") clause

-- NONDEFAULTRULE rule, at most once
unfoldable pub rule_clause : NetScopeModel → NetParts → Words → Option (NetParts × Words)
rule_clause scope parts clause = do
  once ← unless (is_some parts.rule)
  start ← keyword_at (codes "NONDEFAULTRULE") clause
  rule ← rule_at scope start.1
  Some (record parts { rule = Some rule.0 }, rule.1)

-- more wires
unfoldable pub wiring_clause : NetScopeModel → Bool → NetParts → Words → Option (NetParts × Words)
wiring_clause scope special parts clause = do
  wires ← wiring_at scope special clause
  Some (record parts { wires = parts.wires ++ wires.0 }, wires.1)

-- a clause that would change a shape or a rule, where the profile reads it: the wires of its shapes
unfoldable pub shape_clause : NetScopeModel → Bool → NetParts → Words → Option (NetParts × Words)
shape_clause scope special parts clause = do
  wires ← shape_at scope.profile scope special clause
  Some (record parts { wires = parts.wires ++ wires.0 }, wires.1)

-- the words from the next `+` on
unfoldable pub from_plus : Words → Words
from_plus [] = []
from_plus (word ∷ words) = if is_plus word then word ∷ words else from_plus words

-- another clause is read past, up to the next `+`
unfoldable pub past_clause : NetParts → Words → Option (NetParts × Words)
past_clause parts clause = do
  word ← word_at clause
  Some (parts, from_plus word.1)

-- one more clause, from the word after its `+`
unfoldable pub clause_at : NetScopeModel → Bool → NetParts → Words → Option (NetParts × Words)
clause_at scope special parts clause =
    if is_at (codes "USE") clause then use_clause parts clause
    else (if is_wiring special clause then wiring_clause scope special parts clause
    else (if is_rule_clause scope.profile special clause then rule_clause scope parts clause
    else (if is_left_out special clause then shape_clause scope special parts clause else past_clause parts clause)))

-- one more clause (43 is the plus)
unfoldable pub net_clause : NetScopeModel → Bool → NetParts → Words → Option (NetParts × Words)
net_clause scope special parts words = do
  plus ← mark_at 43 words
  clause_at scope special parts plus.1

-- all clauses, of an entry under no rule
abbrev pub plain_clauses : NetScopeModel → Bool → Words → Option (NetParts × Words)
plain_clauses scope special words = until is_over (net_clause scope special) no_net_parts words

-- Where a clause names a rule, wherever it stands, all clauses are read under it.
unfoldable pub clauses_under : NetScopeModel → Bool → Words → NetParts → Option ℕ → Option NetParts
clauses_under scope special words plain None = Some plain
clauses_under scope special words plain (Some rule) =
    plain_clauses (under_rule scope rule) special words >>= λ ruled. Some ruled.0

-- a name that no entry of the section before has, and not MUSTJOIN
unfoldable pub net_name_at : List NetModel → Words → Option (List ℕ × Words)
net_name_at nets words = do
  name ← name_at words
  new ← unless (is_keyword (codes "MUSTJOIN") name.0 || is_some (place_of name.0 (net_names nets)))
  Some name

-- - NAME terminals clauses, where these entries of the section and those of the other section came before (45 is the
-- dash)
unfoldable pub net_in : NetScopeModel → Bool → List NetModel → List NetModel → Words → Option NetModel
net_in scope special others nets statement = do
  dash ← mark_at 45 statement
  name ← net_name_at nets dash.1
  terminals ← until at_no_terminal (terminal_form scope special name.0 (nets ++ others)) [] name.1
  plain ← plain_clauses scope special terminals.1
  parts ← clauses_under scope special terminals.1 plain.0 plain.0.rule
  Some (record { name = name.0; usage = parts.usage; terminals = terminals.0; wires = parts.wires })

-- no more terminals, and no more wires, than there may be
abbrev pub are_too_many : List NetModel → List NetModel → Bool
are_too_many others nets =
    nat_lt PART_LIMIT (terminal_count nets + terminal_count others)
    || nat_lt PART_LIMIT (wire_count nets + wire_count others)

-- one more entry
unfoldable pub net_entry : NetScopeModel → Bool → List NetModel → List NetModel → Words → Option (List NetModel × Words)
net_entry scope special others nets words = do
  room ← unless (nat_le ENTRY_LIMIT (length nets + length others))
  statement ← statement_at words
  net ← net_in scope special others nets statement.0
  few ← unless (are_too_many others (nets ++ net ∷ []))
  Some (nets ++ net ∷ [], statement.1)

-- NETS number ; entries END NETS, or the same with SPECIALNETS, where the other section has these entries
unfoldable pub nets_at : NetScopeModel → Bool → List NetModel → Words → Option (List NetModel × Words)
nets_at scope special others words = section_at (net_section special) (net_entry scope special others) [] words
