-- Clauses of nets: where the next one begins, and that each takes a word.
use Rattle.std.proofs.Common.{◌≡◌, ℕ, ◌+◌, ◌<◌, nat_lt, Bool, true, false, ◌==◌, List, [], ◌∷◌, ◌++◌, length, None, Some, is_some, codes, if◌then◌else◌, refl, sym, ◌∙◌, arith}
use Rattle.std.specs.Char.{to_ascii_lowercase}
use Rattle.std.proofs.lemmas.Bool.Decides.{nat_tests}
use Rattle.leg_lex.specs.Words.{Words, is_keyword, is_at, next_at}
use Rattle.leg_lex.specs.Statements.{is_plus}
use Rattle.leg_lex.specs.Until.{until}
use Rattle.leg_lex.proofs.Until.{Below, Shortens, below_some, below_bind, below_ask, below_if, below_more}
use Rattle.leg_lex.proofs.Until as loops
use Rattle.leg_lex.proofs.Parts.{rest_is}
use Rattle.leg_lex.proofs.Shorter.{mark_below, keyword_below, word_below}
use Rattle.leg_grammar.specs.Def.Guard.{unless, is_over}
use Rattle.leg_grammar.specs.Def.NetScope.{NetScopeModel}
use Rattle.leg_grammar.specs.Def.Wiring.{is_wiring}
use Rattle.leg_grammar.specs.Def.Net.{NetParts, is_left_out, use_clause, is_rule_clause, rule_clause, wiring_clause, shape_clause, from_plus, past_clause, clause_at, net_clause}
use Rattle.leg_design_common.proofs.Guards.{over_is, not_over_is}
use Rattle.leg_design_wires.proofs.Wirings.{rule_below, wiring_below}
use Rattle.leg_design_wires.proofs.SpecialShapes.{shape_below}

-- a plus has no capitals
lower_plus : (b : ℕ) → (to_ascii_lowercase b == 43) ≡ (b == 43)
lower_plus b = by (nat_lt b 65) refl (nat_lt b 91) refl where
  by : (small : Bool) → nat_lt b 65 ≡ small → (letter : Bool) → nat_lt b 91 ≡ letter → (to_ascii_lowercase b == 43) ≡ (b == 43)
  by true s letter l = rw s refl
  by false s true l =
      let lower : (b + 32 == 43) ≡ false = grind (arith, nat_tests) in
      let upper : (b == 43) ≡ false = grind (arith, nat_tests) in
      rw (s, l, lower, upper) refl
  by false s false l = rw (s, l) refl

pub plus_is : (word : List ℕ) → is_keyword (codes "+") word ≡ is_plus word
plus_is [] = refl
plus_is (b ∷ []) = rw (lower_plus b) refl
plus_is (b ∷ c ∷ bytes) = rw (lower_plus b) refl

-- a word that is no plus,
pub from_plus_on : (words : Words) (word : List ℕ) (rest : Words) → is_at (codes "+") words ≡ false → next_at words ≡ Some (word, rest)
    → from_plus words ≡ from_plus rest
unfolding from_plus next_at
from_plus_on [] word rest other said = absurd (let e : ⊥ = cc in e)
from_plus_on (first ∷ words) word rest other said =
    let no_plus : is_plus first ≡ false = sym (plus_is first) ∙ other in
    let left : words ≡ rest = rest_is first word words rest said in
    rw (no_plus, left) refl

-- a plus,
pub from_plus_here : (words : Words) → is_at (codes "+") words ≡ true → from_plus words ≡ words
unfolding from_plus
from_plus_here [] there = refl
from_plus_here (first ∷ words) there =
    let plus : is_plus first ≡ true = sym (plus_is first) ∙ there in
    rw plus refl

-- and no word
pub from_plus_all : (words : Words) → words ≡ [] → from_plus words ≡ words
unfolding from_plus
from_plus_all words none = rw none refl

pub surely_next : (words : Words) → (words ≡ [] → ⊥) → next_at words ≡ None → ⊥
unfolding next_at
surely_next [] some said = some refl
surely_next (word ∷ words) some said = let e : ⊥ = cc in e

from_plus_no_longer : (words : Words) (n : ℕ) → length words < n → length (from_plus words) < n
unfolding from_plus
from_plus_no_longer [] n less = less
from_plus_no_longer (word ∷ words) n less =
    either (is_plus word) (word ∷ words) (from_plus words) n less (from_plus_no_longer words n (omega arith)) where
      either : (test : Bool) (a b : Words) (n : ℕ) → length a < n → length b < n → length (if test then a else b) < n
      either true a b n one other = one
      either false a b n one other = other

use_clause_below : (parts : NetParts) (clause : Words) → Below (length clause) (use_clause parts clause)
unfolding use_clause
use_clause_below parts clause =
    below_ask (unless (is_some parts.usage)) (λ once.
    below_bind (omega arith) (keyword_below (codes "USE") clause) (λ start less.
    below_bind (omega arith) (word_below start.1) (λ word fewer. below_some (record parts { usage = Some word.0 }) word.1 fewer)))

rule_clause_below : (scope : NetScopeModel) (parts : NetParts) (clause : Words) → Below (length clause) (rule_clause scope parts clause)
unfolding rule_clause
rule_clause_below scope parts clause =
    below_ask (unless (is_some parts.rule)) (λ once.
    below_bind (omega arith) (keyword_below (codes "NONDEFAULTRULE") clause) (λ start less.
    below_bind (omega arith) (rule_below scope start.1) (λ rule fewer. below_some (record parts { rule = Some rule.0 }) rule.1 fewer)))

wiring_clause_below : (scope : NetScopeModel) (special : Bool) (parts : NetParts) (clause : Words)
    → Below (length clause) (wiring_clause scope special parts clause)
unfolding wiring_clause
wiring_clause_below scope special parts clause =
    below_bind (omega arith) (wiring_below scope special clause) (λ wires less.
    below_some (record parts { wires = parts.wires ++ wires.0 }) wires.1 less)

shape_clause_below : (scope : NetScopeModel) (special : Bool) (parts : NetParts) (clause : Words)
    → Below (length clause) (shape_clause scope special parts clause)
unfolding shape_clause
shape_clause_below scope special parts clause =
    below_bind (omega arith) (shape_below scope.profile scope special clause) (λ wires less.
    below_some (record parts { wires = parts.wires ++ wires.0 }) wires.1 less)

past_clause_below : (parts : NetParts) (clause : Words) → Below (length clause) (past_clause parts clause)
unfolding past_clause
past_clause_below parts clause =
    below_bind (omega arith) (word_below clause) (λ word less.
    below_some parts (from_plus word.1) (from_plus_no_longer word.1 (length clause) less))

clause_below : (scope : NetScopeModel) (special : Bool) (parts : NetParts) (clause : Words) → Below (length clause) (clause_at scope special parts clause)
unfolding clause_at
clause_below scope special parts clause =
    below_if (is_at (codes "USE") clause) (use_clause_below parts clause)
    (below_if (is_wiring special clause) (wiring_clause_below scope special parts clause)
    (below_if (is_rule_clause scope.profile special clause) (rule_clause_below scope parts clause)
    (below_if (is_left_out special clause) (shape_clause_below scope special parts clause) (past_clause_below parts clause))))

pub net_clause_shortens : (scope : NetScopeModel) (special : Bool) → Shortens (net_clause scope special)
unfolding net_clause
net_clause_shortens scope special parts words =
    below_bind (omega arith) (mark_below 43 words) (λ plus less.
    below_more (omega arith) (clause_below scope special parts plus.1))

pub net_clause_shorter : (scope : NetScopeModel) (special : Bool) (parts more : NetParts) (words rest : Words)
    → net_clause scope special parts words ≡ Some (more, rest) → length rest < length words
net_clause_shorter scope special parts more words rest said = (net_clause_shortens scope special parts words).left more rest said

-- the loop over the clauses
pub clauses_on : (scope : NetScopeModel) (special : Bool) (parts more : NetParts) (words rest : Words)
    → net_clause scope special parts words ≡ Some (more, rest)
    → (words ≡ [] → ⊥) → until is_over (net_clause scope special) parts words ≡ until is_over (net_clause scope special) more rest
clauses_on scope special parts more words rest said some =
    loops.goes_on is_over (net_clause scope special) (net_clause_shortens scope special) parts more words rest (not_over_is words some) said

pub clauses_end : (scope : NetScopeModel) (special : Bool) (parts : NetParts) (words : Words) → words ≡ []
    → until is_over (net_clause scope special) parts words ≡ Some (parts, words)
clauses_end scope special parts words none = loops.ends is_over (net_clause scope special) parts words (over_is words none)

pub clauses_fail : (scope : NetScopeModel) (special : Bool) (parts : NetParts) (words : Words) → net_clause scope special parts words ≡ None → (words ≡ [] → ⊥)
    → until is_over (net_clause scope special) parts words ≡ None
clauses_fail scope special parts words said some =
    loops.fails is_over (net_clause scope special) parts words (not_over_is words some) said
