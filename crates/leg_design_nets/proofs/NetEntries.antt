-- Entries of nets: that each pair of parentheses and each entry takes a word, what a new name is, and how many parts
-- there are.
use Rattle.std.proofs.Common.{◌≡◌, ℕ, suc, ◌+◌, ◌<◌, ◌≤◌, nat_lt, nat_le, Bool, true, false, ◌&&◌, ◌||◌, if◌then◌else◌, List, [], ◌∷◌, ◌++◌, length, get_or, drop, None, Some, is_some, codes, refl, arith}
use Rattle.std.proofs.lemmas.Bool.{or_parts}
use Rattle.std.proofs.lemmas.Bool.Decides.{nat_tests}
use Rattle.std.proofs.lemmas.List.{get_or_default}
use Rattle.leg_lemmas.proofs.Options.{none_is}
use Rattle.leg_lex.specs.Words.{Words, is_keyword, is_at}
use Rattle.leg_lex.specs.Until.{until, over}
use Rattle.leg_lex.specs.NameLookup.{place_of}
use Rattle.leg_lex.proofs.Until.{Below, Shortens, below_some, below_bind, below_ask, below_if, below_more}
use Rattle.leg_lex.proofs.Until as loops
use Rattle.leg_lex.proofs.EachElement.{over_ends, over_goes_on, over_fails}
use Rattle.leg_lex.proofs.Shorter.{mark_below, keyword_below, name_below}
use Rattle.leg_lex.proofs.Statements.{statement_below}
use Rattle.leg_design_records.specs.declared.limits.TheConstants.{ENTRY_LIMIT, PART_LIMIT}
use Rattle.leg_design_records.specs.declared.records.Terminal.{Terminal}
use Rattle.leg_design_records.specs.declared.records.Terminal.TheVariants.{Comp}
use Rattle.leg_grammar.specs.Def.Guard.{unless}
use Rattle.leg_grammar.specs.Def.NetScope.{NetScopeModel}
use Rattle.leg_design_records.specs.Records.{NetModel, net_names, terminal_count, wire_count}
use Rattle.leg_grammar.specs.Def.Terminal.{pin_terminal, component_terminal, pins_of_all, one_terminal_at, all_terminals_at, past_synthesized, terminals_at, add_terminal, terminal_form, at_no_terminal}
use Rattle.leg_grammar.specs.Def.Net.{net_in, are_too_many, net_entry}
use Rattle.leg_design_nets.proofs.ListedNets.{terminals_more, wires_more}

one_terminal_below : (scope : NetScopeModel) (words : Words) → Below (length words) (one_terminal_at scope words)
unfolding one_terminal_at
one_terminal_below scope words =
    below_bind (omega arith) (name_below words) (λ component less.
    below_bind (omega arith) (name_below component.1) (λ name fewer.
    below_ask (if is_keyword (codes "PIN") component.0 then pin_terminal scope name.0 else component_terminal scope component.0 name.0) (λ terminal.
    below_some (terminal ∷ []) name.1 fewer)))

all_terminals_below : (scope : NetScopeModel) (words : Words) → Below (length words) (all_terminals_at scope words)
unfolding all_terminals_at
all_terminals_below scope words =
    below_bind (omega arith) (mark_below 42 words) (λ star less.
    below_bind (omega arith) (name_below star.1) (λ name fewer.
    below_some (pins_of_all scope.library name.0 0 scope.components) name.1 fewer))

-- SYNTHESIZED may be left out
synthesized_below : (words : Words) → Below (suc (length words)) (past_synthesized words)
unfolding past_synthesized
synthesized_below words =
    below_if (is_at (codes "+") words)
    (below_bind (omega arith) (mark_below 43 words) (λ plus less. below_more (omega arith) (keyword_below (codes "SYNTHESIZED") plus.1)))
    (below_some tt words (omega arith))

terminals_below : (scope : NetScopeModel) (special : Bool) (words : Words) → Below (length words) (terminals_at scope special words)
unfolding terminals_at
terminals_below scope special words =
    below_bind (omega arith) (mark_below 40 words) (λ open_ l.
    below_bind (omega arith)
    (below_if (special && is_at (codes "*") open_.1) (all_terminals_below scope open_.1) (one_terminal_below scope open_.1)) (λ terminals m.
    below_bind (omega arith) (synthesized_below terminals.1) (λ past n.
    below_bind (omega arith) (mark_below 41 past.1) (λ close o. below_some terminals.0 close.1 o))))

pub terminal_form_shortens : (scope : NetScopeModel) (special : Bool) (name : List ℕ) (nets : List NetModel) → Shortens (terminal_form scope special name nets)
unfolding terminal_form
terminal_form_shortens scope special name nets terminals words =
    below_bind (omega arith) (terminals_below scope special words) (λ said less.
    below_ask (over (add_terminal name nets) terminals said.0) (λ more. below_some more said.1 less))

pub terminal_form_shorter : (scope : NetScopeModel) (special : Bool) (name : List ℕ) (nets : List NetModel) (terminals more : List Terminal)
    (words rest : Words)
    → terminal_form scope special name nets terminals words ≡ Some (more, rest) → length rest < length words
terminal_form_shorter scope special name nets terminals more words rest said =
    (terminal_form_shortens scope special name nets terminals words).left more rest said

-- the loop over the terminals of a pair of parentheses, which leaves the entries before
itself : (xs : List Terminal) (i : ℕ) → i < length xs → get_or xs i (Comp 0 0) ≡ get_or xs i (get_or xs i (Comp 0 0))
itself xs i less = get_or_default xs i (Comp 0 0) (get_or xs i (Comp 0 0)) less

pub added_on : (name : List ℕ) (nets now others : List NetModel) (before next : List Terminal) (xs : List Terminal) (i : ℕ) → i < length xs → now ≡ nets
    → add_terminal name (now ++ others) before (get_or xs i (Comp 0 0)) ≡ Some next
    → over (add_terminal name (nets ++ others)) before (drop i xs) ≡ over (add_terminal name (nets ++ others)) next (drop (i + 1) xs)
added_on name nets now others before next xs i less kept said =
    over_goes_on (add_terminal name (nets ++ others)) before next xs i (get_or xs i (Comp 0 0)) less (itself xs i less) (rw (← kept) said)

pub added_fail : (name : List ℕ) (nets now others : List NetModel) (before : List Terminal) (xs : List Terminal) (i : ℕ) → i < length xs → now ≡ nets
    → add_terminal name (now ++ others) before (get_or xs i (Comp 0 0)) ≡ None → over (add_terminal name (nets ++ others)) before (drop i xs) ≡ None
added_fail name nets now others before xs i less kept said =
    over_fails (add_terminal name (nets ++ others)) before xs i (get_or xs i (Comp 0 0)) less (itself xs i less) (rw (← kept) said)

pub added_end : (name : List ℕ) (nets : List NetModel) (before : List Terminal) (xs : List Terminal) (i : ℕ) → length xs ≤ i
    → over (add_terminal name nets) before (drop i xs) ≡ Some before
added_end name nets before xs i past = over_ends (add_terminal name nets) before xs i past

-- the loop over the pairs of parentheses, which leaves the entries before
pub terminals_on : (scope : NetScopeModel) (special : Bool) (name : List ℕ) (nets now others : List NetModel) (terminals more : List Terminal)
    (words rest : Words) → now ≡ nets
    → terminal_form scope special name (now ++ others) terminals words ≡ Some (more, rest) → is_at (codes "(") words ≡ true
    → until at_no_terminal (terminal_form scope special name (nets ++ others)) terminals words
    ≡ until at_no_terminal (terminal_form scope special name (nets ++ others)) more rest
terminals_on scope special name nets now others terminals more words rest kept said there =
    loops.goes_on at_no_terminal (terminal_form scope special name (nets ++ others))
    (terminal_form_shortens scope special name (nets ++ others)) terminals more words rest (rw there refl) (rw (← kept) said)

pub terminals_fail : (scope : NetScopeModel) (special : Bool) (name : List ℕ) (nets now others : List NetModel) (terminals : List Terminal) (words : Words)
    → now ≡ nets → terminal_form scope special name (now ++ others) terminals words ≡ None → is_at (codes "(") words ≡ true
    → until at_no_terminal (terminal_form scope special name (nets ++ others)) terminals words ≡ None
terminals_fail scope special name nets now others terminals words kept said there =
    loops.fails at_no_terminal (terminal_form scope special name (nets ++ others)) terminals words (rw there refl) (rw (← kept) said)

pub terminals_end : (scope : NetScopeModel) (special : Bool) (name : List ℕ) (nets : List NetModel) (terminals : List Terminal) (words : Words)
    → is_at (codes "(") words ≡ false → until at_no_terminal (terminal_form scope special name nets) terminals words ≡ Some (terminals, words)
terminals_end scope special name nets terminals words other =
    loops.ends at_no_terminal (terminal_form scope special name nets) terminals words (rw other refl)

-- a name that isn't found is new
pub new_name : (name : List ℕ) (nets : List NetModel) → is_some (place_of name (net_names nets)) ≡ false → place_of name (net_names nets) ≡ None
new_name name nets none = none_is (place_of name (net_names nets)) none

pub net_entry_shortens : (scope : NetScopeModel) (special : Bool) (others : List NetModel) → Shortens (net_entry scope special others)
unfolding net_entry
net_entry_shortens scope special others nets words =
    below_ask (unless (nat_le ENTRY_LIMIT (length nets + length others))) (λ room.
    below_bind (omega arith) (statement_below words) (λ statement less.
    below_ask (net_in scope special others nets statement.0) (λ net.
    below_ask (unless (are_too_many others (nets ++ net ∷ []))) (λ few. below_some (nets ++ net ∷ []) statement.1 less))))

pub net_entry_shorter : (scope : NetScopeModel) (special : Bool) (others : List NetModel) (nets more : List NetModel) (words rest : Words)
    → net_entry scope special others nets words ≡ Some (more, rest) → length rest < length words
net_entry_shorter scope special others nets more words rest said = (net_entry_shortens scope special others nets words).left more rest said

-- how many parts there are with one more entry
pub too_many : (others nets : List NetModel) (net : NetModel)
    → are_too_many others (nets ++ net ∷ []) ≡ (nat_lt PART_LIMIT (terminal_count nets + length net.terminals + terminal_count others) || nat_lt PART_LIMIT
    (wire_count nets + length net.wires + wire_count others))
too_many others nets net = rw (terminals_more nets net, wires_more nets net) refl

pub few_terminals : (a b c : ℕ) (other : Bool) → (nat_lt PART_LIMIT (a + b + c) || other) ≡ false → a + b ≤ PART_LIMIT
few_terminals a b c other e =
    let few = (or_parts (nat_lt PART_LIMIT (a + b + c)) other e).0 in
    grind (arith, nat_tests, few)

pub few_wires : (a b c : ℕ) (other : Bool) → (other || nat_lt PART_LIMIT (a + b + c)) ≡ false → a + b ≤ PART_LIMIT
few_wires a b c other e =
    let few = (or_parts other (nat_lt PART_LIMIT (a + b + c)) e).1 in
    grind (arith, nat_tests, few)
