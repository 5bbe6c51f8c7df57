-- What entries of NETS and SPECIALNETS say in the narrow profile they say in each.
use Rattle.std.proofs.Common.{◌≡◌, ℕ, ◌+◌, Bool, true, not, ◌&&◌, if◌then◌else◌, List, [], ◌∷◌, ◌++◌, length, suc, Option, None, Some, is_some, codes, refl}
use Rattle.std.proofs.lemmas.Bool.{and_parts}
use Rattle.std.specs.Prelude.{nat_le}
use Rattle.leg_lex.specs.Words.{Words, is_at, keyword_at, mark_at, word_at}
use Rattle.leg_lex.proofs.Gives.{Gives, gives_none, gives_some, gives_skip, gives_if}
use Rattle.leg_lex.proofs.GivesAll.{until_gives}
use Rattle.leg_lex.specs.Statements.{statement_at}
use Rattle.leg_design_records.specs.declared.limits.TheConstants.{ENTRY_LIMIT}
use Rattle.leg_design_records.specs.declared.records.Terminal.{Terminal}
use Rattle.leg_design_records.specs.Records.{NetModel}
use Rattle.leg_design_records.specs.Names.{net_section}
use Rattle.leg_lib_records.specs.Records.{RuleModel}
use Rattle.leg_grammar.specs.declared.profile.Profile.{Profile}
use Rattle.leg_grammar.specs.declared.profile.Profile.TheVariants.{Narrow, Wide}
use Rattle.leg_grammar.specs.Def.Guard.{unless, is_over}
use Rattle.leg_grammar.specs.Def.NetScope.{NetScopeModel}
use Rattle.leg_grammar.specs.Def.Terminal.{one_terminal_at, all_terminals_at, terminals_at, terminal_form, at_no_terminal}
use Rattle.leg_grammar.specs.Def.Wiring.{is_wiring, wiring_at}
use Rattle.leg_grammar.specs.Def.SpecialShape.{shape_at}
use Rattle.leg_grammar.specs.Def.Net.{NetParts, no_net_parts, use_clause, is_rule_clause, rule_clause, wiring_clause, shape_clause, is_left_out, past_clause, clause_at, net_clause, plain_clauses, clauses_under, net_name_at, net_in, are_too_many, net_entry, nets_at}
use Rattle.leg_profile_laws.proofs.Keeps.{Keeps, keeps_none, keeps_itself, keeps_known, keeps_bind, keeps_if, keeps_new, steps_keep}
use Rattle.leg_profile_laws.proofs.Sections.{section_keeps}
use Rattle.leg_profile_laws.proofs.Scopes.{read_as}
use Rattle.leg_profile_laws.proofs.SamePaths.{wiring_keeps}

module _ (scope : NetScopeModel) (rules : List RuleModel) (profile : Profile) (special : Bool) where
  abbrev narrow : NetScopeModel
  narrow = read_as Narrow [] scope

  abbrev other : NetScopeModel
  other = read_as profile rules scope

  wiring_same : (parts : NetParts) (clause : Words) → Keeps (wiring_clause narrow special parts clause) (wiring_clause other special parts clause)
  unfolding wiring_clause
  wiring_same parts clause =
      keeps_bind (wiring_keeps scope rules special profile clause) (λ wires. keeps_itself (Some (record parts { wires = parts.wires ++ wires.0 }, wires.1)))

  shape_same : (parts : NetParts) (clause : Words) → Keeps (shape_clause narrow special parts clause) (shape_clause other special parts clause)
  unfolding shape_clause shape_at
  shape_same parts clause = keeps_none (shape_clause other special parts clause)

  other_same : (parts : NetParts) (clause : Words)
      → Keeps (if is_left_out special clause then shape_clause narrow special parts clause else past_clause parts clause)
      (if is_left_out special clause then shape_clause other special parts clause else past_clause parts clause)
  other_same parts clause = keeps_if (is_left_out special clause) (shape_same parts clause) (keeps_itself (past_clause parts clause))

  -- what names a rule is left out where no rule is known
  rule_is_left_out : (parts : NetParts) (clause : Words) → is_at (codes "NONDEFAULTRULE") clause ≡ true
      → (if is_left_out special clause then shape_clause narrow special parts clause else past_clause parts clause) ≡ None
  unfolding shape_clause shape_at
  rule_is_left_out parts clause there = rw there refl

  rule_same : (parts : NetParts) (clause : Words) (of : Profile)
      → Keeps (if is_left_out special clause then shape_clause narrow special parts clause else past_clause parts clause)
      (if is_rule_clause of special clause then rule_clause other parts clause
      else (if is_left_out special clause then shape_clause other special parts clause else past_clause parts clause))
  rule_same parts clause Narrow = other_same parts clause
  rule_same parts clause (Wide masks soft) =
      keeps_new (not special && is_at (codes "NONDEFAULTRULE") clause) (rule_clause other parts clause)
      (λ test. rule_is_left_out parts clause ((and_parts (not special) (is_at (codes "NONDEFAULTRULE") clause) test).1)) (other_same parts clause)

  clause_same : (parts : NetParts) (clause : Words) → Keeps (clause_at narrow special parts clause) (clause_at other special parts clause)
  unfolding clause_at
  clause_same parts clause =
      keeps_if (is_at (codes "USE") clause) (keeps_itself (use_clause parts clause))
      (keeps_if (is_wiring special clause) (wiring_same parts clause)
      (rule_same parts clause profile))

  net_clause_same : (parts : NetParts) (words : Words) → Keeps (net_clause narrow special parts words) (net_clause other special parts words)
  unfolding net_clause
  net_clause_same parts words = keeps_bind (keeps_itself (mark_at 43 words)) (λ plus. clause_same parts plus.1)

  -- in the narrow profile no clause names a rule
  clause_gives : (parts : NetParts) (clause : Words) → parts.rule ≡ None
      → Gives (λ (said : NetParts × Words). said.0.rule ≡ None) (clause_at narrow special parts clause)
  unfolding clause_at use_clause wiring_clause shape_clause shape_at past_clause
  clause_gives parts clause none =
      gives_if (is_at (codes "USE") clause)
      (gives_skip (unless (is_some parts.usage)) (λ once.
      gives_skip (keyword_at (codes "USE") clause) (λ start.
      gives_skip (word_at start.1) (λ word. gives_some _ none))))
      (gives_if (is_wiring special clause) (gives_skip (wiring_at narrow special clause) (λ wires. gives_some _ none))
      (gives_if (is_left_out special clause) gives_none (gives_skip (word_at clause) (λ word. gives_some _ none))))

  net_clause_gives : (parts : NetParts) (words : Words) → parts.rule ≡ None
      → Gives (λ (said : NetParts × Words). said.0.rule ≡ None) (net_clause narrow special parts words)
  unfolding net_clause
  net_clause_gives parts words none = gives_skip (mark_at 43 words) (λ plus. clause_gives parts plus.1 none)

  plain_gives : (words : Words) → Gives (λ (said : NetParts × Words). said.0.rule ≡ None) (plain_clauses narrow special words)
  plain_gives words =
      until_gives (λ (parts : NetParts). parts.rule ≡ None) is_over (net_clause narrow special) net_clause_gives no_net_parts words refl

  under_same : (words : Words) (plain : NetParts) (rule : Option ℕ) → rule ≡ None
      → Keeps (clauses_under narrow special words plain rule) (clauses_under other special words plain rule)
  unfolding clauses_under
  under_same words plain None none = keeps_itself (Some plain)
  under_same words plain (Some rule) none = absurd (let e : ⊥ = cc in e)

  terminals_same : (name : List ℕ) (nets : List NetModel) (terminals : List Terminal) (words : Words)
      → Keeps (terminal_form narrow special name nets terminals words) (terminal_form other special name nets terminals words)
  unfolding terminal_form terminals_at one_terminal_at all_terminals_at
  terminals_same name nets terminals words = keeps_itself (terminal_form narrow special name nets terminals words)

  net_same : (others nets : List NetModel) (statement : Words)
      → Keeps (net_in narrow special others nets statement) (net_in other special others nets statement)
  unfolding net_in
  net_same others nets statement =
      keeps_bind (keeps_itself (mark_at 45 statement)) (λ dash.
      keeps_bind (keeps_itself (net_name_at nets dash.1)) (λ name.
      keeps_bind (steps_keep at_no_terminal (terminal_form narrow special name.0 (nets ++ others)) (terminal_form other special name.0 (nets ++ others))
      (terminals_same name.0 (nets ++ others)) (suc (length name.1)) [] name.1) (λ terminals.
      keeps_known (steps_keep is_over (net_clause narrow special) (net_clause other special) net_clause_same (suc (length terminals.1)) no_net_parts
      terminals.1) (plain_gives terminals.1) (λ plain none.
      keeps_bind (under_same terminals.1 plain.0 plain.0.rule none) (λ parts.
      keeps_itself (Some (record { name = name.0; usage = parts.usage; terminals = terminals.0; wires = parts.wires })))))))

  entry_same : (others nets : List NetModel) (words : Words) → Keeps (net_entry narrow special others nets words) (net_entry other special others nets words)
  unfolding net_entry
  entry_same others nets words =
      keeps_bind (keeps_itself (unless (nat_le ENTRY_LIMIT (length nets + length others)))) (λ room.
      keeps_bind (keeps_itself (statement_at words)) (λ statement.
      keeps_bind (net_same others nets statement.0) (λ net.
      keeps_bind (keeps_itself (unless (are_too_many others (nets ++ net ∷ [])))) (λ few.
      keeps_itself (Some (nets ++ net ∷ [], statement.1))))))

  -- What a section of nets says in the narrow profile.
  pub nets_keep : (others : List NetModel) (words : Words) → Keeps (nets_at narrow special others words) (nets_at other special others words)
  unfolding nets_at
  nets_keep others words =
      section_keeps (net_section special) (net_entry narrow special others) (net_entry other special others) (entry_same others) [] words
