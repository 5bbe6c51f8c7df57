-- Entries of nets that are read have names of their own, terminals that are in no other net, and wires such as a DEF can
-- spell.
use Rattle.std.proofs.Common.{◌≡◌, ◌≢◌, ℕ, ◌+◌, ◌≤◌, ◌⊎◌, Bool, true, false, ◌||◌, nat_le, nat_lt, List, [], ◌∷◌, ◌++◌, length, All, AllPairs, Contains, Option, None, Some, is_some, codes, inl, inr, ⊎_elim, sym, ap, ◌∙◌, subst, arith}
use Rattle.std.proofs.lemmas.Bool.{or_parts}
use Rattle.std.proofs.lemmas.Bool.Decides.{nat_tests}
use Rattle.std.proofs.lemmas.List.{map_push, length_push}
use Rattle.std.proofs.lemmas.List.Elements.{All-nil, All-push, All-append, All-contains, Contains-append_left, Contains-append_right, Contains-append_cases, Contains-push_cases}
use Rattle.leg_lemmas.proofs.Options.{none_is}
use Rattle.leg_lex.specs.Words.{Words, is_keyword, is_name, is_at, keyword_at, mark_at, word_at}
use Rattle.leg_lex.specs.Statements.{statement_at}
use Rattle.leg_lex.specs.NameLookup.{place_of, AreApart}
use Rattle.leg_lex.proofs.NameLookup.{apart_push}
use Rattle.leg_lex.proofs.GivesAll.{until_gives}
use Rattle.leg_design_records.specs.declared.limits.TheConstants.{ENTRY_LIMIT, PART_LIMIT}
use Rattle.leg_grammar.specs.Def.Guard.{unless, is_over}
use Rattle.leg_grammar.specs.Def.NetScope.{NetScopeModel, under_rule}
use Rattle.leg_grammar.specs.Def.Terminal.{is_of_other_net, at_no_terminal, terminal_form}
use Rattle.leg_grammar.specs.Def.Wiring.{is_wiring, rule_at}
use Rattle.leg_design_records.specs.Records.{NetModel, net_names, terminal_count, wire_count}
use Rattle.leg_grammar.specs.Def.Net.{NetParts, no_net_parts, is_left_out, use_clause, is_rule_clause, rule_clause, wiring_clause, shape_clause, past_clause, clause_at, net_clause, plain_clauses, clauses_under, net_name_at, net_in, are_too_many, net_entry, nets_at}
use Rattle.leg_design_records.specs.Names.{net_section}
use Rattle.leg_design_records.specs.WellFormedParts.{IsKept}
use Rattle.leg_design_records.specs.WellFormedNets.{IsWire, AreInOneNet}
use Rattle.leg_design_common.proofs.Gives.{Gives, gives_some, gives_bind, gives_skip, gives_if, unless_gives, name_gives, word_gives, section_gives}
use Rattle.leg_design_wires.proofs.ReadPaths.{AreWires}
use Rattle.leg_design_wires.proofs.ReadWiring.{wiring_gives}
use Rattle.leg_design_wires.proofs.ReadShapes.{shape_gives}
use Rattle.leg_design_nets.proofs.TerminalsOfEntries.{of_this_net}
use Rattle.leg_design_nets.proofs.ReadTerminals.{AreKnown, AreTerminals, no_terminals, terminal_gives}

module _ (scope : NetScopeModel) (special : Bool) where
  -- an entry of what is read before the nets
  pub record IsKnownNet (net : NetModel) : Type 0 where
    pub name : is_name net.name ≡ true
    pub no_must_join : is_keyword (codes "MUSTJOIN") net.name ≡ false
    pub usage : IsKept net.usage
    pub terminals : AreKnown scope net.terminals
    pub once : AllPairs (λ t u. t ≢ u) net.terminals
    pub wires : AreWires scope special net.wires

  record AreNetParts (parts : NetParts) : Type 0 where
    usage : IsKept parts.usage
    wires : AreWires scope special parts.wires

  module _ (parts : NetParts) (clause : Words) (before : AreNetParts parts) where
    abbrev Keeps : Option (NetParts × Words) → Type 0
    Keeps said = Gives (λ (next : NetParts × Words). AreNetParts next.0) said

    use_keeps : Keeps (use_clause parts clause)
    unfolding use_clause
    use_keeps =
        gives_skip (unless (is_some parts.usage)) (λ once.
        gives_skip (keyword_at (codes "USE") clause) (λ start.
        gives_bind (word_gives start.1) (λ word plain.
        gives_some _ (record { usage = plain; wires = before.wires }))))

    rule_keeps : Keeps (rule_clause scope parts clause)
    unfolding rule_clause
    rule_keeps =
        gives_skip (unless (is_some parts.rule)) (λ once.
        gives_skip (keyword_at (codes "NONDEFAULTRULE") clause) (λ start.
        gives_skip (rule_at scope start.1) (λ rule.
        gives_some _ (record { usage = before.usage; wires = before.wires }))))

    wiring_keeps : Keeps (wiring_clause scope special parts clause)
    unfolding wiring_clause
    wiring_keeps =
        gives_bind (wiring_gives scope special clause) (λ wires more.
        gives_some _ (record { usage = before.usage; wires = All-append (IsWire scope.library scope.vias special) parts.wires wires.0 before.wires more }))

    shape_keeps : Keeps (shape_clause scope special parts clause)
    unfolding shape_clause
    shape_keeps =
        gives_bind (shape_gives scope scope.profile special clause) (λ wires more.
        gives_some _ (record { usage = before.usage; wires = All-append (IsWire scope.library scope.vias special) parts.wires wires.0 before.wires more }))

    past_keeps : Keeps (past_clause parts clause)
    unfolding past_clause
    past_keeps = gives_skip (word_at clause) (λ word. gives_some _ before)

    clause_keeps : Keeps (clause_at scope special parts clause)
    unfolding clause_at
    clause_keeps =
        gives_if (is_at (codes "USE") clause) use_keeps
        (gives_if (is_wiring special clause) wiring_keeps
        (gives_if (is_rule_clause scope.profile special clause) rule_keeps
        (gives_if (is_left_out special clause) shape_keeps past_keeps)))

  net_clause_keeps : (parts : NetParts) (words : Words) → AreNetParts parts → Gives (λ said. AreNetParts said.0) (net_clause scope special parts words)
  unfolding net_clause
  net_clause_keeps parts words before = gives_skip (mark_at 43 words) (λ plus. clause_keeps parts plus.1 before)

  plain_give : (words : Words) → Gives (λ said. AreNetParts said.0) (plain_clauses scope special words)
  plain_give words =
      until_gives AreNetParts is_over (net_clause scope special) net_clause_keeps no_net_parts words
      (record { usage = tt; wires = All-nil (IsWire scope.library scope.vias special) })

module _ (scope : NetScopeModel) (special : Bool) where
  under_gives : (words : Words) (plain : NetParts) → AreNetParts scope special plain → (rule : Option ℕ)
      → Gives (AreNetParts scope special) (clauses_under scope special words plain rule)
  unfolding clauses_under
  under_gives words plain hold None = gives_some plain hold
  under_gives words plain hold (Some rule) =
      gives_bind (plain_give (under_rule scope rule) special words) (λ ruled are. gives_some ruled.0 (record { usage = are.usage; wires = are.wires }))

  -- a name that none of the entries has
  record IsNewName (nets : List NetModel) (name : List ℕ) : Type 0 where
    named : is_name name ≡ true
    no_must_join : is_keyword (codes "MUSTJOIN") name ≡ false
    new : place_of name (net_names nets) ≡ None

  name_gives_new : (nets : List NetModel) (words : Words) → Gives (λ said. IsNewName nets said.0) (net_name_at nets words)
  unfolding net_name_at
  name_gives_new nets words =
      gives_bind (name_gives words) (λ name named.
      gives_bind (unless_gives (is_keyword (codes "MUSTJOIN") name.0 || is_some (place_of name.0 (net_names nets)))) (λ new is.
      let parts = or_parts (is_keyword (codes "MUSTJOIN") name.0) (is_some (place_of name.0 (net_names nets))) is in
      gives_some name (record { named = named; no_must_join = parts.0; new = none_is (place_of name.0 (net_names nets)) parts.1 })))

  module _ (others : List NetModel) where
    -- one more entry, beside those of the section and the others
    record IsNewNet (nets : List NetModel) (net : NetModel) : Type 0 where
      is : IsKnownNet scope special net
      new : place_of net.name (net_names nets) ≡ None
      alone : All (λ t. is_of_other_net net.name t (nets ++ others) ≡ false) net.terminals

    net_gives : (nets : List NetModel) (statement : Words) → Gives (IsNewNet nets) (net_in scope special others nets statement)
    unfolding net_in
    net_gives nets statement =
        gives_skip (mark_at 45 statement) (λ dash.
        gives_bind (name_gives_new nets dash.1) (λ name new.
        gives_bind (until_gives (AreTerminals scope name.0 (nets ++ others)) at_no_terminal (terminal_form scope special name.0 (nets ++ others))
        (terminal_gives scope special name.0 (nets ++ others)) [] name.1 (no_terminals scope name.0 (nets ++ others))) (λ terminals are.
        gives_bind (plain_give scope special terminals.1) (λ plain said.
        gives_bind (under_gives terminals.1 plain.0 said plain.0.rule) (λ parts hold.
        gives_some _ (record {
          is = record { name = new.named; no_must_join = new.no_must_join; usage = hold.usage; terminals = are.each; once = are.once; wires = hold.wires };
          new = new.new;
          alone = are.alone;
        }))))))

    -- the entries of the section so far, beside the others
    pub record AreEntries (nets : List NetModel) : Type 0 where
      pub each : All (IsKnownNet scope special) nets
      pub apart : AreApart (net_names nets)
      pub one_net : AreInOneNet (nets ++ others)
      pub few : length nets + length others ≤ ENTRY_LIMIT
      pub few_wires : wire_count nets + wire_count others ≤ PART_LIMIT

    old_or_new : (nets : List NetModel) (net a : NetModel) → Contains ((nets ++ net ∷ []) ++ others) a → Contains (nets ++ others) a ⊎ (net ≡ a)
    old_or_new nets net a there =
        ⊎_elim (λ here. ⊎_elim (λ old. inl (Contains-append_left nets others a old)) (λ new. inr new) (Contains-push_cases nets net a here))
        (λ other. inl (Contains-append_right nets others a other))
        (Contains-append_cases (nets ++ net ∷ []) others a there)

    still_one_net : (nets : List NetModel) (net : NetModel) → AreInOneNet (nets ++ others) → IsNewNet nets net → AreInOneNet ((nets ++ net ∷ []) ++ others)
    still_one_net nets net before new a b t in_a in_b lists_a lists_b =
        ⊎_elim
        (λ old_a. ⊎_elim (λ old_b. before a b t old_a old_b lists_a lists_b) (λ new_b. named a b new_b old_a lists_a lists_b) (old_or_new nets net b in_b))
        (λ new_a. ⊎_elim (λ old_b. sym (named b a new_a old_b lists_b lists_a)) (λ new_b. ap (λ (n : NetModel). n.name) (sym new_a ∙ new_b))
        (old_or_new nets net b in_b))
        (old_or_new nets net a in_a) where
          named : (old is : NetModel) → net ≡ is → Contains (nets ++ others) old → Contains old.terminals t → Contains is.terminals t → old.name ≡ is.name
          named old is same there lists lists_too =
              let listed : Contains net.terminals t = subst (λ (n : NetModel). Contains n.terminals t) (sym same) lists_too in
              let alone = All-contains (λ u. is_of_other_net net.name u (nets ++ others) ≡ false) net.terminals t new.alone listed in
              of_this_net net.name t (nets ++ others) old alone there lists ∙ ap (λ (n : NetModel). n.name) same

    with_net : (nets : List NetModel) (net : NetModel) → AreEntries nets → nat_le ENTRY_LIMIT (length nets + length others) ≡ false → IsNewNet nets net
        → are_too_many others (nets ++ net ∷ []) ≡ false → AreEntries (nets ++ net ∷ [])
    with_net nets net before room new few =
        let parts =
        or_parts (nat_lt PART_LIMIT (terminal_count (nets ++ net ∷ []) + terminal_count others))
        (nat_lt PART_LIMIT (wire_count (nets ++ net ∷ []) + wire_count others)) few in
        let wires = parts.1 in
        record {
          each = All-push (IsKnownNet scope special) nets net before.each new.is;
          apart = rw (map_push (λ (n : NetModel). n.name) nets net) (apart_push net.name (net_names nets) new.new before.apart);
          one_net = still_one_net nets net before.one_net new;
          few = rw (length_push nets net) (grind (arith, nat_tests));
          few_wires = grind (arith, nat_tests);
        }

    entry_gives : (nets : List NetModel) (words : Words) → AreEntries nets → Gives (λ said. AreEntries said.0) (net_entry scope special others nets words)
    unfolding net_entry
    entry_gives nets words before =
        gives_bind (unless_gives (nat_le ENTRY_LIMIT (length nets + length others))) (λ free room.
        gives_skip (statement_at words) (λ statement.
        gives_bind (net_gives nets statement.0) (λ net new.
        gives_bind (unless_gives (are_too_many others (nets ++ net ∷ []))) (λ few is.
        gives_some _ (with_net nets net before room new is)))))

    -- The entries of a section, beside the others.
    pub nets_give : AreEntries [] → (words : Words) → Gives (λ said. AreEntries said.0) (nets_at scope special others words)
    unfolding nets_at
    nets_give none words =
        section_gives AreEntries (net_section special) (net_entry scope special others) entry_gives [] words none
