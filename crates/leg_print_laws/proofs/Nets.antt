-- The entry of a net is read as the net, and the section as all of them.
use Rattle.std.proofs.Common.{◌≡◌, ℕ, ◌+◌, ◌<◌, ◌≤◌, ◌⊎◌, inl, inr, Bool, true, false, List, [], ◌∷◌, ◌++◌, All, Contains, length, get_or, Option, None, Some, codes, refl, sym, ap, ◌∙◌, subst, arith}
use Rattle.std.specs.List.{list_all, flat_map}
use Rattle.std.proofs.lemmas.List.{append_assoc}
use Rattle.std.proofs.lemmas.List.Elements.{Contains-append_left, Contains-append_right, Contains-append_cases}
use Rattle.std.proofs.Math.Seq.{get_or-append_seam}
use Rattle.leg_lex.specs.declared.limits.TheConstants.{NUMBER_LIMIT}
use Rattle.leg_lex.specs.Words.{Words, next_at, keyword_at, mark_at, name_at, word_at}
use Rattle.leg_lex.specs.NameLookup.{place_of, AreApart}
use Rattle.leg_lex.specs.Until.{steps, until}
use Rattle.leg_lex.specs.Statements.{at_end}
use Rattle.leg_output.specs.Words.{stays_one, spaced, words_in_lines}
use Rattle.leg_print_words.proofs.LeadingBlanks.{Behind, printable_is_one, behind_spaced, behind_append, first_passes, others_pass}
use Rattle.leg_print_words.proofs.Lines.{Lines, lines_statement, further_lines}
use Rattle.leg_lib_records.specs.Sound.{IsSound}
use Rattle.leg_design_records.specs.declared.limits.TheConstants.{ENTRY_LIMIT, PART_LIMIT}
use Rattle.leg_design_records.specs.declared.records.Terminal.{Terminal}
use Rattle.leg_design_records.specs.declared.records.Wire.{Wire}
use Rattle.leg_design_records.specs.Records.{DesignModel, NetModel, net_names, terminal_count, wire_count}
use Rattle.leg_design_records.specs.WellFormedParts.{IsKept, AreVias, AreComponents, ArePins}
use Rattle.leg_design_records.specs.WellFormedNets.{IsWire, IsNet, AreNets, AreInOneNet}
use Rattle.leg_grammar.specs.declared.profile.Profile.TheVariants.{Narrow}
use Rattle.leg_grammar.specs.Def.Guard.{is_over}
use Rattle.leg_grammar.specs.Def.Terminal.{at_no_terminal}
use Rattle.leg_grammar.specs.Def.Net.{NetParts, no_net_parts, use_clause, wiring_clause, clause_at, net_clause, clauses_under, net_name_at, net_in, are_too_many, net_entry, nets_at}
use Rattle.leg_grammar.specs.Def.Parts.{net_scope}
use Rattle.leg_design_nets.proofs.NetEntries.{net_entry_shortens}
use Rattle.leg_output.specs.Text.Clauses.{clause_words, kept_clause}
use Rattle.leg_output.specs.Text.Nets.{terminal_words, net_head, wiring_lines, net_said, net_words, net_text, wire_line}
use Rattle.leg_output.specs.Text.Whole.{nets_text}
use Rattle.leg_design_records.specs.Names.{net_section}
use Rattle.leg_print_laws.proofs.Tests.{room_is, not_above}
use Rattle.leg_print_laws.specs.PrintedNames.{StayOne, kept_words, terminal_names, wire_names, net_entry_names}
use Rattle.leg_print_laws.specs.Forms.{DenotesForm}
use Rattle.leg_print_laws.proofs.FreeWords.{AreInside, IsFree, free_literal, free_name, free_word, inside_nil, inside_cons, inside_append, inside_each}
use Rattle.leg_print_laws.proofs.Again.{said_again}
use Rattle.leg_print_laws.proofs.NumberedNames.{not_before, middle, fewer_before, within, each_passes, first_run_passes, next_run_passes}
use Rattle.leg_print_laws.proofs.WireWords.{wiring_again, wires_inside}
use Rattle.leg_print_laws.proofs.Terminals.{terminals_again, terminal_free}
use Rattle.leg_print_laws.proofs.Sections.{section_words, section_again, section_lines}
use Rattle.leg_print_laws.proofs.PrintableWords.{lines_say}

-- What is known of the design whose nets are printed.
pub record HasParts (design : DesignModel) : Type 0 where
  pub sound : IsSound design.library
  pub vias : AreVias design.library design.vias
  pub components : AreComponents design.library design.components
  pub pins : ArePins design.library design.pins

abbrev parts_of : Option (List ℕ) → List Wire → NetParts
parts_of usage wires = record { usage = usage; wires = wires; rule = None }

module _ (design : DesignModel) (has : HasParts design) (special : Bool) where
  -- what stands behind the terminals: USE and the wires
  abbrev clauses : Option (List ℕ) → List Wire → Words
  clauses usage wires = clause_words (kept_clause (codes "USE") usage) ++ words_in_lines (wiring_lines design special wires)

  no_more_terminals : (usage : Option (List ℕ)) (wires : List Wire) → at_no_terminal (clauses usage wires) ≡ true
  no_more_terminals None [] = refl
  no_more_terminals None (wire ∷ wires) = refl
  no_more_terminals (Some word) wires = refl

  clauses_again : (usage : Option (List ℕ)) (wires : List Wire) → IsKept usage → All (IsWire design.library design.vias special) wires
      → until is_over (net_clause (net_scope Narrow design) special) no_net_parts (clauses usage wires) ≡ Some (parts_of usage wires, [])
  unfolding steps net_clause clause_at use_clause wiring_clause keyword_at mark_at word_at next_at
  clauses_again None [] kept each = refl
  clauses_again None (wire ∷ wires) kept each = rw (wiring_again design has.sound has.vias special wire wires each) refl
  clauses_again (Some word) [] kept each = rw kept refl
  clauses_again (Some word) (wire ∷ wires) kept each = rw (kept, wiring_again design has.sound has.vias special wire wires each) refl

  module _ (net : NetModel) (is : IsNet design special net) where
    net_in_again : (nets others : List NetModel) → place_of net.name (net_names nets) ≡ None
        → ((other : NetModel) (t : Terminal) → Contains (nets ++ others) other → Contains other.terminals t → Contains net.terminals t → other.name ≡ net.name)
        → net_in (net_scope Narrow design) special others nets (net_said design special net) ≡ Some net
    unfolding net_in clauses_under net_name_at mark_at name_at next_at
    net_in_again nets others new own =
        let terminals = flat_map (terminal_words design) net.terminals in
        let usage = clause_words (kept_clause (codes "USE") net.usage) in
        let wires = words_in_lines (wiring_lines design special net.wires) in
        rw (
          is.name,
          is.no_must_join,
          new,
          append_assoc terminals usage wires,
          terminals_again design has.sound has.components has.pins special net.name (nets ++ others) net.terminals
              (clauses net.usage net.wires) is.terminals is.once own (no_more_terminals net.usage net.wires),
          clauses_again net.usage net.wires is.usage is.wires,
        ) refl

    module _ (one : StayOne (net_entry_names design net)) where
      front_one : list_all stays_one (net.name ∷ kept_words net.usage ++ flat_map (terminal_names design) net.terminals) ≡ true
      front_one =
          first_run_passes stays_one (net.name ∷ kept_words net.usage ++ flat_map (terminal_names design) net.terminals)
          (flat_map (wire_names design) net.wires) one

      more_one : list_all stays_one (kept_words net.usage ++ flat_map (terminal_names design) net.terminals) ≡ true
      more_one = others_pass stays_one net.name (kept_words net.usage ++ flat_map (terminal_names design) net.terminals) front_one

      terminals_inside : AreInside (flat_map (terminal_words design) net.terminals)
      terminals_inside =
          inside_each (terminal_words design) net.terminals (λ k d less.
          (terminal_free design has.sound has.components has.pins (get_or net.terminals k d) (is.terminals k d less)
          (each_passes stays_one (terminal_names design) net.terminals
          (next_run_passes stays_one (kept_words net.usage) (flat_map (terminal_names design) net.terminals) more_one) k d less)).inside)

      usage_inside : (usage : Option (List ℕ)) → IsKept usage → list_all stays_one (kept_words usage) ≡ true
          → AreInside (clause_words (kept_clause (codes "USE") usage))
      usage_inside None kept stays = inside_nil
      usage_inside (Some word) kept stays =
          inside_cons (record { printable = refl; semicolon = refl }) (inside_cons (record { printable = refl; semicolon = refl })
          (inside_cons (free_word word kept (first_passes stays_one word [] stays)).inside inside_nil))

      head_inside : AreInside (net_head design net)
      head_inside =
          inside_append (inside_cons (free_name net.name is.name
          (first_passes stays_one net.name (kept_words net.usage ++ flat_map (terminal_names design) net.terminals) front_one)).inside terminals_inside)
          (usage_inside net.usage is.usage (first_run_passes stays_one (kept_words net.usage) (flat_map (terminal_names design) net.terminals) more_one))

      wiring_inside : AreInside (words_in_lines (wiring_lines design special net.wires))
      wiring_inside =
          wires_inside design has.sound has.vias special net.wires is.wires
          (next_run_passes stays_one (net.name ∷ kept_words net.usage ++ flat_map (terminal_names design) net.terminals)
          (flat_map (wire_names design) net.wires) one)

      net_inside : AreInside (net_said design special net)
      net_inside = inside_append (inside_cons (record { printable = refl; semicolon = refl }) head_inside) wiring_inside

      pub net_again : (nets others : List NetModel) → length nets + length others < ENTRY_LIMIT → place_of net.name (net_names nets) ≡ None
          → ((other : NetModel) (t : Terminal) → Contains (nets ++ others) other → Contains other.terminals t → Contains net.terminals t
          → other.name ≡ net.name)
          → are_too_many others (nets ++ net ∷ []) ≡ false
          → (rest : Words) → net_entry (net_scope Narrow design) special others nets (net_words design special net ++ rest) ≡ Some (nets ++ net ∷ [], rest)
      unfolding net_entry
      net_again nets others few new own fits rest =
          rw (
            room_is (length nets + length others) ENTRY_LIMIT few,
            said_again (net_said design special net) rest net_inside,
            net_in_again nets others new own,
            fits,
          ) refl

      -- the lines of the entry have its words
      pub net_lines : Lines (net_text design special net) (net_words design special net)
      net_lines =
          let head : Behind (spaced (net_head design net)) (net_head design net) = behind_spaced (net_head design net) head_inside.printable in
          let wires : Behind (flat_map wire_line (wiring_lines design special net.wires)) (words_in_lines (wiring_lines design special net.wires)) =
          further_lines (wiring_lines design special net.wires) wiring_inside.printable in
          let whole : Lines (codes "-" ++ (spaced (net_head design net) ++ flat_map wire_line (wiring_lines design special net.wires)) ++ codes " ;\n")
          (net_words design special net) =
          lines_statement (codes "-") (printable_is_one (codes "-") refl) (behind_append head wires) in
          whole

-- counts of two lists of entries
terminals_of_both : (a b : List NetModel) → terminal_count (a ++ b) ≡ terminal_count a + terminal_count b
terminals_of_both [] b = omega arith
terminals_of_both (net ∷ a) b = let later = terminals_of_both a b in omega (arith, later)

wires_of_both : (a b : List NetModel) → wire_count (a ++ b) ≡ wire_count a + wire_count b
wires_of_both [] b = omega arith
wires_of_both (net ∷ a) b = let later = wires_of_both a b in omega (arith, later)

-- What is known of the entries of a section, where the other section has those others.
pub record AreEntries (design : DesignModel) (special : Bool) (nets others : List NetModel) : Type 0 where
  pub are : AreNets design special nets
  pub one_net : AreInOneNet (nets ++ others)
  pub few : length nets + length others ≤ ENTRY_LIMIT
  pub few_terminals : terminal_count nets + terminal_count others ≤ PART_LIMIT
  pub few_wires : wire_count nets + wire_count others ≤ PART_LIMIT

module _ (design : DesignModel) (has : HasParts design) (special : Bool) (nets others : List NetModel) (entries : AreEntries design special nets others) where
  -- the entries up to one of them have no more than all
  up_to_one : (before : List NetModel) (net : NetModel) (after : List NetModel) → nets ≡ before ++ (net ∷ after)
      → are_too_many others (before ++ net ∷ []) ≡ false
  up_to_one before net after is =
      let whole : nets ≡ (before ++ net ∷ []) ++ after = is ∙ sym (append_assoc before (net ∷ []) after) in
      let terminals : terminal_count nets ≡ terminal_count (before ++ net ∷ []) + terminal_count after =
      ap terminal_count whole ∙ terminals_of_both (before ++ net ∷ []) after in
      let wires : wire_count nets ≡ wire_count (before ++ net ∷ []) + wire_count after = ap wire_count whole ∙ wires_of_both (before ++ net ∷ []) after in
      let t_limit : terminal_count (before ++ net ∷ []) + terminal_count others ≤ PART_LIMIT = omega (arith, terminals, entries.few_terminals) in
      let w_limit : wire_count (before ++ net ∷ []) + wire_count others ≤ PART_LIMIT = omega (arith, wires, entries.few_wires) in
      rw (
        not_above (terminal_count (before ++ net ∷ []) + terminal_count others) PART_LIMIT t_limit,
        not_above (wire_count (before ++ net ∷ []) + wire_count others) PART_LIMIT w_limit,
      ) refl

  own_name : (before : List NetModel) (net : NetModel) (after : List NetModel) → nets ≡ before ++ (net ∷ after)
      → (other : NetModel) (t : Terminal) → Contains (before ++ others) other → Contains other.terminals t → Contains net.terminals t → other.name ≡ net.name
  own_name before net after is other t there lists here =
      entries.one_net other net t (by (Contains-append_cases before others other there)) (Contains-append_left nets others net net_there) lists here where
        net_there : Contains nets net
        net_there = rw is (length before, within before net after, get_or-append_seam before net after net)

        by : Contains before other ⊎ Contains others other → Contains (nets ++ others) other
        by (inl first) = Contains-append_left nets others other (rw is (Contains-append_left before (net ∷ after) other first))
        by (inr later) = Contains-append_right nets others other later

  few_nets : length nets ≤ NUMBER_LIMIT
  few_nets = omega (arith, entries.few)

  -- an entry among the others
  pub one_net_line : (before : List NetModel) (net : NetModel) (after : List NetModel) → nets ≡ before ++ (net ∷ after) → StayOne (net_entry_names design net)
      → DenotesForm (net_entry (net_scope Narrow design) special others before) (net_text design special net) (before ++ net ∷ [])
  one_net_line before net after is stays =
      lines_say (net_entry (net_scope Narrow design) special others before) (net_text design special net) (net_words design special net) (before ++ net ∷ [])
      (net_lines design has special net (middle (IsNet design special) nets before net after is entries.are.each) stays)
      (net_again design has special net (middle (IsNet design special) nets before net after is entries.are.each) stays before others
      (omega (arith, fewer_before nets before net after is, entries.few))
      (not_before (λ (n : NetModel). n.name) before net after (subst (λ ns. AreApart (net_names ns)) is entries.are.apart)) (own_name before net after is)
      (up_to_one before net after is))

  module _ (one : StayOne (flat_map (net_entry_names design) nets)) where
    entry_again : (before : List NetModel) (net : NetModel) (after : List NetModel) → nets ≡ before ++ (net ∷ after) → (rest : Words)
        → net_entry (net_scope Narrow design) special others before (net_words design special net ++ rest) ≡ Some (before ++ net ∷ [], rest)
    entry_again before net after is =
        net_again design has special net (middle (IsNet design special) nets before net after is entries.are.each)
        (middle (λ n. StayOne (net_entry_names design n)) nets before net after is (each_passes stays_one (net_entry_names design) nets one)) before others
        (omega (arith, fewer_before nets before net after is, entries.few))
        (not_before (λ (n : NetModel). n.name) before net after (subst (λ ns. AreApart (net_names ns)) is entries.are.apart)) (own_name before net after is)
        (up_to_one before net after is)

    -- the lines of the section have its words
    pub nets_lines : Lines (nets_text design special nets) (section_words (net_section special) (net_words design special) nets)
    nets_lines =
        section_lines (net_section special) (net_text design special) (net_words design special) nets (keyword_free special) few_nets
        (λ k d less. net_lines design has special (get_or nets k d) (entries.are.each k d less)
        (each_passes stays_one (net_entry_names design) nets one k d less)) where
          keyword_free : (special : Bool) → IsFree (net_section special)
          keyword_free false = free_literal (codes "NETS") refl refl refl
          keyword_free true = free_literal (codes "SPECIALNETS") refl refl refl

net_goes : (design : DesignModel) (special : Bool) (net : NetModel) (rest : Words) → at_end (net_words design special net ++ rest) ≡ false
net_goes design special net rest = refl

pub nets_again : (design : DesignModel) → HasParts design → (special : Bool) (net : NetModel) (nets others : List NetModel)
    → AreEntries design special (net ∷ nets) others
    → StayOne (flat_map (net_entry_names design) (net ∷ nets)) → (rest : Words)
    → nets_at (net_scope Narrow design) special others (section_words (net_section special) (net_words design special) (net ∷ nets) ++ rest) ≡ Some
    (net ∷ nets, rest)
unfolding nets_at
nets_again design has false net nets others entries one rest =
    section_again (codes "NETS") (net_entry (net_scope Narrow design) false others) (net_words design false) (λ entries. entries) refl
    (net_entry_shortens (net_scope Narrow design) false others) net nets
    (few_nets design has false (net ∷ nets) others entries)
    (record { goes = net_goes design false; read = entry_again design has false (net ∷ nets) others entries one }) rest
nets_again design has true net nets others entries one rest =
    section_again (codes "SPECIALNETS") (net_entry (net_scope Narrow design) true others) (net_words design true) (λ entries. entries) refl
    (net_entry_shortens (net_scope Narrow design) true others) net nets
    (few_nets design has true (net ∷ nets) others entries)
    (record { goes = net_goes design true; read = entry_again design has true (net ∷ nets) others entries one }) rest
