-- Pins of the design that no entry lists are listed by the entry of the net that they name, and all else stays.
use Rattle.std.proofs.Common.{◌≡◌, ◌≢◌, ℕ, zero, suc, ◌+◌, ◌<◌, ◌≤◌, Bool, true, false, List, [], ◌∷◌, ◌++◌, length, length-set, set, slice_get, All, Contains, Some, refl, subst, arith}
use Rattle.std.proofs.lemmas.List.Elements.{All-set, All-push}
use Rattle.std.proofs.lemmas.List.Quantifiers.{all_pairs_push}
use Rattle.leg_lex.specs.NameLookup.{AreApart}
use Rattle.leg_design_records.specs.declared.limits.TheConstants.{ENTRY_LIMIT, PART_LIMIT}
use Rattle.leg_design_records.specs.declared.records.Terminal.{Terminal}
use Rattle.leg_design_records.specs.declared.records.Terminal.TheVariants.{Pin}
use Rattle.leg_grammar.specs.Def.NetScope.{NetScopeModel}
use Rattle.leg_design_records.specs.Records.{NetModel, net_names, wire_count}
use Rattle.leg_grammar.specs.Def.LonePins.{NetLists, with_terminal}
use Rattle.leg_design_records.specs.WellFormedNets.{AreInOneNet}
use Rattle.leg_design_nets.proofs.TerminalsOfEntries.{Lists, not_among}
use Rattle.leg_design_records.proofs.SameTerminal.{among_contains}
use Rattle.leg_design_nets.proofs.MoreTerminals as more_terminals
use Rattle.leg_design_nets.proofs.MoreTerminals.{more, IsPlacedOn, stands_at, stands_left, stands_right, set_left, set_right}
use Rattle.leg_design_nets.proofs.ReadTerminals.{IsKnownTerminal}
use Rattle.leg_design_nets.proofs.ReadNets.{IsKnownNet}
use Rattle.leg_design_records.specs.Terminals.{is_among}
use Rattle.std.proofs.lemmas.Bool.{false_from_ne_true}

-- the entries of both sections
abbrev pub both : NetLists → List NetModel
both lists = lists.nets ++ lists.special

-- an element that is there can be read
record There {X : Type 0} (xs : List X) (k : ℕ) : Type 0 where
  it : X
  is : slice_get xs k ≡ Some it

there : {X : Type 0} (xs : List X) (k : ℕ) → k < length xs → There xs k
there [] k less = absurd (omega arith)
there (x ∷ xs) zero less = record { it = x; is = refl }
there (x ∷ xs) (suc k) less =
    let rest = there xs k (omega arith) in
    record { it = rest.it; is = rest.is }

module _ (scope : NetScopeModel) where
  -- what holds of the entries of both sections
  pub record HasEntries (lists : NetLists) : Type 0 where
    pub nets : All (IsKnownNet scope false) lists.nets
    pub nets_apart : AreApart (net_names lists.nets)
    pub special : All (IsKnownNet scope true) lists.special
    pub special_apart : AreApart (net_names lists.special)
    pub one_net : AreInOneNet (both lists)
    pub few : length lists.nets + length lists.special ≤ ENTRY_LIMIT
    pub few_wires : wire_count lists.nets + wire_count lists.special ≤ PART_LIMIT

  -- The same entries, of which some may list more.
  pub record AreGrown (lists next : NetLists) : Type 0 where
    pub entries : HasEntries next
    pub names : net_names (both next) ≡ net_names (both lists)
    pub kept : (u : Terminal) → Lists (both lists) u → Lists (both next) u

  -- the entry with the pin as one more terminal
  more_is : (special : Bool) (p : ℕ) (net : NetModel) → p < length scope.pins → IsKnownNet scope special net → (Contains net.terminals (Pin p) → ⊥)
      → IsKnownNet scope special (more (Pin p) net)
  more_is special p net there is none =
      let apart : is_among (Pin p) net.terminals ≡ false =
      false_from_ne_true (is_among (Pin p) net.terminals) (λ among. none (among_contains (Pin p) net.terminals among)) in
      record {
        name = is.name;
        no_must_join = is.no_must_join;
        usage = is.usage;
        terminals = All-push (IsKnownTerminal scope) net.terminals (Pin p) is.terminals there;
        once = all_pairs_push (λ t u. t ≢ u) net.terminals (Pin p) is.once (not_among (Pin p) net.terminals apart);
        wires = is.wires;
      }

  module _ (lists : NetLists) (p : ℕ) (entries : HasEntries lists) (is_pin : p < length scope.pins)
      (none : (a : NetModel) → Contains (both lists) a → Contains a.terminals (Pin p) → ⊥) where
    -- the pin goes to an entry
    pub record Listing (next : NetLists) : Type 0 where
      pub grown : AreGrown lists next
      pub lists_it : Lists (both next) (Pin p)

    in_nets : (k : ℕ) (net : NetModel) → IsPlacedOn lists.nets k net → Listing (record lists { nets = set lists.nets k (more (Pin p) net) })
    in_nets k net stands =
        let whole = stands_left lists.nets lists.special k net stands in
        let within = stands.within in
        let same = set_left lists.nets lists.special k (more (Pin p) net) within in
        let is = subst (IsKnownNet scope false) stands.is (entries.nets k net within) in
        record {
          grown = record {
            entries = record {
              nets = All-set (IsKnownNet scope false) lists.nets k (more (Pin p) net)
                  (more_is false p net is_pin is (none net (k, whole.within, whole.is))) entries.nets;
              nets_apart = rw (more_terminals.names_kept (Pin p) lists.nets k net stands.is) entries.nets_apart;
              special = entries.special;
              special_apart = entries.special_apart;
              one_net = rw same (more_terminals.still_one_net (Pin p) (both lists) k net whole entries.one_net none);
              few = rw (length-set lists.nets k (more (Pin p) net)) entries.few;
              few_wires = rw (more_terminals.wires_kept (Pin p) lists.nets k net stands.is) entries.few_wires;
            };
            names = rw same (more_terminals.names_kept (Pin p) (both lists) k net whole.is);
            kept = λ u before. rw same (more_terminals.lists_kept (Pin p) (both lists) k net whole u before);
          };
          lists_it = rw same (more_terminals.lists_new (Pin p) (both lists) k net whole);
        }

    in_special : (k : ℕ) (net : NetModel) → IsPlacedOn lists.special k net → Listing (record lists { special = set lists.special k (more (Pin p) net) })
    in_special k net stands =
        let at = length lists.nets + k in
        let whole = stands_right lists.nets lists.special k net stands in
        let same = set_right lists.nets lists.special k (more (Pin p) net) in
        let is = subst (IsKnownNet scope true) stands.is (entries.special k net stands.within) in
        record {
          grown = record {
            entries = record {
              nets = entries.nets;
              nets_apart = entries.nets_apart;
              special = All-set (IsKnownNet scope true) lists.special k (more (Pin p) net)
                  (more_is true p net is_pin is (none net (at, whole.within, whole.is))) entries.special;
              special_apart = rw (more_terminals.names_kept (Pin p) lists.special k net stands.is) entries.special_apart;
              one_net = rw same (more_terminals.still_one_net (Pin p) (both lists) at net whole entries.one_net none);
              few = rw (length-set lists.special k (more (Pin p) net)) entries.few;
              few_wires = rw (more_terminals.wires_kept (Pin p) lists.special k net stands.is) entries.few_wires;
            };
            names = rw same (more_terminals.names_kept (Pin p) (both lists) at net whole.is);
            kept = λ u before. rw same (more_terminals.lists_kept (Pin p) (both lists) at net whole u before);
          };
          lists_it = rw same (more_terminals.lists_new (Pin p) (both lists) at net whole);
        }

    pub to_nets : (k : ℕ) → k < length lists.nets → Listing (record lists { nets = with_terminal (Pin p) k lists.nets })
    to_nets k less =
        let found = there lists.nets k less in
        rw found.is (in_nets k found.it (stands_at lists.nets k found.it found.is))

    pub to_special : (k : ℕ) → k < length lists.special → Listing (record lists { special = with_terminal (Pin p) k lists.special })
    to_special k less =
        let found = there lists.special k less in
        rw found.is (in_special k found.it (stands_at lists.special k found.it found.is))
