-- A design of which all entries of NETS got wires is well-formed still.
use Rattle.std.proofs.Common.{◌≡◌, ◌+◌, ◌≤◌, List, [], ◌∷◌, ◌++◌, length, All, sym, ap, subst, refl, false, true}
use Rattle.std.proofs.lemmas.List.{map-append}
use Rattle.std.proofs.lemmas.List.Elements.{All-weaker, All-append, All-cons, All-head, All-tail}
use Rattle.leg_lex.specs.NameLookup.{AreApart}
use Rattle.leg_design_records.specs.declared.limits.TheConstants.{PART_LIMIT}
use Rattle.leg_design_records.specs.declared.records.Terminal.{Terminal}
use Rattle.leg_design_records.specs.declared.records.Terminal.TheVariants.{Comp, Pin}
use Rattle.leg_design_records.specs.declared.records.Wire.{Wire}
use Rattle.leg_design_records.specs.MoreWires.{each_with, with_more_wires}
use Rattle.leg_design_records.specs.Records.{DesignModel, NetModel, terminal_count, wire_count}
use Rattle.leg_design_records.specs.WellFormedNets.{IsTerminal, IsWire, IsNet, HasNets}
use Rattle.leg_design_records.specs.WellFormed.{IsWellFormed}
use Rattle.leg_design_records.proofs.NetReferences.{Keeps, net_kept, AreAlike, one_net_kept, in_some_net_kept}
use Rattle.leg_design_records.proofs.NetWires.{wired}
use Rattle.leg_design_records.proofs.EachWith.{each_with_length, each_with_map}

abbrev pub all_wired : DesignModel → List (List Wire) → DesignModel
all_wired design lists = record design { nets = with_more_wires design.nets lists }

all_alike : (nets special : List NetModel) (lists : List (List Wire)) → AreAlike (nets ++ special) (with_more_wires nets lists ++ special)
all_alike nets special lists = record {
  names = rw (
    map-append (λ (n : NetModel). n.name) nets special,
    map-append (λ (n : NetModel). n.name)
        (with_more_wires nets lists) special,
    each_with_map wired (λ (n : NetModel). n.name) (λ net wires. refl) nets lists,
  ) refl;
  terminals = rw (
    map-append (λ (n : NetModel). n.terminals) nets special,
    map-append (λ (n : NetModel). n.terminals)
        (with_more_wires nets lists) special,
    each_with_map wired (λ (n : NetModel). n.terminals) (λ net wires. refl) nets lists,
  ) refl;
}

same_terminal_count : (nets : List NetModel) (lists : List (List Wire)) → terminal_count (with_more_wires nets lists) ≡ terminal_count nets
unfolding each_with
same_terminal_count [] lists = refl
same_terminal_count (net ∷ nets) [] = refl
same_terminal_count (net ∷ nets) (wires ∷ lists) = ap (λ count. length net.terminals + count) (same_terminal_count nets lists)

-- an entry that got wires is one that DEF can spell
wired_net : (design : DesignModel) (net : NetModel) (wires : List Wire) → All (IsWire design.library design.vias false) wires → IsNet design false net
    → IsNet design false (wired net wires)
wired_net design net wires spelled was = record {
  name = was.name;
  no_must_join = was.no_must_join;
  usage = was.usage;
  terminals = was.terminals;
  once = was.once;
  wires = All-append (IsWire design.library design.vias false) net.wires wires was.wires spelled;
}

all_nets : (design : DesignModel) (nets : List NetModel) (lists : List (List Wire)) → All (All (IsWire design.library design.vias false)) lists
    → All (IsNet design false) nets → All (IsNet design false) (with_more_wires nets lists)
unfolding each_with
all_nets design [] lists spelled each = each
all_nets design (net ∷ nets) [] spelled each = each
all_nets design (net ∷ nets) (wires ∷ lists) spelled each =
    let spelled_here = All-head (All (IsWire design.library design.vias false)) wires lists spelled in
    let spelled_later = All-tail (All (IsWire design.library design.vias false)) wires lists spelled in
    All-cons (IsNet design false) (wired net wires) (with_more_wires nets lists)
    (wired_net design net wires spelled_here (All-head (IsNet design false) net nets each))
    (all_nets design nets lists spelled_later (All-tail (IsNet design false) net nets each))

terminal_kept : (design : DesignModel) (lists : List (List Wire)) (terminal : Terminal) → IsTerminal design terminal
    → IsTerminal (all_wired design lists) terminal
terminal_kept design lists (Pin p) proper = proper
terminal_kept design lists (Comp c k) proper = proper

all_keeps : (design : DesignModel) (lists : List (List Wire)) → Keeps design (all_wired design lists)
all_keeps design lists = record {
  terminals = terminal_kept design lists;
  wires = λ special wire proper. proper;
}

-- the wires of the lists are those that the entries may get
pub record MayAllGet (design : DesignModel) (lists : List (List Wire)) : Type 0 where
  pub spelled : All (All (IsWire design.library design.vias false)) lists
  pub few : wire_count (with_more_wires design.nets lists) + wire_count design.special ≤ PART_LIMIT

all_nets_stay : (design : DesignModel) (lists : List (List Wire)) → MayAllGet design lists → HasNets design → HasNets (all_wired design lists)
all_nets_stay design lists may proper =
    let after = all_wired design lists in
    let keeps = all_keeps design lists in
    let all = design.nets ++ design.special in
    let all_after = after.nets ++ design.special in
    let alike = all_alike design.nets design.special lists in
    record {
      nets = record {
        each = All-weaker (IsNet design false) (IsNet after false) (net_kept design after keeps false) after.nets
            (all_nets design design.nets lists may.spelled proper.nets.each);
        apart = subst AreApart (sym (each_with_map wired (λ (n : NetModel). n.name) (λ net wires. refl) design.nets lists)) proper.nets.apart;
      };
      special = record {
        each = All-weaker (IsNet design true) (IsNet after true) (net_kept design after keeps true) design.special proper.special.each;
        apart = proper.special.apart;
      };
      one_net = one_net_kept all all_after alike proper.one_net;
      lone = λ p pin is. in_some_net_kept all all_after alike p pin.net_name (proper.lone p pin is);
      few = rw (each_with_length wired design.nets lists) proper.few;
      few_terminals = rw (same_terminal_count design.nets lists) proper.few_terminals;
      few_wires = may.few;
    }

pub all_stay_well_formed : (design : DesignModel) (lists : List (List Wire)) → MayAllGet design lists → IsWellFormed design
    → IsWellFormed (all_wired design lists)
all_stay_well_formed design lists may proper = record {
  name = proper.name;
  divider = proper.divider;
  bus = proper.bus;
  die = proper.die;
  components = proper.components;
  rows = proper.rows;
  tracks = proper.tracks;
  vias = proper.vias;
  pins = proper.pins;
  blockages = proper.blockages;
  nets = all_nets_stay design lists may proper.nets;
}
