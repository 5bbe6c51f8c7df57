-- A design of which a net got wires is well-formed still.
use Rattle.std.proofs.Common.{◌≡◌, ℕ, zero, suc, ◌+◌, ◌≤◌, List, [], ◌∷◌, ◌++◌, length, map, All, set, sym, ap, subst, refl, ◌∙◌, arith, true, false}
use Rattle.std.proofs.lemmas.List.{length-set, length-append, set-append_left}
use Rattle.std.proofs.lemmas.List.Elements.{All-weaker, All-get_or, All-set, All-append}
use Rattle.leg_lex.specs.NameLookup.{AreApart}
use Rattle.leg_design_records.specs.declared.limits.TheConstants.{PART_LIMIT}
use Rattle.leg_design_records.specs.declared.records.Terminal.{Terminal}
use Rattle.leg_design_records.specs.declared.records.Terminal.TheVariants.{Comp, Pin}
use Rattle.leg_design_records.specs.declared.records.Wire.{Wire}
use Rattle.leg_design_records.specs.Records.{DesignModel, NetModel, net_names, terminal_count, wire_count}
use Rattle.leg_design_records.specs.WellFormedNets.{IsTerminal, IsWire, IsNet, AreNets, HasNets}
use Rattle.leg_design_records.specs.WellFormed.{IsWellFormed}
use Rattle.leg_design_records.proofs.OneOther.{IsPlacedOn, same_map, stands_before}
use Rattle.leg_design_records.proofs.NetReferences.{Keeps, net_kept, AreAlike, one_net_kept, in_some_net_kept}

-- the net, with these wires after its own
abbrev pub wired : NetModel → List Wire → NetModel
wired net wires = record net { wires = net.wires ++ wires }

-- the nets, of which the one of this number got the wires
abbrev pub with_wired : List NetModel → ℕ → NetModel → List Wire → List NetModel
with_wired nets n net wires = set nets n (wired net wires)

-- the design, of which the entry of NETS of this number got the wires
abbrev pub design_wired : DesignModel → ℕ → NetModel → List Wire → DesignModel
design_wired design n net wires = record design { nets = with_wired design.nets n net wires }

pub terminals_counted : (nets : List NetModel) (n : ℕ) (net : NetModel) (wires : List Wire) → IsPlacedOn nets n net
    → terminal_count (with_wired nets n net wires) ≡ terminal_count nets
terminals_counted [] n net wires at = refl
terminals_counted (first ∷ nets) zero net wires at = ap (λ (m : NetModel). length m.terminals + terminal_count nets) at.is
terminals_counted (first ∷ nets) (suc n) net wires at =
    ap (λ count. length first.terminals + count) (terminals_counted nets n net wires (record { within = omega (arith, at.within); is = at.is }))

pub wires_counted : (nets : List NetModel) (n : ℕ) (net : NetModel) (wires : List Wire) → IsPlacedOn nets n net
    → wire_count (with_wired nets n net wires) ≡ wire_count nets + length wires
wires_counted [] n net wires at = absurd (omega (arith, at.within))
wires_counted (first ∷ nets) zero net wires at =
    let same : length net.wires ≡ length first.wires = ap (λ (m : NetModel). length m.wires) at.is in
    omega (arith, length-append net.wires wires, same)
wires_counted (first ∷ nets) (suc n) net wires at =
    omega (arith, wires_counted nets n net wires (record { within = omega (arith, at.within); is = at.is }))

-- the wires of the net are those that the entry may get
pub record MayGet (design : DesignModel) (n : ℕ) (net : NetModel) (wires : List Wire) : Type 0 where
  pub at : IsPlacedOn design.nets n net
  pub spelled : All (IsWire design.library design.vias false) wires
  pub few : wire_count design.nets + wire_count design.special + length wires ≤ PART_LIMIT

nets_alike : (design : DesignModel) (n : ℕ) (net : NetModel) (wires : List Wire) → IsPlacedOn design.nets n net
    → AreAlike (design.nets ++ design.special) (with_wired design.nets n net wires ++ design.special)
nets_alike design n net wires at =
    let all = stands_before design.nets design.special n net at in
    let pushed = set-append_left design.nets design.special n (wired net wires) at.within in
    record {
      names = sym (same_map (λ (m : NetModel). m.name) (design.nets ++ design.special) n net (wired net wires) all refl) ∙ ap net_names pushed;
      terminals = sym (same_map (λ (m : NetModel). m.terminals) (design.nets ++ design.special) n net (wired net wires) all refl)
          ∙ ap (map (λ m. m.terminals)) pushed;
    }

terminal_kept : (design : DesignModel) (n : ℕ) (net : NetModel) (wires : List Wire) (terminal : Terminal) → IsTerminal design terminal
    → IsTerminal (design_wired design n net wires) terminal
terminal_kept design n net wires (Pin p) proper = proper
terminal_kept design n net wires (Comp c k) proper = proper

wired_keeps : (design : DesignModel) (n : ℕ) (net : NetModel) (wires : List Wire) → Keeps design (design_wired design n net wires)
wired_keeps design n net wires = record {
  terminals = terminal_kept design n net wires;
  wires = λ special wire proper. proper;
}

-- the net that got the wires is one that DEF can spell
wired_net : (design : DesignModel) (n : ℕ) (net : NetModel) (wires : List Wire) → MayGet design n net wires → AreNets design false design.nets
    → IsNet design false (wired net wires)
wired_net design n net wires may proper =
    let was = subst (IsNet design false) (sym may.at.is) (All-get_or (IsNet design false) design.nets n net may.at.within proper.each) in
    record {
      name = was.name;
      no_must_join = was.no_must_join;
      usage = was.usage;
      terminals = was.terminals;
      once = was.once;
      wires = All-append (IsWire design.library design.vias false) net.wires wires was.wires may.spelled;
    }

pub nets_stay : (design : DesignModel) (n : ℕ) (net : NetModel) (wires : List Wire) → MayGet design n net wires → HasNets design
    → HasNets (design_wired design n net wires)
nets_stay design n net wires may proper =
    let after = design_wired design n net wires in
    let keeps = wired_keeps design n net wires in
    let all = design.nets ++ design.special in
    let all_after = after.nets ++ design.special in
    let alike = nets_alike design n net wires may.at in
    record {
      nets = record {
        each = All-weaker (IsNet design false) (IsNet after false) (net_kept design after keeps false) after.nets
            (All-set (IsNet design false) design.nets n (wired net wires) (wired_net design n net wires may proper.nets) proper.nets.each);
        apart = subst AreApart (sym (same_map (λ (m : NetModel). m.name) design.nets n net (wired net wires) may.at refl)) proper.nets.apart;
      };
      special = record {
        each = All-weaker (IsNet design true) (IsNet after true) (net_kept design after keeps true) design.special proper.special.each;
        apart = proper.special.apart;
      };
      one_net = one_net_kept all all_after alike proper.one_net;
      lone = λ p pin is. in_some_net_kept all all_after alike p pin.net_name (proper.lone p pin is);
      few = rw length-set proper.few;
      few_terminals = rw (terminals_counted design.nets n net wires may.at) proper.few_terminals;
      few_wires = omega (arith, may.few, wires_counted design.nets n net wires may.at);
    }

pub stays_well_formed : (design : DesignModel) (n : ℕ) (net : NetModel) (wires : List Wire) → MayGet design n net wires → IsWellFormed design
    → IsWellFormed (design_wired design n net wires)
stays_well_formed design n net wires may proper = record {
  name = proper.name;
  divider = proper.divider;
  bus = proper.bus;
  die = proper.die;
  components = proper.components;
  rows = proper.rows;
  tracks = proper.tracks;
  vias = proper.vias;
  pins = proper.pins;
  blockages = proper.blockages;
  nets = nets_stay design n net wires may proper.nets;
}
