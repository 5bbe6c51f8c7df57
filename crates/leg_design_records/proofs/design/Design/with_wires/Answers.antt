use Rattle.std.proofs.Common.{◌≡◌, ℕ, ◌+◌, ◌<◌, ◌≤◌, List, ◌++◌, All, length, get_or, set, false, sym, ap, subst, ◌∙◌}
use Rattle.std.proofs.lemmas.List.{set-get_or}
use Rattle.std.proofs.lemmas.Option.{get_or_from_slice_get}
use Rattle.leg_design_records.specs.declared.records.Wire.{Wire}
use Rattle.leg_design_records.specs.declared.limits.TheConstants.{PART_LIMIT}
use Rattle.leg_design_records.specs.Records.{DesignModel, NetModel, net_names, wire_count}
use Rattle.leg_design_records.specs.WellFormed.{IsWellFormed}
use Rattle.leg_design_records.specs.WellFormedNets.{IsWire}
use Rattle.leg_design_records.proofs.NetWires.{stays_well_formed}
use Rattle.leg_design_records.proofs.design.Design.with_wires.Goals as goal

pub invariant_of-self : goal.invariant_of-self
invariant_of-self g c =
    let inside = ap (λ d. d.fields) c.self-inside.view_is in
    let back = sym (inside ∙ c.self.view_is) in
    let within = subst (λ (d : DesignModel). c.args.net < length d.nets) back c.requires.in_range in
    let spelled = subst (λ (d : DesignModel). All (IsWire d.library d.vias false) c.args.wires.items) back c.requires.spelled in
    let few = subst (λ (d : DesignModel). wire_count d.nets + wire_count d.special + length c.args.wires.items ≤ PART_LIMIT) back c.requires.few in
    let is = subst (λ (n : NetModel). n ≡ get_or c.self-inside.inside.0.0.nets.items c.args.net n) (sym c.entry.view_is) c.index_mut-entry.ensures.value in
    let names = ap (λ d. d.special_names) c.self-inside.view_is ∙ c.self.invariant.1 ∙ ap (λ d. net_names d.fields.special) (sym c.self-inside.view_is) in (
      rw c.in-Ok.ensures.appended (stays_well_formed _ c.args.net _ c.args.wires.items
          (record { at = record { within = within; is = is }; spelled = spelled; few = few }) (subst IsWellFormed (sym inside) c.self.invariant.0)),
      names,
    )

pub invariant_of-self-in-Err : goal.invariant_of-self-in-Err
invariant_of-self-in-Err g c =
    let inside = ap (λ d. d.fields) c.self-inside.view_is in
    let names = ap (λ d. d.special_names) c.self-inside.view_is ∙ c.self.invariant.1 ∙ ap (λ d. net_names d.fields.special) (sym c.self-inside.view_is) in
    let nets = c.self-inside.inside.0.0.nets.items in
    let entry : NetModel =
    record { name = c.entry.inside.name; usage = c.entry.inside.usage; terminals = c.entry.inside.terminals; wires = c.entry.inside.wires } in
    let is : entry ≡ get_or nets c.args.net entry =
    subst (λ (n : NetModel). n ≡ get_or nets c.args.net n) (sym c.entry.view_is) c.index_mut-entry.ensures.value in
    let same : set nets c.args.net entry ≡ nets = ap (set nets c.args.net) is ∙ set-get_or nets c.args.net entry in
    (rw (c.in-Err.ensures.unchanged, same) (subst IsWellFormed (sym inside) c.self.invariant.0), names)

abbrev wired : DesignModel → ℕ → List Wire → NetModel → DesignModel
wired design n wires net = record design { nets = set design.nets n (record net { wires = net.wires ++ wires }) }

pub returns-in-Ok-clause-added : goal.returns-in-Ok-clause-added
returns-in-Ok-clause-added g c = λ before is.
    let back = ap (λ d. d.fields) c.self-inside.view_is ∙ c.self.view_is in
    let entry : NetModel =
    record { name = c.entry.inside.name; usage = c.entry.inside.usage; terminals = c.entry.inside.terminals; wires = c.entry.inside.wires } in
    let there = c.index_mut-entry.ensures.value ∙ ap (λ (d : DesignModel). get_or d.nets c.args.net c.index_mut-entry.result.now) back
    ∙ get_or_from_slice_get c.args.self.nets c.args.net before c.index_mut-entry.result.now is in
    rw c.in-Ok.ensures.appended (
    ap (λ (d : DesignModel). wired d c.args.net c.args.wires.items entry) back
    ∙ ap (wired c.args.self c.args.net c.args.wires.items) (c.entry.view_is ∙ there))
