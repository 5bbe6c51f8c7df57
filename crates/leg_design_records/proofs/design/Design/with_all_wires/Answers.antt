-- The design with the wires is well-formed still.
use Rattle.std.proofs.Common.{◌≡◌, ◌+◌, ◌≤◌, ◌∙◌, List, All, length, map, drop, false, sym, ap, subst}
use Rattle.leg_design_records.specs.declared.records.Wire.{Wire}
use Rattle.std.proofs.lemmas.List.{take_at}
use Rattle.std.proofs.lemmas.List.Elements.{All-map}
use Rattle.leg_design_records.specs.declared.limits.TheConstants.{PART_LIMIT}
use Rattle.leg_design_records.specs.Records.{DesignModel, net_names, wire_count}
use Rattle.leg_design_records.specs.WellFormed.{IsWellFormed}
use Rattle.leg_design_records.specs.MoreWires.{with_more_wires}
use Rattle.leg_design_records.specs.WellFormedNets.{IsWire}
use Rattle.leg_design_records.proofs.EachWith.{each_with_length}
use Rattle.leg_design_records.proofs.AllNetWires.{all_stay_well_formed}
use Rattle.leg_design_records.proofs.design.Design.with_all_wires.Goals as goal

pub invariant_of-self : goal.invariant_of-self
invariant_of-self g c =
    let inside = ap (λ d. d.fields) c.self-inside.view_is in
    let back = sym (inside ∙ c.self.view_is) in
    let lists = map (λ w. w.items) c.args.lists.items in
    let spelled = subst (λ (d : DesignModel). All (λ w. All (IsWire d.library d.vias false) w.items) c.args.lists.items) back c.requires.spelled in
    let few = subst (λ (d : DesignModel). wire_count (with_more_wires d.nets lists) + wire_count d.special ≤ PART_LIMIT) back c.requires.few in
    let old = c.self-inside.inside.0.0.nets.items in
    let new = c.append_to_all.new.nets in
    let value = c.as_mut_slice.ensures.value in
    let are : new ≡ with_more_wires old lists = rw value at c.in-Ok.ensures.appended in
    let long : length new ≡ c.self-inside.inside.0.0.nets.len =
    ap length are ∙ each_with_length _ old lists ∙ sym (ap length value) ∙ c.as_mut_slice.ensures.len in
    let names = ap (λ d. d.special_names) c.self-inside.view_is ∙ c.self.invariant.1 ∙ ap (λ d. net_names d.fields.special) (sym c.self-inside.view_is) in (
      rw (take_at new (drop (length new) old) c.self-inside.inside.0.0.nets.len long, are)
          (all_stay_well_formed _ lists (record {
            spelled = All-map (All (IsWire c.self-inside.inside.0.0.library.now c.self-inside.inside.0.0.vias.items false))
                (λ w. w.items) c.args.lists.items spelled;
            few = few;
          }) (subst IsWellFormed (sym inside) c.self.invariant.0)),
      names,
    )

pub invariant_of-self-in-Err : goal.invariant_of-self-in-Err
invariant_of-self-in-Err g c =
    let inside = ap (λ d. d.fields) c.self-inside.view_is in
    let old = c.self-inside.inside.0.0.nets.items in
    let new = c.append_to_all.new.nets in
    let unchanged = c.in-Err.ensures.unchanged in
    let are : new ≡ old = unchanged ∙ c.as_mut_slice.ensures.value in
    let long : length new ≡ c.self-inside.inside.0.0.nets.len = ap length unchanged ∙ c.as_mut_slice.ensures.len in
    let names = ap (λ d. d.special_names) c.self-inside.view_is ∙ c.self.invariant.1 ∙ ap (λ d. net_names d.fields.special) (sym c.self-inside.view_is) in
    (rw (take_at new (drop (length new) old) c.self-inside.inside.0.0.nets.len long, are) (subst IsWellFormed (sym inside) c.self.invariant.0), names)

-- a design whose entries of NETS have the wires of these lists after their own
abbrev wired : DesignModel → List (List Wire) → DesignModel
wired design lists = record design { nets = with_more_wires design.nets lists }

pub returns-in-Ok-clause-added : goal.returns-in-Ok-clause-added
returns-in-Ok-clause-added g c =
    let back = ap (λ d. d.fields) c.self-inside.view_is ∙ c.self.view_is in
    let lists = map (λ w. w.items) c.args.lists.items in
    let old = c.self-inside.inside.0.0.nets.items in
    let new = c.append_to_all.new.nets in
    let value = c.as_mut_slice.ensures.value in
    let are : new ≡ with_more_wires old lists = rw value at c.in-Ok.ensures.appended in
    let long : length new ≡ c.self-inside.inside.0.0.nets.len =
    ap length are ∙ each_with_length _ old lists ∙ sym (ap length value) ∙ c.as_mut_slice.ensures.len in
    rw (take_at new (drop (length new) old) c.self-inside.inside.0.0.nets.len long, are) (ap (λ (d : DesignModel). wired d lists) back)

pub returns-in-Err-clause-unchanged : goal.returns-in-Err-clause-unchanged
returns-in-Err-clause-unchanged g c =
    let back = ap (λ d. d.fields) c.self-inside.view_is ∙ c.self.view_is in
    let old = c.self-inside.inside.0.0.nets.items in
    let new = c.append_to_all.new.nets in
    let unchanged = c.in-Err.ensures.unchanged in
    let are : new ≡ old = unchanged ∙ c.as_mut_slice.ensures.value in
    let long : length new ≡ c.self-inside.inside.0.0.nets.len = ap length unchanged ∙ c.as_mut_slice.ensures.len in
    rw (take_at new (drop (length new) old) c.self-inside.inside.0.0.nets.len long, are) back
