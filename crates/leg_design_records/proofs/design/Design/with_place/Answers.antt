use Rattle.std.proofs.Common.{◌≡◌, ◌<◌, length, get_or, ap, sym, subst, ◌∙◌}
use Rattle.std.proofs.lemmas.Option.{get_or_from_slice_get}
use Rattle.leg_design_records.specs.declared.records.Component.{Component}
use Rattle.leg_design_records.specs.Records.{DesignModel, net_names}
use Rattle.leg_design_records.specs.WellFormed.{IsWellFormed}
use Rattle.leg_design_records.proofs.Moves.{design_moved}
use Rattle.leg_design_records.proofs.MovedNets.{stays_well_formed}
use Rattle.leg_design_records.proofs.design.Design.with_place.Goals as goal

pub invariant_of-self : goal.invariant_of-self
invariant_of-self g c =
    let back = ap (λ d. d.fields) c.self-inside.view_is in
    let within = subst (λ (d : DesignModel). c.args.component < length d.components) (sym (back ∙ c.self.view_is)) c.requires.in_range in
    let names = ap (λ d. d.special_names) c.self-inside.view_is ∙ c.self.invariant.1 ∙ ap (λ d. net_names d.fields.special) (sym c.self-inside.view_is) in (
      stays_well_formed _ c.args.component c.index_mut-chosen.result.now c.args.place
          (record { within = within; is = c.index_mut-chosen.ensures.value }) c.requires.within
          (subst IsWellFormed (sym back) c.self.invariant.0),
      names,
    )

pub returns : goal.returns
returns g c = λ before is.
    let back = ap (λ d. d.fields) c.self-inside.view_is ∙ c.self.view_is in
    let same : c.index_mut-chosen.result.now ≡ before =
    c.index_mut-chosen.ensures.value ∙ ap (λ (d : DesignModel). get_or d.components c.args.component c.index_mut-chosen.result.now) back
    ∙ get_or_from_slice_get c.args.self.components c.args.component before c.index_mut-chosen.result.now is in
    ap (λ (d : DesignModel). design_moved d c.args.component c.index_mut-chosen.result.now c.args.place) back
    ∙ ap (λ (x : Component). design_moved c.args.self c.args.component x c.args.place) same
