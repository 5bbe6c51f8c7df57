use Rattle.std.proofs.Common.{◌≡◌, true, false, true≢false, sym, ap, ◌∙◌}
use Rattle.leg_lib_records.specs.Records.{ViaModel}
use Rattle.leg_route_grid.proofs.JoinsPair.{joins_by_shapes, low_shape, high_shape}
use Rattle.leg_route_grid.proofs.through.joins.Goals as goal

pub returns-then-via : goal.returns-then-via
returns-then-via g c =
    let good : c.args.via.now.good ≡ true = sym (ap (λ (v : ViaModel). v.good) c.via.view_is) ∙ c.if-via.true in
    let shapes : c.as_slice.result.now ≡ c.args.via.now.shapes = c.as_slice.ensures ∙ ap (λ (v : ViaModel). v.shapes) c.via.view_is in
    let both = rw shapes at c.use_both.ensures in
    let of = c.requires.of in
    let routing = c.requires.routing in (
      λ is. let on = both.0 is in
          joins_by_shapes c.args.library.now c.args.low c.args.high c.args.via.now of routing c.good_vias_join_layers.ensures.joined good on.0 on.1,
      λ joins. both.1 (
        low_shape c.args.library.now c.args.low c.args.high c.args.via.now of routing joins,
        high_shape c.args.library.now c.args.low c.args.high c.args.via.now of routing joins,
      ),
    )

pub returns-else-via : goal.returns-else-via
returns-else-via g c =
    let bad : c.args.via.now.good ≡ false = sym (ap (λ (v : ViaModel). v.good) c.via.view_is) ∙ c.if-via.false in (
      λ is. absurd (true≢false (sym is ∙ c.if-via.false)),
      λ joins. absurd (true≢false (sym joins.good ∙ bad)),
    )
