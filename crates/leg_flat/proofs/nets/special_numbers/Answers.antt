use Rattle.std.proofs.Common.{◌≡◌, length, ◌<◌, get_or, ◌∙◌, ap, arith}
use Rattle.std.proofs.lemmas.Option.{slice_get_within}
use Rattle.leg_design_records.specs.Records.{DesignModel}
use Rattle.leg_flat.proofs.NetNumbers.{number_fits, number_more}
use Rattle.leg_flat.proofs.nets.special_numbers.Goals as goal

pub overflow_cast-number_of_special : goal.overflow_cast-number_of_special
overflow_cast-number_of_special g c =
    let same : c.special-net-items.result.now ≡ c.args.index.now.special =
    c.special-net-items.ensures.is ∙ ap (λ (d : DesignModel). d.special) c.design.ensures in
    let proper = rw c.design.ensures at c.special-net-items.ensures.proper in
    let less : c.loop-k.k < length c.args.index.now.special = rw same at c.loop-k-test.true in
    number_fits c.args.index.now c.loop-k.k c.net-item.result c.number_of_special.result proper.nets less c.number_of_special.ensures

pub loop-k-preserved : goal.loop-k-preserved
loop-k-preserved g c =
    let same : c.special-net-items.result.now ≡ c.args.index.now.special =
    c.special-net-items.ensures.is ∙ ap (λ (d : DesignModel). d.special) c.design.ensures in
    let there : c.net-item.result ≡ get_or c.args.index.now.special c.loop-k.k c.net-item.result = rw same at c.net-item.is in
    record {
      count = omega (arith, c.in_ok-push.ensures.len, c.loop-k.invariant.count);
      each =
          rw c.in_ok-push.ensures.items (number_more c.args.index.now c.loop-k.numbers.items c.loop-k.k c.number_of_special.result c.net-item.result
          c.loop-k.invariant.count c.loop-k.invariant.each there c.number_of_special.ensures);
    }

pub returns : goal.returns
returns g c =
    let same : c.special-net-items.result.now ≡ c.args.index.now.special =
    c.special-net-items.ensures.is ∙ ap (λ (d : DesignModel). d.special) c.design.ensures in
    let all : c.loop-k.k ≡ length c.args.index.now.special = rw (← same) (omega (arith, c.loop-k-test.false, c.loop-k.auto.k-end)) in
    record {
      count = c.loop-k.invariant.count ∙ all;
      each = λ k net at. c.loop-k.invariant.each k net (omega (arith, all, slice_get_within c.args.index.now.special k net at)) at;
    }
