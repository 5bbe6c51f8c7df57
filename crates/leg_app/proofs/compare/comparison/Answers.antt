use Rattle.leg_rules.specs.declared.difference.Section.TheVariants.{Components, Nets}
use Rattle.leg_app.specs.Comparison.{status_of}
use Rattle.leg_app.proofs.Comparisons.{compared, no_reason_of, say_design, tells_of}
use Rattle.leg_app.proofs.compare.comparison.Goals as goal

pub returns : goal.returns
returns g c = λ profile lefs before after just_before says_first just_after says_second.
    let first = c.args.first.now in
    let second = c.args.second.now in
    let library = first.library in
    let verdict = c.verdict_of-verdict.result in
    let judged = rw c.deref.ensures.value at c.verdict_of-verdict.ensures in
    let told = rw c.deref-2.ensures.value at c.in_ok-text.ensures in
    let say_first = say_design profile lefs before library first just_before says_first in
    let say_second = say_design profile lefs after library second just_after says_second in
    let answer =
    compared profile lefs before after library first second c.in_ok-list.list.items c.in_ok-text.text.items say_first say_second c.in_ok-list.ensures verdict
    judged told in
    let order = c.told_order.result in
    let tells = tells_of profile lefs before after library first second just_before says_first just_after says_second in
    record {
      answer = rw c.status_of.ensures answer;
      explains = rw c.status_of.ensures (no_reason_of verdict);
      tells = rw c.status_of.ensures (record {
        components = tells Components (status_of verdict) order.components c.told_order.ensures.components;
        nets = tells Nets (status_of verdict) order.nets c.told_order.ensures.nets;
      });
    }
