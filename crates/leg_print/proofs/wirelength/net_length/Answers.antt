use Rattle.std.proofs.Common.{◌≡◌, None, Some, ◌∙◌, sym, ap, refl}
use Rattle.leg_design_records.specs.Records.{NetModel}
use Rattle.leg_print.proofs.NetCentres.{net_least, same_box}
use Rattle.leg_print.proofs.wirelength.net_length.Goals as goal

pub returns-in-Some-clause-is : goal.returns-in-Some-clause-is
returns-in-Some-clause-is g c n there =
    let net = c.args.net.now in
    let listed : c.as_slice.result.now ≡ net.terminals = c.as_slice.ensures ∙ ap (λ (s : NetModel). s.terminals) c.net.view_is in
    let named : c.bytes.result.now ≡ net.name = c.bytes.ensures ∙ ap (λ (s : NetModel). s.name) c.net.view_is in
    let regular = rw listed at c.centres_box-regular.ensures in
    let special = rw (c.special_terminals.ensures, named) at c.centres_box-special.ensures in
    record {
      box = Some c.in-Some.bounds;
      least = same_box c.args.design.now n _ (Some c.in-Some.bounds) (sym c.in-Some.ensures)
          (net_least c.args.design.now n net c.centres_box-regular.result c.centres_box-special.result there regular special);
      is = c.half_perimeter.ensures.is;
    }

pub returns-in-None-clause-is : goal.returns-in-None-clause-is
returns-in-None-clause-is g c n there =
    let net = c.args.net.now in
    let listed : c.as_slice.result.now ≡ net.terminals = c.as_slice.ensures ∙ ap (λ (s : NetModel). s.terminals) c.net.view_is in
    let named : c.bytes.result.now ≡ net.name = c.bytes.ensures ∙ ap (λ (s : NetModel). s.name) c.net.view_is in
    let regular = rw listed at c.centres_box-regular.ensures in
    let special = rw (c.special_terminals.ensures, named) at c.centres_box-special.ensures in
    record {
      box = None;
      least = same_box c.args.design.now n _ None (sym c.in-None.ensures)
          (net_least c.args.design.now n net c.centres_box-regular.result c.centres_box-special.result there regular special);
      is = refl;
    }
