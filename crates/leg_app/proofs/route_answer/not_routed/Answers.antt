use Rattle.std.proofs.Common.{◌∙◌}
use Rattle.leg_app.specs.RouteResult.ReportsNotRouted.{not_clean, grid_too_large, unroutable, too_many}
use Rattle.leg_app.proofs.route_answer.not_routed.Goals as goal

pub not_clean_text-requires : goal.not_clean_text-requires
not_clean_text-requires g c = (let why = rw c.in-NotClean.is at c.requires in why.1.few)

pub returns-in_ok-text-in-NotClean-clause-tells : goal.returns-in_ok-text-in-NotClean-clause-tells
returns-in_ok-text-in-NotClean-clause-tells g c =
    let why = rw c.in-NotClean.is at c.requires in
    rw c.unsolved.ensures (not_clean why.1 why.2 ((rw c.as_slice.ensures at c.in_ok-text-in-NotClean.ensures) why.0 why.1.is_flat))

pub returns-in_ok-text-in-GridTooLarge-clause-tells : goal.returns-in_ok-text-in-GridTooLarge-clause-tells
returns-in_ok-text-in-GridTooLarge-clause-tells g c =
    let why = rw c.in-GridTooLarge.is at c.requires in
    rw c.unsolved-in-GridTooLarge.ensures (grid_too_large why.0.1 why.1 c.in_ok-text-in-GridTooLarge.ensures.items)

pub returns-in_ok-text-in-Unroutable-clause-tells : goal.returns-in_ok-text-in-Unroutable-clause-tells
returns-in_ok-text-in-Unroutable-clause-tells g c =
    let why = rw c.in-Unroutable.is at c.requires in
    rw c.unsolved-in-Unroutable.ensures (unroutable why.1 why.2
    (rw (c.as_slice-in-Unroutable.ensures, c.in_ok-net-in-Unroutable.ensures, c.net_name.ensures) at c.in_ok-text-in-Unroutable.ensures))

pub returns-in_ok-text-in-Unroutable-clause-explains : goal.returns-in_ok-text-in-Unroutable-clause-explains
returns-in_ok-text-in-Unroutable-clause-explains g c =
    let why = rw c.in-Unroutable.is at c.requires in
    rw c.unsolved-in-Unroutable.ensures (λ command before stage limit routed. (
      tt,
      rw c.as_slice-in-Unroutable.ensures at c.in_ok-text-in-Unroutable.ensures,
      (
        c.args.design.now,
        routed,
        record {
          net = _;
          flat = why.0;
          comes = why.1;
          unroutable = why.2;
          named = c.in_ok-net-in-Unroutable.ensures ∙ c.net_name.ensures;
          cut_off = c.in_ok-piece-in-Unroutable.ensures;
        },
      ),
    ))

pub returns-in_ok-text-in-TooMany-clause-tells : goal.returns-in_ok-text-in-TooMany-clause-tells
returns-in_ok-text-in-TooMany-clause-tells g c =
    let why = rw c.in-TooMany.is at c.requires in
    rw c.unsolved-in-TooMany.ensures (too_many why c.in_ok-text-in-TooMany.ensures.items)
