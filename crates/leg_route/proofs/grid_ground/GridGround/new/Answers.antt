use Rattle.std.proofs.Common.{◌≡◌, length, ap, sym, ◌∙◌, arith}
use Rattle.leg_route_laws.proofs.Within.{nets_within}
use Rattle.leg_route.proofs.JoinedParts.{part_none}
use Rattle.leg_route.proofs.grid_ground.GridGround.new.Goals as goal

pub returns-clause-ready : goal.returns-clause-ready
returns-clause-ready g c =
    let nets : length c.nets.result.now ≡ length c.args.design.now.nets = ap length c.nets.ensures.is in
    record {
      of_design = c.in_ok-grid.ensures.is;
      told = λ flat is. c.in_ok-slots.ensures flat (is ∙ sym c.shapes.ensures.is);
      within = nets_within c.args.design.now c.args.flat c.requires.clean.judged.is_flat;
      numbers = record {
        one_each = omega (arith, nets, c.in_ok-numbers.ensures.long);
        each = λ net low. rw (← c.shapes-2.ensures.is) (c.in_ok-numbers.ensures.each net (omega (arith, low, nets)));
      };
      count = c.in_ok-marks.ensures ∙ c.size.ensures.is;
      part_is = part_none c.in_ok-grid.grid c.args.flat _ _ _ _ _ _ c.new-3.ensures.joined c.new-3.ensures.boxes c.new-3.ensures.slots
          c.new-3.ensures.hulls c.new-3.ensures.ends;
      joins_are = tt;
      given_are = tt;
    }

pub returns-clause-comes : goal.returns-clause-comes
returns-clause-comes g c = record { clean = c.requires.clean; fits = c.in_ok-grid.ensures.fits }
