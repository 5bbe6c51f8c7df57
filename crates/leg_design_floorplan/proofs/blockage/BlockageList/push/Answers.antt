use Rattle.std.proofs.Common.{◌≡◌, ◌++◌, ◌∷◌, [], arith}
use Rattle.std.proofs.lemmas.Grind.{common_steps}
use Rattle.leg_design_floorplan.proofs.Blockages.{more_counted}
use Rattle.leg_design_floorplan.proofs.blockage.BlockageList.push.Goals as goal

pub invariant_of-self-2 : goal.invariant_of-self-2
invariant_of-self-2 g c =
    let before = c.self.inside.items.items in
    let pushed : c.push.new.self.items ≡ before ++ c.args.blockage ∷ [] = grind (arith, common_steps) in
    more_counted before c.push.new.self.items c.args.blockage c.self.inside.rects c.rect_count.result c.self.invariant c.rect_count.ensures pushed
