use Rattle.std.proofs.Common.{List, ◌++◌, refl, ap, ◌∙◌, sym}
use Rattle.std.proofs.lemmas.List.{append-nil, take_all}
use Rattle.leg_rules.specs.declared.shape.Shape.{Shape}
use Rattle.leg_route_access.proofs.added.add_shapes.Goals as goal

pub loop-k-init : goal.loop-k-init
loop-k-init g c = record { count = refl; told = λ before told flat are. told flat (are ∙ append-nil before) }

pub add_unless_again-requires-clause-count : goal.add_unless_again-requires-clause-count
add_unless_again-requires-clause-count g c = c.loop-k.invariant.count ∙ c.requires.count

pub loop-k-preserved : goal.loop-k-preserved
loop-k-preserved g c = record {
  count = c.add_unless_again.ensures.count ∙ c.loop-k.invariant.count;
  told = λ before told. c.add_unless_again.ensures.told before (c.loop-k.invariant.told before told);
}

pub returns-clause-told : goal.returns-clause-told
returns-clause-told g c before told flat are =
    c.loop-k.invariant.told before told flat (are ∙ ap (λ (shapes : List Shape). before ++ shapes)
    (sym (take_all c.loop-k.k c.args.shapes.now c.loop-k-test.false)))
