use Rattle.std.proofs.Common.{◌≡◌, List, ◌++◌, ◌∷◌, [], ap, ◌∙◌}
use Rattle.leg_flat.specs.Steps.Places.{NetsModel}
use Rattle.leg_flat.proofs.nets.add_net.Goals as goal

pushed : {X : Type 0} (more before old : List X) (x y : X) → more ≡ before ++ x ∷ [] → before ≡ old → x ≡ y → more ≡ old ++ y ∷ []
pushed more before old x y is same made = cc

pub returns-clause-pieces : goal.returns-clause-pieces
returns-clause-pieces g c =
    pushed _ c.nets.inside.pieces.items _ c.from_vec.result _ c.in_ok-push.ensures.items (ap (λ (n : NetsModel). n.pieces) c.nets.view_is)
    (c.from_vec.ensures ∙ c.in_ok-made.ensures.pieces)

pub returns-clause-counts : goal.returns-clause-counts
returns-clause-counts g c =
    pushed _ c.nets.inside.counts.items _ c.in_ok-made.terminals _ c.in_ok-push-2.ensures.items
    (ap (λ (n : NetsModel). n.counts) c.nets.view_is) c.in_ok-made.ensures.count

pub returns-clause-places : goal.returns-clause-places
returns-clause-places g c = c.in_ok-made.ensures.places

pub returns-clause-special : goal.returns-clause-special
returns-clause-special g c = ap (λ (n : NetsModel). n.special) c.nets.view_is
