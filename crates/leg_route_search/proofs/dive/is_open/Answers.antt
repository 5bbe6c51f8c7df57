use Rattle.std.proofs.Common.{refl}
use Rattle.std.proofs.lemmas.Bool.{false≢true}
use Rattle.leg_route_search.proofs.LastSteps.{true_shut, true_far}
use Rattle.leg_route_search.proofs.dive.is_open.Goals as goal

pub returns-in-Far-clause-is : goal.returns-in-Far-clause-is
returns-in-Far-clause-is g c = (
  λ _. c.requires.known.bounds.is_open c.args.node _ (record { is = rw c.in-Far.is at c.mark.ensures; seen = refl }),
  λ _. refl,
)

pub returns-in-Shut-clause-is : goal.returns-in-Shut-clause-is
returns-in-Shut-clause-is g c = (
  λ no_way. absurd (false≢true no_way),
  λ is_open. absurd (c.requires.known.bounds.shut c.args.node (record { is = rw c.in-Shut.is at c.mark.ensures; seen = refl }) is_open),
)

pub returns-then-not-is_open-clause-is : goal.returns-then-not-is_open-clause-is
returns-then-not-is_open-clause-is g c = (
  λ no_way. absurd (false≢true no_way),
  λ is_open. absurd (false≢true (c.if-not-is_open.ensures.1 is_open)),
)

pub returns-then-not-is_open-clause-known : goal.returns-then-not-is_open-clause-known
returns-then-not-is_open-clause-known g c =
    rw c.in_ok-set.ensures.set
    (true_shut g.G.Graph c.args.graph.now c.args.marks.now c.args.node c.requires.within (λ is_open. false≢true (c.if-not-is_open.ensures.1 is_open))
    c.requires.known)

pub returns-clause-known : goal.returns-clause-known
returns-clause-known g c =
    rw c.in_ok-set-2.ensures.set
    (true_far g.G.Graph c.args.graph.now c.args.marks.now c.args.node c.args.steps c.requires.within (c.is_open_node-is_open.ensures.0 c.if-not-is_open.false)
    c.requires.far c.requires.known)
