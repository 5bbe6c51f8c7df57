-- No violation holds just where no component is misplaced and no two overlap.
use Rattle.std.proofs.Common.{refl}
use Rattle.std.proofs.lemmas.Bool.{false≢true}
use Rattle.leg_place.proofs.AnyViolation.{misplaced_holds, none_by_overlap}
use Rattle.leg_place.proofs.placed.is_placed.Goals as goal

pub returns-then-is_one_misplaced : goal.returns-then-is_one_misplaced
returns-then-is_one_misplaced g c =
    let design = c.args.design.now in
    (λ t. absurd (false≢true t), λ none. absurd (misplaced_holds design (c.if-is_one_misplaced.ensures.0 refl) none))

pub returns : goal.returns
returns g c =
    let design = c.args.design.now in
    none_by_overlap design (λ m. false≢true (c.if-is_one_misplaced.ensures.1 m)) c.in_ok-overlap.overlap c.in_ok-overlap.ensures
