-- The row's nearest free sites make its best position.
use Rattle.std.proofs.Common.{◌≡◌, ◌+◌, [], Some, refl, ap, ◌∙◌, arith}
use Rattle.std.specs.Prelude.{unwrap_or}
use Rattle.leg_legal_sites.specs.Steps.Stretches.{AreFreeSites}
use Rattle.leg_legal_sites.specs.Steps.Nearest.{x_away, BeginWithin, IsLeastOf}
use Rattle.leg_legal_sites.proofs.RowCandidates.{pitch_in, none_free, none_of_nothing, none_of_other_site, best_there}
use Rattle.leg_legal_sites.proofs.row_search.best_of_row.Goals as goal

pub returns-in_default : goal.returns-in_default
returns-in_default g c rows free there known =
    none_of_nothing rows free c.args.wanted.now c.args.number c.args.row.now [] there
    (known ∙ ap (λ o. Some (unwrap_or o [])) c.in_default.is) refl c.requires.some

pub returns-then-row-wanted : goal.returns-then-row-wanted
returns-then-row-wanted g c rows free there known =
    none_of_other_site rows free c.args.wanted.now c.args.number c.args.row.now (unwrap_or c.args.list.now []) there known c.if-row-wanted.true

pub nearest-requires-clause-within : goal.nearest-requires-clause-within
nearest-requires-clause-within g c =
    let within : BeginWithin (pitch_in c.args.row.now c.args.wanted.now) (unwrap_or c.args.list.now []) = c.requires.within c.if-row-wanted.false in
    let had : unwrap_or c.args.list.now [] ≡ c.in-Some.sites = ap (λ o. unwrap_or o []) c.in-Some.is in
    let begin : BeginWithin (pitch_in c.args.row.now c.args.wanted.now) c.in-Some.sites = rw had at within in
    rw c.pitch_of-pitch.ensures.is begin

pub returns-in_err-first : goal.returns-in_err-first
returns-in_err-first g c rows free there known =
    let had : unwrap_or c.args.list.now [] ≡ c.in-Some.sites = ap (λ o. unwrap_or o []) c.in-Some.is in
    rw c.from_residual.ensures (none_free rows free c.args.wanted.now c.args.number c.args.row.now c.in-Some.sites there
    (known ∙ ap Some had) c.in_err-first.ensures)

pub x_away-requires-clause-within : goal.x_away-requires-clause-within
x_away-requires-clause-within g c =
    let within : BeginWithin (pitch_in c.args.row.now c.args.wanted.now) (unwrap_or c.args.list.now []) = c.requires.within c.if-row-wanted.false in
    let had : unwrap_or c.args.list.now [] ≡ c.in-Some.sites = ap (λ o. unwrap_or o []) c.in-Some.is in
    let begin : BeginWithin (pitch_in c.args.row.now c.args.wanted.now) c.in-Some.sites = rw had at within in
    let first = c.in_ok-first.first in
    let some = c.requires.some in
    rw c.pitch_of-pitch.ensures.is (begin first (c.in_ok-first.ensures.holds first (omega arith) (omega (arith, some))))

pub returns : goal.returns
returns g c rows free there known =
    let row = c.args.row.now in
    let wanted = c.args.wanted.now in
    let stretches = c.in-Some.sites in
    let had : unwrap_or c.args.list.now [] ≡ stretches = ap (λ o. unwrap_or o []) c.in-Some.is in
    let least : IsLeastOf (x_away (pitch_in row wanted)) (AreFreeSites stretches wanted.many) c.in_ok-first.first =
    rw c.pitch_of-pitch.ensures.is at c.in_ok-first.ensures in
    let x : c.x_away.result ≡ x_away (pitch_in row wanted) c.in_ok-first.first = rw c.pitch_of-pitch.ensures.is at c.x_away.ensures.is in
    best_there rows free wanted c.args.number row stretches there (known ∙ ap Some had)
    (record { distance = c.x_away.result + c.y_away.result; turned = c.is_turned.result; row = c.args.number; first = c.in_ok-first.first }) refl
    c.if-row-wanted.false (rw (x, c.y_away.ensures.is) refl) c.is_turned.ensures least
