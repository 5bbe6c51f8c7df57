use Rattle.std.proofs.Common.{◌≤◌, ◌<◌, None, Some, arith}
use Rattle.leg_legal_sites.specs.Steps.Nearest.{FitsFrom, FitsUpTo, IsFirstFit, IsLast, x_away}
use Rattle.leg_legal_sites.proofs.NearerSide.{left_nearer, right_nearer, left_alone, lowest_nearest}
use Rattle.leg_legal_sites.proofs.NearestSites.{right_if_any, left_from_last, right_from_first}
use Rattle.leg_legal_sites.proofs.nearest.nearest.Goals as goal

pub returns-in_default : goal.returns-in_default
returns-in_default g c =
    let none : IsLast (FitsUpTo c.args.sites.now c.args.many c.lowest-middle.result) None = rw c.in_default.is at c.fits_beside-left.ensures.left in
    right_if_any _ c.args.sites.now c.args.many c.lowest-middle.result c.lowest-middle.ensures none c.fits_beside-left.result.1
    c.fits_beside-left.ensures.right

pub returns-then-left-middle : goal.returns-then-left-middle
returns-then-left-middle g c =
    let last : IsLast (FitsUpTo c.args.sites.now c.args.many c.lowest-middle.result) (Some c.in-Some.left) =
    rw c.in-Some.is at c.fits_beside-left.ensures.left in
    lowest_nearest _ _ c.lowest-middle.ensures _ c.in-Some.left
    (left_from_last c.args.sites.now c.args.many c.lowest-middle.result c.in-Some.left last) c.if-left-middle.true

pub returns-in_default-right : goal.returns-in_default-right
returns-in_default-right g c =
    let last : IsLast (FitsUpTo c.args.sites.now c.args.many c.lowest-middle.result) (Some c.in-Some.left) =
    rw c.in-Some.is at c.fits_beside-left.ensures.left in
    let none : IsFirstFit (FitsFrom c.args.sites.now c.args.many c.lowest-middle.result) None =
    rw c.in_default-right.is at c.fits_beside-left.ensures.right in
    left_alone _ _ c.lowest-middle.ensures _ c.in-Some.left
    (left_from_last c.args.sites.now c.args.many c.lowest-middle.result c.in-Some.left last)
    (λ k sites from. none k (record { sites = sites; above = from }))

pub x_away-requires-clause-within : goal.x_away-requires-clause-within
x_away-requires-clause-within g c =
    let right = c.in-Some-right.right in
    let some = c.requires.some in
    let first : IsFirstFit (FitsFrom c.args.sites.now c.args.many c.lowest-middle.result) (Some right) =
    rw c.in-Some-right.is at c.fits_beside-left.ensures.right in
    c.requires.within right (first.0.sites right (omega arith) (omega arith))

pub x_away-requires-2-clause-within : goal.x_away-requires-2-clause-within
x_away-requires-2-clause-within g c =
    let left = c.in-Some.left in
    let some = c.requires.some in
    let last : IsLast (FitsUpTo c.args.sites.now c.args.many c.lowest-middle.result) (Some left) = rw c.in-Some.is at c.fits_beside-left.ensures.left in
    c.requires.within left (last.0.sites left (omega arith) (omega arith))

pub returns-then-x_away : goal.returns-then-x_away
returns-then-x_away g c =
    let pitch = c.args.pitch.now in
    let last : IsLast (FitsUpTo c.args.sites.now c.args.many c.lowest-middle.result) (Some c.in-Some.left) =
    rw c.in-Some.is at c.fits_beside-left.ensures.left in
    let first : IsFirstFit (FitsFrom c.args.sites.now c.args.many c.lowest-middle.result) (Some c.in-Some-right.right) =
    rw c.in-Some-right.is at c.fits_beside-left.ensures.right in
    let nearer : x_away pitch c.in-Some-right.right < x_away pitch c.in-Some.left = omega arith in
    right_nearer _ _ c.lowest-middle.ensures _ c.in-Some.left c.in-Some-right.right
    (left_from_last c.args.sites.now c.args.many c.lowest-middle.result c.in-Some.left last)
    (right_from_first c.args.sites.now c.args.many c.lowest-middle.result c.in-Some-right.right first) nearer

pub returns-else-x_away : goal.returns-else-x_away
returns-else-x_away g c =
    let pitch = c.args.pitch.now in
    let last : IsLast (FitsUpTo c.args.sites.now c.args.many c.lowest-middle.result) (Some c.in-Some.left) =
    rw c.in-Some.is at c.fits_beside-left.ensures.left in
    let first : IsFirstFit (FitsFrom c.args.sites.now c.args.many c.lowest-middle.result) (Some c.in-Some-right.right) =
    rw c.in-Some-right.is at c.fits_beside-left.ensures.right in
    let nearer : x_away pitch c.in-Some.left ≤ x_away pitch c.in-Some-right.right = omega arith in
    left_nearer _ _ c.lowest-middle.ensures _ c.in-Some.left c.in-Some-right.right
    (left_from_last c.args.sites.now c.args.many c.lowest-middle.result c.in-Some.left last)
    (right_from_first c.args.sites.now c.args.many c.lowest-middle.result c.in-Some-right.right first) nearer
