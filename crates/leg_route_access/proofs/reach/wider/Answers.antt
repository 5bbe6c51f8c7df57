use Rattle.std.proofs.Common.{ℤ, pos, ◌-ℤ◌, ◌≤ℤ◌, w64, to_z, of_z, arith}
use Rattle.std.proofs.lemmas.Int.{ints, to_z-of_z}
use Rattle.leg_lex.proofs.InBits.{number_fits}
use Rattle.leg_route_access.specs.Steps.Reaches.{IsDistance}
use Rattle.leg_route_access.proofs.MetalReach.{begun_distance, begun_wider, widened, distance_fits, turned}
use Rattle.leg_route_access.proofs.reach.wider.Goals as goal

-- the greatest of the reach and of the four numbers
record IsWidest (u l b r t m : ℤ) : Type 0 where
  pub distance : IsDistance m
  pub from : u ≤ℤ m
  pub left : l ≤ℤ m
  pub bottom : b ≤ℤ m
  pub right : r ≤ℤ m
  pub top : t ≤ℤ m

all : (c : goal.After-max-4) → IsWidest c.unwrap_or-reach.result (pos 0 -ℤ c.args.rect.now.x1)
    (pos 0 -ℤ c.args.rect.now.y1) c.args.rect.now.x2 c.args.rect.now.y2 (to_z w64 (of_z w64 c.max-4.result))
all c =
    let r = c.args.rect.now in
    let x1 = c.requires.rect.x1 in
    let y1 = c.requires.rect.y1 in
    let x2 = c.requires.rect.x2 in
    let y2 = c.requires.rect.y2 in
    let x1_fits = number_fits r.x1 x1 in
    let y1_fits = number_fits r.y1 y1 in
    let x2_fits = number_fits r.x2 x2 in
    let y2_fits = number_fits r.y2 y2 in
    let left = turned r.x1 x1 in
    let bottom = turned r.y1 y1 in
    let l_fits = number_fits (pos 0 -ℤ r.x1) left in
    let b_fits = number_fits (pos 0 -ℤ r.y1) bottom in
    let u = begun_distance c.args.reach c.unwrap_or-reach.result c.unwrap_or-reach.ensures c.requires.proper in
    let u_fits = distance_fits c.unwrap_or-reach.result u in
    let e1 =
    rw (c.x1-left.ensures.is, to_z-of_z w64 c.unwrap_or-reach.result u_fits, to_z-of_z w64 r.x1 x1_fits, to_z-of_z w64 (pos 0 -ℤ r.x1) l_fits) at
    c.max.ensures.value in
    let m1 = widened c.unwrap_or-reach.result (pos 0 -ℤ r.x1) c.max.result u left e1 in
    let m1_fits = distance_fits c.max.result m1.distance in
    let e2 =
    rw (c.y1-bottom.ensures.is, to_z-of_z w64 c.max.result m1_fits, to_z-of_z w64 r.y1 y1_fits, to_z-of_z w64 (pos 0 -ℤ r.y1) b_fits) at
    c.max-2.ensures.value in
    let m2 = widened c.max.result (pos 0 -ℤ r.y1) c.max-2.result m1.distance bottom e2 in
    let m2_fits = distance_fits c.max-2.result m2.distance in
    let e3 = rw (c.x2.ensures.is, to_z-of_z w64 c.max-2.result m2_fits, to_z-of_z w64 r.x2 x2_fits) at c.max-3.ensures.value in
    let m3 = widened c.max-2.result r.x2 c.max-3.result m2.distance x2 e3 in
    let m3_fits = distance_fits c.max-3.result m3.distance in
    let e4 = rw (c.y2.ensures.is, to_z-of_z w64 c.max-3.result m3_fits, to_z-of_z w64 r.y2 y2_fits) at c.max-4.ensures.value in
    let m4 = widened c.max-3.result r.y2 c.max-4.result m3.distance y2 e4 in
    let m4_fits = distance_fits c.max-4.result m4.distance in
    let f1 = m1.from in
    let f2 = m2.from in
    let f3 = m3.from in
    let f4 = m4.from in
    let p1 = m1.past in
    let p2 = m2.past in
    let p3 = m3.past in
    let is : IsWidest c.unwrap_or-reach.result (pos 0 -ℤ r.x1) (pos 0 -ℤ r.y1) r.x2 r.y2 c.max-4.result = record {
      distance = m4.distance;
      from = omega (arith, ints, f1, f2, f3, f4);
      left = omega (arith, ints, p1, f2, f3, f4);
      bottom = omega (arith, ints, p2, f3, f4);
      right = omega (arith, ints, p3, f4);
      top = m4.past;
    } in
    rw (to_z-of_z w64 c.max-4.result m4_fits) is

pub returns-clause-proper : goal.returns-clause-proper
returns-clause-proper c = (all c).distance

pub returns-clause-wider : goal.returns-clause-wider
returns-clause-wider c z reaches =
    let from = begun_wider c.args.reach c.unwrap_or-reach.result c.unwrap_or-reach.ensures z reaches in
    let further = (all c).from in
    omega (arith, ints, from, further)

pub returns-clause-all : goal.returns-clause-all
returns-clause-all c = let is = all c in record { x1 = is.left; y1 = is.bottom; x2 = is.right; y2 = is.top }
