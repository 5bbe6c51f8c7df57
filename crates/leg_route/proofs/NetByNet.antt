-- A run over all nets, of which one after another has its turn.
use Rattle.std.proofs.Common.{◌≡◌, ◌≢◌, ◌==◌, ◌+◌, ◌<◌, ◌≤◌, ℕ, true, false, List, [], ◌∷◌, ◌++◌, length, map, All, Some, slice_get, ◌⊎◌, inl, inr, refl, sym, ap, ◌∙◌, subst, arith}
use Rattle.std.proofs.lemmas.Bool.{cases_lt}
use Rattle.std.proofs.lemmas.Bool.Decides.{nat_tests}
use Rattle.std.proofs.lemmas.List.{append-nil, append_assoc, length-append, map_push}
use Rattle.std.proofs.lemmas.List.Elements.{All-nil, All-cons, All-append, All-head, All-tail}
use Rattle.leg_design_records.specs.declared.records.Wire.{Wire}
use Rattle.leg_design_records.specs.Records.{DesignModel}
use Rattle.leg_flat.specs.Limits.{IsWithinLimits}
use Rattle.leg_rules.specs.Metal.Flat.{FlatModel}
use Rattle.leg_rules.specs.Route.Spelling.{AreWiresOf}
use Rattle.leg_rules.specs.Route.Run.{NetWires, RouteRun, IsTurn, IsDone}
use Rattle.leg_rules.specs.Joins.Violations.{IsOpenNet}
use Rattle.leg_rules.specs.Route.Run.RouteRun.{begun as run_begins, walked as run_goes_on}
use Rattle.leg_rules.specs.Route.Refusals.{IsUnroutable}
use Rattle.leg_route.specs.Refusal.{IsRouteRefusal}
use Rattle.leg_rules.specs.Route.Refusal.{ComesToRun}
use Rattle.leg_rules.specs.Route.Refusal.HasTooMany.{on_the_way}
use Rattle.leg_rules.specs.Route.Result.{wires_for}
use Rattle.leg_lemmas.proofs.Places.{get_first, get_last}
use Rattle.leg_route.specs.declared.fault.RouteFault.{RouteFault}
use Rattle.leg_route.specs.declared.fault.RouteFault.TheVariants.{NotClean, GridTooLarge, Unroutable, TooMany, Memory}
use Rattle.leg_route.specs.Steps.NetLists.{AreListsOf}
use Rattle.leg_route.specs.Steps.RunEnd.{IsFinishedRun}
use Rattle.leg_route.specs.Steps.NetRun.{NetRun}
use Rattle.leg_route.specs.Steps.NetRun.NetRun.{begun, walked}
use Rattle.leg_route.specs.Steps.Stops.{IsNetStop, IsRunStop}
use Rattle.leg_route.specs.Steps.RunSoFar.{IsRunSoFar}
use Rattle.leg_route.proofs.MoreWires.{stays_joined}
use Rattle.leg_route.proofs.RunFacts.{wires_for_both}

-- the wires of a net among those of a run
for_own : (net : ℕ) (wires : List Wire) → wires_for net (record { net = net; wires = wires } ∷ []) ≡ wires
for_own net wires = let test : (net == net) ≡ true = grind (arith, nat_tests) in rw test (append-nil wires)

abbrev IsBelow : ℕ → NetWires → Type 0
IsBelow n one = one.net < n

abbrev IsOf : ℕ → NetWires → Type 0
IsOf n one = one.net ≡ n

for_past : (n : ℕ) (added : List NetWires) → All (IsBelow n) added → wires_for n added ≡ []
for_past n [] all = refl
for_past n (one ∷ added) all =
    let less : one.net < n = All-head (IsBelow n) one added all in
    let test : (one.net == n) ≡ false = grind (arith, nat_tests, less) in
    rw test (for_past n added (All-tail (IsBelow n) one added all))

for_other : (n net : ℕ) (walks : List NetWires) → n ≢ net → All (IsOf net) walks → wires_for n walks ≡ []
for_other n net [] other all = refl
for_other n net (one ∷ walks) other all =
    let own : one.net ≡ net = All-head (IsOf net) one walks all in
    let differ : one.net ≢ n = λ same. other (sym same ∙ own) in
    let test : (one.net == n) ≡ false = grind (arith, nat_tests, differ) in
    rw test (for_other n net walks other (All-tail (IsOf net) one walks all))

below_more : (n : ℕ) (added : List NetWires) → All (IsBelow n) added → All (IsBelow (n + 1)) added
below_more n [] all = All-nil (IsBelow (n + 1))
below_more n (one ∷ added) all =
    let less : one.net < n = All-head (IsBelow n) one added all in
    All-cons (IsBelow (n + 1)) one added (omega (arith, less)) (below_more n added (All-tail (IsBelow n) one added all))

own_below : (n : ℕ) (walks : List NetWires) → All (IsOf n) walks → All (IsBelow (n + 1)) walks
own_below n [] all = All-nil (IsBelow (n + 1))
own_below n (one ∷ walks) all =
    let own : one.net ≡ n = All-head (IsOf n) one walks all in
    All-cons (IsBelow (n + 1)) one walks (omega (arith, own)) (own_below n walks (All-tail (IsOf n) one walks all))

-- the run goes on by the walks of one net
record HasWalks (design : DesignModel) (flat : FlatModel) (net : ℕ) (added : List NetWires) (wires : List Wire) (grown : FlatModel) : Type 0 where
  pub walks : List NetWires
  pub run : RouteRun design flat (added ++ walks) grown
  pub own : All (IsOf net) walks
  pub wires_are : wires_for net walks ≡ wires
  pub joined : (other : ℕ) → other < net → ¬ IsOpenNet design grown other

module _ (design : DesignModel) (flat : FlatModel) (net : ℕ) (added : List NetWires) (mid : FlatModel) (run : RouteRun design flat added mid)
    (joined : (other : ℕ) → other < net → ¬ IsOpenNet design mid other) where
  has_walks : (wires : List Wire) (grown : FlatModel) → NetRun design net mid wires grown → HasWalks design flat net added wires grown
  has_walks wires grown begun = record {
    walks = [];
    run = subst (λ a. RouteRun design flat a mid) (sym (append-nil added)) run;
    own = All-nil (IsOf net);
    wires_are = refl;
    joined = joined;
  }
  has_walks wires grown (walked {mid = last} {nodes = nodes} had more net_run is_open walk are grows) =
      let before = has_walks had last net_run in
      let one : NetWires = record { net = net; wires = more } in
      let turn : IsTurn design last net = record { is_open = is_open; first = before.joined } in
      record {
        walks = before.walks ++ one ∷ [];
        run = subst (λ a. RouteRun design flat a grown) (append_assoc added before.walks (one ∷ [])) (run_goes_on net before.run turn walk are grows);
        own = All-append (IsOf net) before.walks (one ∷ []) before.own (All-cons (IsOf net) one [] refl (All-nil (IsOf net)));
        wires_are =
            wires_for_both net before.walks (one ∷ []) ∙ ap (λ ws. ws ++ wires_for net (one ∷ [])) before.wires_are
            ∙ ap (λ ws. had ++ ws) (for_own net more);
        joined = λ other less.
            stays_joined design net other (λ same. let e : ⊥ = omega (arith, less, same) in e) more last grown grows (before.joined other less);
      }

-- the lists with that of one net more
lists_next : (net : ℕ) (added walks : List NetWires) (lists : List (List Wire)) (wires : List Wire) → AreListsOf net added lists
    → All (IsBelow net) added → All (IsOf net) walks → wires_for net walks ≡ wires → AreListsOf (net + 1) (added ++ walks) (lists ++ wires ∷ [])
lists_next net added walks lists wires are below own wires_are = record {
  one_each = let count = are.one_each in let then = length-append lists (wires ∷ []) in omega (arith, count, then);
  each = each;
} where
  each : (n : ℕ) → n < net + 1 → slice_get (lists ++ wires ∷ []) n ≡ Some (wires_for n (added ++ walks))
  each n less = by (cases_lt n net) where
    by : (n < net) ⊎ (net ≤ n) → slice_get (lists ++ wires ∷ []) n ≡ Some (wires_for n (added ++ walks))
    by (inl before) =
        let none : wires_for n walks ≡ [] = for_other n net walks (λ same. let e : ⊥ = omega (arith, before, same) in e) own in
        get_first lists (wires ∷ []) n (wires_for n added) (are.each n before)
        ∙ ap Some (sym (wires_for_both n added walks ∙ ap (λ ws. wires_for n added ++ ws) none ∙ append-nil (wires_for n added)))
    by (inr past) =
        let same : net ≡ n = omega (arith, less, past) in
        let here : slice_get (lists ++ wires ∷ []) net ≡ Some (wires_for net (added ++ walks)) =
        ap (λ k. slice_get (lists ++ wires ∷ []) k) (sym are.one_each) ∙ get_last lists wires
        ∙ ap Some (sym (wires_for_both net added walks ∙ ap (λ ws. ws ++ wires_for net walks) (for_past net added below) ∙ wires_are)) in
        subst (λ k. slice_get (lists ++ wires ∷ []) k ≡ Some (wires_for k (added ++ walks))) same here

pub underway_next : (design : DesignModel) (flat : FlatModel) (net : ℕ) (lists : List (List Wire)) (mid grown : FlatModel) (wires : List Wire)
    → IsRunSoFar design flat net lists mid → NetRun design net mid wires grown → ¬ IsOpenNet design grown net
    → IsRunSoFar design flat (net + 1) (lists ++ wires ∷ []) grown
underway_next design flat net lists mid grown wires u net_run closed =
    let w = has_walks design flat net u.added mid u.run u.joined wires grown net_run in record {
      added = u.added ++ w.walks;
      run = w.run;
      below = All-append (IsBelow (net + 1)) u.added w.walks (below_more net u.added u.below) (own_below net w.walks w.own);
      joined = joined w.joined;
      lists_are = lists_next net u.added w.walks lists wires u.lists_are u.below w.own w.wires_are;
    }
  where
    joined : ((other : ℕ) → other < net → ¬ IsOpenNet design grown other) → (other : ℕ) → other < net + 1 → ¬ IsOpenNet design grown other
    joined lower other less = by (cases_lt other net) where
      by : (other < net) ⊎ (net ≤ other) → ¬ IsOpenNet design grown other
      by (inl before) = lower other before
      by (inr past) = let same : net ≡ other = omega (arith, less, past) in subst (λ n. ¬ IsOpenNet design grown n) same closed

pub underway_first : (design : DesignModel) (flat : FlatModel) → IsRunSoFar design flat 0 [] flat
underway_first design flat = record {
  added = [];
  run = run_begins;
  below = All-nil (IsBelow 0);
  joined = λ other less. absurd (omega (arith, less));
  lists_are = record { one_each = refl; each = λ n less. absurd (omega (arith, less)) };
}

-- where the turn of a net stops, the run does
pub run_stops : {A : Type 0} (design : DesignModel) (flat : FlatModel) (net : ℕ) (lists : List (List Wire)) (mid : FlatModel) (fault : RouteFault A)
    → IsRunSoFar design flat net lists mid → IsNetStop design mid net fault → IsRunStop design flat fault
run_stops design flat net lists mid (NotClean faults) u stop = stop
run_stops design flat net lists mid GridTooLarge u stop = stop
run_stops design flat net lists mid (Unroutable n) u stop =
    let stuck = stop.1 in
    let w = has_walks design flat net u.added mid u.run u.joined stuck.wires stuck.mid stuck.run in
    let here : IsUnroutable design flat net =
    record { added = u.added ++ w.walks; grown = stuck.mid; run = w.run; turn = record { is_open = stuck.is_open; first = w.joined }; none = stuck.none } in
    subst (IsUnroutable design flat) (sym stop.0) here
run_stops design flat net lists mid TooMany u stop =
    let w = has_walks design flat net u.added mid u.run u.joined stop.wires stop.mid stop.run in
    record {
      added = u.added ++ w.walks;
      grown = stop.mid;
      net = net;
      nodes = stop.nodes;
      before = stop.passes.before;
      wire = stop.passes.wire;
      after = stop.passes.after;
      last = stop.passes.last;
      run = w.run;
      turn = record { is_open = stop.is_open; first = w.joined };
      walk = stop.walk;
      wires = subst (AreWiresOf design stop.nodes) stop.passes.are stop.spelled;
      first = stop.passes.first;
      over = stop.passes.over;
    }
run_stops design flat net lists mid Memory u stop = tt

-- the same of lists that hold their wires, and of a design that is the same
pub underway_step : {V : Type 0} (wires_of : V → List Wire) (design d1 : DesignModel) (flat : FlatModel) (net : ℕ) (lists next : List V)
    (mid grown : FlatModel) (own : V) → d1 ≡ design → IsRunSoFar design flat net (map wires_of lists) mid → NetRun d1 net mid (wires_of own) grown
    → ¬ IsOpenNet d1 grown net → next ≡ lists ++ own ∷ [] → IsRunSoFar design flat (net + 1) (map wires_of next) grown
underway_step wires_of design d1 flat net lists next mid grown own same u net_run closed is =
    let then = underway_next design flat net (map wires_of lists) mid grown (wires_of own) u (subst (λ d. NetRun d net mid (wires_of own) grown) same net_run)
    (subst (λ d. ¬ IsOpenNet d grown net) same closed) in
    subst (λ ls. IsRunSoFar design flat (net + 1) ls grown) (sym (ap (map wires_of) is ∙ map_push wires_of lists own)) then

-- behind the last net the run has come to its end
pub underway_done : (design : DesignModel) (flat : FlatModel) (lists : List (List Wire)) (grown : FlatModel)
    → IsRunSoFar design flat (length design.nets) lists grown → IsDone design grown
underway_done design flat lists grown u net has = u.joined net has.1.net has

-- where the run stops the design is refused
pub refused_then : {A : Type 0} (design : DesignModel) (flat : FlatModel) (fault : RouteFault A) → ComesToRun design flat
    → IsRunStop design flat fault → IsRouteRefusal design fault
refused_then design flat (NotClean faults) comes stop = absurd stop
refused_then design flat GridTooLarge comes stop = absurd stop
refused_then design flat (Unroutable n) comes stop = (flat, comes, stop)
refused_then design flat TooMany comes stop = on_the_way comes stop
refused_then design flat Memory comes stop = tt

pub finished_underway : (design : DesignModel) (flat : FlatModel) (nets : ℕ) (lists : List (List Wire)) (grown : FlatModel)
    → nets ≡ length design.nets → ComesToRun design flat → IsRunSoFar design flat nets lists grown → IsWithinLimits grown
    → IsFinishedRun design lists
finished_underway design flat nets lists grown count comes u within =
    let all = subst (λ n. IsRunSoFar design flat n lists grown) count u in record {
      flat = flat;
      comes = comes;
      added = all.added;
      grown = grown;
      run = all.run;
      done = underway_done design flat lists grown all;
      within = within.shapes;
      lists_are = all.lists_are;
    }
