-- What a routing run has added, wire after wire, and that a flat without shorts and without shapes too near stays so.
use Rattle.std.proofs.Common.{◌≡◌, ◌==◌, ◌<◌, ℕ, List, [], ◌∷◌, ◌++◌, length, All, Bool, true, false, refl, sym, ap, ◌∙◌, subst, ◌≢◌, arith}
use Rattle.std.proofs.lemmas.Bool.Decides.{nat_tests}
use Rattle.std.proofs.lemmas.List.{append-nil, append_assoc}
use Rattle.std.proofs.lemmas.List.Elements.{All-nil, All-cons, All-append}
use Rattle.leg_lib_records.specs.Sound.{IsSound}
use Rattle.leg_design_records.specs.declared.records.Wire.{Wire}
use Rattle.leg_design_records.specs.Records.{DesignModel}
use Rattle.leg_rules.specs.Metal.Flat.{FlatModel}
use Rattle.leg_rules.specs.Route.MoreWires.{HasMoreWires}
use Rattle.leg_rules.specs.Route.MoreWires.HasMoreWires.{none, one_more}
use Rattle.leg_rules.specs.Route.Run.{NetWires, RouteRun}
use Rattle.leg_rules.specs.Joins.Violations.{IsOpenNet}
use Rattle.leg_rules.specs.Route.Run.RouteRun.{begun, walked}
use Rattle.leg_route_laws.specs.Growth.{AddedWire, Grows, of_net, wires_added}
use Rattle.leg_route_laws.specs.CleanWire.{HasNoSpacingFault}
use Rattle.leg_rules.specs.Route.Result.{wires_for}
use Rattle.leg_route.proofs.GrownLaws.{RunOfCleanWires, CleanWiresStay, GrowthGoesOn}
use Rattle.leg_route.proofs.MoreWires.{was_open}
use Rattle.leg_route.proofs.OpenWires.{walk_clean}

-- the wires of a run, each with its net
abbrev pub told : List NetWires → List AddedWire
told [] = []
told (one ∷ more) = of_net one.net one.wires ++ told more

pub told_then : (first second : List NetWires) → told (first ++ second) ≡ told first ++ told second
told_then [] second = refl
told_then (one ∷ first) second =
    ap (λ ws. of_net one.net one.wires ++ ws) (told_then first second) ∙ sym (append_assoc (of_net one.net one.wires) (told first) (told second))

pub told_one : (net : ℕ) (wires : List Wire) → told (record { net = net; wires = wires } ∷ []) ≡ of_net net wires
told_one net wires = append-nil (of_net net wires)

pub told_last : (added : List NetWires) (net : ℕ) (wires : List Wire)
    → told (added ++ record { net = net; wires = wires } ∷ []) ≡ told added ++ of_net net wires
told_last added net wires = told_then added (record { net = net; wires = wires } ∷ []) ∙ ap (λ ws. told added ++ ws) (told_one net wires)

-- the wires of a net among them
added_all : (other net : ℕ) (wires : List Wire) (more : List AddedWire) → (net == other) ≡ true
    → wires_added other (of_net net wires ++ more) ≡ wires ++ wires_added other more
added_all other net [] more same = refl
added_all other net (wire ∷ wires) more same = rw same (ap (λ ws. wire ∷ ws) (added_all other net wires more same))

added_none : (other net : ℕ) (wires : List Wire) (more : List AddedWire) → (net == other) ≡ false
    → wires_added other (of_net net wires ++ more) ≡ wires_added other more
added_none other net [] more differ = refl
added_none other net (wire ∷ wires) more differ = rw differ (added_none other net wires more differ)

added_next : (net : ℕ) (one : NetWires) (more : List NetWires) → wires_added net (told more) ≡ wires_for net more
    → wires_added net (told (one ∷ more)) ≡ wires_for net (one ∷ more)
added_next net one more rest = by (one.net == net) refl where
  by : (b : Bool) → (one.net == net) ≡ b → wires_added net (of_net one.net one.wires ++ told more) ≡ wires_for net (one ∷ more)
  by true same = rw same (added_all net one.net one.wires (told more) same ∙ ap (λ ws. one.wires ++ ws) rest)
  by false differ = rw differ (added_none net one.net one.wires (told more) differ ∙ rest)

pub added_for : (net : ℕ) (added : List NetWires) → wires_added net (told added) ≡ wires_for net added
added_for net [] = refl
added_for net (one ∷ more) = added_next net one more (added_for net more)

-- wires one after another
pub more_grows : (design : DesignModel) (net : ℕ) (wires : List Wire) (before after : FlatModel) → HasMoreWires design net wires before after
    → Grows design (of_net net wires) before after
more_grows design net wires before after none = refl
more_grows design net wires before after (one_more {mid = mid} {wires = others} step rest) = (mid, step, more_grows design net others mid after rest)

module _ (goes_on : GrowthGoesOn) (design : DesignModel) where
  pub run_grows : (flat grown : FlatModel) (added : List NetWires) → RouteRun design flat added grown → Grows design (told added) flat grown
  run_grows flat grown added begun = refl
  run_grows flat grown added (walked {mid = mid} {added = before} {wires = wires} net run turn walk spelled more) =
      subst (λ ws. Grows design ws flat grown) (sym (told_last before net wires))
      (goes_on design (told before) (of_net net wires) flat mid grown (run_grows flat mid before run) (more_grows design net wires mid grown more))

  -- the wire is of an entry of NETS
  abbrev IsOfEntry : AddedWire → Type 0
  IsOfEntry one = one.net < length design.nets

  -- all added wires are
  pub run_nets : (flat grown : FlatModel) (added : List NetWires) → RouteRun design flat added grown → All IsOfEntry (told added)
  run_nets flat grown added begun = All-nil IsOfEntry
  run_nets flat grown added (walked {mid = mid} {added = before} {wires = wires} net run turn walk spelled more) =
      subst (All IsOfEntry) (sym (told_last before net wires))
      (All-append IsOfEntry (told before) (of_net net wires) (run_nets flat mid before run) (all_of net wires turn.is_open.1.net))
    where
      all_of : (net : ℕ) (wires : List Wire) → net < length design.nets → All IsOfEntry (of_net net wires)
      all_of net [] within = All-nil IsOfEntry
      all_of net (wire ∷ wires) within = All-cons IsOfEntry (record { net = net; wire = wire }) (of_net net wires) within (all_of net wires within)

module _ (run_of_clean : RunOfCleanWires) (stay : CleanWiresStay) (design : DesignModel) where
  pub run_clean : (flat grown : FlatModel) (added : List NetWires) → IsSound design.library → HasNoSpacingFault design.library flat
      → RouteRun design flat added grown → HasNoSpacingFault design.library grown
  run_clean flat grown added sound clean begun = clean
  run_clean flat grown added sound clean (walked {mid = mid} {added = before} {nodes = nodes} {wires = wires} net run turn walk spelled more) =
      stay design net wires mid grown (run_clean flat mid before sound clean run)
      (walk_clean run_of_clean design mid net sound walk.from walk.to nodes wires walk.walk spelled)
      (more_grows design net wires mid grown more)

-- a net that is open after a run was open before it
pub was_open_first : (design : DesignModel) (flat grown : FlatModel) (added : List NetWires) (net : ℕ) → RouteRun design flat added grown
    → IsOpenNet design grown net → IsOpenNet design flat net
was_open_first design flat grown added net begun is_open = is_open
was_open_first design flat grown added net (walked {mid = mid} {added = before} {wires = wires} one run turn walk spelled more) is_open =
    was_open_first design flat mid before net run (by (net == one) refl)
  where
    by : (b : Bool) → (net == one) ≡ b → IsOpenNet design mid net
    by true same = let same_net : one ≡ net = grind (arith, nat_tests, same) in subst (IsOpenNet design mid) same_net turn.is_open
    by false other =
        let differ : net ≢ one = λ same. let e : ⊥ = grind (arith, nat_tests, other, same) in e in
        was_open design one net differ wires mid grown more is_open

-- wires for a net among those of two runs, one after the other
both_next : (net : ℕ) (one : NetWires) (first second : List NetWires) → wires_for net (first ++ second) ≡ wires_for net first ++ wires_for net second
    → wires_for net (one ∷ (first ++ second)) ≡ wires_for net (one ∷ first) ++ wires_for net second
both_next net one first second rest = by (one.net == net) refl where
  by : (b : Bool) → (one.net == net) ≡ b → wires_for net (one ∷ (first ++ second)) ≡ wires_for net (one ∷ first) ++ wires_for net second
  by true same = rw same (ap (λ ws. one.wires ++ ws) rest ∙ sym (append_assoc one.wires (wires_for net first) (wires_for net second)))
  by false differ = rw differ rest

pub wires_for_both : (net : ℕ) (first second : List NetWires) → wires_for net (first ++ second) ≡ wires_for net first ++ wires_for net second
wires_for_both net [] second = refl
wires_for_both net (one ∷ first) second = both_next net one first second (wires_for_both net first second)

-- a net that is not open before a run has no turn in it
pub no_wires_for : (design : DesignModel) (flat grown : FlatModel) (added : List NetWires) (net : ℕ) → RouteRun design flat added grown
    → ¬ IsOpenNet design flat net → wires_for net added ≡ []
no_wires_for design flat grown added net begun joined = refl
no_wires_for design flat grown added net (walked {mid = mid} {added = before} {wires = wires} one run turn walk spelled more) joined =
    let last : List NetWires = record { net = one; wires = wires } ∷ [] in
    wires_for_both net before last ∙ ap (λ ws. ws ++ wires_for net last) (no_wires_for design flat mid before net run joined) ∙ by (one == net) refl
  where
    by : (b : Bool) → (one == net) ≡ b → wires_for net (record { net = one; wires = wires } ∷ []) ≡ []
    by true same =
        let same_net : one ≡ net = grind (arith, nat_tests, same) in
        absurd (joined (was_open_first design flat mid before net run (subst (IsOpenNet design mid) same_net turn.is_open)))
    by false differ = rw differ refl
