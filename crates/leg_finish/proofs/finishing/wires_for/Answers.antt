use Rattle.std.proofs.Common.{◌≡◌, [], length, map, replicate, inr, subst, ap, ◌∙◌, arith}
use Rattle.std.proofs.lemmas.Bool.Decides.{nat_tests}
use Rattle.leg_rules.specs.Metal.Flat.{FlatModel}
use Rattle.leg_finish.specs.Steps.OpenNets.{AreOpenNets}
use Rattle.leg_finish.proofs.Judgement.{none_open}
use Rattle.leg_finish.proofs.WiresByNet.{laid_first}
use Rattle.leg_route_laws.proofs.Within.{nets_within}
use Rattle.leg_finish.proofs.finishing.wires_for.Goals as goal

pub open_nets-requires : goal.open_nets-requires
open_nets-requires g c = nets_within c.args.design.now c.in_ok-flat.flat c.in_ok-flat.ensures.clean.judged.is_flat

pub returns-then-is_empty-clause-found : goal.returns-then-is_empty-clause-found
returns-then-is_empty-clause-found g c =
    let design = c.args.design.now in
    let flat = c.in_ok-flat.flat in
    let clean = c.in_ok-flat.ensures.clean in
    let nets = c.in_ok-nets.nets in
    let none : length nets.items ≡ 0 = grind (arith, nat_tests, c.is_empty.ensures, c.if-is_empty.true, nets.ok.0) in
    record {
      flat = flat;
      comes = record { clean = clean; fits = c.in_ok-grid.ensures.fits };
      grown = flat;
      laid = laid_first c.no_wires_by_net.ensures design flat (map (λ wires. wires.items) c.in_ok-lists.lists.items)
          (c.in_ok-lists.ensures ∙ ap (λ n. replicate n []) (ap length c.nets.ensures.is));
      within = c.in_ok-nets.ensures.within;
      no_fault = record { spacing = λ fault holds. clean.none fault (inr holds); joined = none_open design flat nets.items c.in_ok-nets.ensures.are none };
    }

pub why_unfinished-requires-clause-nets : goal.why_unfinished-requires-clause-nets
why_unfinished-requires-clause-nets g c = λ other is_other.
    let design = c.args.design.now in
    let flat = c.in_ok-flat.flat in
    let nets = c.in_ok-nets.nets.items in
    let same : flat ≡ other = c.design_has_one_flat.ensures design flat other c.in_ok-flat.ensures.clean.judged.is_flat is_other in
    rw c.deref-in-Left.ensures.value (subst (λ (f : FlatModel). AreOpenNets design f nets) same c.in_ok-nets.ensures.are)
