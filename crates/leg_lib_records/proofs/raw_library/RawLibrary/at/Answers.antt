use Rattle.std.proofs.Common.{refl}
use Rattle.std.proofs.lemmas.Result.{IfOk-from_err, err_from_is_err_and}
use Rattle.leg_lib_records.specs.Records.{LibraryModel}
use Rattle.leg_lib_records.specs.Scale.{IsLibraryAt}
use Rattle.leg_lib_records.proofs.Scaling.{one_library}
use Rattle.leg_lib_records.proofs.Sound.{sound_at}
use Rattle.leg_lib_records.proofs.raw_library.RawLibrary.at.Goals as goal

pub returns-in_err-layers-clause-ok : goal.returns-in_err-layers-clause-ok
returns-in_err-layers-clause-ok g c = IfOk-from_err _ _ c.from_residual.ensures.0

pub returns-in_err-layers-clause-only : goal.returns-in_err-layers-clause-only
returns-in_err-layers-clause-only g c = IfOk-from_err _ _ c.from_residual.ensures.0

pub returns-in_err-layers-clause-none : goal.returns-in_err-layers-clause-none
returns-in_err-layers-clause-none g c =
    let p = err_from_is_err_and c.from_residual.result c.from_residual.ensures.1 in
    rw (p.1, p.2, ← c.self.view_is) (λ not_memory library is. c.in_err-layers.ensures.none not_memory library.layers is.layers)

pub returns-in_err-layers-clause-nameless : goal.returns-in_err-layers-clause-nameless
returns-in_err-layers-clause-nameless g c =
    let p = err_from_is_err_and c.from_residual.result c.from_residual.ensures.1 in
    rw (p.1, p.2) c.in_err-layers.ensures.nameless

pub returns-in_err-sites-clause-ok : goal.returns-in_err-sites-clause-ok
returns-in_err-sites-clause-ok g c = IfOk-from_err _ _ c.from_residual-in_err-sites.ensures.0

pub returns-in_err-sites-clause-only : goal.returns-in_err-sites-clause-only
returns-in_err-sites-clause-only g c = IfOk-from_err _ _ c.from_residual-in_err-sites.ensures.0

pub returns-in_err-sites-clause-none : goal.returns-in_err-sites-clause-none
returns-in_err-sites-clause-none g c =
    let p = err_from_is_err_and c.from_residual-in_err-sites.result c.from_residual-in_err-sites.ensures.1 in
    rw (p.1, p.2, ← c.self.view_is) (λ not_memory library is. c.in_err-sites.ensures.none not_memory library.sites is.sites)

pub returns-in_err-sites-clause-nameless : goal.returns-in_err-sites-clause-nameless
returns-in_err-sites-clause-nameless g c =
    let p = err_from_is_err_and c.from_residual-in_err-sites.result c.from_residual-in_err-sites.ensures.1 in
    rw (p.1, p.2) c.in_err-sites.ensures.nameless

pub returns-in_err-masters-clause-ok : goal.returns-in_err-masters-clause-ok
returns-in_err-masters-clause-ok g c = IfOk-from_err _ _ c.from_residual-in_err-masters.ensures.0

pub returns-in_err-masters-clause-only : goal.returns-in_err-masters-clause-only
returns-in_err-masters-clause-only g c = IfOk-from_err _ _ c.from_residual-in_err-masters.ensures.0

pub returns-in_err-masters-clause-none : goal.returns-in_err-masters-clause-none
returns-in_err-masters-clause-none g c =
    let p = err_from_is_err_and c.from_residual-in_err-masters.result c.from_residual-in_err-masters.ensures.1 in
    rw (p.1, p.2, ← c.self.view_is) (λ not_memory library is. c.in_err-masters.ensures.none not_memory library.masters is.masters)

pub returns-in_err-masters-clause-nameless : goal.returns-in_err-masters-clause-nameless
returns-in_err-masters-clause-nameless g c =
    let p = err_from_is_err_and c.from_residual-in_err-masters.result c.from_residual-in_err-masters.ensures.1 in
    rw (p.1, p.2) c.in_err-masters.ensures.nameless

pub returns-in_err-vias-clause-ok : goal.returns-in_err-vias-clause-ok
returns-in_err-vias-clause-ok g c = IfOk-from_err _ _ c.from_residual-in_err-vias.ensures.0

pub returns-in_err-vias-clause-only : goal.returns-in_err-vias-clause-only
returns-in_err-vias-clause-only g c = IfOk-from_err _ _ c.from_residual-in_err-vias.ensures.0

pub returns-in_err-vias-clause-none : goal.returns-in_err-vias-clause-none
returns-in_err-vias-clause-none g c =
    let p = err_from_is_err_and c.from_residual-in_err-vias.result c.from_residual-in_err-vias.ensures.1 in
    rw (p.1, p.2, ← c.self.view_is) (λ not_memory library is. c.in_err-vias.ensures.none not_memory library.vias is.vias)

pub returns-in_err-vias-clause-nameless : goal.returns-in_err-vias-clause-nameless
returns-in_err-vias-clause-nameless g c =
    let p = err_from_is_err_and c.from_residual-in_err-vias.result c.from_residual-in_err-vias.ensures.1 in
    rw (p.1, p.2) c.in_err-vias.ensures.nameless

pub returns-in_err-rules-clause-ok : goal.returns-in_err-rules-clause-ok
returns-in_err-rules-clause-ok g c = IfOk-from_err _ _ c.from_residual-in_err-rules.ensures.0

pub returns-in_err-rules-clause-only : goal.returns-in_err-rules-clause-only
returns-in_err-rules-clause-only g c = IfOk-from_err _ _ c.from_residual-in_err-rules.ensures.0

pub returns-in_err-rules-clause-none : goal.returns-in_err-rules-clause-none
returns-in_err-rules-clause-none g c =
    let p = err_from_is_err_and c.from_residual-in_err-rules.result c.from_residual-in_err-rules.ensures.1 in
    rw (p.1, p.2, ← c.self.view_is) (λ not_memory library is. c.in_err-rules.ensures.none not_memory library.rules is.rules)

pub returns-in_err-rules-clause-nameless : goal.returns-in_err-rules-clause-nameless
returns-in_err-rules-clause-nameless g c =
    let p = err_from_is_err_and c.from_residual-in_err-rules.result c.from_residual-in_err-rules.ensures.1 in
    rw (p.1, p.2) c.in_err-rules.ensures.nameless

pub invariant_of-result : goal.invariant_of-result
invariant_of-result g c =
    let library : LibraryModel = record {
      units = c.args.n;
      layers = c.in_ok-layers.layers;
      sites = c.in_ok-sites.sites;
      vias = c.in_ok-vias.vias;
      masters = c.in_ok-masters.masters;
      rules = c.in_ok-rules.rules;
    } in
    let at : IsLibraryAt c.args.n c.args.self.now library = rw (← c.self.view_is) (record {
      units = refl;
      layers = c.in_ok-layers.ensures.ok;
      sites = c.in_ok-sites.ensures.ok;
      vias = c.in_ok-vias.ensures.ok;
      masters = c.in_ok-masters.ensures.ok;
      rules = c.in_ok-rules.ensures.ok;
    }) in
    sound_at c.args.n c.args.self.now library c.requires.above c.requires.within (rw (← c.self.view_is) c.self.invariant) at

pub returns-clause-ok : goal.returns-clause-ok
returns-clause-ok g c = rw (← c.self.view_is) (record {
  units = refl;
  layers = c.in_ok-layers.ensures.ok;
  sites = c.in_ok-sites.ensures.ok;
  vias = c.in_ok-vias.ensures.ok;
  masters = c.in_ok-masters.ensures.ok;
  rules = c.in_ok-rules.ensures.ok;
})

pub returns-clause-only : goal.returns-clause-only
returns-clause-only g c =
    let library : LibraryModel = record {
      units = c.args.n;
      layers = c.in_ok-layers.layers;
      sites = c.in_ok-sites.sites;
      vias = c.in_ok-vias.vias;
      masters = c.in_ok-masters.masters;
      rules = c.in_ok-rules.rules;
    } in
    let at : IsLibraryAt c.args.n c.args.self.now library = rw (← c.self.view_is) (record {
      units = refl;
      layers = c.in_ok-layers.ensures.ok;
      sites = c.in_ok-sites.ensures.ok;
      vias = c.in_ok-vias.ensures.ok;
      masters = c.in_ok-masters.ensures.ok;
      rules = c.in_ok-rules.ensures.ok;
    }) in
    λ said is. one_library c.args.n c.args.self.now said library is at
