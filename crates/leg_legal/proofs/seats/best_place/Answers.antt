-- The best candidate is that of the best place.
use Rattle.std.proofs.Common.{◌≡◌, ◌<◌, length, pos, ◌+ℤ◌, ◌*ℤ◌, slice_get, Some, refl, sym, ap, subst, ◌∙◌, arith}
use Rattle.std.proofs.lemmas.Option.{slice_get_within, slice_get_read, same_Some}
use Rattle.leg_lex.specs.Number.{IsNumber}
use Rattle.leg_design_records.specs.declared.records.Row.{Row}
use Rattle.leg_rules.specs.declared.position.Candidate.{Candidate}
use Rattle.leg_legal_sites.specs.Steps.BestPosition.{IsCandidate}
use Rattle.leg_rules.specs.Legalise.Preference.{IsNoWorse}
use Rattle.leg_rules.specs.Legalise.Places.{Takes}
use Rattle.leg_legal.proofs.BestSeat.{ready, of_its_site, some_many, site_within, position_of, none_best, best_is}
use Rattle.leg_legal.proofs.seats.best_place.Goals as goal

pub best_position-requires-clause-rows : goal.best_position-requires-clause-rows
best_position-requires-clause-rows g c = c.requires.known.rows

pub best_position-requires-clause-ready : goal.best_position-requires-clause-ready
best_position-requires-clause-ready g c =
    ready c.args.design.now c.rows-rows.ensures.proper c.requires.c c.args.wanted.now c.requires.asks c.requires.boxes c.args.free.now c.requires.known

pub best_position-requires-clause-sized : goal.best_position-requires-clause-sized
best_position-requires-clause-sized g c = of_its_site c.args.design.now c.requires.c c.args.wanted.now c.requires.asks

pub returns-in-None-clause-best : goal.returns-in-None-clause-best
returns-in-None-clause-best g c =
    let none = c.in-None.ensures in
    λ k boxes asks known. none_best c.args.design.now c.rows-rows.ensures.proper k c.args.wanted.now asks boxes c.args.free.now known none

pub bounds-rows-found : goal.bounds-rows-found
bounds-rows-found g c =
    let best = c.in-Some.ensures in
    let inside : c.in-Some.found.row < length c.args.design.now.rows = slice_get_within c.args.design.now.rows c.in-Some.found.row best.0.row best.0.there in
    rw c.rows-rows.ensures.is inside

pub place_in-requires-clause-within : goal.place_in-requires-clause-within
place_in-requires-clause-within g c =
    let design = c.args.design.now in
    let wanted = c.args.wanted.now in
    let free = c.args.free.now in
    let found = c.in-Some.found in
    let row = c.index-rows-found.result in
    let best = c.in-Some.ensures in
    let cand : IsCandidate design.rows free.lists wanted found = best.0 in
    let inside : found.row < length design.rows = slice_get_within design.rows found.row cand.row cand.there in
    let within : found.row < length c.rows-rows.result.now = rw c.rows-rows.ensures.is inside in
    let read = slice_get_read c.rows-rows.result.now _ found.row row refl within c.index-rows-found.is in
    let there : slice_get design.rows found.row ≡ Some row = rw c.rows-rows.ensures.is at read in
    let row_is : row ≡ cand.row = same_Some row cand.row (sym there ∙ cand.there) in
    let some = some_many design c.rows-rows.ensures.proper c.requires.c wanted c.requires.asks c.requires.boxes free c.requires.known in
    let number : IsNumber (cand.row.at.x +ℤ pos found.first *ℤ wanted.site_width) =
    site_within design c.rows-rows.ensures.proper c.requires.c wanted c.requires.asks c.requires.boxes free c.requires.known found.row cand.row cand.there
    cand.same cand.stretches cand.known
    found.first (cand.sites found.first (omega arith) (omega (arith, some))) in
    rw row_is number

pub returns-in-Some-clause-best : goal.returns-in-Some-clause-best
returns-in-Some-clause-best g c =
    let design = c.args.design.now in
    let wanted = c.args.wanted.now in
    let free = c.args.free.now in
    let found = c.in-Some.found in
    let row = c.index-rows-found.result in
    let best = c.in-Some.ensures in
    let cand : IsCandidate design.rows free.lists wanted found = best.0 in
    let least : (d : Candidate) → IsCandidate design.rows free.lists wanted d → IsNoWorse found d = best.1 in
    let inside : found.row < length design.rows = slice_get_within design.rows found.row cand.row cand.there in
    let within : found.row < length c.rows-rows.result.now = rw c.rows-rows.ensures.is inside in
    let read = slice_get_read c.rows-rows.result.now _ found.row row refl within c.index-rows-found.is in
    let there : slice_get design.rows found.row ≡ Some row = rw c.rows-rows.ensures.is at read in
    let row_is : row ≡ cand.row = same_Some row cand.row (sym there ∙ cand.there) in
    let at : c.place_in.result.at ≡ record { x = cand.row.at.x +ℤ pos found.first *ℤ wanted.site_width; y = cand.row.at.y } =
    c.place_in.ensures.at ∙ ap (λ (r : Row). record { x = r.at.x +ℤ pos found.first *ℤ wanted.site_width; y = r.at.y }) row_is in
    let takes : Takes cand.row.orient wanted.y_symmetric wanted.orient c.place_in.result.orient =
    subst (λ (r : Row). Takes r.orient wanted.y_symmetric wanted.orient c.place_in.result.orient) row_is c.place_in.ensures.takes in
    λ k boxes asks known. best_is design c.rows-rows.ensures.proper k wanted asks boxes free known found cand least c.place_in.result at takes

pub returns-in-Some-clause-position : goal.returns-in-Some-clause-position
returns-in-Some-clause-position g c =
    let design = c.args.design.now in
    let wanted = c.args.wanted.now in
    let free = c.args.free.now in
    let found = c.in-Some.found in
    let row = c.index-rows-found.result in
    let best = c.in-Some.ensures in
    let cand : IsCandidate design.rows free.lists wanted found = best.0 in
    let inside : found.row < length design.rows = slice_get_within design.rows found.row cand.row cand.there in
    let within : found.row < length c.rows-rows.result.now = rw c.rows-rows.ensures.is inside in
    let read = slice_get_read c.rows-rows.result.now _ found.row row refl within c.index-rows-found.is in
    let there : slice_get design.rows found.row ≡ Some row = rw c.rows-rows.ensures.is at read in
    let row_is : row ≡ cand.row = same_Some row cand.row (sym there ∙ cand.there) in
    let at : c.place_in.result.at ≡ record { x = cand.row.at.x +ℤ pos found.first *ℤ wanted.site_width; y = cand.row.at.y } =
    c.place_in.ensures.at ∙ ap (λ (r : Row). record { x = r.at.x +ℤ pos found.first *ℤ wanted.site_width; y = r.at.y }) row_is in
    position_of design c.rows-rows.ensures.proper c.requires.c wanted c.requires.asks c.requires.boxes free c.requires.known found.row cand.row cand.there
    cand.same cand.stretches cand.known
    found.first cand.sites c.place_in.result at
