-- One part is two now, with the same sites.
use Rattle.std.proofs.Common.{◌≡◌, ◌<◌, ◌++◌, length, refl, ap, ◌∙◌, rules}
use Rattle.std.proofs.lemmas.Option.{slice_get_read}
use Rattle.leg_legal_sites.specs.Steps.Stretches.{AreFreeStretches}
use Rattle.leg_legal_sites.specs.Steps.Parts.{all_of, AreFewer}
use Rattle.leg_legal_sites.proofs.Parts.{cut_all, cut_in_row, in_row_fewer, set_fewer, free_left}
use Rattle.leg_legal_sites.proofs.take_parts.cut_part.Goals as goal

pub returns-in_err-rest-clause-in_row : goal.returns-in_err-rest-clause-in_row
returns-in_err-rest-clause-in_row g c =
    let parts = c.args.parts.now.items in
    let i = c.args.i in
    let p = c.index_mut.result.now in
    let within : i < length parts = search rules in
    let at = slice_get_read parts _ i p refl within c.index_mut.ensures.value in
    let same : c.cut.new.self ≡ p = c.in_err-rest.ensures.err in
    in_row_fewer parts c.requires.in_row _ (set_fewer parts i p c.cut.new.self at (rw same (λ k site. site)))

pub returns-in_err-insert-clause-in_row : goal.returns-in_err-insert-clause-in_row
returns-in_err-insert-clause-in_row g c =
    let parts = c.args.parts.now.items in
    let i = c.args.i in
    let p = c.index_mut.result.now in
    let within : i < length parts = search rules in
    let at = slice_get_read parts _ i p refl within c.index_mut.ensures.value in
    let both : c.cut.new.self ++ c.in_ok-rest.rest ≡ p = c.in_ok-rest.ensures.ok in
    let fewer : AreFewer p c.cut.new.self = rw (← both) (λ k site. free_left c.cut.new.self c.in_ok-rest.rest k site) in
    rw c.in_err-insert.ensures.items (in_row_fewer parts c.requires.in_row _ (set_fewer parts i p c.cut.new.self at fewer))

pub returns : goal.returns
returns g c =
    let parts = c.args.parts.now.items in
    let i = c.args.i in
    let p = c.index_mut.result.now in
    let within : i < length parts = search rules in
    let at = slice_get_read parts _ i p refl within c.index_mut.ensures.value in
    let both : c.cut.new.self ++ c.in_ok-rest.rest ≡ p = c.in_ok-rest.ensures.ok in
    let are : AreFreeStretches p = c.in_ok-rest.ensures.apart in
    let same : all_of c.insert.new.self.items ≡ all_of parts =
    ap all_of c.in_ok-insert.ensures.items ∙ cut_all parts i p c.cut.new.self c.in_ok-rest.rest at both in
    record {
      kept = λ k. rw same (λ site. site, λ site. site);
      in_row = rw c.in_ok-insert.ensures.items (cut_in_row parts i p c.cut.new.self c.in_ok-rest.rest at both are c.requires.in_row);
    }
