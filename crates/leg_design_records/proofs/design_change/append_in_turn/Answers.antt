-- The entry of the loop gets the wires of its list, or keeps its own.
use Rattle.std.proofs.Common.{rules, ◌≡◌, ◌<◌, ◌+◌, ◌++◌, ◌∷◌, [], ◌∙◌, length, map, get_or, sym, ap, refl, arith}
use Rattle.std.proofs.lemmas.List.{map-append, length-map, append_assoc, length-append}
use Rattle.leg_lemmas.proofs.Options.{on_err_anyway}
use Rattle.leg_design_records.specs.Records.{NetModel}
use Rattle.leg_design_records.proofs.EachWith.{each_with_none, one_more_list, same_entry}
use Rattle.leg_design_records.proofs.design_change.append_in_turn.Goals as goal

pub loop-wires-init : goal.loop-wires-init
loop-wires-init g c = (sym (each_with_none _ c.args.nets.now), refl, c.into_iter-wires-iterator.ensures.into_iter_gives.0)

pub returns-in_err-append-clause-some : goal.returns-in_err-append-clause-some
returns-in_err-append-clause-some g c =
    let is = c.loop-wires.invariant in
    let net : NetModel = c.index-nets-n.result in
    let there : net ≡ get_or c.loop-wires.nets c.loop-wires.n net = search rules in
    let same = c.in_err-append.ensures.unchanged in
    on_err_anyway c.from_residual.result (
      map (λ w. w.items) c.loop-wires.yielded,
      same_entry c.loop-wires.nets c.loop-wires.n net _ there (search rules)
          ∙ is.0,
    )

pub loop-wires-preserved : goal.loop-wires-preserved
loop-wires-preserved g c =
    let yielded = c.loop-wires.yielded in
    let is = c.loop-wires.invariant in
    let steps = c.in-Some.ensures.steps.0 in
    let all : yielded ++ c.in-Some.wires ∷ c.next.new.self.rest.items ≡ c.args.lists.items = rw (← steps) is.2 in
    let long : length yielded + length (c.in-Some.wires ∷ c.next.new.self.rest.items) ≡ length c.args.lists.items =
    sym (length-append yielded (c.in-Some.wires ∷ c.next.new.self.rest.items)) ∙ ap length all in
    let within : c.loop-wires.n < length c.args.nets.now = omega (arith, is.1, long, c.requires) in
    let net : NetModel = c.index-nets-n.result in
    let there : net ≡ get_or c.loop-wires.nets c.loop-wires.n net = search rules in
    let lists = map (λ w. w.items) yielded in
    let appended = c.in_ok-append.ensures.appended in
    let one : c.loop-wires.n ≡ length lists = is.1 ∙ sym (length-map yielded _) in (
      rw (map-append _ yielded (c.in-Some.wires ∷ [])) (one_more_list c.args.nets.now c.loop-wires.nets lists c.loop-wires.n net _ c.in-Some.wires.items is.0
          one within there (search rules)),
      omega (arith, is.1, length-append yielded (c.in-Some.wires ∷ [])),
      append_assoc yielded (c.in-Some.wires ∷ []) c.next.new.self.rest.items ∙ all,
    )
