use Rattle.std.proofs.Common.{[], ◌∷◌, ◌++◌, codes, rules}
use Rattle.std.specs.List.{flat_map}
use Rattle.std.proofs.lemmas.Result.{on_ok_weaker}
use Rattle.leg_output.specs.Text.Clauses.{clause_words, kept_clause}
use Rattle.leg_output.specs.Text.Pins.{kept_clauses, port_clauses, pin_clauses}
use Rattle.leg_print.proofs.Appends.{clauses_pushed, entry_pushed}
use Rattle.leg_print.proofs.pins.push_pin.Goals as goal

pub returns : goal.returns
returns g c =
    let design = c.args.design.now in
    let pin = c.args.pin.now in
    let net = kept_clause (codes "NET") pin.net_name in
    let direction = kept_clause (codes "DIRECTION") pin.direction in
    let usage = kept_clause (codes "USE") pin.usage in
    let head = c.push_start.new.text.items in
    on_ok_weaker c.push_end.result (λ last.
    entry_pushed _ head c.push_ports.new.text.items _ (codes "-") (pin.name ∷ []) (clause_words (pin_clauses design pin))
    (search rules)
    (clauses_pushed head c.push_kept-3.new.text.items _ (kept_clauses pin) (flat_map (port_clauses design) pin.ports)
    (clauses_pushed head c.push_kept-2.new.text.items _ (net ++ direction) usage
    (clauses_pushed head c.push_kept.new.text.items _ net direction (search rules) (search rules)) (search rules)) (search rules))
    last) c.push_end.ensures
