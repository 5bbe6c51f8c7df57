use Rattle.std.proofs.Common.{[], ◌∷◌, ◌++◌, codes, rules}
use Rattle.std.specs.List.{flat_map}
use Rattle.std.proofs.lemmas.Result.{on_ok_weaker}
use Rattle.leg_output.specs.Words.{spaced}
use Rattle.leg_output.specs.Text.Clauses.{clause_words, kept_clause}
use Rattle.leg_output.specs.Text.Nets.{terminal_words, net_head, wire_line, wiring_lines}
use Rattle.leg_print.proofs.Appends.{three_parts, start_pushed}
use Rattle.leg_print.proofs.nets.push_net.Goals as goal

pub returns : goal.returns
returns g c =
    let net = c.args.net.now in
    let design = c.args.design.now in
    let terminals = flat_map (terminal_words design) net.terminals in
    on_ok_weaker c.push_end.result (λ last.
    three_parts _ c.push_kept.new.text.items c.push_wires.new.text.items _ (codes "-" ++ spaced (net_head design net))
    (flat_map wire_line (wiring_lines design c.args.special net.wires)) (codes " ;\n")
    (start_pushed _ c.push_terminals.new.text.items _ (codes "-") (net.name ∷ terminals) (clause_words (kept_clause (codes "USE") net.usage))
    (start_pushed _ c.push_start.new.text.items _ (codes "-") (net.name ∷ []) terminals (search rules) (search rules)) (search rules))
    (search rules) last) c.push_end.ensures
