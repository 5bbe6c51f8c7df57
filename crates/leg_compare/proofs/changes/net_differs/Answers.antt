use Rattle.std.proofs.Common.{◌≡◌, ◌↔◌, IsTrue, List, ap, ◌∙◌, subst}
use Rattle.leg_design_records.specs.declared.records.Terminal.{Terminal}
use Rattle.leg_design_records.specs.Records.{NetModel}
use Rattle.leg_rules.specs.Compare.Spelling.{AreSameTerminals, spelled_terminals}
use Rattle.leg_compare.proofs.TerminalSets.{not_same}
use Rattle.leg_compare.proofs.changes.net_differs.Goals as goal

pub returns-in_ok-are_same_terminals-in-Terminals : goal.returns-in_ok-are_same_terminals-in-Terminals
returns-in_ok-are_same_terminals-in-Terminals g c =
    let before : c.as_slice-before.result.now ≡ c.args.a.now.terminals = c.as_slice-before.ensures ∙ ap (λ (net : NetModel). net.terminals) c.a.view_is in
    let after : c.as_slice-after.result.now ≡ c.args.b.now.terminals = c.as_slice-after.ensures ∙ ap (λ (net : NetModel). net.terminals) c.b.view_is in
    let answer = c.in_ok-are_same_terminals-in-Terminals.field-0 in
    rw c.in-Terminals.is (not_same answer
    (subst (λ (l : List Terminal). IsTrue answer ↔ AreSameTerminals (spelled_terminals c.args.first.now l)
    (spelled_terminals c.args.second.now c.args.b.now.terminals)) before
    (subst (λ (l : List Terminal). IsTrue answer ↔ AreSameTerminals (spelled_terminals c.args.first.now c.as_slice-before.result.now)
    (spelled_terminals c.args.second.now l)) after
    c.in_ok-are_same_terminals-in-Terminals.ensures)))
