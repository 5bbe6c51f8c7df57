use Rattle.std.proofs.Common.{◌≡◌, ◌∷◌, ◌++◌, [], nat_eq, reverse, cond, Some, sym, ap, ◌∙◌, arith}
use Rattle.std.specs.HashMap.{get_by}
use Rattle.std.proofs.lemmas.Grind.{common_steps}
use Rattle.std.proofs.lemmas.List.{reverse-append}
use Rattle.leg_grammar.specs.Def.Turns.{turn_number}
use Rattle.leg_design_common.specs.declared.turn_table.TurnRow.{TurnRow}
use Rattle.leg_design_common.specs.Steps.TurnRow.{row_with, row_or_none}
use Rattle.leg_design_common.proofs.TurnRows.{number_more}
use Rattle.leg_design_common.proofs.turn_table.TurnTable.add.Goals as goal

pub invariant_of-self-2 : goal.invariant_of-self-2
invariant_of-self-2 g c =
    let turned = c.args.turned in
    let items = c.self.inside.items.items in
    let rows = c.self.inside.rows in
    let row : c.with.result ≡ row_with (row_or_none (get_by (nat_eq turned.via) rows)) turned.orient turned.number =
    c.with.ensures ∙ ap (λ (r : TurnRow). row_with r turned.orient turned.number) c.row_of-row.ensures in
    let more : c.push.new.self.items ≡ items ++ turned ∷ [] = grind (arith, common_steps) in
    let all : reverse c.push.new.self.items ≡ turned ∷ reverse items = ap reverse more ∙ reverse-append items (turned ∷ []) in
    λ via orient.
    number_more rows c.insert.new.self (reverse items) turned c.self.invariant
    (λ q. c.in_ok-insert.ensures.updates.0 q ∙ ap (λ r. cond (nat_eq turned.via q) (Some r) (get_by (nat_eq q) rows)) row) via orient
    ∙ ap (λ ts. turn_number ts via orient) (sym all)
