-- Beneath the first node lie all rows.
use Rattle.std.proofs.Common.{◌≡◌, List, length, sym, ap, subst}
use Rattle.std.proofs.lemmas.Bool.{eqb-true}
use Rattle.leg_legal_sites.specs.declared.stretch.Stretch.{Stretch}
use Rattle.leg_legal_sites.specs.Steps.RowOrder.{IsRowOrder}
use Rattle.leg_legal_sites.specs.Steps.BestPosition.{IsCandidate, IsBestOf}
use Rattle.leg_legal_sites.specs.Steps.FreeListSharing.{row_lists}
use Rattle.leg_legal_sites.specs.Steps.FreeLists.{RowLists}
use Rattle.leg_legal_sites.proofs.BestBeneath.{none_without_rows}
use Rattle.leg_legal_sites.proofs.RowsAround.{best_of_all_with}
use Rattle.leg_legal_sites.proofs.free_rows.FreeRows.best_position.Goals as goal

pub returns-then-is_empty : goal.returns-then-is_empty
returns-then-is_empty g c =
    let same : c.self.inside.order.items ≡ c.args.self.now.order = ap (λ (f : RowLists). f.order) c.self.view_is in
    let none : length c.self.inside.order.items ≡ 0 =
    rw c.as_slice-order.ensures.value at (eqb-true (length c.as_slice-order.result.now) 0 (sym c.if-is_empty.ensures)) in
    none_without_rows c.args.design.now c.args.self.now.lists c.args.self.now.order c.args.wanted.now c.requires.rows.order (rw (← same) none)

pub returns-then-near : goal.returns-then-near
returns-then-near g c =
    let near = rw (c.as_slice-order.ensures.value, c.as_slice-lists.ensures.value) at (c.best_nearby-near.ensures.all c.if-near.true) in
    let P : List (List Stretch) → Type 0 = λ l. IsBestOf (IsCandidate c.args.design.now.rows l c.args.wanted.now) c.best_nearby-near.result.best in
    subst P (ap (λ (f : RowLists). f.lists) c.self.view_is) near

pub returns : goal.returns
returns g c =
    let design = c.args.design.now in
    let order = c.self.inside.order.items in
    let lists = c.self.inside.lists.items in
    let same : order ≡ c.args.self.now.order = ap (λ (f : RowLists). f.order) c.self.view_is in
    let is_order : IsRowOrder design.rows order = rw same c.requires.rows.order in
    let found = rw (c.as_slice-order.ensures.value, c.as_slice-lists.ensures.value) at c.best_nearby-near.ensures.found in
    let best = rw (c.as_slice-order.ensures.value, c.as_slice-lists.ensures.value) at c.best_beneath.ensures in
    let P : List (List Stretch) → Type 0 = λ l. IsBestOf (IsCandidate design.rows l c.args.wanted.now) c.best_beneath.result in
    subst P (ap (λ (f : RowLists). f.lists) c.self.view_is)
    (best_of_all_with design.rows order (row_lists order lists) c.args.wanted.now is_order c.best_nearby-near.result.best c.best_beneath.result found best)
