use Rattle.std.proofs.Common.{sym, ◌∙◌}
use Rattle.leg_lex.proofs.StatementSearch.{found_second, looked_through}
use Rattle.leg_lex.proofs.block.only.Goals as goal

pub returns-then-is_some-clause-means : goal.returns-then-is_some-clause-means
returns-then-is_some-clause-means c = λ _.
    found_second c.args.keyword.now c.args.statements.now c.loop-statement.found c.loop-statement.statement-index c.statement-item.result
    c.loop-statement-test.true c.statement-item.is (sym c.is_at.ensures ∙ c.if-is_at.true)
    (sym c.is_some.ensures ∙ c.if-is_some.true) c.loop-statement.invariant

pub returns-clause-means : goal.returns-clause-means
returns-clause-means c =
    looked_through c.args.keyword.now c.args.statements.now c.loop-statement.statement-index c.loop-statement.found c.loop-statement-test.false
    c.loop-statement.invariant
