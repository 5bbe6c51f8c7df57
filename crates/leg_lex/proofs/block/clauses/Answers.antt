use Rattle.leg_lex.specs.Statements.{clauses_of}
use Rattle.leg_lex.proofs.StatementSearch.{clause_more}
use Rattle.leg_lex.proofs.block.clauses.Goals as goal

pub clauses-preserved : goal.clauses-preserved
clauses-preserved g c =
    clause_more c.clauses.clauses.items c.push.new.self.items
    (clauses_of c.args.statement.now) c.clauses.rest c.in-Some.clause c.up_to.new.self c.in_ok-push.ensures.items c.in-Some.ensures c.clauses.invariant
