use Rattle.std.proofs.Common.{◌-◌, length, take, sym, ◌∙◌, append-nil}
use Rattle.leg_drc_rules.specs.Section.{statements_in}
use Rattle.leg_drc_rules.proofs.Cuts.{cut_at, cut_none, no_statement, statement_more}
use Rattle.leg_drc_rules.proofs.statements.statements.Goals as goal

pub returns-in_err-statement-clause-memory : goal.returns-in_err-statement-clause-memory
returns-in_err-statement-clause-memory g c =
    absurd (cut_none (length c.statements.rest - c.args.left) c.statements.rest (sym c.has_semicolon.ensures ∙ c.statements-test.true)
    (c.in_err-statement.ensures.reads c.in_err-statement.ensures.no_memory))

pub statements-smaller : goal.statements-smaller
statements-smaller g c =
    (cut_at c.statements.rest c.in_ok-statement.field-0 c.statement.new.self c.args.left c.statements.invariant.within
    (sym c.has_semicolon.ensures ∙ c.statements-test.true) c.in_ok-statement.ensures.reads).fewer

pub statements-preserved : goal.statements-preserved
statements-preserved g c =
    let cut = cut_at c.statements.rest c.in_ok-statement.field-0 c.statement.new.self c.args.left c.statements.invariant.within
    (sym c.has_semicolon.ensures ∙ c.statements-test.true) c.in_ok-statement.ensures.reads in
    record {
      found = statement_more c.statements.statements.items c.push.new.self.items
          (statements_in (take (length c.args.words.now - c.args.left) c.args.words.now)) c.statements.rest c.in_ok-statement.field-0 c.statement.new.self
          c.args.left c.in_ok-push.ensures.items cut c.statements.invariant.found;
      within = cut.within;
    }

pub returns-clause-found : goal.returns-clause-found
returns-clause-found g c =
    let none = no_statement (take (length c.statements.rest - c.args.left) c.statements.rest) (sym c.has_semicolon.ensures ∙ c.statements-test.false) in
    sym (append-nil c.statements.statements.items) ∙ (rw none at c.statements.invariant.found)
