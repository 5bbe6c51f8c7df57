use Rattle.std.proofs.Common.{◌≡◌, ◌∙◌, true, drop, codes, refl, sym}
use Rattle.std.proofs.lemmas.Result.{err_from_is_err_and}
use Rattle.leg_lex.specs.Words.{is_at}
use Rattle.leg_lex.proofs.Keywords.{read_past, surely_read}
use Rattle.leg_lib.proofs.via.is_masked_rect.Goals as goal

pub returns-then-not-is_at : goal.returns-then-not-is_at
returns-then-not-is_at c = rw (← c.is_at.ensures, c.if-not-is_at.true) refl

pub returns-in_err-keyword : goal.returns-in_err-keyword
returns-in_err-keyword c =
    let there : is_at (codes "RECT") c.args.statement.now ≡ true = sym c.is_at.ensures ∙ c.if-not-is_at.false in
    let p = err_from_is_err_and c.from_residual.result c.from_residual.ensures.1 in
    rw (p.1, p.2) (λ not_memory. absurd (surely_read (codes "RECT") c.args.statement.now there
    (rw c.again-rect.ensures at c.in_err-keyword.ensures.reads not_memory)))

pub returns : goal.returns
returns c =
    let there : is_at (codes "RECT") c.args.statement.now ≡ true = sym c.is_at.ensures ∙ c.if-not-is_at.false in
    let rest : c.keyword.new.self ≡ drop 1 c.args.statement.now =
    read_past (codes "RECT") c.args.statement.now c.in_ok-keyword.field-0 c.keyword.new.self (rw c.again-rect.ensures at c.in_ok-keyword.ensures.reads) in
    rw (c.is_at-2.ensures, rest, there) refl
