use Rattle.std.proofs.Common.{sym, ap, ◌∙◌}
use Rattle.leg_lex.specs.Word.{Word}
use Rattle.leg_app_message.specs.Conversion.{begins_lengths}
use Rattle.leg_app_message.proofs.Statements.{opens_next, stands_behind}
use Rattle.leg_app_message.proofs.scaling.length_in.Goals as goal

pub returns-then-is_of_library-clause-kept : goal.returns-then-is_of_library-clause-kept
returns-then-is_of_library-clause-kept g c =
    rw (c.bytes.ensures, ap (λ (w : Word). w.text) c.word.view_is) at (c.is_of_library.ensures c.if-is_of_library.true)

pub returns-then-is_of_library-clause-there : goal.returns-then-is_of_library-clause-there
returns-then-is_of_library-clause-there g c =
    stands_behind (begins_lengths c.args.fault.now.kind c.args.form.now) c.args.words.now c.loop-word.word-index c.word-item.result c.word-item.is
    c.loop-word-test.true (c.loop-word.invariant c.if-is_converted.true)

pub loop-word-preserved : goal.loop-word-preserved
loop-word-preserved g c = λ goes.
    opens_next (begins_lengths c.args.fault.now.kind c.args.form.now) c.args.words.now c.loop-word.word-index c.word-item.result
    c.loop-word.is_converted c.word-item.is c.loop-word-test.true c.loop-word.invariant
    (rw (ap (λ (w : Word). w.text) c.word.view_is) at (sym c.is_behind-is_converted.ensures ∙ goes))
