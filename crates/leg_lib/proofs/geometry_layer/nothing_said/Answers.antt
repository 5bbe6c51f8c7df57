use Rattle.std.proofs.Common.{sym, ◌∙◌}
use Rattle.leg_lib.proofs.DrawnShapes.{nothing_more_said}
use Rattle.leg_lib.proofs.geometry_layer.nothing_said.Goals as goal

pub words-preserved : goal.words-preserved
words-preserved c =
    nothing_more_said c.args.profile c.words.words c.word.new.self _ _ c.in_ok-word.ensures.reads
    (sym c.is_at_refused_exception.ensures ∙ c.if-is_at_refused_exception.false) c.words.invariant
