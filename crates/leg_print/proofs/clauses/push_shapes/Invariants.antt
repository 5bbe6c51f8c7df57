use Rattle.std.proofs.Common.{◌≡◌, ◌++◌, map, take}
use Rattle.leg_output.specs.Words.{spaced}
use Rattle.leg_output.specs.Text.Clauses.{clause_words, shape_clause}
use Rattle.leg_print.proofs.clauses.push_shapes.Given as goal

abbrev pub invariant-loop-shape : goal.invariant-loop-shape
invariant-loop-shape g l = l.text.items ≡ l.fn.text.items ++ spaced (clause_words (map (shape_clause l.keyword l.design) (take l.shape-index l.shapes)))
