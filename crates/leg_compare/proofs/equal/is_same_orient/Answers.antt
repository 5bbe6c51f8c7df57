use Rattle.std.proofs.Common.{sym, ◌∙◌}
use denote.Enum.Bare.{same_true, true_same}
use Rattle.leg_geom.specs.contracts.orient.Orient.{the_type}
use Rattle.leg_compare.proofs.equal.is_same_orient.Goals as goal

pub returns : goal.returns
returns c = (λ e. same_true the_type tt _ _ (sym c.eq.ensures ∙ e), λ e. c.eq.ensures ∙ true_same the_type _ _ e)
