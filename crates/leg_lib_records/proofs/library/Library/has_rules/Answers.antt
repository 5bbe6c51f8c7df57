use Rattle.std.proofs.Common.{sym, ap, ◌∙◌}
use Rattle.std.proofs.lemmas.Slice.Eq.{slice_eq-Decides}
use Rattle.std.proofs.lemmas.Bool.Decides.{Decides-like}
use Rattle.leg_lib_records.specs.Records.{LibraryModel}
use Rattle.leg_lib_records.proofs.Same.{same_rule, rule_decides}
use Rattle.leg_lib_records.proofs.library.Library.has_rules.Goals as goal

pub returns : goal.returns
returns g c =
    let mine = c.as_vec.ensures ∙ ap (λ (l : LibraryModel). l.rules) c.self.view_is in
    let others = c.as_vec-2.ensures ∙ ap (λ (l : LibraryModel). l.rules) c.other.view_is in
    let same = slice_eq-Decides {E = same_rule} rule_decides c.as_vec.result.now.items c.as_vec-2.result.now.items c.eq.result c.eq.ensures in
    Decides-like c.eq.result (λ e. sym mine ∙ e ∙ others) (λ e. mine ∙ e ∙ sym others) same
