use Rattle.std.proofs.Common.{ap, ◌∙◌, [], Some, None, slice_get, unwrap_or, rules, tests}
use Rattle.std.specs.List.{slice_split}
use Rattle.std.proofs.lemmas.Iterator.Splits.{YieldsList-from_slice_split}
use Rattle.std.proofs.lemmas.Iterator.Consumers.{nth_from_yields_List}
use Rattle.leg_lex.specs.Cut.{is_line_feed}
use Rattle.leg_app_message.proofs.text_line.line_of.Goals as goal

pub returns-in-Some : goal.returns-in-Some
returns-in-Some c =
    ap (λ o. unwrap_or o []) (nth_from_yields_List (Some c.in-Some.line) c.nth.new.self c.saturating_sub-lines_before.result c.in-Some.ensures.ran
    (YieldsList-from_slice_split _ is_line_feed c.args.text.now c.split.ensures.rest c.split.ensures.done c.split.ensures.closure
    (λ x b q k. search (rules, tests))))
    ∙ ap (λ n. unwrap_or (slice_get (slice_split is_line_feed c.args.text.now) n) []) c.saturating_sub-lines_before.ensures

pub returns-in-None : goal.returns-in-None
returns-in-None c =
    ap (λ o. unwrap_or o []) (nth_from_yields_List None c.nth.new.self c.saturating_sub-lines_before.result c.in-None.ensures.ran
    (YieldsList-from_slice_split _ is_line_feed c.args.text.now c.split.ensures.rest c.split.ensures.done c.split.ensures.closure
    (λ x b q k. search (rules, tests))))
    ∙ ap (λ n. unwrap_or (slice_get (slice_split is_line_feed c.args.text.now) n) []) c.saturating_sub-lines_before.ensures
