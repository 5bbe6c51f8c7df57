-- The last span that begins by the one that is looked for has its sites, or none has.
use Rattle.std.proofs.Common.{rules, sym, ◌∙◌, arith}
use Rattle.std.proofs.lemmas.Bool.{ltb-true}
use Rattle.std.proofs.lemmas.List.Sorted.{IsPartitionPoint-from_clause}
use Rattle.leg_place.specs.declared.site_span.SiteSpan.{SiteSpan}
use Rattle.leg_place.specs.Steps.SiteSpan.{begins_by}
use Rattle.leg_place.proofs.CoveredSpans.{begins_partitioned, some_begin, last_covering}
use Rattle.leg_place.proofs.row_spans.is_covered.Goals as goal

pub returns-then-end-gt0 : goal.returns-then-end-gt0
returns-then-end-gt0 c =
    let spans = c.args.spans.now in
    let wanted = c.args.wanted.now in
    let point =
    IsPartitionPoint-from_clause (λ (span : SiteSpan). begins_by span wanted) spans _ c.partition_point-end.ensures.partitioned
    (begins_partitioned spans wanted c.requires) (λ a r q k. search rules) in (
      λ t. (last_covering spans wanted c.requires _ point c.partition_point-end.ensures.bound c.if-end-gt0.true _).0 (sym c.covers.ensures ∙ t),
      λ covered. c.covers.ensures ∙ (last_covering spans wanted c.requires _ point c.partition_point-end.ensures.bound c.if-end-gt0.true _).1 covered,
    )

pub returns-else-end-gt0 : goal.returns-else-end-gt0
returns-else-end-gt0 c =
    let spans = c.args.spans.now in
    let wanted = c.args.wanted.now in
    let point =
    IsPartitionPoint-from_clause (λ (span : SiteSpan). begins_by span wanted) spans _ c.partition_point-end.ensures.partitioned
    (begins_partitioned spans wanted c.requires) (λ a r q k. search rules) in (
      λ t. absurd (omega (arith, c.if-end-gt0.false, ltb-true 0 c.partition_point-end.result t)),
      λ covered. absurd (omega (arith, c.if-end-gt0.false, some_begin spans wanted c.requires _ point c.partition_point-end.ensures.bound covered)),
    )
