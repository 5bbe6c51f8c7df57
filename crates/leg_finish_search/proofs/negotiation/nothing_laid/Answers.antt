use Rattle.std.proofs.Common.{◌+◌, ◌∷◌, [], ap, ◌∙◌}
use Rattle.std.proofs.lemmas.List.{length-append}
use Rattle.std.proofs.lemmas.List.Elements.{All-push}
use Rattle.leg_finish_search.specs.Steps.NetWalks.{IsLaidIn}
use Rattle.leg_finish_search.proofs.Elements.{none}
use Rattle.leg_finish_search.proofs.negotiation.nothing_laid.Goals as goal

pub loop-preserved : goal.loop-preserved
loop-preserved g c =
    let items = c.in_ok-push.ensures.items in
    let len = c.in_ok-push.ensures.len in
    record {
      count = rw items (length-append c.loop.laid.items (c.nothing.result ∷ []) ∙ ap (λ n. n + 1) c.loop.invariant.count);
      laid = λ size. rw items (All-push (IsLaidIn size) c.loop.laid.items c.nothing.result (c.loop.invariant.laid size)
          (none size c.nothing.result c.nothing.ensures));
    }
