use Rattle.leg_compare.proofs.WordSearch.{search_tells}
use Rattle.leg_compare.proofs.spelling.is_among.Goals as goal

pub returns : goal.returns
returns c =
    search_tells c.args.others.now c.args.words.now c.binary_search.result c.requires c.binary_search.ensures.bound c.binary_search.ensures.position _
    c.is_ok.ensures.value
