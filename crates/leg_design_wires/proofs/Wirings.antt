-- Paths of wiring, and clauses that say them: each takes a word at least.
use Rattle.std.proofs.Common.{◌≡◌, suc, ◌<◌, Bool, ◌&&◌, List, [], ◌++◌, length, Some, codes, arith}
use Rattle.leg_lex.specs.Words.{Words, is_at}
use Rattle.leg_lex.specs.NameLookup.{place_of}
use Rattle.leg_lex.proofs.Until.{Below, Shortens, below_some, below_bind, below_ask, below_if, below_more, until_below}
use Rattle.leg_lex.proofs.Shorter.{next_below, keyword_below, mark_below, name_below, word_below}
use Rattle.leg_lib_records.specs.Records.{LibraryModel, layer_names}
use Rattle.leg_design_records.specs.declared.records.Wire.{Wire}
use Rattle.leg_grammar.specs.declared.profile.Profile.{Profile}
use Rattle.leg_grammar.specs.declared.profile.Profile.TheVariants.{Narrow, Wide}
use Rattle.leg_grammar.specs.Def.Guard.{when}
use Rattle.leg_design_records.specs.Layers.{is_routing}
use Rattle.leg_grammar.specs.declared.path_width.PathWidth.TheVariants.{OfLayers, OfRule, Written}
use Rattle.leg_grammar.specs.Def.NetScope.{NetScopeModel, rule_named}
use Rattle.leg_grammar.specs.Def.Path.{path_wires}
use Rattle.leg_grammar.specs.Def.PathItem.{one_item, at_path_end}
use Rattle.leg_grammar.specs.Def.Wiring.{routing_at, past_taper, written_width_at, at_no_shape, past_shape, rule_at, entry_width, taper_at, path_width_at, path_at, at_no_new, new_path, paths_at, wiring_start, at_shape_clause, wires_at, wiring_at}
use Rattle.leg_design_records.specs.Wires.{is_even}
use Rattle.leg_design_wires.proofs.PathItems.{count_below, first_point_below, one_item_shortens}

pub routing_below : (library : LibraryModel) (words : Words) → Below (length words) (routing_at library words)
unfolding routing_at
routing_below library words =
    below_bind (omega arith) (name_below words) (λ name less.
    below_ask (place_of name.0 (layer_names library)) (λ number.
    below_ask (when (is_routing library number)) (λ routes.
    below_some number name.1 less)))

past_taper_below : (words : Words) → Below (suc (length words)) (past_taper words)
unfolding past_taper
past_taper_below words =
    below_if (is_at (codes "TAPER") words)
    (below_more (omega arith) (keyword_below (codes "TAPER") words))
    (below_some tt words (omega arith))

written_width_below : (words : Words) → Below (length words) (written_width_at words)
unfolding written_width_at
written_width_below words =
    below_bind (omega arith) (count_below words) (λ width less.
    below_ask (when (is_even width.0)) (λ even.
    below_some width.0 width.1 less))

pub past_shape_shortens : Shortens past_shape
unfolding past_shape
past_shape_shortens before words =
    below_bind (omega arith) (mark_below 43 words) (λ plus less.
    below_bind (omega arith) (keyword_below (codes "SHAPE") plus.1) (λ start fewer.
    below_bind (omega arith) (word_below start.1) (λ word last.
    below_some tt word.1 last)))

pub past_shape_shorter : (before next : Unit {0}) (words rest : Words) → past_shape before words ≡ Some (next, rest) → length rest < length words
past_shape_shorter before next words rest said = (past_shape_shortens before words).left next rest said

pub rule_below : (scope : NetScopeModel) (words : Words) → Below (length words) (rule_at scope words)
unfolding rule_at
rule_below scope words =
    below_bind (omega arith) (name_below words) (λ name less.
    below_ask (rule_named scope name.0) (λ rule.
    below_some rule name.1 less))

taper_below : (profile : Profile) (scope : NetScopeModel) (words : Words) → Below (suc (length words)) (taper_at profile scope words)
unfolding taper_at
taper_below Narrow scope words = below_bind (omega arith) (past_taper_below words) (λ taper less. below_some OfLayers taper.1 less)
taper_below (Wide masks soft) scope words =
    below_if (is_at (codes "TAPERRULE") words)
    (below_bind (omega arith) (keyword_below (codes "TAPERRULE") words) (λ start less.
    below_bind (omega arith) (rule_below scope start.1) (λ rule fewer. below_some (OfRule rule.0) rule.1 (omega arith))))
    (below_if (is_at (codes "TAPER") words)
    (below_bind (omega arith) (keyword_below (codes "TAPER") words) (λ taper less. below_some OfLayers taper.1 (omega arith)))
    (below_some (entry_width scope.rule) words (omega arith)))

path_width_below : (scope : NetScopeModel) (special : Bool) (words : Words) → Below (suc (length words)) (path_width_at scope special words)
unfolding path_width_at
path_width_below scope special words =
    below_if special
    (below_bind (omega arith) (written_width_below words) (λ width less.
    below_bind (omega arith) (until_below at_no_shape past_shape past_shape_shortens tt width.1) (λ shapes fewer.
    below_some (Written width.0) shapes.1 (omega arith))))
    (taper_below scope.profile scope words)

path_below : (scope : NetScopeModel) (special : Bool) (words : Words) → Below (length words) (path_at scope special words)
unfolding path_at
path_below scope special words =
    below_bind (omega arith) (routing_below scope.library words) (λ layer less.
    below_bind (omega arith) (path_width_below scope special layer.1) (λ width fewer.
    below_bind (omega arith) (first_point_below width.1) (λ first shorter.
    below_bind (omega arith) (until_below at_path_end (one_item scope special) (one_item_shortens scope special) [] first.1) (λ items last.
    below_ask (path_wires scope width.0 layer.0 first.0.0 first.0.1 items.0) (λ wires.
    below_some wires items.1 last)))))

pub new_path_shortens : (scope : NetScopeModel) (special : Bool) → Shortens (new_path scope special)
unfolding new_path
new_path_shortens scope special wires words =
    below_bind (omega arith) (keyword_below (codes "NEW") words) (λ start less.
    below_bind (omega arith) (path_below scope special start.1) (λ path last.
    below_some (wires ++ path.0) path.1 last))

pub new_path_shorter : (scope : NetScopeModel) (special : Bool) (wires next : List Wire) (words rest : Words)
    → new_path scope special wires words ≡ Some (next, rest) → length rest < length words
new_path_shorter scope special wires next words rest said = (new_path_shortens scope special wires words).left next rest said

paths_below : (scope : NetScopeModel) (special : Bool) (words : Words) → Below (length words) (paths_at scope special words)
unfolding paths_at
paths_below scope special words =
    below_bind (omega arith) (path_below scope special words) (λ first less.
    below_more (omega arith) (until_below at_no_new (new_path scope special) (new_path_shortens scope special) first.0 first.1))

start_below : (words : Words) → Below (length words) (wiring_start words)
unfolding wiring_start
start_below words =
    below_if (is_at (codes "SHIELD") words)
    (below_bind (omega arith) (keyword_below (codes "SHIELD") words) (λ start less.
    below_bind (omega arith) (name_below start.1) (λ name last. below_some tt name.1 last)))
    (below_bind (omega arith) (next_below words) (λ start less. below_some tt start.1 less))

-- such a clause in the place of paths is left to be read
wires_below : (profile : Profile) (scope : NetScopeModel) (special : Bool) (words : Words) → Below (suc (length words)) (wires_at profile scope special words)
unfolding wires_at
wires_below Narrow scope special words = below_more (omega arith) (paths_below scope special words)
wires_below (Wide masks soft) scope special words =
    below_if (special && at_shape_clause words) (below_some [] words (omega arith)) (below_more (omega arith) (paths_below scope special words))

pub wiring_below : (scope : NetScopeModel) (special : Bool) (words : Words) → Below (length words) (wiring_at scope special words)
unfolding wiring_at
wiring_below scope special words =
    below_bind (omega arith) (start_below words) (λ start less.
    below_more (omega arith) (wires_below scope.profile scope special start.1))
