use Rattle.std.proofs.Common.{◌≡◌, ◌∙◌, ◌==◌, true, false, ℤ, pos, int_le, [], ◌∷◌, ◌++◌, Some, refl, sym, ap, arith}
use Rattle.std.proofs.lemmas.Int.{ints}
use Rattle.std.specs.List.{list_any}
use Rattle.leg_lex.proofs.InBits.{number_kept}
use Rattle.leg_lib_records.specs.declared.records.RuleWidth.{RuleWidth}
use Rattle.leg_design_records.specs.Layers.{has_metal}
use Rattle.leg_grammar.specs.Def.Rule.{layer_width_at}
use Rattle.leg_design_common.proofs.Numbers.{whole_is_number}
use Rattle.leg_design_floorplan.proofs.rule.layer_width.Goals as goal

pub returns-then-has_width : goal.returns-then-has_width
unfolding layer_width_at
returns-then-has_width g c =
    let metal : has_metal c.args.library.now c.in_ok-layer.layer ≡ true = sym c.has_metal.ensures ∙ c.if-not-has_metal.false in
    let there : list_any (λ (w : RuleWidth). w.layer == c.in_ok-layer.layer) c.args.widths.now ≡ true =
    rw c.as_slice.ensures at (sym c.has_width.ensures ∙ c.if-has_width.true) in
    rw (c.in_ok-keyword.ensures.reads, c.in_ok-layer.ensures.reads, metal, there) (λ not_memory. refl)

pub returns-in_ok-push : goal.returns-in_ok-push
unfolding layer_width_at
returns-in_ok-push g c =
    let metal : has_metal c.args.library.now c.in_ok-layer.layer ≡ true = sym c.has_metal.ensures ∙ c.if-not-has_metal.false in
    let new : list_any (λ (w : RuleWidth). w.layer == c.in_ok-layer.layer) c.args.widths.now ≡ false =
    rw c.as_slice.ensures at (sym c.has_width.ensures ∙ c.if-has_width.false) in
    let number = whole_is_number c.keyword-2.new.self c.in_ok-width.width c.whole.new.self c.in_ok-width.ensures.reads in
    let kept = number_kept c.in_ok-width.width number in
    let some : int_le (pos 1) c.in_ok-width.width ≡ true = grind (arith, ints, kept, c.if-width-ge1.true) in
    rw (c.in_ok-keyword.ensures.reads, c.in_ok-layer.ensures.reads, metal, new, c.in_ok-keyword-2.ensures.reads, c.in_ok-width.ensures.reads, some)
    (ap (λ (width : ℤ). Some (c.args.widths.now ++ record { layer = c.in_ok-layer.layer; width = width } ∷ [])) (sym kept)
    ∙ ap Some (sym c.in_ok-push.ensures.pushed))
