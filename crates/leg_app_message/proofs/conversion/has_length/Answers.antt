use Rattle.std.proofs.Common.{sym, ◌∙◌, w64, SFits, rules}
use Rattle.std.proofs.lemmas.Int.{to_z-of_z}
use Rattle.leg_app_message.specs.Conversion.HasLength.{in_layer, in_site, in_via, in_macro}
use Rattle.leg_app_message.proofs.conversion.has_length.Goals as goal

pub returns-then-is_keyword : goal.returns-then-is_keyword
returns-then-is_keyword g c = λ is.
    let fits : SFits w64 c.args.length = search rules in
    let found = rw (to_z-of_z w64 c.args.length fits) at (c.in_layers.ensures is) in
    in_layer (sym c.is_keyword.ensures ∙ c.if-is_keyword.true) found.1 found.2 found.3

pub returns-then-is_keyword-2 : goal.returns-then-is_keyword-2
returns-then-is_keyword-2 g c = λ is.
    let fits : SFits w64 c.args.length = search rules in
    let found = rw (to_z-of_z w64 c.args.length fits) at (c.in_sites.ensures is) in
    in_site (sym c.is_keyword-else-is_keyword.ensures ∙ c.if-is_keyword-2.true) found.1 found.2 found.3

pub returns-then-is_keyword-3 : goal.returns-then-is_keyword-3
returns-then-is_keyword-3 g c = λ is.
    let fits : SFits w64 c.args.length = search rules in
    let found = rw (to_z-of_z w64 c.args.length fits) at (c.in_vias.ensures is) in
    in_via (sym c.is_keyword-else-is_keyword-2.ensures ∙ c.if-is_keyword-3.true) found.1 found.2 found.3

pub returns-then-is_keyword-4 : goal.returns-then-is_keyword-4
returns-then-is_keyword-4 g c = λ is.
    let fits : SFits w64 c.args.length = search rules in
    let found = rw (to_z-of_z w64 c.args.length fits) at (c.in_macros.ensures is) in
    in_macro (sym c.is_keyword-else-is_keyword-3.ensures ∙ c.if-is_keyword-4.true) (rw c.masters.ensures at found.1) found.2
