-- Whether a clause of a generated via is one that such a via has not.
use Rattle.std.proofs.Common.{◌≡◌, ℕ, ◌+◌, ◌<◌, ◌≤◌, true, false, List, length, get_or, take, None, Some, refl, sym, ap, ◌∙◌}
use Rattle.std.specs.List.{list_any}
use Rattle.std.proofs.lemmas.List.{take_all}
use Rattle.std.proofs.lemmas.List.Folds.{list_any_at, list_any_more}
use Rattle.leg_lex.specs.Words.{Words}
use Rattle.leg_grammar.specs.Def.Guard.{unless}
use Rattle.leg_grammar.specs.Def.GeneratedVia.{is_drawn}

-- one more clause that is none
pub one_more : (clauses : List Words) (i : ℕ) (x : Words) → i < length clauses → x ≡ get_or clauses i x → is_drawn x ≡ false
    → list_any is_drawn (take i clauses) ≡ false → list_any is_drawn (take (i + 1) clauses) ≡ false
one_more clauses i x less is none before =
    let there : is_drawn (get_or clauses i x) ≡ false = ap is_drawn (sym is) ∙ none in
    list_any_more is_drawn clauses i x less ∙ rw (before, there) refl

-- one that is
pub one_drawn : (clauses : List Words) (i : ℕ) (x : Words) → i < length clauses → x ≡ get_or clauses i x → is_drawn x ≡ true
    → unless (list_any is_drawn clauses) ≡ None
one_drawn clauses i x less is drawn =
    let there : is_drawn (get_or clauses i x) ≡ true = ap is_drawn (sym is) ∙ drawn in
    rw (list_any_at is_drawn clauses i x less there) refl

pub none_drawn : (clauses : List Words) (i : ℕ) → length clauses ≤ i → list_any is_drawn (take i clauses) ≡ false
    → unless (list_any is_drawn clauses) ≡ Some tt
none_drawn clauses i past before =
    let all : list_any is_drawn clauses ≡ false = ap (list_any is_drawn) (sym (take_all i clauses past)) ∙ before in
    rw all refl
