-- How far a look through a block's statements has come.
use Rattle.std.proofs.Common.{◌≡◌, ℕ, ◌+◌, ◌<◌, ◌≤◌, true, false, List, [], ◌∷◌, ◌++◌, length, get_or, take, drop, Option, None, Some, is_some, refl, sym, ap, ◌∙◌, append_assoc}
use Rattle.std.proofs.lemmas.List.{take_all, append-nil, take-append-drop, drop_more}
use Rattle.std.proofs.lemmas.List.Elements.{filter_more, filter-append}
use Rattle.std.proofs.lemmas.Bool.{false≢true}
use Rattle.leg_lex.specs.Words.{Words, is_at}
use Rattle.leg_lex.specs.Statements.{those, at_most_one, only, is_plus, up_to, clauses_of}
use Rattle.leg_lex.proofs.Marks.{split_there, split_nowhere}
use Rattle.leg_lex.proofs.Statements.{up_to_below}

-- the statements of the keyword among the first i
abbrev pub those_before : List ℕ → List Words → ℕ → List Words
those_before keyword statements i = those keyword (take i statements)

-- the one that was found, if one was
abbrev pub as_list : Option Words → List Words
as_list None = []
as_list (Some statement) = statement ∷ []

-- one more statement, of this keyword or of another
pub passed_over : (keyword : List ℕ) (statements found : List Words) (i : ℕ) (x : Words) → i < length statements → x ≡ get_or statements i x
    → is_at keyword x ≡ false → those_before keyword statements i ≡ found → those_before keyword statements (i + 1) ≡ found
passed_over keyword statements found i x less is other before =
    let more = filter_more (is_at keyword) statements i x less in
    let there : is_at keyword (get_or statements i x) ≡ false = rw (← is) other in
    more ∙ rw (there, before) (append-nil found)

pub found_first : (keyword : List ℕ) (statements : List Words) (i : ℕ) (x : Words) → i < length statements → x ≡ get_or statements i x → is_at keyword x ≡ true
    → those_before keyword statements i ≡ [] → those_before keyword statements (i + 1) ≡ x ∷ []
found_first keyword statements i x less is this before =
    let more = filter_more (is_at keyword) statements i x less in
    let there : is_at keyword (get_or statements i x) ≡ true = rw (← is) this in
    more ∙ rw (there, before, ← is) refl

two_or_more : (found : Option Words) (x : Words) (after : List Words) → is_some found ≡ true → at_most_one (as_list found ++ x ∷ after) ≡ None
two_or_more None x after some = absurd (false≢true some)
two_or_more (Some y) x after some = refl

-- a second statement of the keyword
pub found_second : (keyword : List ℕ) (statements : List Words) (found : Option Words) (i : ℕ) (x : Words) → i < length statements → x ≡ get_or statements i x
    → is_at keyword x ≡ true → is_some found ≡ true → those_before keyword statements i ≡ as_list found → only keyword statements ≡ None
unfolding only
found_second keyword statements found i x less is this some before =
    let whole : statements ≡ take i statements ++ x ∷ drop (i + 1) statements =
    sym (take-append-drop i statements) ∙ ap (λ zs. take i statements ++ zs) (drop_more statements i x less ∙ ap (λ z. z ∷ drop (i + 1) statements) (sym is)) in
    let those_are : those keyword statements ≡ those_before keyword statements i ++ those keyword (x ∷ drop (i + 1) statements) =
    ap (those keyword) whole ∙ filter-append (is_at keyword) (take i statements) (x ∷ drop (i + 1) statements) in
    let here : those keyword (x ∷ drop (i + 1) statements) ≡ x ∷ those keyword (drop (i + 1) statements) = rw this refl in
    ap at_most_one (those_are ∙ ap (λ zs. those_before keyword statements i ++ zs) here)
    ∙ rw before (two_or_more found x (those keyword (drop (i + 1) statements)) some)

at_most : (found : Option Words) → at_most_one (as_list found) ≡ Some found
at_most None = refl
at_most (Some x) = refl

-- no statement is left
pub looked_through : (keyword : List ℕ) (statements : List Words) (i : ℕ) (found : Option Words) → length statements ≤ i
    → those_before keyword statements i ≡ as_list found → only keyword statements ≡ Some found
unfolding only
looked_through keyword statements i found past before =
    let all : those_before keyword statements i ≡ those keyword statements = ap (those keyword) (take_all i statements past) in
    ap at_most_one (sym all ∙ before) ∙ at_most found

-- one more clause: with it and the clauses of the rest there are as many as before
pub clause_more : (made more all : List Words) (statement clause rest : Words) → more ≡ made ++ clause ∷ [] → up_to is_plus statement ≡ Some (clause, rest)
    → made ++ clauses_of statement ≡ all → more ++ clauses_of rest ≡ all
clause_more made more all statement clause rest is cut whole =
    rw (is, append_assoc) (ap (λ zs. made ++ zs) (sym (split_there is_plus statement clause rest cut)) ∙ whole)

pub clause_shorter : (statement clause rest : Words) → up_to is_plus statement ≡ Some (clause, rest) → length rest < length statement
clause_shorter statement clause rest cut = (up_to_below is_plus statement).left clause rest cut

-- the last clause
pub last_clause : (statement : Words) → up_to is_plus statement ≡ None → clauses_of statement ≡ statement ∷ []
last_clause statement cut = split_nowhere is_plus statement cut
