-- Forms of a text, one after the other: what each adds to what was said before.
use Rattle.std.proofs.Common.{◌≡◌, ℕ, suc, ◌+◌, ◌-◌, ◌<◌, ◌≤◌, true, false, [], ◌++◌, length, length-append, Some, refl, ap, ◌∙◌, arith}
use Rattle.std.proofs.lemmas.List.{append_assoc}
use Rattle.leg_lex.specs.Words.{Words}
use Rattle.leg_lex.specs.Until.{steps, until}
use Rattle.leg_lex.specs.Statements.{at_end}
use Rattle.leg_grammar.specs.Def.Parts.{DesignParts}
use Rattle.leg_grammar.specs.Def.Form.{def_form_at}

-- These words are so many forms, which lead from what was said before to this.
pub record Leads (parts : DesignParts) (words : Words) (next : DesignParts) : Type 0 where
  pub count : ℕ
  pub few : count ≤ length words
  pub read : (n : ℕ) (rest : Words) → steps at_end def_form_at (count + n) parts (words ++ rest) ≡ steps at_end def_form_at n next rest

zero_more : (n : ℕ) → 0 + n ≡ n
zero_more n = omega arith

one_more : (n : ℕ) → 1 + n ≡ suc n
one_more n = omega arith

add_more : (a b n : ℕ) → a + b + n ≡ a + (b + n)
add_more a b n = omega arith

pub leads_nil : (parts : DesignParts) → Leads parts [] parts
leads_nil parts = record {
  count = 0;
  few = omega arith;
  read = λ n rest. ap (λ m. steps at_end def_form_at m parts rest) (zero_more n);
}

pub leads_append : {parts middle next : DesignParts} {words more : Words} → Leads parts words middle → Leads middle more next → Leads parts (words ++ more) next
leads_append {parts} {middle} {next} {words} {more} first later = record {
  count = first.count + later.count;
  few = rw (length-append words more) (both first.few later.few);
  read = λ n rest.
      ap (λ m. steps at_end def_form_at m parts ((words ++ more) ++ rest)) (add_more first.count later.count n)
      ∙ ap (λ all. steps at_end def_form_at (first.count + (later.count + n)) parts all) (append_assoc words more rest)
      ∙ first.read (later.count + n) (more ++ rest) ∙ later.read n rest;
} where
  both : {a b c d : ℕ} → a ≤ c → b ≤ d → a + b ≤ c + d
  both {a} {b} {c} {d} h k = omega arith

-- one form
pub leads_form : (parts : DesignParts) (words : Words) (next : DesignParts) → 0 < length words → ((rest : Words) → at_end (words ++ rest) ≡ false)
    → ((rest : Words) → def_form_at parts (words ++ rest) ≡ Some (next, rest)) → Leads parts words next
unfolding steps
leads_form parts words next some goes is = record {
  count = 1;
  few = omega arith;
  read = λ n rest. ap (λ m. steps at_end def_form_at m parts (words ++ rest)) (one_more n) ∙ step n rest;
} where
  step : (n : ℕ) (rest : Words) → steps at_end def_form_at (suc n) parts (words ++ rest) ≡ steps at_end def_form_at n next rest
  step n rest = rw (goes rest, is rest) refl

-- all forms, up to END
pub leads_all : (parts next : DesignParts) (words : Words) (last : Words) → Leads parts words next → at_end last ≡ true
    → until at_end def_form_at parts (words ++ last) ≡ Some (next, last)
unfolding steps
leads_all parts next words last leads ends =
    let fuel : suc (length (words ++ last)) ≡ leads.count + suc (length (words ++ last) - leads.count) =
    enough leads.count (length words) (length last) (length (words ++ last)) leads.few (length-append words last) in
    ap (λ m. steps at_end def_form_at m parts (words ++ last)) fuel ∙ leads.read (suc (length (words ++ last) - leads.count)) last
    ∙ stop (length (words ++ last) - leads.count) where
      enough : (count a b whole : ℕ) → count ≤ a → whole ≡ a + b → suc whole ≡ count + suc (whole - count)
      enough count a b whole le is = omega arith

      stop : (n : ℕ) → steps at_end def_form_at (suc n) next last ≡ Some (next, last)
      stop n = rw ends refl
