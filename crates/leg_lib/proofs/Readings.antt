-- What LEFs say one after the other.
use Rattle.std.proofs.Common.{◌≡◌, ℕ, zero, suc, ◌<◌, List, [], ◌∷◌, length, get_or, take, drop, map, refl, sym, ◌∙◌, ap, subst, arith}
use Rattle.leg_lex.specs.Denotes.{Denotes}
use Rattle.leg_lex.proofs.Denotations.{says_one}
use Rattle.leg_lib_records.specs.Records.{RawLibraryModel}
use Rattle.leg_grammar.specs.declared.profile.Profile.{Profile}
use Rattle.leg_grammar.specs.Lef.Form.{LefParts, no_lef_parts, lef_in}
use Rattle.leg_grammar.specs.Lef.Library.{Extend, DenoteLibrary}

module _ {X : Type 0} (text_of : X → List ℕ) where
  -- one more LEF
  pub extend_more : (lefs : List X) (i : ℕ) (d : X) (before parts next : LefParts) → i < length lefs
      → Extend before (take i (map text_of lefs)) parts → Denotes (lef_in parts) (text_of (get_or lefs i d)) next
      → Extend before (take (suc i) (map text_of lefs)) next
  extend_more [] i d before parts next less so_far says = absurd (omega arith)
  extend_more (lef ∷ lefs) zero d before parts next less so_far says = (next, subst (λ l. Denotes (lef_in l) (text_of lef) next) (sym so_far) says, refl)
  extend_more (lef ∷ lefs) (suc i) d before parts next less so_far says =
      (so_far.0, so_far.1, extend_more lefs i d so_far.0 parts next (omega arith) so_far.2 says)

  -- what is left to say after one more LEF
  pub rest_more : (lefs : List X) (i : ℕ) (d : X) (parts next said : LefParts) → i < length lefs
      → ((other : LefParts) → Denotes (lef_in parts) (text_of (get_or lefs i d)) other → other ≡ next)
      → Extend parts (drop i (map text_of lefs)) said → Extend next (drop (suc i) (map text_of lefs)) said
  rest_more [] i d parts next said less only rest = absurd (omega arith)
  rest_more (lef ∷ lefs) zero d parts next said less only rest = subst (λ n. Extend n (map text_of lefs) said) (only rest.0 rest.1) rest.2
  rest_more (lef ∷ lefs) (suc i) d parts next said less only rest = rest_more lefs i d parts next said (omega arith) only rest

  -- a LEF that says nothing
  pub rest_none : (lefs : List X) (i : ℕ) (d : X) (parts said : LefParts) → i < length lefs
      → ((next : LefParts) → Denotes (lef_in parts) (text_of (get_or lefs i d)) next → ⊥) → Extend parts (drop i (map text_of lefs)) said → ⊥
  rest_none [] i d parts said less none rest = absurd (omega arith)
  rest_none (lef ∷ lefs) zero d parts said less none rest = none rest.0 rest.1
  rest_none (lef ∷ lefs) (suc i) d parts said less none rest = rest_none lefs i d parts said (omega arith) none rest

-- texts say one thing at most
pub extend_one : (lefs : List (List ℕ)) (before a b : LefParts) → Extend before lefs a → Extend before lefs b → a ≡ b
extend_one [] before a b p q = sym p ∙ q
extend_one (lef ∷ lefs) before a b p q =
    let same : p.0 ≡ q.0 = says_one (lef_in before) lef p.0 q.0 p.1 q.1 in
    extend_one lefs q.0 a b (subst (λ l. Extend l lefs a) same p.2) q.2

pub library_one : (profile : Profile) (lefs : List (List ℕ)) (a b : RawLibraryModel) → DenoteLibrary profile lefs a → DenoteLibrary profile lefs b → a ≡ b
library_one profile lefs a b p q =
    sym p.2 ∙ (ap (λ (parts : LefParts). parts.library) (extend_one lefs (no_lef_parts profile) p.0 q.0 p.1 q.1) ∙ q.2)
