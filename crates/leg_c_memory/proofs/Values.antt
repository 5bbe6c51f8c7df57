-- The machine values of the crate's structs: what is owned tells them, and is made of nothing.
use Rattle.leg_c_memory.proofs.Steps.{◌≡◌, ℕ, ◌^◌, ◌<◌, List, [], ◌∷◌, ◌++◌, refl, ◌∙◌, lit<, w64, Val, vint, vcons, vnil, ent, emp, Fml, Logic, sem, RattleType, usize, Ptr, block_ptr, null_ptr, ptr_val}
use seplogic.Ra.Ura.{Ura}
use mir.Syntax.{ty_ptr}
use mir.Val.{vstruct, of_list}
use denote.RawPtr.{RawPtr}
use denote.Shadow.{shadow, makes_shadow}
use denote.Struct.Struct.{Struct}
use Rattle.core.proofs.cell.Inside.{Good}

-- a struct by its fields alone: what it owns does not depend on its name
abbrev pub of_fields : List RattleType → RattleType
of_fields Rs = Struct (record { name = []; args = []; types = []; fields = Rs })

pub ptr_typed : (p : Ptr) → Good ty_ptr (ptr_val p)
ptr_typed (block_ptr b o) = (tt, tt)
ptr_typed null_ptr = (tt, record { fits = lit< tt })

-- a `Memory`
abbrev pub memory_val : Ptr → ℕ → Val
memory_val p n = vstruct (vcons (ptr_val p) (vcons (vint w64 n) vnil))

abbrev pub memory_own : Ptr → ℕ → List Val → Fml
memory_own p n = (of_fields (RawPtr ∷ usize ∷ [])).own_val (p, (n, tt))

pub memory_told : (p : Ptr) (n : ℕ) (vs : List Val) → shadow (memory_own p n vs) → (vs ≡ memory_val p n ∷ []) × (n < 2 ^ 64)
memory_told p n vs s = (s.1.0 ∙ (λ i. vstruct (of_list (s.1.1.0 i ++ (s.1.1.1.0.0 i ++ []))) ∷ []), s.1.1.1.0.1)

pub memory_made : {M : Type 1} {𝓤 : Ura M} (𝓛 : Logic 𝓤) (p : Ptr) (n : ℕ) → n < 2 ^ 64 → ent 𝓤 (emp 𝓤) (sem 𝓛 (memory_own p n (memory_val p n ∷ [])))
memory_made 𝓛 p n f =
    makes_shadow 𝓛 (memory_own p n (memory_val p n ∷ [])) (λ _. (tt, (tt, ((tt, tt), tt))))
    ((ptr_val p ∷ [], (vint w64 n ∷ [], tt)), (refl, (refl, ((refl, f), tt))))

-- a `Holes`
abbrev pub list_val : Ptr → Val
list_val p = vstruct (vcons (ptr_val p) vnil)

abbrev pub list_own : Ptr → List Val → Fml
list_own p = (of_fields (RawPtr ∷ [])).own_val (p, tt)

pub list_told : (p : Ptr) (vs : List Val) → shadow (list_own p vs) → vs ≡ list_val p ∷ []
list_told p vs s = s.1.0 ∙ (λ i. vstruct (of_list (s.1.1.0 i ++ [])) ∷ [])

pub list_made : {M : Type 1} {𝓤 : Ura M} (𝓛 : Logic 𝓤) (p : Ptr) → ent 𝓤 (emp 𝓤) (sem 𝓛 (list_own p (list_val p ∷ [])))
list_made 𝓛 p = makes_shadow 𝓛 (list_own p (list_val p ∷ [])) (λ _. (tt, (tt, tt))) ((ptr_val p ∷ [], tt), (refl, (refl, tt)))
