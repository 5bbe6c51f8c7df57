-- The two answers of `take`, and memory as a block for a type. Assumes `Logic`.
use Rattle.leg_c_memory.proofs.Steps.{◌≡◌, ℕ, ◌^◌, ◌<◌, ◌≤◌, List, [], ◌∷◌, ◌++◌, IfSome, None, Some, refl, sym, ap, subst, ◌∙◌, arith, Ty, Val, vcons, vnil, never, id⊢, ent, sep, fwand, froom, size, capped, Logic, sem, Item, Goal, Seq, ‵, ◌⊛◌, ◌$◌, ◌∵◌, !, qed, move, drop, use1, split, frame, rewrite, fsplit, fpick, fpack, feq_l, done, live, RattleType, Ptr, block_ptr, block_of, in_a_block, only}
use seplogic.Ra.Ura.{Ura}
use mir.Syntax.{Width, w8, w16, w32, w64, w128}
use mir.Val.{of_list, bytes}
use prog.Align.{Dv, align_w, align-bytes}
use prog.Capped.{capped_is, capped_small}
use denote.Shadow.{pure_l}
use Rattle.core.specs.contracts.option.Option as option
use Rattle.leg_c_memory.specs.Sizes.{block_size, IsMemory, IsBlock}
use Rattle.leg_c_memory.specs.Ownership.{bytes_at, block_token}
use Rattle.leg_c_memory.specs.contracts.memory.Memory as memory
use Rattle.leg_c_memory.proofs.Values.{memory_val, memory_own, memory_told}
use Rattle.leg_c_memory.proofs.Units.{retyped}

-- an answer of `take`
abbrev pub Answered : RattleType
Answered = option.the_row memory.the_row

-- what `take` says of its answer
abbrev pub Told : ℕ → ℕ → Answered.Denot → Type 0
Told b n x = IfSome x (λ m. (block_of m.ptr ≡ b) × (m.size ≡ block_size n) × (n < 2 ^ 63))

divides_16 : (w : Width) → Dv (bytes w) 16
divides_16 w8 = tt
divides_16 w16 = tt
divides_16 w32 = tt
divides_16 w64 = tt
divides_16 w128 = tt

enough : (n : ℕ) → n ≤ block_size n
enough n = omega arith

pub handed_out : {M : Type 1} {𝓤 : Ura M} (𝓛 : Logic 𝓤) (b : ℕ) (τ : Ty) (o n : ℕ) → capped (size τ) ≡ n → IsBlock b (block_ptr b o) (block_size n) → n < 2 ^ 63
    → ent 𝓤 (sem 𝓛 (bytes_at (block_ptr b o) (block_size n))) (sep 𝓤 (𝓛.H.room τ b o) (sem 𝓛 (block_token b τ (block_ptr b o))))
handed_out {𝓤 = 𝓤} 𝓛 b τ o n sized placed small =
    let p : Ptr = block_ptr b o in
    let short : size τ < 2 ^ 63 = capped_small (size τ) (omega arith) in
    let same : n ≡ size τ = sym sized ∙ capped_is (size τ) (omega arith) in
    let m = block_size (size τ) in
    let is : IsBlock b p m = subst (λ (k : ℕ). IsBlock b p (block_size k)) same placed in
    qed 𝓛 (‵ (bytes_at p (block_size n)) ∷ []) ∵ rewrite ! 0 (λ (k : ℕ). ‵ (bytes_at p (block_size k))) same refl $
    use1 𝓛 (‵ (froom τ b o) ⊛ ‵ (fwand (froom τ b o) (bytes_at p m)))
    (retyped 𝓛 b τ o m is.1.0.1 (enough (size τ)) (subst (λ (k : ℕ). Dv k 16) (sym (align-bytes τ)) (divides_16 (align_w τ)))) $ split ! $ frame ! $
    fpack ! (IsBlock b p m) (λ _. fwand (froom τ b o) (bytes_at p m)) is $ done !

module _ {M : Type 1} {𝓤 : Ura M} {𝓛 : Logic 𝓤} {K : Type 0} {Γ : List (Item 𝓤)} {G : Goal 𝓤 𝓛.H} where
  pub by_answer : K → (b n : ℕ) (x : Answered.Denot) (v : Val) → Told b n x
      → ((o : ℕ) → IsBlock b (block_ptr b o) (block_size n) → block_size n < 2 ^ 64 → n < 2 ^ 63 → v ≡ live 1
      (vcons (memory_val (block_ptr b o) (block_size n)) vnil)
      → Seq K 𝓛 (‵ (bytes_at (block_ptr b o) (block_size n)) ∷ Γ) G) → (v ≡ live 0 vnil → Seq K 𝓛 Γ G) → Seq K 𝓛 (‵ (Answered.own_val x (v ∷ [])) ∷ Γ) G
  by_answer t b n None v told some none =
      fpick t (λ us. fsplit t $
      feq_l t (λ is. fpick t (λ vss. fsplit t $ feq_l t (λ is'. drop t $ none (ap only is ∙ ap (λ (ws : List Val). live 0 (of_list ws)) is')))))
  by_answer t b n (Some w) v told some none =
      fpick t (λ us. fsplit t $
      feq_l t (λ is. fpick t (λ vss. fsplit t $ feq_l t (λ is'. fsplit t $ move t (1 ∷ []) $ drop t $ fsplit t $ pure_l t (memory_own w.ptr w.size vss.0) (λ s.
      in_a_block t w.ptr (λ u. bytes_at u w.size) (id⊢ 𝓤 (never 𝓤)) (λ b' o at.
      let parts = memory_told w.ptr w.size vss.0 s in
      let same : b' ≡ b = sym (ap block_of at) ∙ told.0 in
      let lies : w.ptr ≡ block_ptr b o = at ∙ ap (λ (k : ℕ). block_ptr k o) same in
      let placed : IsMemory (block_ptr b o) (block_size n) = subst (λ (u : Ptr × ℕ). IsMemory u.0 u.1) (λ i. (lies i, told.1 i)) w.fits in
      rewrite t 0 (λ (u : ℕ × ℕ). ‵ (bytes_at (block_ptr u.0 o) u.1)) (λ i. (same i, told.1 i)) refl $
      some o (refl, placed) (subst (λ (k : ℕ). k < 2 ^ 64) told.1 parts.1) told.2
      (ap only is ∙ ap (λ (xs : List Val). live 1 (of_list xs)) (is' ∙ ap (λ (xs : List Val). xs ++ []) parts.0)
      ∙ (λ i. live 1 (vcons (memory_val (lies i) (told.1 i)) vnil)))))))))
