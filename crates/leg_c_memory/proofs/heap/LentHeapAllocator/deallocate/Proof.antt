-- `deallocate` turns the room into memory again, and gives it to the heap. Assumes `Logic`.
use Rattle.leg_c_memory.proofs.Steps.{◌≡◌, ℕ, ◌^◌, ◌<◌, List, [], ◌∷◌, ◌++◌, refl, sym, ap, ◌∙◌, ◌+◌, arith, w64, Ty, Fn, Val, vint, vptr, vunit, SProp, emp, id⊢, apply∗, ftrue, size, align, capped, WpFn, fact, fact_i, tables, sem, ‵, raw, ◌⊛◌, some, later, prop, ◌$◌, ◌∵◌, !, qed, by, move, keep, drop, use0, use1, use2, split, split3, join, pick, rewrite, regoal, fsplit, fjoin, fpick, feq_l, feq_i, flt_i, await, agg, unit_lit, of_opd, no_more, and_then, returns, enter, alloc_all, pass_all, free_all, look_at, get, sets, lands_as, owns, usize, unit, Ptr, block_ptr, ptr_val, count_of, room_for, types_at, nothing, only, heard, alive, triple_of, calls_at, Lasts, lasts, Stays, stay_dropped, walk_of, Goes-dropped, proved_at, leaves, slot_at}
use prog.Capped.{capped_is}
use Rattle.core.proofs.atomic.Steps.{fm}
use Rattle.leg_c_memory.proofs.Values.{memory_val, memory_own, memory_made}
use Rattle.leg_c_memory.specs.Sizes.{block_size}
use Rattle.leg_c_memory.specs.Ownership.{bytes_at, block_token}
use Rattle.leg_c_memory.specs.contracts.heap.rounded as rounding
use Rattle.leg_c_memory.proofs.heap.rounded.Met.{met as rounds}
use Rattle.leg_c_memory.specs.contracts.heap.LentHeap.give as callee
use Rattle.leg_c_memory.proofs.heap.LentHeap.give.Met.{met as gives}
use Rattle.leg_c_memory.specs.contracts.memory.Memory as memory
use Rattle.leg_c_memory.specs.contracts.heap.LentHeapAllocator.deallocate.{ended, clauses}
use Rattle.leg_c_memory.specs.contracts.heap.LentHeapAllocator.deallocate.Key.{name}
use Rattle.leg_c_memory.proofs.heap.LentHeapAllocator.deallocate.Statement.{statement}
use Rattle.leg_c_memory.proofs.heap.LentHeapAllocator.deallocate.Code as compiled

pub deallocate_spec : {M : Type 1} → statement M
deallocate_spec 𝓤 𝓛 𝓜 𝓡 wired =
    let fn : Fn = compiled.function in
    let stays : Stays ended.signature.params ended.kept = (
      stay_dropped (slot_at 0 ended.signature.params) ended.kept.0,
      (
        stay_dropped (slot_at 1 ended.signature.params) ended.kept.1.0,
        (stay_dropped (slot_at 2 ended.signature.params) ended.kept.1.1.0, (stay_dropped (slot_at 3 ended.signature.params) ended.kept.1.1.1.0, tt)),
      ),
    ) in
    let c = clauses 𝓛 𝓜.mem 𝓡.returns in
    let C = (tables 𝓤 𝓛.H 𝓜 𝓡 𝓡.env).C in
    let Λ = (tables 𝓤 𝓛.H 𝓜 𝓡 𝓡.env).Λ in
    proved_at 𝓛 ended stays c 𝓜 𝓡 (
      Goes-dropped 𝓛 1 (slot_at 0 ended.signature.params) ended.kept.0 (λ κs x f. refl),
      (
        Goes-dropped 𝓛 1 (slot_at 1 ended.signature.params) ended.kept.1.0 (λ κs x f. refl),
        (
          Goes-dropped 𝓛 1 (slot_at 2 ended.signature.params) ended.kept.1.1.0 (λ κs x f. refl),
          (Goes-dropped 𝓛 1 (slot_at 3 ended.signature.params) ended.kept.1.1.1.0 (λ κs x f. refl), tt),
        ),
      ),
    ) name fn (compiled.unfolded 𝓤 𝓛.H 𝓜 𝓡 wired) (λ z are.
    let Post : Val → SProp 𝓤 = (walk_of 𝓛 ended stays c).post z in
    let a = z.0.3 in
    let vss = z.0.4 in
    let b : ℕ = a.0.now.slot in
    let τ : Ty = z.1 in
    let from = a.1.0 in
    let n = a.1.1.0 in
    let al = a.1.1.1.0 in
    let m = block_size (size τ) in
    let me : Val = vptr a.0.ref_ptr.0 a.0.ref_ptr.1 in
    let k₀ = triple_of 𝓛 rounding.signature (rounding.spec 𝓛 𝓜.mem 𝓡.returns) in
    let y₀ : k₀.Ghost = ((tt, tt, tt, (n, tt), (vint w64 n ∷ [], tt)), tt) in
    let k = triple_of 𝓛 callee.signature (callee.spec 𝓛 𝓜.mem 𝓡.returns) in
    let Asked : Type 0 = (capped (size τ) ≡ n) × (capped (align τ) ≡ al) in
    qed 𝓛 ((raw (alive 𝓛 ended.signature z.0.0 z.0.1) ⊛ ‵ (owns (types_at ended.signature.params z.0.0) a vss)) ∷
    (raw (fact 𝓤 Asked) ⊛ ‵ (room_for τ from) ⊛ ‵ (block_token b τ from)) ∷ []) ∵
    move ! (1 ∷ []) $ split3 ! $ heard ! Asked (λ asked. move ! (1 ∷ []) $ fpick ! (λ placed. move ! (1 ∷ 0 ∷ []) $
    use2 𝓛 (‵ (bytes_at from m)) (apply∗ 𝓤 (sem 𝓛 (room_for τ from)) (sem 𝓛 (bytes_at from m))) $
    let o : ℕ = count_of from in
    let p : Ptr = block_ptr b o in
    let lies : from ≡ p = placed.0 in
    let top : o + m < 2 ^ 63 = placed.1.1 in
    let short : size τ < 2 ^ 63 = omega arith in
    let same : size τ ≡ n = sym (capped_is (size τ) (omega arith)) ∙ asked.0 in
    rewrite ! 0 (λ (u : Ptr). ‵ (bytes_at u m)) lies refl $
    move ! (1 ∷ []) $ split ! $ move ! (1 ∷ []) $ fsplit ! $ fsplit ! $ keep ! (4 ∷ 1 ∷ 3 ∷ []) $
    regoal ! (λ (us : List Val). prop (WpFn 𝓤 𝓛.H C Λ fn us Post))
    (λ i. are.0.0 i ++ ((are.1.0 ∙ ap (λ (u : Ptr). ptr_val u ∷ []) lies) i ++ (are.1.1.0.0 i ++ (are.1.1.1.0.0 i ++ [])))) refl $
    enter ! C Λ fn (me ∷ vptr b o ∷ vint w64 n ∷ vint w64 al ∷ []) Post $
    alloc_all ! (λ l. pass_all ! refl ((tt, tt), ((tt, tt), ((tt, record { fits = are.1.1.0.1 }), ((tt, record { fits = are.1.1.1.0.1 }), tt)))) $
    use0 𝓛 (raw (fact 𝓤 (n < 2 ^ 63))) (fact_i 𝓤 (n < 2 ^ 63) (emp 𝓤) (omega arith)) $ nothing ! $ flt_i ! n (2 ^ 64) are.1.1.0.1 $
    feq_i ! (List Val) (vint w64 n ∷ []) (vint w64 n ∷ []) refl $ fjoin ! $ fjoin ! $ nothing ! $ join ! $ join ! $ use1 𝓛 (raw (k₀.pre y₀)) (id⊢ 𝓤 _) $
    calls_at ! (fm 𝓛 𝓜 𝓡) k₀ (rounds 𝓤 𝓛 𝓜 𝓡 (compiled.calls-leg_c_memory::heap::rounded 𝓡.env wired)) y₀ (and_then ! (get ! refl) (no_more !)) (λ v.
    use1 𝓛 (later (some (λ (j : ℕ). (‵ ftrue ⊛ ‵ (usize.own_val j (v ∷ []))) ⊛ some
    (λ (ls : Lasts rounding.ended tt y₀.0.3). ‵ (lasts rounding.ended tt y₀.0.3 ls) ⊛ raw (fact 𝓤 (j ≡ block_size n)))))) (id⊢ 𝓤 (k₀.post y₀ v)) $
    await ! tt $
    pick ! (λ j. split ! $ move ! (1 ∷ []) $
    pick ! (λ _. split ! $ drop ! $
    heard ! (j ≡ block_size n) (λ said. split ! $ drop ! $ fsplit ! $ feq_l ! (λ e. drop ! $ let fits : m < 2 ^ 64 = omega arith in
    lands_as ! (ap only e ∙ ap (vint w64) (said ∙ ap block_size (sym same))) refl (tt, record { fits = fits }) $
    sets ! (agg ! (and_then ! (get ! refl) (and_then ! (get ! refl) (no_more !)))) refl (tt, (tt, (record { fits = fits }, tt))) $
    let x : (memory.the_row).Denot = record { ptr = p; size = m; fits = placed.1 } in
    let y : k.Ghost = ((z.0.0, z.0.1, z.0.2, (a.0, (x, tt)), (me ∷ [], (memory_val p m ∷ [], tt))), tt) in
    use0 𝓛 (‵ (memory_own p m (memory_val p m ∷ []))) (memory_made 𝓛 p m fits) $ fjoin ! $ nothing ! $ move ! (1 ∷ 0 ∷ []) $ fjoin ! $
    move ! (1 ∷ []) $ feq_i ! (List Val) (me ∷ []) (me ∷ []) refl $ fjoin ! $ fjoin ! $ move ! (1 ∷ 0 ∷ []) $ join ! $
    use0 𝓛 (raw (fact 𝓤 (b ≡ b))) (fact_i 𝓤 (b ≡ b) (emp 𝓤) refl) $ move ! (1 ∷ 0 ∷ []) $ join ! $ use1 𝓛 (raw (k.pre y)) (id⊢ 𝓤 _) $
    calls_at ! (fm 𝓛 𝓜 𝓡) k (gives 𝓤 𝓛 𝓜 𝓡 (compiled.calls-leg_c_memory::heap::LentHeap::give 𝓡.env wired)) y
    (and_then ! (get ! refl) (and_then ! (get ! refl) (no_more !))) (λ u.
    use1 𝓛 (later (some (λ (t : Unit {0}). (raw (alive 𝓛 ended.signature z.0.0 z.0.1) ⊛ ‵ (unit.own_val t (u ∷ []))) ⊛ some
    (λ (ls : Lasts callee.ended z.0.0 y.0.3). ‵ (lasts callee.ended z.0.0 y.0.3 ls) ⊛ ‵ ftrue)))) (id⊢ 𝓤 (k.post y u)) $
    await ! tt $ pick ! (λ t. split ! $ move ! (1 ∷ []) $ drop ! $ split ! $ move ! (1 ∷ []) $ feq_l ! (λ e'. lands_as ! (ap only e') refl (tt, tt) $
    sets ! (of_opd ! (unit_lit !)) refl (tt, tt) $
    returns ! (look_at ! 0 refl) $ free_all ! refl $
    feq_i ! (List Val) (vunit ∷ []) (vunit ∷ []) refl $ nothing ! $ nothing ! $ nothing ! $ fjoin ! $ nothing ! $ fjoin ! $ nothing ! $ fjoin ! $ nothing ! $
    fjoin ! $ move ! (3 ∷ 0 ∷ 2 ∷ 1 ∷ []) $
    by ! (leaves 𝓛 ended stays c z vunit tt (tt, (tt, (tt, (tt, tt)))) (tt, (tt, (tt, (tt, tt)))))))))))))))))
