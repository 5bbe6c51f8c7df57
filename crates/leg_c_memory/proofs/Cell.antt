-- What a `Slot` holds, as one machine value, and a walk that opens it with the thread's token. Assumes `Logic`.
use Rattle.leg_c_memory.proofs.Steps.{◌≡◌, ℕ, List, [], ◌∷◌, None, Some, refl, subst, Ty, Fn, Val, full_share, ent, sep, wand, apply∗, Lft, Share, Fml, ftrue, fsep, fex, fat, flft, ftok, Logic, sem, Item, Goal, Seq, ‵, raw, ◌⊛◌, later, ◌$◌, move, drop, use1, use2, use3, split, join, fsplit, fjoin, fpick, fpack, rewrite, await, RattleType, owns, types_at, nothing, lone, layout, Calls, Loops, WpFn, Stays, walk_of, alive}
use Rattle.std.proofs.Common.{T}
use seplogic.Ra.Ura.{Ura}
use mir.Syntax.{Callee}
use base.Logic.{via, fst∗, snd∗}
use base.Fml.{Incl-refl}
use base.Mask.{every, less}
use prog.Wp.{Tables}
use prog.Model.{Model}
use prog.Routine.{over, ◌≼⁺◌}
use types.Kit.{Soaks, Step, step}
use types.Na.{na_acc_in}
use contract.Monad.{fact_use}
use contract.Running.{Running, tables_of, bare_tables}
use contract.Beside.{Carries}
use contract.Named.{bare_unfolds}
use sound.WpLaws.{WpFn-mono}
use denote.Exit.{Last, left, yes}
use denote.Param.Mute.{blank}
use denote.Laws.{Lawful, Ises, Are, owns_show, showss}
use denote.Memory.{cell_at, hidden_shr}
use denote.Opens.{unhide}
use denote.Signature.{Signature}
use denote.Struct.Members.{Member}
use denote.Triple.Clauses.{Ended, Clauses, closing}
use denote.Triple.Entry.{on_entry}
use denote.Triple.Handed.{holding, hands}
use denote.Triple.Spec.{Meets, triple_of}
use denote.Triple.Table.{entered}
use denote.Triple.Walked.{AllGo, walk_Meets}
use Rattle.core.specs.contracts.option.Option as option
use Rattle.core.proofs.option.Option.TheLaws.{the_row_laws as option_laws}
use Rattle.core.proofs.cell.Inside.{Good, round, wraps, unwraps}
use Rattle.leg_c_memory.specs.Parts.{IsOf}
use Rattle.leg_c_memory.specs.Ownership.{fields_with}
use Rattle.leg_c_memory.specs.contracts.free.FreeParts as parts
use Rattle.leg_c_memory.specs.contracts.slot.Slot as slot
use Rattle.leg_c_memory.specs.contracts.slot.Slot.TheInside as slot_fields
use Rattle.leg_c_memory.proofs.free.FreeParts.TheLaws as parts_laws

-- what the cell has, as a type
abbrev pub Held : RattleType
Held = option.the_row parts.the_row

abbrev held : Member
held = record { row = Held; ty = layout Held }

abbrev pub Fields : RattleType
Fields = slot_fields.the_row

abbrev pub slot_type : Ty
slot_type = lone Fields.mir

abbrev of_object : ℕ → Fields.Denot → Fml
of_object r i = fex (IsOf r i.parts) (λ _. ftrue)

abbrev pub contents : ℕ → List Val → Fml
contents r vs = fex Fields.Denot (λ i. fsep (Fields.own_val i vs) (of_object r i))

pub held_Lawful : {M : Type 1} {𝓤 : Ura M} (𝓛 : Logic 𝓤) → Lawful 𝓛 Held
held_Lawful 𝓛 = (option_laws parts.the_row parts_laws.the_row_laws).lawful 𝓛

-- nothing is left of what was put in
pub gone : (x : Held.Denot) (f : Last (Held.exit yes) x) → T (blank (left (Held.exit yes) x f))
gone None f = tt
gone (Some h) f = tt

-- the way back once the cell is open
abbrev pub Shut : {M : Type 1} {𝓤 : Ura M} (𝓛 : Logic 𝓤) → ℕ → ℕ → ℕ → Lft → Share → Item 𝓤
Shut {𝓤 = 𝓤} 𝓛 r b o κ q =
    ‵ (ftok (less every (b, o))) ⊛ raw (wand 𝓤 (sep 𝓤 (sem 𝓛 (fields_with Fields (of_object r) b o)) (𝓛.A.tok (less every (b, o))))
    (𝓛.H.⇛ (sep 𝓤 (𝓛.A.lft κ q) (𝓛.A.tok every))))

module _ {M : Type 1} {𝓤 : Ura M} {𝓛 : Logic 𝓤} {K : Type 0} {Γ : List (Item 𝓤)} {G : Goal 𝓤 𝓛.H} (r : ℕ) where
  open 𝓛 use {H, A}

  pub contents_out : K → (vs : List Val)
      → ((x : Held.Denot) (v : Val) → IsOf r x → Good (layout Held) v → vs ≡ round v ∷ [] → Seq K 𝓛 (‵ (Held.own_val x (v ∷ [])) ∷ Γ) G)
      → Seq K 𝓛 (‵ (contents r vs) ∷ Γ) G
  contents_out t vs k =
      fpick t (λ i. fsplit t $ move t (1 ∷ []) $ fpick t (λ is. drop t $ unwraps held t (held_Lawful 𝓛) [] [] i.parts vs (λ v typed e. k i.parts v is typed e)))

  pub contents_in : K → (x : Held.Denot) (v : Val) → IsOf r x → Step K 𝓛 (‵ (contents r (round v ∷ [])) ∷ Γ) G (‵ (Held.own_val x (v ∷ [])) ∷ Γ) G
  contents_in t x v is = step (λ s.
      let i : Fields.Denot = record { parts = x } in
      use1 𝓛 (‵ (Fields.own_val i (round v ∷ []))) (wraps held 𝓛 [] [] x v) $ nothing t $ fpack t (IsOf r x) (λ _. ftrue) is $ move t (1 ∷ 0 ∷ []) $ fjoin t $
      fpack t Fields.Denot (λ j. fsep (Fields.own_val j (round v ∷ [])) (of_object r j)) i $ s)

module _ {M : Type 1} {𝓤 : Ura M} {𝓛 : Logic 𝓤} {K : Type 0} {Γ : List (Item 𝓤)} {G : Goal 𝓤 𝓛.H} (r : ℕ) (b o : ℕ) where
  open 𝓛 use {H, A}

  pub opens_slot : K → Soaks G → {κ : Lft} {q : Share}
      → ((x : Held.Denot) (v : Val) → IsOf r x → Good (layout Held) v → Seq K 𝓛
      (‵ (fat full_share slot_type b o (round v)) ∷ ‵ (Held.own_val x (v ∷ [])) ∷ Shut 𝓛 r b o κ q ∷ Γ) G)
      → Seq K 𝓛 (‵ (hidden_shr slot.the_row κ r b o) ∷ ‵ (flft κ q) ∷ ‵ (ftok every) ∷ Γ) G
  opens_slot t z {κ} {q} k =
      let P : Fml = fields_with Fields (of_object r) b o in
      unhide t $ use3 𝓛 (later (‵ P ⊛ Shut 𝓛 r b o κ q)) (na_acc_in 𝓛 κ ((κ, q) ∷ []) every (b, o) P (Incl-refl κ) refl) $ await t z $ split t $
      fpick t (λ vs. fsplit t $ move t (1 ∷ []) $ contents_out r t vs (λ x v is typed e.
      rewrite t 1 (λ (us : List Val). ‵ (cell_at full_share Fields.mir us b o)) e refl $ move t (1 ∷ []) $
      use1 𝓛 (‵ (fat full_share slot_type b o (round v))) (𝓛.laws.raw_at full_share slot_type b o (round v)) $ k x v is typed))

  pub shuts_slot : K → Soaks G → {κ : Lft} {q : Share} (x : Held.Denot) (v : Val) → IsOf r x
      → Step K 𝓛 (‵ (flft κ q) ∷ ‵ (ftok every) ∷ Γ) G (‵ (fat full_share slot_type b o (round v)) ∷ ‵ (Held.own_val x (v ∷ [])) ∷ Shut 𝓛 r b o κ q ∷ Γ) G
  shuts_slot t z {κ} {q} x v is = step (λ s.
      let P : Fml = fields_with Fields (of_object r) b o in
      use1 𝓛 (‵ (cell_at full_share Fields.mir (round v ∷ []) b o)) (𝓛.laws.at_raw full_share slot_type b o (round v)) $ move t (1 ∷ []) $
      contents_in r t x v is $ move t (1 ∷ 0 ∷ []) $ fjoin t $
      fpack t (List Val) (λ us. fsep (cell_at full_share Fields.mir us b o) (contents r us)) (round v ∷ []) $ move t (1 ∷ []) $ split t $ move t (2 ∷ 0 ∷ []) $
      join t $
      use2 𝓛 (later (‵ (flft κ q) ⊛ ‵ (ftok every))) (apply∗ 𝓤 (sep 𝓤 (sem 𝓛 P) (A.tok (less every (b, o)))) (H.⇛ (sep 𝓤 (A.lft κ q) (A.tok every)))) $
      await t z $ split t $ s)

module _ {M : Type 1} {𝓤 : Ura M} (𝓛 : Logic 𝓤) (T : Ended) (hs : Stays T.signature.params T.kept) (c : Clauses 𝓤 T) where
  open 𝓛 use {H, A}

  abbrev S : Signature
  S = T.signature

  -- the thread's token is had at the call, and at the return again
  abbrev pub with_token : Clauses 𝓤 T
  with_token = holding 𝓤 T (A.tok every) c

  pub proved_with_token : (𝓜 : Model 𝓤 H) (𝓡 : Running 𝓤 H 𝓜) → AllGo 𝓛 S.lifetimes S.params T.kept hs → (k : Callee) (e : Fn) → over 𝓡.env e ≼⁺ 𝓡.env k
      → ((C : Calls 𝓤 H) (Λ : Loops 𝓤 H) (y : (walk_of 𝓛 T hs with_token).Ghost) → Are (types_at S.params y.0.0) (Ises (types_at S.params y.0.0)) y.0.3 y.0.4
      → ent 𝓤 ((walk_of 𝓛 T hs with_token).pre y) (WpFn 𝓤 H C Λ e ((walk_of 𝓛 T hs with_token).args y) ((walk_of 𝓛 T hs with_token).post y)))
      → Meets 𝓛 S (𝓡.run (𝓡.env k)) (closing 𝓛 T c)
  unfolding tables_of
  proved_with_token 𝓜 𝓡 go k e is walk =
      let 𝓒 : Carries 𝓤 H 𝓜 (A.tok every) = subst (Carries 𝓤 H 𝓜) 𝓛.turn_is 𝓡.carries in
      let 𝓣 : Tables 𝓤 H = tables_of 𝓤 H 𝓒.inner (bare_tables 𝓤 H 𝓒.inner 𝓡.allowed 𝓡.how 𝓡.env) in
      hands 𝓛 T (A.tok every) c 𝓜 𝓒 𝓡 (𝓡.env k)
      (entered 𝓤 H (triple_of 𝓛 S (closing 𝓛 T with_token)) 𝓣.C 𝓣.Λ k e (bare_unfolds 𝓤 H 𝓒.inner 𝓡.allowed 𝓡.how 𝓡.env k e is)
      (walk_Meets 𝓛 T hs go with_token (WpFn 𝓤 H 𝓣.C 𝓣.Λ e) (WpFn-mono 𝓤 H 𝓛.laws 𝓣 e) (λ y. let Rs = types_at S.params y.0.0 in let a = y.0.3 in
      let vss = y.0.4 in
      fact_use 𝓤 (Are Rs (Ises Rs) a vss) (via 𝓤 (sem 𝓛 (owns Rs a vss))
      (via 𝓤 (on_entry 𝓛 S y.0.0 y.0.1 a vss) (fst∗ 𝓤 (on_entry 𝓛 S y.0.0 y.0.1 a vss) ((with_token y.0.0 a).requires y.1))
      (snd∗ 𝓤 (alive 𝓛 S y.0.0 y.0.1) (sem 𝓛 (owns Rs a vss)))) (owns_show 𝓛 Rs (Ises Rs) (showss 𝓛 Rs) a vss)) (walk 𝓣.C 𝓣.Λ y))))
