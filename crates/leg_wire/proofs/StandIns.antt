-- Pieces whose metal is all that of another one, which stands for them.
use Rattle.std.proofs.Common.{◌≡◌, ℕ, ◌+◌, ◌<◌, Bool, true, false, cond, List, length, get_or, set, All, Contains, Some, slice_get, inl, inr, refl, sym, ap, subst, ◌∙◌, arith, length-append}
use Rattle.std.proofs.lemmas.Bool.{cases_eq, cases_lt, cases_Bool, false≢true}
use Rattle.std.proofs.lemmas.List.{get_or-set_same, get_or-set_other, length-set}
use Rattle.std.proofs.lemmas.List.Elements.{All-append, All-weaker, All-set, All-contains, All-contains_itself, Contains-append_left}
use Rattle.std.proofs.lemmas.Option.{same_Some, slice_get_within, slice_get_read, get_or_from_slice_get}
use Rattle.leg_geom.specs.Plane.{PointModel, ShareTwoPoints}
use Rattle.leg_wire.specs.declared.piece_shape.PieceShape.{PieceShape}
use Rattle.leg_rules.specs.Joins.Touch.{Joined}
use Rattle.leg_rules.specs.Joins.Touch.Joined.{itself, through}
use Rattle.leg_wire.specs.Steps.Kinds.{AreSameMetal, IsOfKind, AreKinds}
use Rattle.leg_wire.specs.Steps.NumberSets.{AreTogether}
use Rattle.leg_wire.specs.Steps.PieceMetal.{LiesAmong, TouchAmong}
use Rattle.leg_wire.specs.Steps.JoinSteps.{AreSomeJoined, AreSetsOf, AreKept, AreTogetherAlike, AreStaying, IsStayingMetal, AreLatest, HasOneMore}
use Rattle.leg_wire.proofs.SetUnions.{AreTogether-itself, AreTogether-back, AreTogether-onward}

module _ (metal kinds : List PieceShape) (numbers stand_ins : List ℕ) (i : ℕ) (staying : List Bool) (done : AreStaying metal kinds numbers stand_ins i staying)
    (s t : PieceShape) (s_at : slice_get metal i ≡ Some s) (t_is : t ≡ get_or kinds (get_or numbers i 0) t) where
  -- the shape with this number and the one that stands for its kind
  these : (one kind : PieceShape) → slice_get metal i ≡ Some one → slice_get kinds (get_or numbers i 0) ≡ Some kind → (s ≡ one) × (t ≡ kind)
  these one kind at kind_at = (same_Some s one (sym s_at ∙ at), t_is ∙ get_or_from_slice_get kinds (get_or numbers i 0) kind t kind_at)

  -- its stand-in stands for it too
  pub staying_same : t.piece ≡ get_or stand_ins s.piece 0 → ShareTwoPoints s.rect t.rect → AreStaying metal kinds numbers stand_ins (i + 1) staying
  staying_same same two k one kind below at kind_at gone = elim (cases_lt k i) [
    | inl before ↦ done k one kind before at kind_at gone
    | inr late ↦
        let here : k ≡ i = omega (arith, late, below) in
        let is = these one kind (rw here at at) (rw here at kind_at) in
        (rw (is.0, is.1) at same, rw (is.0, is.1) at two)
  ]

  -- or the piece stays
  pub staying_more : s.piece < length staying → AreStaying metal kinds numbers stand_ins (i + 1) (set staying s.piece true)
  staying_more low k one kind below at kind_at gone = elim (cases_eq one.piece s.piece) [
    | inl same ↦ absurd (false≢true (sym gone ∙ ap (λ n. get_or (set staying s.piece true) n true) same ∙ get_or-set_same staying s.piece true true low))
    | inr other ↦
        let old : get_or staying one.piece true ≡ false = sym (get_or-set_other staying s.piece one.piece true true other) ∙ gone in
        elim (cases_lt k i) [
          | inl before ↦ done k one kind before at kind_at old
          | inr late ↦
              let here : k ≡ i = omega (arith, late, below) in
              let is = these one kind (rw here at at) (rw here at kind_at) in
              absurd (other (ap (λ (u : PieceShape). u.piece) (sym is.0)))
        ]
  ]

module _ (metal kinds : List PieceShape) (staying : List Bool) where
  -- no shape was looked at
  pub staying_none : All (Contains metal) kinds → IsStayingMetal metal kinds staying 0 kinds
  staying_none among = record {
    few = omega arith;
    among = among;
    one_each = All-contains_itself kinds;
    all = λ k one below at stays. absurd (let e : ⊥ = omega (arith, below) in e);
  }

  -- one shape more was looked at, and is there if its piece stays
  pub staying_next : (i : ℕ) (rest after : List PieceShape) (one : PieceShape) → slice_get metal i ≡ Some one → IsStayingMetal metal kinds staying i rest
      → HasOneMore rest one after → (get_or staying one.piece true ≡ true → Contains after one)
      → IsStayingMetal metal kinds staying (i + 1) after
  staying_next i rest after one at done got there = record {
    few =
        let few = got.few in
        let old = done.few in
        let size : length after ≡ length rest + length got.more = ap length got.is ∙ length-append rest got.more in omega (arith, few, old, size);
    among =
        rw got.is (All-append (Contains metal) rest got.more done.among
        (All-weaker (λ s. s ≡ one) (Contains metal) (λ s same. rw same here) got.more got.only));
    one_each = All-weaker (Contains rest) (Contains after) (λ s old. kept s old) kinds done.one_each;
    all = λ k other below there_at stays. elim (cases_lt k i) [
      | inl before ↦ kept other (done.all k other before there_at stays)
      | inr late ↦
          let now : k ≡ i = omega (arith, late, below) in
          let same : one ≡ other = same_Some one other (sym at ∙ ap (slice_get metal) (sym now) ∙ there_at) in
          rw (← same) (there (rw same stays))
    ];
  } where
    here : Contains metal one
    here = (i, slice_get_within metal i one at, get_or_from_slice_get metal i one one at)

    kept : (s : PieceShape) → Contains rest s → Contains after s
    kept s old = rw got.is (Contains-append_left rest got.more s old)

-- a shape of each kind, at first that which stands for it
pub latest_none : (kinds : List PieceShape) → AreLatest kinds kinds kinds
latest_none kinds = record {
  count = refl;
  alike = λ n kind d at. rw (get_or_from_slice_get kinds n kind d at) (record { layer = refl; rect = refl });
  there = All-contains_itself kinds;
}

-- a shape that is there takes the place of the one of its kind
pub latest_next : (kinds rest latest after : List PieceShape) (n : ℕ) (one kind late : PieceShape) → slice_get kinds n ≡ Some kind → AreSameMetal one kind
    → AreSameMetal one late → Contains after late → HasOneMore rest one after → AreLatest kinds rest latest
    → AreLatest kinds after (set latest n late)
latest_next kinds rest latest after n one kind late at like alike there got done = record {
  count = length-set latest n late ∙ done.count;
  alike = λ m other d other_at. elim (cases_eq m n) [
    | inl same ↦
        let is_kind : kind ≡ other = same_Some kind other (sym at ∙ ap (slice_get kinds) (sym same) ∙ other_at) in
        let new : get_or (set latest n late) m d ≡ late = ap (λ k. get_or (set latest n late) k d) same ∙ get_or-set_same latest n late d within in
        rw (new, ← is_kind) (record { layer = sym like.layer ∙ alike.layer; rect = sym like.rect ∙ alike.rect })
    | inr differ ↦ rw (get_or-set_other latest n m late d differ) (done.alike m other d other_at)
  ];
  there =
      All-set (Contains after) latest n late there
      (All-weaker (Contains rest) (Contains after) (λ s old. rw got.is (Contains-append_left rest got.more s old)) latest done.there);
} where
  within : n < length latest
  within = let low = slice_get_within kinds n kind at in let count = done.count in omega (arith, low, count)

module _ (metal kinds : List PieceShape) (numbers : List ℕ) (are_kinds : AreKinds AreSameMetal metal kinds numbers) (stand_ins : List ℕ) (staying : List Bool)
    (are_staying : AreStaying metal kinds numbers stand_ins (length metal) staying) (rest : List PieceShape)
    (is_rest : IsStayingMetal metal kinds staying (length metal) rest)
    (count : ℕ) (places : All (λ shape. shape.piece < count) metal) (sets after : List ℕ) (are : AreSetsOf rest count sets)
    (some : AreSomeJoined metal count after) (kept : AreKept sets after) (alike : AreTogetherAlike metal kinds numbers (length metal) after) where
  -- what lies in a piece lies in that which stands for it, and they are together
  record IsMoved (a layer : ℕ) (p : PointModel) : Type 0 where
    to : ℕ
    is : to ≡ cond (get_or staying a true) a (get_or stand_ins a 0)
    lies : LiesAmong rest to layer p
    together : AreTogether after a to

  moved : (a layer : ℕ) (p : PointModel) → LiesAmong metal a layer p → IsMoved a layer p
  moved a layer p lies = elim (cases_Bool (get_or staying a true)) [
    | inl stays ↦ record {
      to = a;
      is = rw stays refl;
      lies = record {
        shape = s;
        has = is_rest.all lies.has.0 s lies.has.1 at (rw lies.of_piece stays);
        of_piece = lies.of_piece;
        on_layer = lies.on_layer;
        inside = lies.inside;
      };
      together = AreTogether-itself after a (omega (arith, low, lies.of_piece, some.size));
    }
    | inr gone ↦
        let told = are_staying lies.has.0 s of.kind lies.has.1 at of.at (rw lies.of_piece gone) in
        let is_to : of.kind.piece ≡ get_or stand_ins a 0 = told.0 ∙ ap (λ n. get_or stand_ins n 0) lies.of_piece in
        record {
          to = of.kind.piece;
          is = rw gone is_to;
          lies = record {
            shape = of.kind;
            has = All-contains (Contains rest) kinds of.kind is_rest.one_each (
              get_or numbers lies.has.0 0,
              slice_get_within kinds (get_or numbers lies.has.0 0) of.kind of.at,
              get_or_from_slice_get kinds (get_or numbers lies.has.0 0) of.kind of.kind of.at,
            );
            of_piece = refl;
            on_layer = sym of.alike.layer ∙ lies.on_layer;
            inside = rw of.alike.rect at lies.inside;
          };
          together = subst (λ n. AreTogether after n of.kind.piece) lies.of_piece (alike lies.has.0 s of.kind lies.has.1 at of.at of.alike.layer told.1);
        }
  ]
    where
      s : PieceShape
      s = lies.shape

      at : slice_get metal lies.has.0 ≡ Some s
      at = slice_get_read metal (length metal) lies.has.0 s refl lies.has.1 (sym lies.has.2)

      of : IsOfKind AreSameMetal kinds (get_or numbers lies.has.0 0) s
      of = are_kinds.each lies.has.0 s at

      low : s.piece < count
      low = All-contains (λ shape. shape.piece < count) metal s places lies.has

  -- pieces that touch are together
  touch_together : (a b : ℕ) → TouchAmong metal a b → AreTogether after a b
  touch_together a b t =
      let p_a = moved a t.layer t.p t.p_in_a in
      let p_b = moved b t.layer t.p t.p_in_b in
      let q_a = moved a t.layer t.q t.q_in_a in
      let q_b = moved b t.layer t.q t.q_in_b in
      let same_a : q_a.to ≡ p_a.to = q_a.is ∙ sym p_a.is in
      let same_b : q_b.to ≡ p_b.to = q_b.is ∙ sym p_b.is in
      let middle : AreTogether after p_a.to p_b.to = elim (cases_eq p_a.to p_b.to) [
        | inl same ↦ rw same (AreTogether-itself after p_b.to (slice_get_within after p_b.to p_b.together.least p_b.together.of_b))
        | inr others ↦
            let touch : TouchAmong rest p_a.to p_b.to = record {
              others = others;
              layer = t.layer;
              p = t.p;
              q = t.q;
              differ = t.differ;
              p_in_a = p_a.lies;
              p_in_b = p_b.lies;
              q_in_a = rw same_a at q_a.lies;
              q_in_b = rw same_b at q_b.lies;
            } in
            let within = slice_get_within after p_a.to p_a.together.least p_a.together.of_b in
            kept p_a.to p_b.to (are.all p_a.to p_b.to (omega (arith, within, some.size)) (through itself touch))
      ] in
      AreTogether-onward after a p_a.to b p_a.together (AreTogether-onward after p_a.to p_b.to b middle (AreTogether-back after b p_b.to p_b.together))

  joined_together : (a b : ℕ) → a < count → Joined (TouchAmong metal) a b → AreTogether after a b
  joined_together a b a_in itself = AreTogether-itself after a (omega (arith, a_in, some.size))
  joined_together a b a_in (through {b = c} joined touches) = AreTogether-onward after a c b (joined_together a c a_in joined) (touch_together c b touches)

  -- the sets by the metal of the pieces that stay, and of one shape of each kind, with the others united
  pub sets_of_stand_ins : AreSetsOf metal count after
  sets_of_stand_ins = record { some = some; all = joined_together }
