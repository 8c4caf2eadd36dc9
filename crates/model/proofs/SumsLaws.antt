-- The counts of duplicates and acceptances are the sums over the calls.
use Prim.Native.Nat.{ℕ, suc, ◌+◌}
use mathlib.Core.List.{List, [], ◌∷◌}
use mathlib.Core.Bool.{Bool, true, false, cond, not, ◌&&◌}
use mathlib.Core.Path.{◌≡◌, refl, sym, ap, ◌∙◌, subst}
use native.Mathlib.Omega.{arith}
use native.Mathlib.Decide.{ℕ_discrete}
use borrow.Author.Tests.{eqb-false}
use lib.Dec.{eqb, leb}
use Rattle.images.specs.declared.Timer.{Timer}
use Rattle.images.specs.declared.DpcOrigin.TheVariants as origin
use Rattle.model.specs.Lists.{Mem, keep, nth, count_of, given}
use Rattle.model.specs.State.{State, Object, Policy, unselected, cpu0_dispatch, timer, Counters}
use Rattle.model.specs.Waits.{key_of, timers_of}
use Rattle.model.specs.Dpcs.{phase_at, is_queued, accepted, duplicated}
use Rattle.model.specs.Timers.{is_due, insert_by_due, by_due, in_order, due_timers}
use Rattle.model.specs.Answer.{Outcome, gives, Refused, Done, None, Flag, TimerIs, CountersAre}
use Rattle.model.specs.Call.{Call, Open, InsertQueueDpc, AdvanceTo}
use Rattle.model.specs.Call as call
use Rattle.model.specs.Step.{refusal, effect, step, after, opened, dpc_inserted, with_dpcs}
use Rattle.model.specs.Start.{Start, by_open, Accepted, begun}
use Rattle.model.specs.Valid.{Valid}
use Rattle.model.proofs.ListLaws.{not-both}
use Rattle.model.proofs.TableLaws.{mem-found}
use Rattle.model.proofs.DpcLaws.{present-some, phase-found}
use Rattle.model.proofs.LinkLaws.{mem-timer}
use Rattle.model.proofs.WdkLaws.{step_is}
use Rattle.model.proofs.StepLaws.{valid-step, refused-unchanged}
use Rattle.model.proofs.StartLaws.{valid-begun}
use Rattle.model.specs.Sums.{expires, Expiries, Neither, Adds, restarts, repeats, accepts, expiries, refused, other, Sums}
use Rattle.model.proofs.Firing.{count_same}
use Rattle.model.proofs.Leaving.{Kind, opens, inserts, advances, leaves, kind}
use Rattle.model.proofs.Told.{asked, timers-answers, told-dpc, dpc-told, counters-answers}
use Rattle.model.proofs.AcceptanceLaws.{advance-fires, passed, not_done}

-- ---- counting the due timers

module _ (f : Timer → Bool) where
  count-insert : (t : Timer) (us : List Timer) → count_of f (insert_by_due t us) ≡ count_of f (t ∷ us)
  count-insert t [] = refl
  count-insert t (u ∷ us) = go (leb t.due u.due) (count-insert t us)
    where
      go : (b : Bool) → count_of f (insert_by_due t us) ≡ count_of f (t ∷ us) → count_of f (cond b (t ∷ u ∷ us) (u ∷ insert_by_due t us)) ≡ count_of f (t ∷ u ∷ us)
      go true ih = refl
      go false ih = omega (arith, ih)

  count-sorted : (ts : List Timer) → count_of f (by_due ts) ≡ count_of f ts
  count-sorted [] = refl
  count-sorted (t ∷ ts) = count-insert t (by_due ts) ∙ ap (λ (n : ℕ). cond (f t) 1 0 + n) (count-sorted ts)

  count-order : (policy : Policy) (ts : List Timer) → count_of f (in_order policy ts) ≡ count_of f ts
  count-order unselected ts = refl
  count-order (cpu0_dispatch first second) ts = count-sorted ts

  count-keep : (g : Timer → Bool) (ts : List Timer) → count_of f (keep g ts) ≡ count_of (λ t. cond (g t) (f t) false) ts
  count-keep g [] = refl
  count-keep g (t ∷ ts) = go (g t) (count-keep g ts)
    where
      go : (b : Bool) → count_of f (keep g ts) ≡ count_of (λ t. cond (g t) (f t) false) ts → count_of f (cond b (t ∷ keep g ts) (keep g ts)) ≡ cond (cond b (f t) false) 1 0 + count_of (λ t. cond (g t) (f t) false) ts
      go true ih = ap (λ (n : ℕ). cond (f t) 1 0 + n) ih
      go false ih = omega (arith, ih)

  count-due : (policy : Policy) (now : ℕ) (l : List Object) → count_of f (due_timers policy now l) ≡ count_of (λ t. cond (is_due now t) (f t) false) (timers_of l)
  count-due policy now l = count-order policy (keep (is_due now) (timers_of l)) ∙ count-keep (is_due now) (timers_of l)

-- `timers` tells all of them
told-all : (l m : List Timer) → ((n : ℕ) → given (nth l n) None TimerIs ≡ given (nth m n) None TimerIs) → l ≡ m
told-all [] [] h = refl
told-all [] (y ∷ m) h = let e = h 0 in let z : ◌≡◌ {A = ℕ} 0 1 = cc in absurd (omega arith)
told-all (x ∷ l) [] h = let e = h 0 in let z : ◌≡◌ {A = ℕ} 0 1 = cc in absurd (omega arith)
told-all (x ∷ l) (y ∷ m) h =
    let e = h 0 in
    let z : x ≡ y = cc in
    ap (λ (t : Timer). t ∷ l) z ∙ ap (λ (k : List Timer). y ∷ k) (told-all l m (λ n. h (suc n)))

-- a test of those that expire, by what `dpc` answers and by the log's phases
test-same : (g : Bool → Bool) (i d z p q : Bool) → ((i && (d && not z)) ≡ true → q ≡ p) → ((i && (d && not z)) && g q) ≡ cond (cond i d false) (cond z false (g p)) false
test-same g true true true p q h = refl
test-same g true true false p q h = ap g (h refl)
test-same g true false z p q h = refl
test-same g false d z p q h = refl

-- ---- one call

abbrev duplicates_of : State → ℕ
duplicates_of x = x.dpcs.counters.duplicates

abbrev accepted_of : State → ℕ
accepted_of x = x.dpcs.counters.accepted

-- the sums are the state's counts
abbrev pub Are : State → ℕ → ℕ → Type 0
Are x e b = (e ≡ duplicates_of x) × (b ≡ accepted_of x)

module _ (s : State) (v : Valid s) where
  not_flag : (b : Bool) (n : ℕ) → Refused n ≡ Flag b → ⊥
  not_flag b n e = let z : ◌≡◌ {A = ℕ} 0 1 = cc in omega arith

  -- an `open`
  opened-are : (m p t o d : ℕ) → Are (effect (Open m p t o d) s).state 0 0
  unfolding effect opened
  opened-are m p t o d = (refl, refl)

  -- an insert at queued work, or not
  abbrev inserted : Bool → ℕ → ℕ → ℕ → Outcome
  inserted q x first second = cond q (gives (Flag false) (with_dpcs s (duplicated s.dpcs))) (gives (Flag true) (with_dpcs s (accepted s.dpcs x first second origin.Caller)))

  inserted-are : (x first second : ℕ) (b : Bool) → (effect (InsertQueueDpc x first second) s).answer ≡ Flag b
      → Are (effect (InsertQueueDpc x first second) s).state (duplicates_of s + cond b 0 1) (accepted_of s + cond b 1 0)
  unfolding effect dpc_inserted accepted duplicated
  inserted-are x first second b e = go (is_queued (phase_at s.dpcs.table x)) b e
    where
      go : (q b : Bool) → (inserted q x first second).answer ≡ Flag b → Are (inserted q x first second).state (duplicates_of s + cond b 0 1) (accepted_of s + cond b 1 0)
      go true true z = let y : false ≡ true = cc in absurd (not-both (sym y))
      go true false z = (refl, omega arith)
      go false true z = (omega arith, refl)
      go false false z = let y : true ≡ false = cc in absurd (not-both y)

  -- an advance: the two counts over its due timers
  due-count : (g : Bool → Bool) (time : ℕ) (queued : ℕ → Bool)
      → ((t : Timer) → Mem t (timers_of s.dispatcher.objects) → expires time t ≡ true → queued t.dpc ≡ is_queued (phase_at s.dpcs.table t.dpc))
      → count_of (λ t. expires time t && g (queued t.dpc)) (timers_of s.dispatcher.objects)
      ≡ count_of (λ (t : Timer). cond (eqb t.dpc 0) false (g (is_queued (phase_at s.dpcs.table t.dpc)))) (due_timers s.policy time s.dispatcher.objects)
  due-count g time queued h =
      count_same (λ t. expires time t && g (queued t.dpc)) (λ t. cond (is_due time t) (cond (eqb t.dpc 0) false (g (is_queued (phase_at s.dpcs.table t.dpc)))) false) (timers_of s.dispatcher.objects)
      (λ t m. test-same g t.inserted (leb t.due time) (eqb t.dpc 0) (is_queued (phase_at s.dpcs.table t.dpc)) (queued t.dpc) (h t m))
      ∙ sym (count-due (λ (t : Timer). cond (eqb t.dpc 0) false (g (is_queued (phase_at s.dpcs.table t.dpc)))) s.policy time s.dispatcher.objects)

  advanced-are : (time i j : ℕ) → refusal (AdvanceTo time) s ≡ 0 → Expiries (asked s) time i j → Are (step (AdvanceTo time) s).state (duplicates_of s + i) (accepted_of s + j)
  advanced-are time i j r x =
      let fires = advance-fires s v time r in
      let all : x.timers ≡ timers_of s.dispatcher.objects = told-all x.timers (timers_of s.dispatcher.objects) (λ n. sym (x.read n) ∙ timers-answers s n) in
      let phases : (t : Timer) → Mem t (timers_of s.dispatcher.objects) → expires time t ≡ true → x.queued t.dpc ≡ is_queued (phase_at s.dpcs.table t.dpc)
      = λ t m y. let d = x.dpcs t (subst (Mem t) (sym all) m) y in d.2 ∙ ap is_queued (sym (phase-found s.dpcs.table t.dpc d.0 (dpc-told s t.dpc d.0 d.1))) in
      let old = x.old ∙ ap (count_of (λ t. expires time t && x.queued t.dpc)) all ∙ due-count (λ y. y) time x.queued phases in
      let new = x.new ∙ ap (count_of (λ t. expires time t && not (x.queued t.dpc))) all ∙ due-count not time x.queued phases in
      (ap (λ (n : ℕ). duplicates_of s + n) old ∙ sym fires.duplicates, ap (λ (n : ℕ). accepted_of s + n) new ∙ sym fires.accepted)

  -- the counts that an advance finds so
  advance-expiries : (time : ℕ) → Expiries (asked s) time
      (count_of (λ t. expires time t && is_queued (phase_at s.dpcs.table t.dpc)) (timers_of s.dispatcher.objects))
      (count_of (λ t. expires time t && not (is_queued (phase_at s.dpcs.table t.dpc))) (timers_of s.dispatcher.objects))
  advance-expiries time = record {
    timers = timers_of s.dispatcher.objects;
    read = timers-answers s;
    queued = λ a. is_queued (phase_at s.dpcs.table a);
    dpcs = λ t m y.
        let f = mem-found key_of s.dispatcher.objects v.sound.rising (timer t) (mem-timer s.dispatcher.objects t m) in
        let i = expiring t.inserted (leb t.due time) (eqb t.dpc 0) refl refl y in
        let d = present-some s.dpcs.table t.dpc (v.linked.served t.address (timer t) f i.0 (eqb-false t.dpc 0 i.1)).0 in
        (d.0, told-dpc s t.dpc d.0 d.1, ap is_queued (phase-found s.dpcs.table t.dpc d.0 d.1));
    old = refl;
    new = refl;
  }
    where
      expiring : {x z : Bool} (i d y : Bool) → x ≡ i → z ≡ y → (i && (d && not y)) ≡ true → (x ≡ true) × (z ≡ false)
      expiring true true true p q h = absurd (not-both (sym h))
      expiring true true false p q h = (p, q)
      expiring true false y p q h = absurd (not-both (sym h))
      expiring false d y p q h = absurd (not-both (sym h))

  -- ---- every call

  in-effect : (c : Call) (e b : ℕ) → refusal c s ≡ 0 → Are (effect c s).state e b → Are (step c s).state e b
  in-effect c e b r h = subst (λ (o : Outcome). Are o.state e b) (sym (step_is c s r)) h

  stay : (c : Call) → (refusal c s ≡ 0 → ⊥) → Are (step c s).state (duplicates_of s) (accepted_of s)
  stay c n = subst (λ (o : Outcome). Are o.state (duplicates_of s) (accepted_of s)) (sym (refused-unchanged c s n)) (refl, refl)

  -- a call that is refused or of another kind leaves the counts
  left_alone : (c : Call) → (refusal c s ≡ 0 → (Neither c → ⊥) → ⊥) → Are (step c s).state (duplicates_of s) (accepted_of s)
  left_alone c h = elim (ℕ_discrete (refusal c s) 0) [ yes r ↦ by_kind r (kind s v.queueing.rising c) | no n ↦ stay c n ]
    where
      by_kind : refusal c s ≡ 0 → Kind s c → Are (step c s).state (duplicates_of s) (accepted_of s)
      by_kind r (opens m p t o d e) = absurd (h r (λ n. n.not_open m p t o d e))
      by_kind r (inserts x first second e) = absurd (h r (λ n. n.not_insert x first second e))
      by_kind r (advances time e) = absurd (h r (λ n. n.not_advance time e))
      by_kind r (leaves n l) = in-effect c (duplicates_of s) (accepted_of s) r (sym l.duplicates, sym l.accepted)

  -- no other kind of call that the table accepts answers a refusal
  refused-other : (c : Call) (n : ℕ) → asked s c ≡ Refused n → refusal c s ≡ 0 → (Neither c → ⊥) → ⊥
  unfolding effect dpc_inserted
  refused-other c n e r h = by_kind (kind s v.queueing.rising c)
    where
      answers : (effect c s).answer ≡ Refused n
      answers = ap (λ (o : Outcome). o.answer) (sym (step_is c s r)) ∙ e

      flag : (q : Bool) (x first second : ℕ) → (inserted q x first second).answer ≡ Refused n → ⊥
      flag true x first second z = not_flag false n (sym z)
      flag false x first second z = not_flag true n (sym z)

      by_kind : Kind s c → ⊥
      by_kind (opens m p t o d z) = not_done n (sym (ap (λ (y : Call). (effect y s).answer) (sym z) ∙ answers))
      by_kind (inserts x first second z) = flag (is_queued (phase_at s.dpcs.table x)) x first second (ap (λ (y : Call). (effect y s).answer) (sym z) ∙ answers)
      by_kind (advances time z) = not_done n (sym (ap (λ (y : Call). (effect y s).answer) (sym z) ∙ answers))
      by_kind (leaves k l) = h k

  of-call : (c x : Call) (e b : ℕ) → c ≡ x → Are (step x s).state e b → Are (step c s).state e b
  of-call c x e b z h = subst (λ (y : Call). Are (step y s).state e b) (sym z) h

  by-insert : (x first second : ℕ) (b : Bool) → asked s (InsertQueueDpc x first second) ≡ Flag b → Are (step (InsertQueueDpc x first second) s).state (duplicates_of s + cond b 0 1) (accepted_of s + cond b 1 0)
  by-insert x first second b e =
      let c = InsertQueueDpc x first second in
      let r = passed s c (Flag b) (not_flag b) e in
      in-effect c _ _ r (inserted-are x first second b (ap (λ (o : Outcome). o.answer) (sym (step_is c s r)) ∙ e))

  by-open : (m p t o d : ℕ) → asked s (Open m p t o d) ≡ Done → Are (step (Open m p t o d) s).state 0 0
  by-open m p t o d e = in-effect (Open m p t o d) 0 0 (passed s (Open m p t o d) Done not_done e) (opened-are m p t o d)

  by-advance : (time i j : ℕ) → asked s (AdvanceTo time) ≡ Done → Expiries (asked s) time i j → Are (step (AdvanceTo time) s).state (duplicates_of s + i) (accepted_of s + j)
  by-advance time i j e x = advanced-are time i j (passed s (AdvanceTo time) Done not_done e) x

  -- with one more call the sums go on being the counts
  pub adds-are : (c : Call) (d a e b : ℕ) → Are s d a → Adds (asked s) c d a e b → Are (step c s).state e b
  adds-are c d a e b h (restarts m p t o n z y q w) =
      let k = of-call c (Open m p t o n) 0 0 z (by-open m p t o n (ap (asked s) (sym z) ∙ y)) in
      (q ∙ k.0, w ∙ k.1)
  adds-are c d a e b h (repeats x first second z y q w) =
      let k = of-call c (InsertQueueDpc x first second) _ _ z (by-insert x first second false (ap (asked s) (sym z) ∙ y)) in
      (q ∙ ap (λ (n : ℕ). n + 1) h.0 ∙ k.0, omega (arith, w, h.1, k.1))
  adds-are c d a e b h (accepts x first second z y q w) =
      let k = of-call c (InsertQueueDpc x first second) _ _ z (by-insert x first second true (ap (asked s) (sym z) ∙ y)) in
      (omega (arith, q, h.0, k.0), w ∙ ap (λ (n : ℕ). n + 1) h.1 ∙ k.1)
  adds-are c d a e b h (expiries time i j z y x q w) =
      let k = of-call c (AdvanceTo time) _ _ z (by-advance time i j (ap (asked s) (sym z) ∙ y) x) in
      (q ∙ ap (λ (n : ℕ). n + i) h.0 ∙ k.0, w ∙ ap (λ (n : ℕ). n + j) h.1 ∙ k.1)
  adds-are c d a e b h (refused n y q w) = let k = left_alone c (refused-other c n y) in (q ∙ h.0 ∙ k.0, w ∙ h.1 ∙ k.1)
  adds-are c d a e b h (other n q w) = let k = left_alone c (λ r f. f n) in (q ∙ h.0 ∙ k.0, w ∙ h.1 ∙ k.1)

  -- so the counts that are read before a call and after it differ by what the call adds
  pub call-adds : (c : Call) (x : Counters) → asked s (call.Reads call.DpcCounters) ≡ CountersAre x → (e b : ℕ) → Adds (asked s) c x.duplicates x.accepted e b
      → (y : Counters) × (asked (step c s).state (call.Reads call.DpcCounters) ≡ CountersAre y) × (y.duplicates ≡ e) × (y.accepted ≡ b)
  call-adds c x r e b h =
      let q : CountersAre s.dpcs.counters ≡ CountersAre x = sym (counters-answers s) ∙ r in
      let same : s.dpcs.counters ≡ x = cc in
      let k = adds-are c x.duplicates x.accepted e b (ap (λ (y : Counters). y.duplicates) (sym same), ap (λ (y : Counters). y.accepted) (sym same)) h in
      ((step c s).state.dpcs.counters, counters-answers (step c s).state, sym k.0, sym k.1)

  -- and every call can be so counted
  abbrev Counted : Call → Type 0
  Counted c = Adds (asked s) c (duplicates_of s) (accepted_of s) (duplicates_of (step c s).state) (accepted_of (step c s).state)

  answer-is : (c x : Call) → c ≡ x → refusal c s ≡ 0 → asked s c ≡ (effect x s).answer
  answer-is c x z r = ap (λ (o : Outcome). o.answer) (step_is c s r) ∙ ap (λ (y : Call). (effect y s).answer) z

  insert-counted : (c : Call) (x first second : ℕ) → c ≡ InsertQueueDpc x first second → refusal c s ≡ 0 → Counted c
  unfolding effect dpc_inserted
  insert-counted c x first second z r = go (is_queued (phase_at s.dpcs.table x)) (answer-is c (InsertQueueDpc x first second) z r)
    where
      go : (q : Bool) → asked s c ≡ (inserted q x first second).answer → Counted c
      go true y =
          let k = of-call c (InsertQueueDpc x first second) _ _ z (by-insert x first second false (ap (asked s) (sym z) ∙ y)) in
          repeats x first second z y (sym k.0) (omega (arith, k.1))
      go false y =
          let k = of-call c (InsertQueueDpc x first second) _ _ z (by-insert x first second true (ap (asked s) (sym z) ∙ y)) in
          accepts x first second z y (omega (arith, k.0)) (sym k.1)

  pub call-counted : (c : Call) → Counted c
  unfolding effect
  call-counted c = elim (ℕ_discrete (refusal c s) 0) [
    | yes r ↦ by_kind r (kind s v.queueing.rising c)
    | no n ↦ let k = stay c n in refused (refusal c s) (ap (λ (o : Outcome). o.answer) (refused-unchanged c s n)) (sym k.0) (sym k.1)
  ]
    where
      by_kind : refusal c s ≡ 0 → Kind s c → Counted c
      by_kind r (opens m p t o d z) =
          let y = answer-is c (Open m p t o d) z r in
          let k = of-call c (Open m p t o d) 0 0 z (by-open m p t o d (ap (asked s) (sym z) ∙ y)) in
          restarts m p t o d z y (sym k.0) (sym k.1)
      by_kind r (inserts x first second z) = insert-counted c x first second z r
      by_kind r (advances time z) =
          let y = answer-is c (AdvanceTo time) z r in
          let x = advance-expiries time in
          let k = of-call c (AdvanceTo time) _ _ z (by-advance time _ _ (ap (asked s) (sym z) ∙ y) x) in
          expiries time _ _ z y x (sym k.0) (sym k.1)
      by_kind r (leaves n l) = let k = left_alone c (λ q f. f n) in other n (sym k.0) (sym k.1)

-- ---- any list of calls

-- the state after a call
abbrev pub ran : State → Call → State
ran s c = (step c s).state

pub sums-are : (cs : List Call) (s : State) → Valid s → (d a e b : ℕ) → Are s d a → Sums asked ran s cs d a e b → Are (after cs s) e b
sums-are [] s v d a e b h z = (z.0 ∙ h.0, z.1 ∙ h.1)
sums-are (c ∷ cs) s v d a e b h z = sums-are cs (step c s).state (valid-step s v c) z.0 z.1 e b (adds-are s v c d a z.0 z.1 h z.2) z.3

pub all-counted : (cs : List Call) (s : State) → Valid s → Sums asked ran s cs (duplicates_of s) (accepted_of s) (duplicates_of (after cs s)) (accepted_of (after cs s))
all-counted [] s v = (refl, refl)
all-counted (c ∷ cs) s v = (duplicates_of (step c s).state, accepted_of (step c s).state, call-counted s v c, all-counted cs (step c s).state (valid-step s v c))

-- from the start, where both are 0
begun-none : (start : Start) → Are (begun start) 0 0
unfolding opened
begun-none (by_open p t o d) = (refl, refl)

module _ (words : ℕ) (start : Start) (accepted : Accepted words start) (calls : List Call) where
  -- whoever adds up the calls has what `dpc_counters` answers
  pub counters-are : (e b : ℕ) → Sums asked ran (begun start) calls 0 0 e b
      → (c : Counters) × (asked (after calls (begun start)) (call.Reads call.DpcCounters) ≡ CountersAre c) × (c.duplicates ≡ e) × (c.accepted ≡ b)
  counters-are e b z =
      let r = sums-are calls (begun start) (valid-begun words start accepted) 0 0 e b (begun-none start) z in
      ((after calls (begun start)).dpcs.counters, counters-answers (after calls (begun start)), sym r.0, sym r.1)

  -- and they can be added up
  pub sums : (e b : ℕ) × Sums asked ran (begun start) calls 0 0 e b
  sums =
      let n = begun-none start in
      let s = after calls (begun start) in (
        duplicates_of s,
        accepted_of s,
        subst (λ (x : ℕ). Sums asked ran (begun start) calls x 0 (duplicates_of s) (accepted_of s)) (sym n.0)
            (subst (λ (x : ℕ). Sums asked ran (begun start) calls (duplicates_of (begun start)) x (duplicates_of s) (accepted_of s)) (sym n.1) (all-counted calls (begun start) (valid-begun words start accepted))),
      )
