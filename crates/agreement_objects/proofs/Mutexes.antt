-- The calls on mutexes that make one or read one.
use Prim.Native.Nat.{ℕ}
use mathlib.Core.List.{List}
use mathlib.Core.Bool.{Bool, true, false, cond, not}
use mathlib.Core.Option.{Option, none, some}
use mathlib.Core.Path.{◌≡◌, refl, sym, ap, ◌∙◌, subst}
use native.Mathlib.Omega.{arith}
use lib.Dec.{eqb}
use Rattle.objects.specs.Objects as objects
use Rattle.objects.specs.Objects.{entered, place_of}
use Rattle.wakes.specs.Wake as wake
use Rattle.mutexes.specs.Mutexes as code
use Rattle.mutexes.specs.Mutexes.{owner_of, new_mutex}
use Rattle.answers.specs.declared.Answer.TheVariants as answer
use Rattle.answers.specs.Outcome.{outcome}
use Rattle.call_answers.specs.Told.{told}
use Rattle.model.specs.Lists.{present, given}
use Rattle.model.specs.State.{State, Mutex, mutex}
use Rattle.model.specs.Threads.{is_live}
use Rattle.model.specs.Waits.{mutex_at, put_object}
use Rattle.model.specs.Valid.{Valid}
use Rattle.model.specs.Refusal.{collides, is_full, is_owned, is_waited_on, mutex_refusal, adopt_refusal, owner_refusal}
use Rattle.model.specs.Reads.{read_refusal, read_answer, number_or_none}
use Rattle.model.specs.Answer.{Outcome, None, ThreadNumber, Number}
use Rattle.model.specs.Call as call
use Rattle.model.specs.Step.{step, refusal, effect, with_table, adopted}
use Rattle.model.proofs.RowLaws.{passes}
use Rattle.model.proofs.KeepObjects.{room_for}
use Rattle.agreement.specs.Records.{holder_of, active_address}
use Rattle.agreement.specs.Agree.{Agree}
use Rattle.agreement.specs.Matches.{Plainly}
use Rattle.agreement.proofs.Matches.{plainly-unless, step-accepted, step-refused}
use Rattle.agreement_wakes.proofs.Waiters.{waits-on-is, mutex-waiters-is}
use Rattle.agreement_objects.proofs.Tests.{collides-is, full_is, mutex-known, owner-is, owned-is, live-is}
use Rattle.agreement_objects.proofs.Plain.{no-timer, agree-enter}

module _ (w : List ℕ) (s : State) (a : Agree w s) (v : Valid s) where
  abbrev hold : ℕ → ℕ
  hold = holder_of s.dispatcher.objects

  abbrev act : ℕ
  act = active_address s.dpcs.table

  -- ---- initialize_mutex

  pub mutex-refusal : (key : ℕ) → code.mutex_refusal w key ≡ mutex_refusal s key
  unfolding code.mutex_refusal mutex_refusal
  mutex-refusal key =
      ap (λ (b : Bool). cond b 5 (cond (eqb key 0) 4 (cond (objects.full w key) 4 (cond (eqb (owner_of w key) 0) (cond (wake.waits_on w 0 key) 6 0) 6)))) (collides-is w s hold act a 0 key)
      ∙ ap (λ (b : Bool). cond (collides s 0 key) 5 (cond (eqb key 0) 4 (cond b 4 (cond (eqb (owner_of w key) 0) (cond (wake.waits_on w 0 key) 6 0) 6)))) (full_is w s hold act a key)
      ∙ ap (λ (b : Bool). cond (collides s 0 key) 5 (cond (eqb key 0) 4 (cond (is_full s key) 4 (cond b (cond (wake.waits_on w 0 key) 6 0) 6)))) (owned-is w s hold act a key)
      ∙ ap (λ (b : Bool). cond (collides s 0 key) 5 (cond (eqb key 0) 4 (cond (is_full s key) 4 (cond (not (is_owned s.dispatcher.objects key)) (cond b 6 0) 6))))
      (waits-on-is w s hold act a v.sound.standing.waiters_waiting 0 key)
      ∙ ap (λ (n : ℕ). cond (collides s 0 key) 5 (cond (eqb key 0) 4 (cond (is_full s key) 4 n))) (go (is_owned s.dispatcher.objects key) (cond (is_waited_on s 0 key) 6 0))
    where
      go : (b : Bool) (n : ℕ) → cond (not b) n 6 ≡ cond b 6 n
      go true n = refl
      go false n = refl

  -- a new mutex, or one that nobody has or waits for
  pub agree-mutex : (key owner : ℕ) → mutex_refusal s key ≡ 0 → Agree (entered w key (new_mutex owner)) (with_table s (put_object (mutex (record { key = key; owner = owner })) s.dispatcher.objects))
  unfolding mutex_refusal new_mutex
  agree-mutex key owner e =
      let r₁ = passes (collides s 0 key) 4 _ e in
      let r₂ = passes (eqb key 0) 3 _ r₁.1 in
      let r₃ = passes (is_full s key) 3 _ r₂.1 in
      let x : Mutex = record { key = key; owner = owner } in
      agree-enter w s a (mutex x) (record { kind = 0; manual = 0; signaled = 0; owner = owner }) (room_for s v (mutex x) r₃.0) tt refl (λ b. refl) (no-timer s 0 key refl r₁.0)

  pub agree-initialize-mutex : (key : ℕ) → Plainly (code.initialized w key) (step (call.InitializeMutex key) s)
  unfolding code.initialized refusal effect
  agree-initialize-mutex key =
      plainly-unless w s a (call.InitializeMutex key) (code.mutex_refusal w key) (outcome answer.Done (entered w key (new_mutex 0))) (mutex-refusal key)
      (λ e. record { answers = refl; agree = agree-mutex key 0 e })

  -- ---- adopt_mutex

  pub known-refusal : (key n : ℕ) → code.known_refusal w key n ≡ given (mutex_at s.dispatcher.objects key) (mutex_refusal s key) (λ (m : Mutex). cond (eqb m.owner n) 0 10)
  unfolding code.known_refusal
  known-refusal key n =
      ap (λ (b : Bool). cond b (code.mutex_refusal w key) (cond (eqb (owner_of w key) n) 0 10)) (mutex-known w s hold act a key)
      ∙ ap (λ (m : ℕ). cond (not (present (mutex_at s.dispatcher.objects key))) m (cond (eqb (owner_of w key) n) 0 10)) (mutex-refusal key)
      ∙ ap (λ (k : ℕ). cond (not (present (mutex_at s.dispatcher.objects key))) (mutex_refusal s key) (cond (eqb k n) 0 10)) (owner-is w s hold act a key)
      ∙ go (mutex_at s.dispatcher.objects key)
    where
      go : (o : Option Mutex) → cond (not (present o)) (mutex_refusal s key) (cond (eqb (given o 0 (λ (m : Mutex). m.owner)) n) 0 10) ≡ given o (mutex_refusal s key) (λ (m : Mutex). cond (eqb m.owner n) 0 10)
      go none = refl
      go (some m) = refl

  -- what an accepted adoption does
  adopts : (key n : ℕ) (r : Option Mutex) → mutex_at s.dispatcher.objects key ≡ r → given r (mutex_refusal s key) (λ (m : Mutex). cond (eqb m.owner n) 0 10) ≡ 0
      → Agree (cond (eqb (place_of w 0 key) 0) (entered w key (new_mutex n)) w)
      (given r (with_table s (put_object (mutex (record { key = key; owner = n })) s.dispatcher.objects)) (λ (m : Mutex). s))
  adopts key n none q e =
      subst (λ (b : Bool). Agree (cond b (entered w key (new_mutex n)) w) (with_table s (put_object (mutex (record { key = key; owner = n })) s.dispatcher.objects)))
      (sym (mutex-known w s hold act a key ∙ ap (λ (o : Option Mutex). not (present o)) q)) (agree-mutex key n e)
  adopts key n (some m) q e =
      subst (λ (b : Bool). Agree (cond b (entered w key (new_mutex n)) w) s) (sym (mutex-known w s hold act a key ∙ ap (λ (o : Option Mutex). not (present o)) q)) a

  pub agree-adopt-mutex : (key id : ℕ) → Plainly (code.adopted w key true id) (step (call.AdoptMutex key (some id)) s)
  unfolding code.adopted code.adopt_refusal refusal effect adopt_refusal adopted
  agree-adopt-mutex key id =
      plainly-unless w s a (call.AdoptMutex key (some id)) (code.adopt_refusal w key true id) (outcome answer.Done (cond (eqb (place_of w 0 key) 0) (entered w key (new_mutex id)) w)) same
      (λ e. record { answers = refl; agree = adopts key id (mutex_at s.dispatcher.objects key) refl (passes (not (is_live s.dispatcher id)) 9 _ e).1 })
    where
      go : (b : Bool) (n : ℕ) → cond b n 10 ≡ cond (not b) 10 n
      go true n = refl
      go false n = refl

      same : code.adopt_refusal w key true id
          ≡ cond (not (is_live s.dispatcher id)) 10 (given (mutex_at s.dispatcher.objects key) (mutex_refusal s key) (λ (m : Mutex). cond (eqb m.owner id) 0 10))
      same =
          ap (λ (b : Bool). cond b (code.known_refusal w key id) 10) (live-is w s hold act a id)
          ∙ ap (λ (n : ℕ). cond (is_live s.dispatcher id) n 10) (known-refusal key id)
          ∙ go (is_live s.dispatcher id) (given (mutex_at s.dispatcher.objects key) (mutex_refusal s key) (λ (m : Mutex). cond (eqb m.owner id) 0 10))

  pub agree-adopt-free : (key n : ℕ) → Plainly (code.adopted w key false n) (step (call.AdoptMutex key none) s)
  unfolding code.adopted code.adopt_refusal refusal effect adopt_refusal adopted
  agree-adopt-free key n =
      plainly-unless w s a (call.AdoptMutex key none) (code.known_refusal w key 0) (outcome answer.Done (cond (eqb (place_of w 0 key) 0) (entered w key (new_mutex 0)) w)) (known-refusal key 0)
      (λ e. record { answers = refl; agree = adopts key 0 (mutex_at s.dispatcher.objects key) refl e })

  -- ---- mutex_owner, mutex_waiters

  pub agree-mutex-owner : (key : ℕ) → told (code.owner_answer w key) ≡ (step (call.Reads (call.MutexOwner key)) s).answer
  unfolding code.owner_answer refusal read_refusal owner_refusal effect read_answer
  agree-mutex-owner key =
      ap (λ (b : Bool). told (cond b (answer.Refused 2) (cond (eqb (owner_of w key) 0) answer.None (answer.Thread (owner_of w key))))) (mutex-known w s hold act a key)
      ∙ ap (λ (n : ℕ). told (cond (not (present (mutex_at s.dispatcher.objects key))) (answer.Refused 2) (cond (eqb n 0) answer.None (answer.Thread n)))) (owner-is w s hold act a key)
      ∙ go (mutex_at s.dispatcher.objects key) refl
    where
      number : (b : Bool) (n : ℕ) → told (cond b answer.None (answer.Thread n)) ≡ cond b None (ThreadNumber n)
      number true n = refl
      number false n = refl

      refuses : (r : Option Mutex) → mutex_at s.dispatcher.objects key ≡ r → refusal (call.Reads (call.MutexOwner key)) s ≡ cond (present r) 0 2
      refuses r q = ap (λ (o : Option Mutex). cond (present o) 0 2) q

      answers : (m : Mutex) → mutex_at s.dispatcher.objects key ≡ some m → (effect (call.Reads (call.MutexOwner key)) s).answer ≡ number_or_none m.owner
      answers m q = ap (λ (o : Option Mutex). given o None (λ (m : Mutex). number_or_none m.owner)) q

      go : (r : Option Mutex) → mutex_at s.dispatcher.objects key ≡ r
          → told (cond (not (present r)) (answer.Refused 2) (cond (eqb (given r 0 (λ (m : Mutex). m.owner)) 0) answer.None (answer.Thread (given r 0 (λ (m : Mutex). m.owner)))))
          ≡ (step (call.Reads (call.MutexOwner key)) s).answer
      go none q = sym (ap (λ (o : Outcome). o.answer) (step-refused (call.Reads (call.MutexOwner key)) s 2 (refuses none q) (λ z. omega arith)))
      go (some m) q =
          number (eqb m.owner 0) m.owner ∙ sym (answers m q)
          ∙ sym (ap (λ (o : Outcome). o.answer) (step-accepted (call.Reads (call.MutexOwner key)) s (refuses (some m) q)))

  pub agree-mutex-waiters : (key : ℕ) → told (code.waiters_answer w key) ≡ (step (call.Reads (call.MutexWaiters key)) s).answer
  unfolding code.waiters_answer refusal read_refusal effect read_answer
  agree-mutex-waiters key =
      ap (λ (n : ℕ). Number n) (mutex-waiters-is w s hold act a v.sound.standing.waiters_waiting key)
      ∙ sym (ap (λ (o : Outcome). o.answer) (step-accepted (call.Reads (call.MutexWaiters key)) s refl))
