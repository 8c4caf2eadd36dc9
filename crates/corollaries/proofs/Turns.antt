-- Of two ready threads of one priority the one that became ready by the earlier call, or earlier within one call, is dispatched first, by
-- what the code's reads answer.
use Prim.Native.Nat.{ℕ}
use mathlib.Core.List.{List, [], ◌∷◌, ◌++◌}
use mathlib.Core.Path.{◌≡◌, refl, sym, ap, ◌∙◌, subst}
use mathlib.Core.Logic.{◌⊎◌, inl, inr, ⊎_elim}
use lib.ListN.{length}
use Rattle.calls.specs.Run.{answered, left, Lent}
use Rattle.model.specs.State.{State, Thread, Wait, ready, waiting}
use Rattle.model.specs.Threads.{thread_of, status_of, priority_of, is_ready, is_waiting}
use Rattle.model.specs.Answer.{Run}
use Rattle.model.specs.Call.{Call, Dispatch}
use Rattle.model.specs.Step.{step, after}
use Rattle.model.specs.Start.{Start, first_call, Accepted}
use Rattle.model.specs.Fits.{Fits}
use Rattle.model.proofs.ThreadLaws.{stands-somewhere}
use Rattle.model.proofs.SoundLaws as sound
use Rattle.model.specs.Turns as log
use Rattle.model.specs.Turns.{EarlierWithin}
use Rattle.model.proofs.TurnLaws as laws
use Rattle.theorem.specs.History.{words_after, Proper}
use Rattle.theorem.specs.Theorem.{logged, end}
use Rattle.corollaries.specs.Reads.{ThreadRead}
use Rattle.corollaries.specs.Turns.{ReadsReady, Prioritizes, Places, StaysReady, MadeReady, Together}
use Rattle.corollaries.proofs.Tells.{Tells, tells-next, tells-on, tells-after, tells-end, later-end, thread-is, is-thread, plain-passed, passed-plain, proper-first, proper-behind}

-- ---- what the reads say is so on the log

module _ (m : ℕ) (w : List ℕ) (s : State) (t : Tells m w s) where
  ready-is : (i : ℕ) → ReadsReady w i → log.IsReady s i
  ready-is i r = ap (λ (x : Thread). x.status) (thread-is m w s t i r.0 r.1).1 ∙ r.2

  is-ready : (i : ℕ) → log.IsReady s i → ReadsReady w i
  is-ready i e =
      let k = stands-somewhere s.dispatcher.threads i is_ready refl (ap is_ready e) in
      (thread_of s.dispatcher i, is-thread m w s t i (sound.is-thread s.dispatcher i k.0 k.1), e)

  module _ (c : Call) (fit : Fits c) (lent : Lent m c) where
    prioritizes-is : (i : ℕ) → Prioritizes w c i → log.Prioritizes c s i
    prioritizes-is i p = (p.0, p.1, plain-passed m w s t c fit lent p.2)

    is-prioritizes : (i : ℕ) → log.Prioritizes c s i → Prioritizes w c i
    is-prioritizes i p = (p.0, p.1, passed-plain m w s t c fit lent p.2)

-- after the call
module _ (m : ℕ) (w : List ℕ) (s : State) (t : Tells m w s) (c : Call) (fit : Fits c) (lent : Lent m c) where
  places_is : (i : ℕ) → Places w c i → log.Places c s i
  places_is i p = record {
    is-ready = ready-is m (left w c) (step c s).state (tells-on m w s t c fit lent) i p.is-ready;
    newly = ⊎_elim (λ (n : ReadsReady w i → ⊥). inl (λ r. n (is-ready m w s t i r))) (λ (q : Prioritizes w c i). inr (prioritizes-is m w s t c fit lent i q)) p.newly;
  }

  together-is : (i j : ℕ) → Together w c i j → log.Together c s i j
  together-is i j h = record {
    first = h.first.for;
    second = h.second.for;
    first_waits = waits i h.first;
    second_waits = waits j h.second;
    first_ready = readies i h.first;
    second_ready = readies j h.second;
    earlier = subst (λ (x : Thread). EarlierWithin i j h.first.for h.second.for x (thread_of (step c s).state.dispatcher j)) (sym (now i h.first))
        (subst (λ (x : Thread). EarlierWithin i j h.first.for h.second.for h.first.thread x) (sym (now j h.second)) h.earlier);
  }
    where
      waits : (k : ℕ) (r : MadeReady w c k) → status_of s.dispatcher k ≡ waiting r.for
      waits k r = ap (λ (x : Thread). x.status) (thread-is m w s t k r.waiter r.read).1 ∙ r.waited

      now : (k : ℕ) (r : MadeReady w c k) → thread_of (step c s).state.dispatcher k ≡ r.thread
      now k r = (thread-is m (left w c) (step c s).state (tells-on m w s t c fit lent) k r.thread r.reads).1

      readies : (k : ℕ) (r : MadeReady w c k) → log.IsReady (step c s).state k
      readies k r = ap (λ (x : Thread). x.status) (now k r) ∙ r.is-ready

  is-together : (i j : ℕ) → log.Together c s i j → Together w c i j
  is-together i j h = record { first = made i h.first h.first_waits h.first_ready; second = made j h.second h.second_waits h.second_ready; earlier = h.earlier }
    where
      made : (k : ℕ) (y : Wait) → status_of s.dispatcher k ≡ waiting y → log.IsReady (step c s).state k → MadeReady w c k
      made k y a r =
          let o = tells-on m w s t c fit lent in
          let p = stands-somewhere s.dispatcher.threads k is_waiting refl (ap is_waiting a) in
          let q = stands-somewhere (step c s).state.dispatcher.threads k is_ready refl (ap is_ready r) in
          record {
            waiter = thread_of s.dispatcher k;
            read = is-thread m w s t k (sound.is-thread s.dispatcher k p.0 p.1);
            for = y;
            waited = a;
            thread = thread_of (step c s).state.dispatcher k;
            reads = is-thread m (left w c) (step c s).state o k (sound.is-thread (step c s).state.dispatcher k q.0 q.1);
            is-ready = r;
          }

stays-is : (m i : ℕ) (cs : List Call) (w : List ℕ) (s : State) → Tells m w s → Proper m cs → StaysReady i w cs → log.StaysReady i cs s
stays-is m i [] w s t p h = ready-is m w s t i h
stays-is m i (c ∷ cs) w s t p h =
    let f = proper-first m c cs p in (
      ready-is m w s t i h.0,
      λ q. h.1 (is-prioritizes m w s t c f.0 f.1 i q),
      stays-is m i cs (left w c) (step c s).state (tells-on m w s t c f.0 f.1) (proper-behind m c cs p) h.2,
    )

-- ---- the dispatch, after any list of calls, a call and further calls

module _ (w : List ℕ) (start : Start) (calls : List Call) (accepted : Accepted (length w) start) (proper : Proper (length w) calls) (c : Call) (cs : List Call) (more : Proper (length w) (c ∷ cs)) where
  abbrev words : List ℕ
  words = end w start calls

  abbrev later : List ℕ
  later = words_after words (c ∷ cs)

  -- the words after the whole list
  pub later-is : later ≡ end w start (calls ++ (c ∷ cs))
  later-is = later-end (first_call (length w) start ∷ calls) (c ∷ cs) w

  abbrev state : State
  state = logged w start calls

  t : Tells (length w) words state
  t = tells-end w start calls accepted proper

  -- of two threads that the call places, one is earlier
  pub either-earlier : (i j : ℕ) → (i ≡ j → ⊥) → Places words c i → Places words c j → (Together words c i j) ⊎ Together words c j i
  either-earlier i j n p q =
      let f = proper-first (length w) c cs more in
      ⊎_elim
      (λ (h : log.Together c state i j). inl (is-together (length w) words state t c f.0 f.1 i j h))
      (λ (h : log.Together c state j i). inr (is-together (length w) words state t c f.0 f.1 j i h))
      (laws.either-earlier state t.valid c i j n (places_is (length w) words state t c f.0 f.1 i p) (places_is (length w) words state t c f.0 f.1 j q))

  t₂ : Tells (length w) later (after (c ∷ cs) state)
  t₂ = tells-after (length w) (c ∷ cs) words state t more

  -- threads i and j, ready and of one priority
  module _ (i j n : ℕ) (x y : Thread) (first : ThreadRead later i x) (second : ThreadRead later j y) (waits : y.status ≡ ready) (same : x.priority ≡ y.priority) where
    at-end : log.IsReady (after (c ∷ cs) state) j
    at-end = ready-is (length w) later (after (c ∷ cs) state) t₂ j (y, second, waits)

    level : priority_of (after (c ∷ cs) state).dispatcher i ≡ priority_of (after (c ∷ cs) state).dispatcher j
    level =
        ap (λ (z : Thread). z.priority) (thread-is (length w) later (after (c ∷ cs) state) t₂ i x first).1 ∙ same
        ∙ sym (ap (λ (z : Thread). z.priority) (thread-is (length w) later (after (c ∷ cs) state) t₂ j y second).1)

    answers : answered later (Dispatch n) ≡ Run j → (step (Dispatch n) (after (c ∷ cs) state)).answer ≡ Run j
    answers e = sym (tells-next (length w) later (after (c ∷ cs) state) t₂ (Dispatch n) tt tt).answers ∙ e

    -- thread i was ready before the call and is still, and the call placed thread j: a dispatch does not answer j
    pub earlier-call-first : StaysReady i words (c ∷ cs) → Places words c j → answered later (Dispatch n) ≡ Run j → ⊥
    earlier-call-first h p e =
        let f = proper-first (length w) c cs more in
        laws.earlier-call-first state t.valid c cs i j n (stays-is (length w) i (c ∷ cs) words state t more h) (places_is (length w) words state t c f.0 f.1 j p) at-end level (answers e)

    -- one call made both ready, thread i earlier, and thread i is still: the same
    pub earlier-within-first : Together words c i j → StaysReady i (left words c) cs → answered later (Dispatch n) ≡ Run j → ⊥
    earlier-within-first h p e =
        let f = proper-first (length w) c cs more in
        laws.earlier-within-first state t.valid c cs i j n (together-is (length w) words state t c f.0 f.1 i j h)
        (stays-is (length w) i cs (left words c) (step c state).state (tells-on (length w) words state t c f.0 f.1) (proper-behind (length w) c cs more) p) at-end level (answers e)
