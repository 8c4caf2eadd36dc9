-- A walk of the entries that ends where there is none lists what the reads by position tell, in their order.
use mathlib.Core.Bool.{Bool, true, false, cond}
use mathlib.Core.List.{List}
use mathlib.Core.Path.{◌≡◌, refl, sym, ap, ◌∙◌}
use Prim.Native.Nat.{ℕ, zero, suc, ◌+◌, ◌*◌, ◌-◌, ◌≤◌, ◌<◌}
use native.Mathlib.Omega.{arith}
use lib.Dec.{eqb, leb}
use lib.ListN.{get_or}
use borrow.Author.Tests.{eq-eqb, ne_eqb, le-leb, lt-leb}
use Rattle.words.specs.Layout as at
use Rattle.words.specs.Layout.{entry_at, objects_at}
use Rattle.objects.specs.Objects.{objects_base, object_count}
use Rattle.answers.specs.declared.Answer.{Answer}
use Rattle.answers.specs.declared.Answer.TheVariants as answer
use Rattle.timers.specs.TimerAnswer.{TimerAnswer}
use Rattle.timers.specs.TimerAnswer as timer
use Rattle.timers.specs.Record.{timer_at, is_timer}
use Rattle.timers.specs.Reads as timers
use Rattle.timers.specs.Reads.{timer_answer, timers_at}
use Rattle.events.specs.Events.{state_at}
use Rattle.event_release.specs.Release as events
use Rattle.event_release.specs.Release.{event_states}
use Rattle.entries.specs.Entries.{event_entry, timer_entry, is_event}
use Rattle.entries.specs.Listed.{Seen, past, another, this, added, walked, nth, seen_event, seen_timer, events_walked, timers_walked}

-- an entry stands at no place 0, so that 0 can be none
entry-some : (w : List ℕ) (x : ℕ) → entry_at (objects_base w) x ≡ 0 → ⊥
unfolding entry_at objects_base objects_at
entry-some w x = go (leb (get_or w at.thread_limit 0) at.most_threads) (leb (objects_base w) 1000000) (leb x 8192)
  where
    go : (a b d : Bool) → cond b (cond d (cond a (at.header_size + at.thread_size * get_or w at.thread_limit 0) at.header_size + 32 * x) at.unused) at.unused ≡ 0 → ⊥
    go true true true = λ e. omega arith
    go false true true = λ e. omega arith
    go a true false = λ e. omega arith
    go a false d = λ e. omega arith

-- ---- a walk, for any kind of object

-- a read by position over `m` entries from entry `i` on passes those that are none of its kind
record Passing {A : Type 0} (count : ℕ) (is_one : ℕ → Bool) (seen : A → Seen) (entry : ℕ → A) (none : A) (found : ℕ → ℕ → ℕ → A) : Type 0 where
  stops : (i : ℕ) → count ≤ i → seen (entry i) ≡ past
  told : (i : ℕ) → i < count → seen (entry i) ≡ cond (is_one i) this another
  ends : (i n : ℕ) → found zero i n ≡ none
  here : (m i : ℕ) → i < count → is_one i ≡ true → found (suc m) i zero ≡ entry i
  next : (m i n : ℕ) → is_one i ≡ true → found (suc m) i (suc n) ≡ found m (i + 1) n
  over : (m i n : ℕ) → is_one i ≡ false → found (suc m) i n ≡ found m (i + 1) n

module _ {A : Type 0} {count : ℕ} {is_one : ℕ → Bool} {seen : A → Seen} {entry : ℕ → A} {none : A} {found : ℕ → ℕ → ℕ → A}
    (p : Passing count is_one seen entry none found) where
  step : (m k i : ℕ) → i < count → ((n : ℕ) → found k (i + 1) n ≡ nth none (walked seen entry m (i + 1)) n)
      → (b : Bool) → is_one i ≡ b → (n : ℕ) → found (suc k) i n ≡ nth none (added (cond b this another) (entry i) (walked seen entry m (i + 1))) n
  step m k i h ih true e zero = p.here k i h e
  step m k i h ih true e (suc n) = p.next k i n e ∙ ih n
  step m k i h ih false e n = p.over k i n e ∙ ih n

  -- `k` entries are left, and the walk looks at no fewer
  by-walk : (m k i n : ℕ) → i + k ≡ count → k ≤ m → found k i n ≡ nth none (walked seen entry m i) n
  by-walk zero zero i n e h = p.ends i n
  by-walk zero (suc k) i n e h = absurd (omega arith)
  by-walk (suc m) zero i n e h =
      p.ends i n ∙ ap (λ (s : Seen). nth none (added s (entry i) (walked seen entry m (i + 1))) n) (sym (p.stops i (omega arith)))
  by-walk (suc m) (suc k) i n e h =
      step m k i (omega arith) (λ j. by-walk m k (i + 1) j (omega arith) (omega arith)) (is_one i) refl n
      ∙ ap (λ (s : Seen). nth none (added s (entry i) (walked seen entry m (i + 1))) n) (sym (p.told i (omega arith)))

-- ---- events and timers

module _ (w : List ℕ) where
  abbrev place : ℕ → ℕ
  place i = entry_at (objects_base w) i

  event-past : (i : ℕ) → object_count w ≤ i → event_entry w i ≡ answer.Refused 2
  unfolding event_entry
  event-past i h = simp (le-leb (object_count w) i h)

  timer-past : (i : ℕ) → object_count w ≤ i → timer_entry w i ≡ timer.Refused 2
  unfolding timer_entry
  timer-past i h = simp (le-leb (object_count w) i h)

  event-entry : (i : ℕ) → i < object_count w → event_entry w i ≡ cond (is_event w (place i)) (state_at w (place i)) answer.None
  unfolding event_entry
  event-entry i h = simp (lt-leb (object_count w) i h)

  timer-entry : (i : ℕ) → i < object_count w → timer_entry w i ≡ cond (is_timer w (place i)) (timer.Timer (timer_at w (place i))) timer.None
  unfolding timer_entry
  timer-entry i h = simp (lt-leb (object_count w) i h)

  state-there : (i : ℕ) → seen_event (state_at w (place i)) ≡ this
  unfolding state_at
  state-there i = simp (ne_eqb (place i) 0 (entry-some w i))

  seen-event : (i : ℕ) (b : Bool) → seen_event (cond b (state_at w (place i)) answer.None) ≡ cond b this another
  seen-event i true = state-there i
  seen-event i false = refl

  seen-timer : (i : ℕ) (b : Bool) → seen_timer (cond b (timer.Timer (timer_at w (place i))) timer.None) ≡ cond b this another
  seen-timer i true = refl
  seen-timer i false = refl

  answer-there : (i : ℕ) → timer_answer w (place i) ≡ timer.Timer (timer_at w (place i))
  unfolding timer_answer
  answer-there i = simp (ne_eqb (place i) 0 (entry-some w i))

  abbrev event_found : ℕ → ℕ → ℕ → Answer
  event_found m i n = state_at w (events.nth_in m w (objects_base w) i n)

  abbrev timer_found : ℕ → ℕ → ℕ → TimerAnswer
  timer_found m i n = timer_answer w (timers.nth_in m w (objects_base w) i n)

  nth-zero : eqb zero 0 ≡ true
  nth-zero = eq-eqb 0 0 refl

  nth-suc : (n : ℕ) → eqb (suc n) 0 ≡ false
  nth-suc n = ne_eqb (suc n) 0 (λ e. omega arith)

  pass-one : (n : ℕ) → suc n - 1 ≡ n
  pass-one n = omega arith

  no-state : state_at w 0 ≡ answer.None
  unfolding state_at
  no-state = refl

  no_answer : timer_answer w 0 ≡ timer.None
  unfolding timer_answer
  no_answer = refl

  events-passing : Passing (object_count w) (λ i. is_event w (place i)) seen_event (event_entry w) answer.None event_found
  unfolding events.nth_in events.is_nth events.passed_to
  events-passing = record {
    stops = λ i h. ap seen_event (event-past i h);
    told = λ i h. ap seen_event (event-entry i h) ∙ seen-event i (is_event w (place i));
    ends = λ i n. no-state;
    here = λ m i h e. simp (e, nth-zero) (sym (event-entry i h ∙ simp e));
    next = λ m i n e. simp (e, nth-suc n, pass-one n);
    over = λ m i n e. simp e;
  }

  timers-passing : Passing (object_count w) (λ i. is_timer w (place i)) seen_timer (timer_entry w) timer.None timer_found
  unfolding timers.nth_in timers.is_nth timers.passed_to
  timers-passing = record {
    stops = λ i h. ap seen_timer (timer-past i h);
    told = λ i h. ap seen_timer (timer-entry i h) ∙ seen-timer i (is_timer w (place i));
    ends = λ i n. no_answer;
    here = λ m i h e. simp (e, nth-zero) (answer-there i ∙ sym (timer-entry i h ∙ simp e));
    next = λ m i n e. simp (e, nth-suc n, pass-one n);
    over = λ m i n e. simp e;
  }

  -- the events that a walk of as many entries as there are, or more, lists stand at their positions
  pub events-listed : (m n : ℕ) → object_count w ≤ m → event_states w n ≡ nth answer.None (events_walked w m) n
  unfolding event_states events.nth_event
  events-listed m n h = by-walk events-passing m (object_count w) 0 n (omega arith) h

  -- and the timers
  pub timers-listed : (m n : ℕ) → object_count w ≤ m → timers_at w n ≡ nth timer.None (timers_walked w m) n
  unfolding timers_at timers.nth_timer
  timers-listed m n h = by-walk timers-passing m (object_count w) 0 n (omega arith) h
