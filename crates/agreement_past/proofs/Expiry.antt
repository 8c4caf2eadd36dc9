-- The passing of time: due timers expire, threads wake and time out.
use Prim.Native.Nat.{ℕ, ◌+◌, ◌≤◌, ◌<◌}
use mathlib.Core.List.{List, [], ◌∷◌}
use mathlib.Core.Bool.{Bool, true, false, cond}
use mathlib.Core.Path.{◌≡◌, refl, sym, ◌∙◌, subst}
use native.Mathlib.Omega.{arith}
use lib.Dec.{eqb, ltb}
use lib.ListN.{get_or, set, length}
use Rattle.words.specs.Layout as at
use Rattle.words.specs.Layout.{entry_at}
use Rattle.images.specs.declared.Timer.{Timer}
use Rattle.answers.specs.declared.Answer.TheVariants as answer
use Rattle.answers.specs.Outcome.{Outcome, outcome, unless}
use Rattle.objects.specs.Objects.{objects_base}
use Rattle.dpcs.specs.Record.{place_at, number_of}
use Rattle.dpc_queue.specs.Queue.{raised, accepted}
use Rattle.wakes.specs.Wake.{awake}
use Rattle.expiry.specs.Expire as words
use Rattle.expiry.specs.Expire.{expired_one, expired_list}
use Rattle.expiry.specs.Check.{list_refusal}
use Rattle.expiry.specs.Next.{later_due}
use Rattle.expiry_advance.specs.Advance as whole
use Rattle.advancing.specs.Advance as advancing
use Rattle.model.specs.State.{State, Dispatcher, Limits, Object, timer}
use Rattle.model.specs.Threads.{with_objects}
use Rattle.model.specs.Waits.{wake}
use Rattle.model.specs.Timers.{due_timers, refusal_of_each}
use Rattle.model.specs.Refusal.{unexpired}
use Rattle.model.specs.Valid.{Valid, Sound}
use Rattle.model.specs.Step.{with_dispatcher, with_dpcs, with_table, expired_at}
use Rattle.model.proofs.ExpiryLaws.{Expiring, due-pending, all-expired}
use Rattle.model.proofs.KeepTimers.{begun}
use Rattle.model.proofs.SoundLaws.{sound-objects}
use Rattle.model.proofs.WakeLaws.{wake-quiet}
use Rattle.agreement_chains.specs.Chains.{Same}
use Rattle.agreement_chains.proofs.Frames.{set-outside}
use Rattle.agreement_tables.proofs.Lists.{nth_in}
use Rattle.agreement.specs.Records.{active_address, holder_of}
use Rattle.agreement.specs.Agree.{Agree, Agreeing, objects_from}
use Rattle.agreement.proofs.Headers.{with_now, sim-now}
use Rattle.agreement.proofs.Places.{entry_place}
use Rattle.agreement.proofs.Lookups.{base-is}
use Rattle.agreement_wakes.proofs.Wake.{sim-wake}
use Rattle.agreement_advance.proofs.Refusals.{expiry-refusal-is}
use Rattle.agreement_advance.proofs.Expire.{sim-expired}
use Rattle.agreement_advance.proofs.Order.{Names, order-names}
use Rattle.agreement_past.specs.Past.{Beyond}
use Rattle.agreement_past.proofs.Kept.{unless-kept, same}
use Rattle.agreement_past.proofs.Words.{Sized, sized, Clear, Low, clear-beyond, clear-low, Here, here-kept, sized-still, number-spot, number-most}
use Rattle.agreement_past.proofs.Work.{number-high, raised-kept, accepted-kept, accepted-low, accepted-last, queue-last}
use Rattle.agreement_past.proofs.Wakes.{awake-kept}
use Rattle.agreement_past.proofs.Timeouts.{timeouts-kept}

-- words that have the limits, and in which the queue's last is a DPC that they allow
record Fit (l : Limits) (w : List ℕ) : Type 0 where
  sizes : Sized l w
  last : get_or w at.queue_last 0 ≤ l.dpcs

-- a step from such words to such words
record Step (l : Limits) (w w' : List ℕ) : Type 0 where
  fit : Fit l w'
  kept : Same (Beyond l) w w'

-- a region without a word of a record, of which three matter
module _ (l : Limits) (w w' : List ℕ) (f : Fit l w) where
  clear_step : ((Q : ℕ → Type 0) → Clear l Q → Same Q w w') → Step l w w'
  clear_step k =
      record {
        fit = record {
          sizes = sized-still l w f.sizes w' (k Low (clear-low l));
          last = subst (λ (n : ℕ). n ≤ l.dpcs) (sym (k (λ (j : ℕ). j ≡ at.queue_last) (λ j h i e. omega arith) at.queue_last refl)) f.last;
        };
        kept = k (Beyond l) (clear-beyond l);
      }

then : {l : Limits} {a b c : List ℕ} → Step l a b → Step l b c → Step l a c
then x y = record { fit = y.fit; kept = λ j r. y.kept j r ∙ x.kept j r }

stay : (l : Limits) (w : List ℕ) → Fit l w → Step l w w
stay l w f = record { fit = f; kept = λ j r. refl }

number-here : (l : Limits) (w : List ℕ) → Sized l w → (address : ℕ) → Here l (place_at w (number_of w address))
number-here l w z address =
    record { inside = number-spot l w z (number_of w address) (number-most l w z address); high = number-high w (number_of w address) (omega (arith, z.dpcs-at)) }

store_step : (l : Limits) (w : List ℕ) (place k v : ℕ) → Fit l w → Here l place → k < 32 → Step l w (set w (place + k) v)
store_step l w place k v f h less = clear_step l w (set w (place + k) v) f (λ Q c. here-kept l Q c w place k v h less)

-- ---- one timer

module _ (l : Limits) (place time : ℕ) (h : Here l place) where
  work_step : (w : List ℕ) → Fit l w → Step l w (words.work_queued w place time)
  unfolding words.work_queued words.queued_for
  work_step w f = go (eqb dpc 0) (eqb (get_or w (place_at w (number_of w dpc) + at.phase) 0) 0)
    where
      dpc : ℕ
      dpc = get_or w (place + at.timer_dpc) 0

      n : ℕ
      n = number_of w (get_or w (place + at.timer_dpc) 0)

      go : (b c : Bool) → Step l w (cond b w (cond c (accepted w n (get_or w at.timer_argument 0) (get_or w at.timer_argument2 0) (words.origin_of w place time)) (raised w at.duplicates)))
      go true c = stay l w f
      go false true =
          let le = number-most l w f.sizes dpc in
          record {
            fit = record {
              sizes = sized-still l w f.sizes _ (accepted-low l w f.sizes n (get_or w at.timer_argument 0) (get_or w at.timer_argument2 0) (words.origin_of w place time) le f.last);
              last = accepted-last l w f.sizes n (get_or w at.timer_argument 0) (get_or w at.timer_argument2 0) (words.origin_of w place time) le f.last;
            };
            kept = accepted-kept l w f.sizes n (get_or w at.timer_argument 0) (get_or w at.timer_argument2 0) (words.origin_of w place time) le f.last;
          }
      go false false = unfold raised in record {
        fit = record {
          sizes = sized-still l w f.sizes (raised w at.duplicates) (set-outside Low w at.duplicates _ (λ r. omega arith));
          last = subst (λ (n : ℕ). n ≤ l.dpcs) (sym (set-outside (λ (j : ℕ). j ≡ at.queue_last) w at.duplicates _ (λ r. omega arith) at.queue_last refl)) f.last;
        };
        kept = raised-kept l w f.sizes at.duplicates (omega arith);
      }

  settled-step : (w : List ℕ) → Fit l w → Step l w (words.settled w place time)
  unfolding words.settled words.unnamed
  settled-step w f = go (eqb (get_or w (place + at.period) 0) 0)
    where
      w₁ : List ℕ
      w₁ = set w (place + at.inserted) 0

      first : Step l w (set w (place + at.inserted) 0)
      first = store_step l w place at.inserted 0 f h (omega arith)

      second : (b : Bool) → Step l w₁ (cond b w₁ (set w₁ (place_at w₁ (number_of w₁ (get_or w₁ (place + at.timer_dpc) 0)) + at.named_by) 0))
      second true = stay l w₁ first.fit
      second false = store_step l w₁ (place_at w₁ (number_of w₁ (get_or w₁ (place + at.timer_dpc) 0))) at.named_by 0 first.fit (number-here l w₁ first.fit.sizes (get_or w₁ (place + at.timer_dpc) 0)) (omega arith)

      go : (b : Bool) → Step l w (cond b (words.unnamed (set w (place + at.inserted) 0) place) (set w (place + at.due) (later_due (get_or w (place + at.due) 0) time (get_or w (place + at.period) 0))))
      go true = then first (second (eqb (get_or w₁ (place + at.timer_dpc) 0) 0))
      go false = store_step l w place at.due _ f h (omega arith)

  one-step : (w : List ℕ) → Fit l w → Step l w (expired_one w place time)
  unfolding expired_one
  one-step w f =
      let a = work_step w f in
      let b = store_step l (words.work_queued w place time) place at.signaled 1 a.fit h (omega arith) in
      then a (then b (settled-step (set (words.work_queued w place time) (place + at.signaled) 1) b.fit))

-- ---- all of them

list-step : (l : Limits) (objects : List Object) → l.threads ≤ at.most_threads → length objects ≤ l.objects → l.objects ≤ 4096 → (time : ℕ) (is : List ℕ) (ts : List Timer) (w : List ℕ) → Fit l w → Names objects is ts → Step l w (expired_list w (objects_from l) is time)
unfolding expired_list
list-step l objects low room few time [] [] w f n = stay l w f
list-step l objects low room few time [] (t ∷ ts) w f n = absurd n
list-step l objects low room few time (i ∷ is) [] w f n = absurd n
list-step l objects low room few time (i ∷ is) (t ∷ ts) w f n =
    let inside = nth_in objects i (timer t) n.0 in
    let place = entry_place (objects_from l) i (omega arith) (omega arith) in
    let a = one-step l (entry_at (objects_from l) i) time (record { inside = record { inside = omega arith }; high = omega arith }) w f in
    then a (list-step l objects low room few time is ts (expired_one w (entry_at (objects_from l) i) time) a.fit n.1)

module _ (w : List ℕ) (s : State) (a : Agree w s) (v : Valid s) (time : ℕ) where
  expiry-kept : Same (Beyond s.limits) w (whole.expiry_words w time)
  unfolding whole.expiry_words whole.ran
  expiry-kept = go (eqb (list_refusal w (objects_base w) (whole.order w time) time) 0)
    where
      all : Same (Beyond s.limits) w (expired_list w (objects_base w) (whole.order w time) time)
      all = subst (λ (b : ℕ). Same (Beyond s.limits) w (expired_list w b (whole.order w time) time)) (sym (base-is w s _ _ a))
          (list-step s.limits s.dispatcher.objects a.shape.sizes.limits.threads a.shape.sizes.objects_fit a.shape.sizes.limits.objects time (whole.order w time)
          (due_timers s.policy time s.dispatcher.objects) w (record { sizes = sized w s _ _ a; last = queue-last w s _ _ a }) (order-names w s _ _ a time)).kept

      go : (b : Bool) → Same (Beyond s.limits) w (cond b (expired_list w (objects_base w) (whole.order w time) time) w)
      go true = all
      go false = same (Beyond s.limits) w

  -- ---- advance_to

  module _ (r : refusal_of_each s.policy time (unexpired s) (due_timers s.policy time s.dispatcher.objects) ≡ 0) where
    abbrev objects : List Object
    objects = (expired_at s time).objects

    abbrev midst : State
    midst = with_table (with_dpcs s (expired_at s time).dpcs) (expired_at s time).objects

    abbrev expired : Dispatcher
    expired = with_objects s.dispatcher (expired_at s time).objects

    expiring : Expiring s.limits s.dispatcher (expired_at s time)
    expiring =
        all-expired s.limits s.dispatcher s.policy time (due_timers s.policy time s.dispatcher.objects) (unexpired s) (begun s v)
        (due-pending s.policy time s.dispatcher.objects v.sound.rising) r

    sound : Sound s.limits expired
    sound = sound-objects s.limits s.dispatcher v.sound objects (λ i n m. expiring.keeps n) expiring.owners expiring.rising expiring.room expiring.places

    abbrev moved : List ℕ
    moved = set (whole.expiry_words w time) at.now time

    agrees : Agreeing (set (whole.expiry_words w time) at.now time) (with_now midst time) (holder_of objects) (active_address (expired_at s time).dpcs.table)
    agrees = sim-now (whole.expiry_words w time) midst (holder_of objects) (active_address (expired_at s time).dpcs.table) (sim-expired w s a v time r) time

    passed-kept : Same (Beyond s.limits) w (advancing.expired_all (awake (set (whole.expiry_words w time) at.now time)) time)
    passed-kept j p =
        timeouts-kept (awake moved) (with_dispatcher (with_now midst time) (wake expired)) (holder_of objects) (active_address (expired_at s time).dpcs.table)
        (sim-wake moved (with_now midst time) (holder_of objects) (active_address (expired_at s time).dpcs.table) agrees v.sound.standing)
        (wake-quiet s.limits expired sound).0.sound.standing time j p
        ∙ awake-kept moved (with_now midst time) (holder_of objects) (active_address (expired_at s time).dpcs.table) agrees v.sound.standing j p
        ∙ set-outside (Beyond s.limits) (whole.expiry_words w time) at.now time (λ q. omega arith) j p
        ∙ expiry-kept j p

  pub advanced-kept : Same (Beyond s.limits) w (advancing.advanced w time).words
  unfolding advancing.advanced
  advanced-kept = go (ltb time (get_or w at.now 0))
    where
      rest : Outcome
      rest = unless (whole.expiry_refusal w time) w (outcome answer.Done (advancing.expired_all (awake (set (whole.expiry_words w time) at.now time)) time))

      go : (b : Bool) → Same (Beyond s.limits) w (cond b (outcome (answer.Refused 12) w) rest).words
      go true = same (Beyond s.limits) w
      go false = unless-kept (Beyond s.limits) w (whole.expiry_refusal w time) _ (λ e. passed-kept (sym (expiry-refusal-is w s a v time) ∙ e))
