-- Whoever is answered the same, by the reads and by the call, is told the same of DPC work.
use Prim.Native.Nat.{ℕ}
use mathlib.Core.Path.{◌≡◌, ◌∙◌}
use mathlib.Core.Logic.{◌⊎◌, inl, inr}
use Rattle.images.specs.declared.Timer.{Timer}
use Rattle.images.specs.declared.DpcWork.{DpcWork}
use Rattle.model.specs.Answer.{Answer}
use Rattle.model.specs.Call.{Call, Read}
use Rattle.model.specs.Call as call
use Rattle.model.specs.Acceptance.{FromInsert, Reached, FromExpiry, Accepts}
use Rattle.model.specs.Behind.{QueuedBy, InDueOrder}
use Rattle.model.specs.Sums.{Expiries, Adds, restarts, repeats, accepts, expiries, refused, other}

-- the reads are answered the same
abbrev pub SameReads : (Call → Answer) → (Call → Answer) → Type 0
SameReads f g = (r : Read) → g (call.Reads r) ≡ f (call.Reads r)

module _ (f g : Call → Answer) (reads : SameReads f g) where
  pub same-reached : (time a : ℕ) (t : Timer) → Reached f time a t → Reached g time a t
  same-reached time a t h = record { read = reads (call.TimerAt t.address) ∙ h.read; inserted = h.inserted; due = h.due; dpc = h.dpc }

  same-expiries : (time i j : ℕ) → Expiries f time i j → Expiries g time i j
  same-expiries time i j h = record {
    timers = h.timers;
    read = λ n. reads (call.Timers n) ∙ h.read n;
    queued = h.queued;
    dpcs = λ t m e. let x = h.dpcs t m e in (x.0, reads (call.DpcAt t.dpc) ∙ x.1, x.2);
    old = h.old;
    new = h.new;
  }

  module _ (c : Call) (same : g c ≡ f c) where
    same_from : (a : ℕ) (k : DpcWork) → FromInsert f c a k ⊎ FromExpiry f c a k → FromInsert g c a k ⊎ FromExpiry g c a k
    same_from a k (inl h) = inl (record { inserts = h.inserts; accepted = same ∙ h.accepted; origin = h.origin })
    same_from a k (inr h) = inr (record {
      time = h.time;
      advances = h.advances;
      accepted = same ∙ h.accepted;
      policy = reads call.DpcPolicy ∙ h.policy;
      timer = h.timer;
      reached = same-reached h.time a h.timer h.reached;
      of_timer = h.of_timer;
    })

    pub same-adds : (d a e b : ℕ) → Adds f c d a e b → Adds g c d a e b
    same-adds d a e b (restarts m p t o n z y q w) = restarts m p t o n z (same ∙ y) q w
    same-adds d a e b (repeats x first second z y q w) = repeats x first second z (same ∙ y) q w
    same-adds d a e b (accepts x first second z y q w) = accepts x first second z (same ∙ y) q w
    same-adds d a e b (expiries time i j z y x q w) = expiries time i j z (same ∙ y) (same-expiries time i j x) q w
    same-adds d a e b (refused n y q w) = refused n (same ∙ y) q w
    same-adds d a e b (other n q w) = other n q w

-- before a call and after it
module _ (f g f' g' : Call → Answer) (before : SameReads f g) (after : SameReads f' g') where
  pub same-accepts : (c : Call) → g c ≡ f c → (a : ℕ) (k : DpcWork) → Accepts f f' c a k → Accepts g g' c a k
  same-accepts c same a k h = record {
    from = same_from f g before c same a k h.from;
    numbered = record {
      old = h.numbered.old;
      read_old = before call.DpcCounters ∙ h.numbered.read_old;
      above = h.numbered.above;
      new = h.numbered.new;
      read_new = after call.DpcCounters ∙ h.numbered.read_new;
      within = h.numbered.within;
    };
  }

  same-queued-by : (time a : ℕ) (t : Timer) → QueuedBy f f' time a t → QueuedBy g g' time a t
  same-queued-by time a t h = record {
    reached = same-reached f g before time a t h.reached;
    dpc = h.dpc;
    work = h.work;
    read = after (call.DpcAt a) ∙ h.read;
    queued = h.queued;
    of_timer = h.of_timer;
  }

  pub same-order : (time a b : ℕ) → InDueOrder f f' time a b → InDueOrder g g' time a b
  same-order time a b h = record {
    first = h.first;
    second = h.second;
    by_first = same-queued-by time a h.first h.by_first;
    by_second = same-queued-by time b h.second h.by_second;
    order = h.order;
  }
