-- No call changes how many words there are, be they in form or not.
use Prim.Native.Nat.{ℕ}
use mathlib.Core.List.{List}
use mathlib.Core.Option.{none, some}
use mathlib.Core.Path.{◌≡◌, refl}
use lib.ListN.{length}
use Rattle.answers.specs.Outcome.{Outcome}
use Rattle.dpc_work.specs.Work.{Started}
use Rattle.model.specs.Call.{Call}
use Rattle.model.specs.Call as call
use Rattle.calls.specs.Guard.{guarded, guarded_dispatch, guarded_start}
use Rattle.calls.specs.Called.{called}
use Rattle.calls.specs.Run.{left}
use Rattle.model.specs.Reads.{blank}
use Rattle.agreement_lengths.proofs.Lengths.{cond_same, words-cond}
use Rattle.agreement_lengths.proofs.Threading as threading
use Rattle.agreement_lengths.proofs.Mutexes as mutexes
use Rattle.agreement_lengths.proofs.Dispatcher as dispatcher
use Rattle.agreement_lengths.proofs.Timers as timers
use Rattle.agreement_lengths.proofs.Dpc as dpc

-- ---- words out of form are left as they are

length-guarded : (w : List ℕ) (o : Outcome) → length o.words ≡ length w → length (guarded w o).words ≡ length w
unfolding guarded
length-guarded w o e = simp (words-cond, e, cond_same)

length-guarded-dispatch : (w out : List ℕ) → length (guarded_dispatch w out).words ≡ length w
unfolding guarded_dispatch
length-guarded-dispatch w out = simp (dispatcher.dispatched-cond, dispatcher.length-dispatched, cond_same)

length-guarded-start : (w : List ℕ) (s : Started) → length s.words ≡ length w → length (guarded_start w s).words ≡ length w
unfolding guarded_start
length-guarded-start w s e = simp (dpc.started-cond, e, cond_same)

-- ---- every call

pub keeps-length : (w : List ℕ) (c : Call) → length (left w c) ≡ length w
unfolding called
keeps-length w (call.Open words p t o d) = threading.length-opened w p t o d
keeps-length w (call.CreateThread p) = length-guarded w _ (threading.length-created w p)
keeps-length w (call.Priority id p) = length-guarded w _ (threading.length-prioritized w id p)
keeps-length w (call.InitializeMutex key) = length-guarded w _ (mutexes.length-mutex-initialized w key)
keeps-length w (call.InitializeEvent key manual signaled) = length-guarded w _ (mutexes.length-event-initialized w key manual signaled)
keeps-length w (call.AdoptMutex key none) = length-guarded w _ (mutexes.length-adopted w key _ 0)
keeps-length w (call.AdoptMutex key (some owner)) = length-guarded w _ (mutexes.length-adopted w key _ owner)
keeps-length w (call.ReleaseMutex key) = length-guarded w _ (mutexes.length-released w key)
keeps-length w (call.SetEvent key) = length-guarded w _ (mutexes.length-was-set w key)
keeps-length w (call.ResetEvent key) = length-guarded w _ (mutexes.length-was-reset w key)
keeps-length w (call.RetireEventBacking base size layout) = length-guarded w _ (mutexes.length-events-retired w base size layout)
keeps-length w (call.Wait l all none irql) = length-guarded w _ (dispatcher.length-waited w l all _ 0 irql)
keeps-length w (call.Wait l all (some deadline) irql) = length-guarded w _ (dispatcher.length-waited w l all _ deadline irql)
keeps-length w (call.DelayUntil deadline irql) = length-guarded w _ (dispatcher.length-delayed w deadline irql)
keeps-length w call.YieldCurrent = length-guarded w _ (threading.length-yielded w)
keeps-length w (call.Terminate status) = length-guarded w _ (threading.length-terminated w status)
keeps-length w (call.AdvanceTo t) = length-guarded w _ (dispatcher.length-advanced w t)
keeps-length w (call.Dispatch n) = length-guarded-dispatch w (blank n)
keeps-length w (call.InitializeTimer address a b manual) = length-guarded w _ (timers.length-timer-initialized w address a b manual)
keeps-length w (call.InitializeDpc address a b routine context) = length-guarded w _ (timers.length-dpc-initialized w address a b routine context)
keeps-length w (call.SetTimer address due absolute period dpc) = length-guarded w _ (timers.length-timer-set w address due absolute period dpc)
keeps-length w (call.SetTimerSigned address v period dpc) = length-guarded w _ (timers.length-timer-set-signed w address v period dpc)
keeps-length w (call.CancelTimer address) = length-guarded w _ (timers.length-timer-cancelled w address)
keeps-length w (call.RetireTimerBacking address size) = length-guarded w _ (timers.length-timers-retired w address size)
keeps-length w (call.ConfigureDpcDispatch first second) = length-guarded w _ (dpc.length-configured w first second)
keeps-length w (call.InsertQueueDpc address first second) = length-guarded w _ (dpc.length-queue-inserted w address first second)
keeps-length w (call.RemoveQueueDpc address) = length-guarded w _ (dpc.length-queue-removed w address)
keeps-length w (call.StartDpc address) = length-guarded-start w _ (dpc.length-work-started w address)
keeps-length w (call.ReturnedDpc address n) = length-guarded w _ (dpc.length-work-returned w address n)
keeps-length w (call.RestoredDpc address n) = length-guarded w _ (dpc.length-work-restored w address n)
keeps-length w (call.Reads r) = refl
