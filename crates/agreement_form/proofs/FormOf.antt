-- The state that words in form tell is in form: document 01's clauses hold of it.
use Prim.Native.Nat.{ℕ, zero, suc, ◌-◌, ◌≤◌}
use mathlib.Core.List.{List}
use mathlib.Core.Bool.{Bool, cond, true, false}
use mathlib.Core.Option.{none, some}
use mathlib.Core.Path.{◌≡◌, refl, sym, subst}
use native.Mathlib.Omega.{arith}
use borrow.Author.Tests.{leb-true, leb-false, ne_eqb}
use lib.ListN.{get_or}
use lib.Dec.{eqb, leb}
use Rattle.words.specs.Layout as at
use Rattle.form.specs.Form.{in_form}
use Rattle.model.specs.State.{satisfied, timeout}
use Rattle.model.specs.Threads.{thread_of}
use Rattle.model.specs.Valid.{Sound}
use Rattle.model.specs.Fits.{Numbers, ResultFits, StatusFits, ThreadFits}
use Rattle.agreement_form.specs.Decoded.{limits_of, thread_by, object_of, status_by, result_by, decoded}
use Rattle.agreement_form.specs.Words.{Words}
use Rattle.agreement_form.specs.Form.{Form}
use Rattle.agreement_form.proofs.Each.{length-each}
use Rattle.agreement_form.proofs.DecodedThreads.{thread-at, thread-past, threads_fit}
use Rattle.agreement_form.proofs.DecodedObjects.{objects-rise}
use Rattle.agreement_form.proofs.FormStanding.{standing}
use Rattle.agreement_form.proofs.FormWaits.{waits-valid}
use Rattle.agreement_form.proofs.FormObjects.{owners-live, objects-placed, timers-fit}
use Rattle.agreement_form.proofs.FormDpcs.{bear, queue-form}
use Rattle.agreement_form.proofs.FormLinks.{link-form}
use Rattle.agreement_form.proofs.Parts.{Parts, parts}

module _ (w : List ℕ) (words : Words w) (p : Parts w) where
  -- ---- numbers

  result_fits : (n : ℕ) → n ≤ 65 → ResultFits (result_by w n)
  result_fits zero h = tt
  result_fits (suc zero) h = tt
  result_fits (suc (suc n)) h =
      subst (λ (b : Bool). ResultFits (cond b none (cond (eqb (suc (suc n)) 1) (some timeout) (some (satisfied (suc (suc n) - 2)))))) (sym (ne_eqb (suc (suc n)) 0 (λ q. omega arith)))
      (subst (λ (b : Bool). ResultFits (cond b (some timeout) (some (satisfied (suc (suc n) - 2))))) (sym (ne_eqb (suc (suc n)) 1 (λ q. omega arith)))
      (let z : suc (suc n) - 2 ≤ 63 = omega arith in z))

  status-fits : (i n : ℕ) → 1 ≤ n → n ≤ 4 → get_or w (at.thread_word at.status i) 0 ≤ 4294967295 → StatusFits (status_by w i n)
  status-fits i zero a b h = absurd (omega arith)
  status-fits i (suc zero) a b h = tt
  status-fits i (suc (suc zero)) a b h = tt
  status-fits i (suc (suc (suc zero))) a b h = tt
  status-fits i (suc (suc (suc (suc zero)))) a b h = h
  status-fits i (suc (suc (suc (suc (suc n))))) a b h = absurd (omega arith)

  thread-fits : (i : ℕ) → ThreadFits (thread_of (decoded w).dispatcher i)
  thread-fits zero = (tt, omega arith)
  thread-fits (suc i) = go (leb (suc i) (get_or w at.threads 0)) refl
    where
      go : (b : Bool) → leb (suc i) (get_or w at.threads 0) ≡ b → ThreadFits (thread_of (decoded w).dispatcher (suc i))
      go true e =
          let le = leb-true (suc i) (get_or w at.threads 0) e in
          let t = p.threads (suc i) (omega arith) le in
          subst ThreadFits (sym (thread-at w (suc i) (omega arith) le))
          (result_fits (get_or w (at.thread_word at.result (suc i)) 0) t.result, status-fits (suc i) (get_or w (at.thread_word at.state (suc i)) 0) t.one_state t.small-state t.status)
      go false e = subst ThreadFits (sym (thread-past w (suc i) (leb-false (suc i) (get_or w at.threads 0) e))) (tt, omega arith)

  numbers : Numbers (decoded w)
  numbers = record { threads = thread-fits; timers = timers-fit w p; works = bear w words p }

  -- ---- threads and objects

  sound : Sound (limits_of w) (decoded w).dispatcher
  sound =
      let size = length-each (thread_by w) (get_or w at.threads 0) 1 in
      record {
        some = omega (arith, size, p.header.some_thread);
        few = omega (arith, size, p.header.threads_fit);
        priorities = λ i one le. let t = threads_fit w p.threads i one le in (t.one, t.small);
        standing = standing w p;
        waits = waits-valid w words p;
        owners = owners-live w p;
        rising = objects-rise w p.objects;
        room = omega (arith, length-each (object_of w) (get_or w at.objects 0) 0, p.header.objects_fit);
        places = objects-placed w p;
      }

  form : Form (decoded w)
  form =
      record {
        limits = p.header.limits;
        sound = sound;
        queueing = queue-form w words p;
        linked = link-form w words p;
        policy = p.header.policy;
        timers_lived = p.header.timers_lived;
        dpcs_lived = p.header.dpcs_lived;
        numbers = numbers;
      }

pub form_of : (w : List ℕ) → Words w → in_form w ≡ true → Form (decoded w)
form_of w words e = form w words (parts w e)
