-- The numbers of the waiting threads, as a dispatch writes them to its output: they rise, as the log lists them.
use Prim.Native.Nat.{ℕ, zero, suc, ◌+◌, ◌≤◌, ◌<◌}
use mathlib.Core.List.{List, [], ◌∷◌, ◌++◌}
use mathlib.Core.Bool.{Bool, true, false, cond}
use mathlib.Core.Path.{◌≡◌, refl, sym, ap, ◌∙◌}
use native.Mathlib.Omega.{arith}
use borrow.Author.Tests.{ne_eqb}
use lib.ListN.{get_or, set, length, length-set, take}
use lib.Dec.{eqb}
use Rattle.dispatcher.specs.Dispatch as words
use Rattle.model.specs.Lists.{is_empty}
use Rattle.model.specs.State.{State, Thread}
use Rattle.model.specs.Threads.{thread_at, is_waiting, numbers_of, waiting_numbers, no_one, status_of}
use Rattle.agreement.specs.Records.{status_number}
use Rattle.agreement.specs.Agree.{Agreeing}
use Rattle.agreement.proofs.Lookups.{thread-count-is, thread-word-is}
use Rattle.agreement_threads.proofs.Statuses.{number-waiting}

abbrev waits : Thread → Bool
waits t = is_waiting t.status

-- one number more at the end of what is written
take-noted : (out : List ℕ) (k v : ℕ) → k < length out → take (k + 1) (set out k v) ≡ take k out ++ (v ∷ [])
take-noted [] k v h = absurd (omega arith)
take-noted (x ∷ xs) zero v h = refl
take-noted (x ∷ xs) (suc k) v h = ap (λ (m : ℕ). take m (x ∷ set xs k v)) (let e : suc k + 1 ≡ suc (k + 1) = omega arith in e) ∙ ap (λ (r : List ℕ). x ∷ r) (take-noted xs k v (omega arith))

append-one : (xs : List ℕ) (v : ℕ) (ys : List ℕ) → (xs ++ (v ∷ [])) ++ ys ≡ xs ++ (v ∷ ys)
append-one [] v ys = refl
append-one (x ∷ xs) v ys = ap (λ (r : List ℕ). x ∷ r) (append-one xs v ys)

-- the threads from number `id` on, of which the words tell what the log does
module _ (w : List ℕ) where
  Tell : ℕ → List Thread → Type 0
  Tell id ts = (j : ℕ) → j < length ts → words.is_waiting w (id + j) ≡ waits (get_or ts j no_one)

  tell-rest : (id : ℕ) (t : Thread) (ts : List Thread) → Tell id (t ∷ ts) → Tell (id + 1) ts
  unfolding Tell
  tell-rest id t ts h j l = ap (words.is_waiting w) (let e : id + 1 + j ≡ id + suc j = omega arith in e) ∙ h (suc j) (omega arith)

  tell-first : (id : ℕ) (t : Thread) (ts : List Thread) → Tell id (t ∷ ts) → words.is_waiting w id ≡ waits t
  unfolding Tell
  tell-first id t ts h = ap (words.is_waiting w) (let e : id ≡ id + 0 = omega arith in e) ∙ h 0 (omega arith)

  listed-to : (ts : List Thread) (id k : ℕ) → Tell id ts → words.listed_to_in (length ts) w id k ≡ k + length (numbers_of waits id ts)
  unfolding words.listed_to_in words.noted_to
  listed-to [] id k h = omega arith
  listed-to (t ∷ ts) id k h = ap (λ (b : Bool). words.listed_to_in (length ts) w (id + 1) (cond b (k + 1) k)) (tell-first id t ts h)
      ∙ go (waits t) (λ m. listed-to ts (id + 1) m (tell-rest id t ts h))
    where
      next : id + 1 ≡ suc id
      next = omega arith

      go : (b : Bool) → ((m : ℕ) → words.listed_to_in (length ts) w (id + 1) m ≡ m + length (numbers_of waits (id + 1) ts))
          → words.listed_to_in (length ts) w (id + 1) (cond b (k + 1) k) ≡ k + length (cond b (id ∷ numbers_of waits (suc id) ts) (numbers_of waits (suc id) ts))
      go true ih = ih (k + 1) ∙ ap (λ (m : ℕ). k + 1 + length (numbers_of waits m ts)) next ∙ omega arith
      go false ih = ih k ∙ ap (λ (m : ℕ). k + length (numbers_of waits m ts)) next

  listed_in_lem : (ts : List Thread) (out : List ℕ) (id k : ℕ) → Tell id ts → k + length ts ≤ length out
      → take (words.listed_to_in (length ts) w id k) (words.listed_in (length ts) w out id k) ≡ take k out ++ numbers_of waits id ts
  unfolding words.listed_to_in words.noted_to words.listed_in words.noted
  listed_in_lem [] out id k h room = sym (nothing (take k out))
    where
      nothing : (xs : List ℕ) → xs ++ [] ≡ xs
      nothing [] = refl
      nothing (x ∷ xs) = ap (λ (r : List ℕ). x ∷ r) (nothing xs)
  listed_in_lem (t ∷ ts) out id k h room =
      ap (λ (b : Bool). take (words.listed_to_in (length ts) w (id + 1) (cond b (k + 1) k)) (words.listed_in (length ts) w (cond b (set out k id) out) (id + 1) (cond b (k + 1) k))) (tell-first id t ts h)
      ∙ go (waits t) (λ o m q. listed_in_lem ts o (id + 1) m (tell-rest id t ts h) q)
    where
      next : id + 1 ≡ suc id
      next = omega arith

      go : (b : Bool)
          → ((o : List ℕ) (m : ℕ) → m + length ts ≤ length o → take (words.listed_to_in (length ts) w (id + 1) m) (words.listed_in (length ts) w o (id + 1) m) ≡ take m o ++ numbers_of waits (id + 1) ts)
          → take (words.listed_to_in (length ts) w (id + 1) (cond b (k + 1) k)) (words.listed_in (length ts) w (cond b (set out k id) out) (id + 1) (cond b (k + 1) k))
          ≡ take k out ++ cond b (id ∷ numbers_of waits (suc id) ts) (numbers_of waits (suc id) ts)
      go true ih =
          ih (set out k id) (k + 1) (omega (arith, length-set out k id))
          ∙ ap (λ (r : List ℕ). r ++ numbers_of waits (id + 1) ts) (take-noted out k id (omega arith))
          ∙ append-one (take k out) id (numbers_of waits (id + 1) ts)
          ∙ ap (λ (m : ℕ). take k out ++ (id ∷ numbers_of waits m ts)) next
      go false ih = ih out k (omega arith) ∙ ap (λ (m : ℕ). take k out ++ numbers_of waits m ts) next

module _ (w : List ℕ) (s : State) (holder : ℕ → ℕ) (active : ℕ) (a : Agreeing w s holder active) where
  abbrev l : List Thread
  l = s.dispatcher.threads

  tells : Tell w 1 l
  unfolding Tell words.is_waiting
  tells j h =
      ap (λ (n : ℕ). eqb n 3) (thread-word-is w s holder active a (1 + j) (omega arith) (omega arith) 1 (status_number (status_of s.dispatcher (1 + j))) refl)
      ∙ number-waiting (status_of s.dispatcher (1 + j))
      ∙ ap (λ (i : ℕ). waits (thread_at l i)) (let e : 1 + j ≡ suc j = omega arith in e)

  pub listed-count : words.listed_to w ≡ length (waiting_numbers s.dispatcher)
  unfolding words.listed_to
  listed-count = ap (λ (m : ℕ). words.listed_to_in m w 1 0) (thread-count-is w s holder active a) ∙ listed-to w l 1 0 tells ∙ omega arith

  pub listed-is : (out : List ℕ) → s.limits.threads ≤ length out → take (words.listed_to w) (words.listed w out) ≡ waiting_numbers s.dispatcher
  unfolding words.listed_to words.listed
  listed-is out room =
      ap (λ (m : ℕ). take (words.listed_to_in m w 1 0) (words.listed_in m w out 1 0)) (thread-count-is w s holder active a)
      ∙ listed_in_lem w l out 1 0 tells (omega (arith, a.shape.sizes.threads_fit))

  pub listed-none : eqb (words.listed_to w) 0 ≡ is_empty (waiting_numbers s.dispatcher)
  listed-none = ap (λ (m : ℕ). eqb m 0) listed-count ∙ go (waiting_numbers s.dispatcher)
    where
      go : (l : List ℕ) → eqb (length l) 0 ≡ is_empty l
      go [] = refl
      go (x ∷ xs) = ne_eqb (suc (length xs)) 0 (λ e. omega arith)
