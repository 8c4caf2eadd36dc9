-- The sizing call answers the least number of words that `open` accepts, and 27 exactly if the limits are bad or its output is short.
use Prim.Native.Nat.{ℕ, ◌≤◌, ◌<◌}
use mathlib.Core.Bool.{Bool, true, false, cond}
use mathlib.Core.Path.{◌≡◌, refl, sym, ap, ◌∙◌}
use mathlib.Core.List.{List, [], ◌∷◌}
use mathlib.Core.Logic.{◌⊎◌, inl, inr}
use native.Mathlib.Omega.{arith}
use native.Mathlib.Decide.{dec_lt}
use lib.Dec.{ltb, eqb}
use lib.ListN.{length, get_or}
use borrow.Author.Tests.{eqb-true, ltb-false, lt-ltb, le-ltb}
use Rattle.words.specs.Layout as at
use Rattle.answers.specs.declared.Answer.TheVariants as answer
use Rattle.answers.specs.Outcome.{outcome, unless}
use Rattle.opening.specs.Open.{bad_priority, bad_limits, words_needed, sized, open_refusal, started, opened}
use Rattle.model.specs.Sizing.{InRange}
use Rattle.calls.specs.Called.{called}
use Rattle.exports.specs.SchedulerAnswer.{given, refusal_of, answer_in, valued, changed_by}
use Rattle.exports.specs.RecordCall.{read_by}
use Rattle.exports.specs.SizingCall.{sizing, open_number, Enough}

-- the limits are bad exactly if they are out of range
good : (t o d : ℕ) → InRange t o d → bad_limits t o d ≡ false
unfolding bad_limits
good t o d r = simp (le-ltb t 1 r.some_thread, le-ltb at.most_threads t r.threads, le-ltb 4096 o r.objects, le-ltb 4096 d r.dpcs)

bad : (t o d : ℕ) → (InRange t o d → ⊥) → bad_limits t o d ≡ true
unfolding bad_limits
bad t o d n = go (ltb t 1) (ltb at.most_threads t) (ltb 4096 o) (ltb 4096 d) refl refl refl refl
  where
    go : (a b c e : Bool) → ltb t 1 ≡ a → ltb at.most_threads t ≡ b → ltb 4096 o ≡ c → ltb 4096 d ≡ e → cond a true (cond b true (cond c true e)) ≡ true
    go true b c e p q r s = refl
    go false true c e p q r s = refl
    go false false true e p q r s = refl
    go false false false true p q r s = refl
    go false false false false p q r s = absurd (n (record { some_thread = ltb-false _ _ p; threads = ltb-false _ _ q; objects = ltb-false _ _ r; dpcs = ltb-false _ _ s }))

-- a tag and a value, in an output with room for them
value_in : (out : List ℕ) (tag value : ℕ) → 4 ≤ length out → (get_or (valued out tag value) 0 0 ≡ tag) × (get_or (valued out tag value) 1 0 ≡ value)
unfolding valued
value_in (x ∷ y ∷ rest) tag value h = (refl, refl)
value_in (x ∷ []) tag value h = absurd (omega arith)
value_in [] tag value h = absurd (omega arith)

-- the number of a call that is done unless it is refused
number-of : (r : ℕ) (w after : List ℕ) → refusal_of (unless r w (outcome answer.Done after)).answer ≡ r
number-of r w after = go (eqb r 0) refl
  where
    go : (b : Bool) → eqb r 0 ≡ b → refusal_of (cond b (outcome answer.Done after) (outcome (answer.Refused r) w)).answer ≡ r
    go true e = sym (eqb-true r 0 e)
    go false e = refl

open-number : (p t o d : ℕ) (w out : List ℕ) → 4 ≤ length out → open_number p t o d w out ≡ open_refusal w p t o d
unfolding changed_by called opened
open-number p t o d w out h =
    ap (λ (b : Bool). (cond b (given 27 w out) (given (refusal_of (opened w p t o d).answer) (opened w p t o d).words (answer_in out (opened w p t o d).answer))).number) (le-ltb (length out) 4 h)
    ∙ number-of (open_refusal w p t o d) w (started w p t o d)

-- `open`, by how many words there are
module _ (p t o d : ℕ) (least : 1 ≤ p) (most : p ≤ 31) (r : InRange t o d) where
  opens : Enough p t o d (words_needed t o d)
  unfolding open_refusal bad_priority
  opens =
      record {
        enough = λ w out h k. open-number p t o d w out k ∙ simp (le-ltb p 1 least, le-ltb 31 p most, good t o d r, le-ltb (length w) (words_needed t o d) h);
        fewer = λ w out h k. open-number p t o d w out k ∙ simp (le-ltb p 1 least, le-ltb 31 p most, good t o d r, lt-ltb (length w) (words_needed t o d) h);
      }

module _ (t o d : ℕ) (out : List ℕ) where
  pub sizing-short : length out < 4 → (sizing t o d out).number ≡ 27
  unfolding read_by
  sizing-short h = simp (lt-ltb (length out) 4 h)

  pub sizing-bad : (InRange t o d → ⊥) → (sizing t o d out).number ≡ 27
  unfolding read_by sized
  sizing-bad n = simp (bad t o d n) (either (ltb (length out) 4))
    where
      either : (b : Bool) → (cond b (given 27 out out) (given 27 out out)).number ≡ 27
      either true = refl
      either false = refl

  module _ (h : 4 ≤ length out) (r : InRange t o d) where
    -- accepted, with the tag of a number
    pub sizing-accepted : ((sizing t o d out).number ≡ 0) × (get_or (sizing t o d out).output 0 0 ≡ 5) × (get_or (sizing t o d out).output 1 0 ≡ words_needed t o d)
    unfolding read_by sized
    sizing-accepted =
        let (tag, value) = value_in out 5 (words_needed t o d) h in
        simp (le-ltb (length out) 4 h, good t o d r) (refl, tag, value)

    -- and the number that it writes is the least that `open` accepts
    pub sizing-least : (p : ℕ) → 1 ≤ p → p ≤ 31 → Enough p t o d (get_or (sizing t o d out).output 1 0)
    sizing-least p least most = rw sizing-accepted.2 (opens p t o d least most r)

  pub sizing-27 : (sizing t o d out).number ≡ 27 → (length out < 4) ⊎ (InRange t o d → ⊥)
  sizing-27 e = go (dec_lt (length out) 4)
    where
      go : Dec (length out < 4) → (length out < 4) ⊎ (InRange t o d → ⊥)
      go (yes h) = inl h
      go (no h) = inr (λ r. let z = (sizing-accepted (omega (arith, h)) r).0 in omega arith)
