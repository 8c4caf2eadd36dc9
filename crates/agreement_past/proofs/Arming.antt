-- Timers set and cancelled, and events reset.
use Prim.Native.Nat.{ℕ, ◌+◌, ◌*◌, ◌%◌, ◌^◌}
use mathlib.Core.List.{List, [], ◌∷◌}
use mathlib.Core.Bool.{Bool, true, false, cond}
use mathlib.Core.Path.{◌≡◌, refl, ◌∙◌}
use native.Mathlib.Omega.{arith}
use borrow.Author.Tests.{eqb-false}
use lib.Dec.{eqb, leb, ltb}
use lib.IntN.{ℤ}
use lib.ListN.{get_or, set}
use Rattle.words.specs.Layout as at
use Rattle.answers.specs.declared.Answer.TheVariants as answer
use Rattle.answers.specs.Outcome.{outcome}
use Rattle.chains.specs.Chain.{link_at, find_before, unlinked, removed}
use Rattle.objects.specs.Objects.{place_of, dpc_found}
use Rattle.dpcs.specs.Record.{place_at, number_of, queue_chain}
use Rattle.dpc_queue.specs.Queue.{raised, withdrawn}
use Rattle.timers.specs.Record.{is_inserted}
use Rattle.events.specs.Events as events
use Rattle.arming.specs.declared.Setting.{Setting}
use Rattle.arming.specs.Signed.{negative, whole, magnitude}
use Rattle.arming.specs.Arm as words
use Rattle.model.specs.State.{Limits, State}
use Rattle.agreement_chains.specs.Chains.{Same}
use Rattle.agreement_chains.proofs.Frames.{set-outside, unlinked-other}
use Rattle.agreement.specs.Agree.{Agree}
use Rattle.agreement.proofs.Rows.{Store, store, In, written-outside}
use Rattle.agreement.proofs.Places.{Any}
use Rattle.agreement_past.specs.Past.{Beyond}
use Rattle.agreement_past.proofs.Kept.{unless-kept}
use Rattle.agreement_past.proofs.Words.{Sized, sized, Clear, Low, clear-beyond, clear-low, Here, here-kept, place_here, dpc-here, sized-still, number-most}
use Rattle.agreement_past.proofs.Work.{number-high, withdrawn-kept, queue-before}

-- ---- steps, of words that have the limits

module _ (l : Limits) (Q : ℕ → Type 0) (c : Clear l Q) where
  pub named-kept : (w : List ℕ) → Sized l w → (dpc holder : ℕ) → Same Q w (words.named w dpc holder)
  unfolding words.named
  named-kept w z dpc holder = go (eqb dpc 0) (eqb (dpc_found w dpc) 0) refl
    where
      go : (a b : Bool) → eqb (dpc_found w dpc) 0 ≡ b → Same Q w (cond a w (cond b w (set w (dpc_found w dpc + at.named_by) holder)))
      go true b e j r = refl
      go false true e j r = refl
      go false false e j r = here-kept l Q c w (dpc_found w dpc) at.named_by holder (dpc-here l w z dpc (eqb-false (dpc_found w dpc) 0 e)) (omega arith) j r

  pub unnamed-kept : (w : List ℕ) → Sized l w → (place : ℕ) → Same Q w (words.unnamed w place)
  unfolding words.unnamed
  unnamed-kept w z place = go (is_inserted w place)
    where
      go : (b : Bool) → Same Q w (cond b (words.named w (get_or w (place + at.timer_dpc) 0) 0) w)
      go true j r = named-kept w z (get_or w (place + at.timer_dpc) 0) 0 j r
      go false j r = refl

  setting_kept : (w : List ℕ) (place : ℕ) → Here l place → (s : Setting) → Same Q w (words.setting_put w place s)
  unfolding words.setting_put
  setting_kept w place h s = written-outside Q Any w place stores held (λ k d q. c (place + k) (omega (arith, h.high)) (omega (arith, h.inside.inside)) q)
    where
      stores : List Store
      stores = store at.signaled 0 ∷ store at.inserted 1 ∷ store at.due s.due ∷ store at.period s.period ∷ store at.timer_dpc s.dpc ∷ store at.absolute s.absolute ∷ store at.arm s.arm ∷ []

      held : In Any stores
      held = (omega arith, (omega arith, (omega arith, (omega arith, (omega arith, (omega arith, (omega arith, tt)))))))

-- a timer set: its former DPC, its record, its new DPC
armed_kept : (l : Limits) (w : List ℕ) → Sized l w → (place address : ℕ) → Here l place → (s : Setting) → Same (Beyond l) w (words.armed w place address s)
unfolding words.armed
armed_kept l w z place address h s j r =
    let w₁ = words.unnamed w place in
    let z₁ = sized-still l w z w₁ (unnamed-kept l Low (clear-low l) w z place) in
    let w₂ = words.setting_put w₁ place s in
    let z₂ = sized-still l w₁ z₁ w₂ (setting_kept l Low (clear-low l) w₁ place h s) in
    named-kept l (Beyond l) (clear-beyond l) w₂ z₂ s.dpc address j r
    ∙ setting_kept l (Beyond l) (clear-beyond l) w₁ place h s j r
    ∙ unnamed-kept l (Beyond l) (clear-beyond l) w z place j r

-- work withdrawn leaves the words of the limits and counts
withdrawn-low : (l : Limits) (w : List ℕ) → Sized l w → (n : ℕ) → Same Low w (withdrawn w n)
unfolding withdrawn raised removed queue_chain link_at
withdrawn-low l w z n j r =
    let before = find_before w (queue_chain w) n in
    let w₁ = unlinked w (queue_chain w) before n in
    let w₂ = set w₁ (place_at w n + at.phase) 0 in
    set-outside Low w₂ at.removed ((get_or w₂ at.removed 0 + 1) % 2 ^ 64) (λ r. omega arith) j r
    ∙ set-outside Low w₁ (place_at w n + at.phase) 0 (λ r. omega (arith, number-high w n (omega (arith, z.dpcs-at)))) j r
    ∙ unlinked-other w (queue_chain w) before n j (link (eqb before 0) (leb before 4096)) (λ e. omega arith)
  where
    link : (b t : Bool) → (j ≡ cond b at.queue_first (cond t ((queue_chain w).link + at.record_size * find_before w (queue_chain w) n) at.queue_first) → ⊥)
    link true t e = omega arith
    link false true e = omega (arith, z.dpcs-at)
    link false false e = omega arith

-- ---- the calls

module _ (w : List ℕ) (s : State) (a : Agree w s) where
  abbrev Q : ℕ → Type 0
  Q = Beyond s.limits

  z : Sized s.limits w
  z = sized w s _ _ a

  pub reset-kept : (key : ℕ) → Same (Beyond s.limits) w (events.was_reset w key).words
  unfolding events.was_reset
  reset-kept key = go (eqb (place_of w 1 key) 0) refl
    where
      go : (b : Bool) → eqb (place_of w 1 key) 0 ≡ b → Same (Beyond s.limits) w (cond b (outcome (answer.Refused 2) w) (outcome (answer.Flag (events.signaled_at w (place_of w 1 key))) (set w (place_of w 1 key + at.signaled) 0))).words
      go true e j r = refl
      go false e j r = here-kept s.limits Q (clear-beyond s.limits) w (place_of w 1 key) at.signaled 0 (place_here s.limits w z 1 key (eqb-false (place_of w 1 key) 0 e)) (omega arith) j r

  pub set-kept : (address due : ℕ) (absolute : Bool) (period : ℤ) (dpc : ℕ) → Same (Beyond s.limits) w (words.timer_set w address due absolute period dpc).words
  unfolding words.timer_set
  set-kept address due absolute period dpc = unless-kept Q w (words.set_refusal w address period dpc) _
      (λ e. armed_kept s.limits w z (place_of w 2 address) address (place_here s.limits w z 2 address (known e)) (words.setting_of w (place_of w 2 address) due absolute period dpc))
    where
      known : words.set_refusal w address period dpc ≡ 0 → place_of w 2 address ≡ 0 → ⊥
      known = unfold words.set_refusal in go (negative period) (eqb (words.new_refusal w address dpc) 0) (words.former_busy w (place_of w 2 address)) (eqb (place_of w 2 address) 0) refl refl
        where
          go : (a b c d : Bool) → eqb (words.new_refusal w address dpc) 0 ≡ b → eqb (place_of w 2 address) 0 ≡ d
              → cond a 17 (cond b (cond c 19 (cond d 2 (cond (eqb (get_or w (place_of w 2 address + at.arm) 0) words.largest) 24 0))) (words.new_refusal w address dpc)) ≡ 0 → place_of w 2 address ≡ 0 → ⊥
          go true b c d p q e f = omega arith
          go false false c d p q e f = eqb-false (words.new_refusal w address dpc) 0 p e
          go false true true d p q e f = omega arith
          go false true false true p q e f = omega arith
          go false true false false p q e f = eqb-false (place_of w 2 address) 0 q f

  pub set-signed-kept : (address : ℕ) (due period : ℤ) (dpc : ℕ) → Same (Beyond s.limits) w (words.timer_set_signed w address due period dpc).words
  unfolding words.timer_set_signed words.set_from
  set-signed-kept address due period dpc = go (negative period) (negative due) (ltb words.largest (get_or w at.now 0 + magnitude due))
    where
      go : (a b c : Bool) → Same (Beyond s.limits) w (cond a (outcome (answer.Refused 17) w)
          (cond b (cond c (outcome (answer.Refused 13) w) (words.timer_set w address (get_or w at.now 0 + magnitude due) false period dpc)) (words.timer_set w address (whole due) true period dpc))).words
      go true b c j r = refl
      go false true true j r = refl
      go false true false j r = set-kept address (get_or w at.now 0 + magnitude due) false period dpc j r
      go false false c j r = set-kept address (whole due) true period dpc j r

  pub cancelled-kept : (address : ℕ) → Same (Beyond s.limits) w (words.timer_cancelled w address).words
  unfolding words.timer_cancelled words.disarmed words.withdrawn_own
  cancelled-kept address = go (eqb (place_of w 2 address) 0) (words.own_queued w (place_of w 2 address)) refl
    where
      place : ℕ
      place = place_of w 2 address

      n : ℕ
      n = number_of w (get_or w (place_of w 2 address + at.timer_dpc) 0)

      -- the record written, of words in which its work is withdrawn or not
      disarm : (w₁ : List ℕ) → Sized s.limits w₁ → (place_of w 2 address ≡ 0 → ⊥) → Same (Beyond s.limits) w₁ (set (words.unnamed w₁ (place_of w 2 address)) (place_of w 2 address + at.inserted) 0)
      disarm w₁ z₁ some j r =
          here-kept s.limits Q (clear-beyond s.limits) (words.unnamed w₁ place) place at.inserted 0 (place_here s.limits w z 2 address some) (omega arith) j r
          ∙ unnamed-kept s.limits Q (clear-beyond s.limits) w₁ z₁ place j r

      go : (b own : Bool) → eqb (place_of w 2 address) 0 ≡ b
          → Same (Beyond s.limits) w (cond b (outcome (answer.Refused 2) w) (outcome (answer.Flag (is_inserted w (place_of w 2 address)))
          (set (words.unnamed (cond own (withdrawn w (number_of w (get_or w (place_of w 2 address + at.timer_dpc) 0))) w) (place_of w 2 address)) (place_of w 2 address + at.inserted) 0))).words
      go true own e j r = refl
      go false false e j r = disarm w z (eqb-false place 0 e) j r
      go false true e j r =
          disarm (withdrawn w n) (sized-still s.limits w z (withdrawn w n) (withdrawn-low s.limits w z n)) (eqb-false place 0 e) j r
          ∙ withdrawn-kept s.limits w z n (number-most s.limits w z (get_or w (place + at.timer_dpc) 0)) (queue-before w s _ _ a n) j r
