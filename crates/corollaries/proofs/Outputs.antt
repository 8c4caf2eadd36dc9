-- Calls with an output that holds anything before the call: a dispatch answers the same and leaves the same words; an image is that of the
-- log's record, written over the output's head.
use Prim.Native.Nat.{ℕ, ◌≤◌}
use mathlib.Core.List.{List}
use mathlib.Core.Bool.{Bool, true, false, cond, not}
use mathlib.Core.Option.{Option, some}
use mathlib.Core.Path.{◌≡◌, refl, sym, ap, ◌∙◌}
use borrow.Author.Tests.{le-ltb}
use lib.Dec.{ltb}
use lib.ListN.{length, length-replicate}
use Rattle.images.specs.declared.Timer.{Timer}
use Rattle.images.specs.declared.Dpc.{Dpc}
use Rattle.images.specs.Image.{timer_image, dpc_image}
use Rattle.images.specs.Place.{timer_size, dpc_size}
use Rattle.answers.specs.declared.Answer.TheVariants as answer
use Rattle.objects.specs.Objects.{place_of}
use Rattle.timers.specs.Record as timer-words
use Rattle.dpcs.specs.Record as dpc-words
use Rattle.dpcs.specs.Record.{number_of, place_at}
use Rattle.dispatcher.specs.Dispatch.{Dispatched}
use Rattle.dispatcher.specs.Dispatched.{dispatched}
use Rattle.form.specs.Form.{in_form}
use Rattle.call_answers.specs.Told.{told_with}
use Rattle.calls.specs.Guard.{image_refused, guarded_image}
use Rattle.calls.specs.Images.{Imaged, imaged, timer_imaged, dpc_imaged}
use Rattle.calls.specs.Called.{called}
use Rattle.calls.specs.Run.{answered, left}
use Rattle.model.specs.Reads.{blank}
use Rattle.model.specs.Lists.{present}
use Rattle.model.specs.State.{State, timer}
use Rattle.model.specs.Waits.{timer_at}
use Rattle.model.specs.Dpcs.{dpc_at}
use Rattle.model.specs.Call.{Call, Dispatch, Reads, TimerImage, DpcImage}
use Rattle.model.specs.Call as call
use Rattle.model.specs.Start.{Start, Accepted}
use Rattle.model.proofs.Told.{timer-told, dpc-told}
use Rattle.agreement.specs.Agree.{Agree}
use Rattle.agreement.proofs.Records.{timer-read}
use Rattle.agreement.proofs.Lookups.{object-row}
use Rattle.agreement_timers.proofs.Found.{timer-object, timer-known, timer-place}
use Rattle.agreement_dpc.proofs.Found.{number-known, dpc-whole}
use Rattle.agreement_threads.proofs.Dispatch.{agree-dispatch}
use Rattle.agreement_calls.proofs.Guards.{dispatch-is}
use Rattle.theorem.specs.History.{Proper}
use Rattle.theorem.specs.Theorem.{logged, end}
use Rattle.theorem.proofs.Theorem.{theorem}
use Rattle.corollaries.specs.Reads.{TimerRead, DpcRead}
use Rattle.corollaries.proofs.Next.{agree, valid, next}

-- the words after a dispatch depend on the output's length alone
words-cond : (b : Bool) (x y : Dispatched) → (cond b x y).words ≡ cond b x.words y.words
words-cond true x y = refl
words-cond false x y = refl

same-words : (w out other : List ℕ) → length out ≡ length other → (dispatched w out).words ≡ (dispatched w other).words
unfolding dispatched
same-words w out other e = simp (words-cond, e)

-- an image of words in form, on an output of 64 bytes or more
image-is : (w out : List ℕ) (i : Imaged) → in_form w ≡ true → 64 ≤ length out → guarded_image w out i ≡ i
unfolding guarded_image image_refused
image-is w out i f h =
    ap (λ (b : Bool). cond (cond b (ltb (length out) 64) true) (imaged (answer.Refused 27) out) i) f
    ∙ ap (λ (b : Bool). cond b (imaged (answer.Refused 27) out) i) (le-ltb (length out) 64 h)

timer-imaged : (w : List ℕ) (s : State) → Agree w s → (address : ℕ) (x : Timer) (out : List ℕ) → timer_at s.dispatcher.objects address ≡ some x
    → timer_imaged w address out ≡ imaged (answer.Count (timer_size x.architecture)) (timer_image x out)
unfolding timer_imaged timer-words.size_at timer-words.timer_at
timer-imaged w s a address x out e =
    let g = timer-object s.dispatcher.objects address x e in
    let place = place_of w 2 address in
    ap (λ (b : Bool). cond b (imaged (answer.Refused 2) out) (imaged (answer.Count (timer-words.size_at w place)) (timer_image (timer-words.timer_at w place) out))) (timer-known w s _ _ a address x g)
    ∙ ap (λ (z : Timer). imaged (answer.Count (timer_size z.architecture)) (timer_image z out))
    (ap (timer-words.timer_at w) (timer-place w s _ _ a address x g) ∙ timer-read w _ x (object-row w s _ _ a address (timer x) g))

dpc-imaged : (w : List ℕ) (s : State) → Agree w s → (address : ℕ) (x : Dpc) (out : List ℕ) → dpc_at s.dpcs.table address ≡ some x
    → dpc_imaged w address out ≡ imaged (answer.Count (dpc_size x.architecture)) (dpc_image x out)
unfolding dpc_imaged timer-words.dpc_size_at dpc-words.dpc_at
dpc-imaged w s a address x out e =
    let place = place_at w (number_of w address) in
    ap (λ (b : Bool). cond b (imaged (answer.Refused 2) out) (imaged (answer.Count (timer-words.dpc_size_at w place)) (dpc_image (dpc-words.dpc_at w place) out)))
    (number-known w s _ _ a address ∙ ap (λ (m : Option Dpc). not (present m)) e)
    ∙ ap (λ (z : Dpc). imaged (answer.Count (dpc_size z.architecture)) (dpc_image z out)) (dpc-whole w s _ _ a address x e)

module _ (w : List ℕ) (start : Start) (calls : List Call) (accepted : Accepted (length w) start) (proper : Proper (length w) calls) where
  abbrev words : List ℕ
  words = end w start calls

  abbrev log : State
  log = logged w start calls

  in-form : in_form words ≡ true
  in-form = (theorem w start calls accepted proper).in-form

  -- a dispatch on any output answers, a deadlock's numbers at its head, what it answers on a blank one of the same length
  pub dispatch-answers : (out : List ℕ) → told_with (called words (Dispatch (length out)) out).output (called words (Dispatch (length out)) out).answer ≡ answered words (Dispatch (length out))
  unfolding called
  dispatch-answers out =
      ap (λ (x : Dispatched). told_with x.output x.answer) (dispatch-is words in-form out)
      ∙ (agree-dispatch words log (agree w start calls accepted proper) (valid w start calls accepted proper) out).answers
      ∙ sym (next w start calls accepted proper (Dispatch (length out)) tt tt).answers

  -- and leaves the same words
  pub dispatch-words : (out : List ℕ) → (called words (Dispatch (length out)) out).words ≡ left words (Dispatch (length out))
  unfolding called
  dispatch-words out =
      ap (λ (x : Dispatched). x.words) (dispatch-is words in-form out)
      ∙ same-words words out (blank (length out)) (sym (length-replicate (length out) 0))
      ∙ sym (ap (λ (x : Dispatched). x.words) (dispatch-is words in-form (blank (length out))))

  -- the image of a timer on an output of 64 bytes or more: the image's size, and the image of the timer that `timer` answers
  pub timer-image : (address : ℕ) (x : Timer) (out : List ℕ) → TimerRead words address x → 64 ≤ length out
      → called words (Reads (TimerImage address (length out))) out ≡ imaged (answer.Count (timer_size x.architecture)) (timer_image x out)
  unfolding called
  timer-image address x out e h =
      image-is words out (timer_imaged words address out) in-form h
      ∙ timer-imaged words log (agree w start calls accepted proper) address x out
      (timer-told log address x (sym (next w start calls accepted proper (Reads (call.TimerAt address)) tt tt).answers ∙ e))

  -- and of a DPC
  pub dpc-image : (address : ℕ) (x : Dpc) (out : List ℕ) → DpcRead words address x → 64 ≤ length out
      → called words (Reads (DpcImage address (length out))) out ≡ imaged (answer.Count (dpc_size x.architecture)) (dpc_image x out)
  unfolding called
  dpc-image address x out e h =
      image-is words out (dpc_imaged words address out) in-form h
      ∙ dpc-imaged words log (agree w start calls accepted proper) address x out
      (dpc-told log address x (sym (next w start calls accepted proper (Reads (call.DpcAt address)) tt tt).answers ∙ e))
