-- The image calls: the size and the bytes of the image, and what refuses it.
use Prim.Native.Nat.{ℕ}
use mathlib.Core.List.{List}
use mathlib.Core.Bool.{Bool, true, false, cond, not}
use mathlib.Core.Option.{Option, none, some}
use mathlib.Core.Path.{◌≡◌, refl, sym, ap, ◌∙◌}
use native.Mathlib.Omega.{arith}
use borrow.Author.Tests.{eq-eqb}
use lib.Dec.{ltb}
use lib.ListN.{length, length-replicate}
use Rattle.images.specs.declared.Timer.{Timer}
use Rattle.images.specs.declared.Dpc.{Dpc}
use Rattle.images.specs.Image.{timer_image, dpc_image}
use Rattle.answers.specs.declared.Answer.TheVariants as answer
use Rattle.objects.specs.Objects.{place_of}
use Rattle.dpcs.specs.Record as dpc-words
use Rattle.dpcs.specs.Record.{number_of, place_at}
use Rattle.timers.specs.Record as timer-words
use Rattle.timers.specs.Record.{size_at, dpc_size_at}
use Rattle.form.specs.Form.{in_form}
use Rattle.calls.specs.Guard.{image_refused, guarded_image}
use Rattle.calls.specs.Images.{Imaged, imaged, timer_imaged, dpc_imaged}
use Rattle.calls.specs.Run.{image_told}
use Rattle.model.specs.Lists.{present, given}
use Rattle.model.specs.State.{State, timer}
use Rattle.model.specs.Waits.{timer_at}
use Rattle.model.specs.Dpcs.{dpc_at}
use Rattle.model.specs.Refusal.{unknown_timer, unknown_dpc, timer_image_refusal, dpc_image_refusal}
use Rattle.model.specs.Reads.{read_refusal, read_answer, blank, timer_image_answer, dpc_image_answer}
use Rattle.model.specs.Answer.{None}
use Rattle.model.specs.Call as call
use Rattle.model.specs.Step.{step}
use Rattle.agreement.specs.Agree.{Agree}
use Rattle.agreement.proofs.Records.{timer-read}
use Rattle.agreement.proofs.Lookups.{object-row}
use Rattle.agreement_timers.proofs.Found.{timer-object, timer-missing, timer-known, timer-place}
use Rattle.agreement_timers.proofs.TimerReads.{read_is, read-refused}
use Rattle.agreement_dpc.proofs.Found.{number-known, dpc-whole}

module _ (w : List ℕ) (f : in_form w ≡ true) (n : ℕ) where
  -- an output under 64 bytes is what refuses an image of words in form
  short : image_refused w (blank n) ≡ ltb n 64
  unfolding image_refused
  short = ap (λ (b : Bool). cond b (ltb (length (blank n)) 64) true) f ∙ ap (λ (m : ℕ). ltb m 64) (length-replicate n 0)

  pub image-is : (i : Imaged) → guarded_image w (blank n) i ≡ cond (ltb n 64) (imaged (answer.Refused 27) (blank n)) i
  unfolding guarded_image
  image-is i = ap (λ (b : Bool). cond b (imaged (answer.Refused 27) (blank n)) i) short

module _ (w : List ℕ) (s : State) (a : Agree w s) (f : in_form w ≡ true) (address n : ℕ) where
  timer-told : (o : Option Timer) → timer_at s.dispatcher.objects address ≡ o → (b : Bool) → ltb n 64 ≡ b
      → image_told (cond b (imaged (answer.Refused 27) (blank n)) (timer_imaged w address (blank n))) ≡ (step (call.Reads (call.TimerImage address n)) s).answer
  unfolding timer_imaged size_at timer-words.timer_at read_refusal read_answer timer_image_refusal unknown_timer
  timer-told o e true q = sym (read-refused (call.TimerImage address n) s 27 (ap (λ (b : Bool). cond b 27 (unknown_timer s address)) q) (λ z. omega arith))
  timer-told none e false q =
      ap (λ (b : Bool). image_told (cond b (imaged (answer.Refused 2) (blank n)) (imaged (answer.Count (size_at w (place_of w 2 address))) (timer_image (timer-words.timer_at w (place_of w 2 address)) (blank n)))))
      (eq-eqb (place_of w 2 address) 0 (timer-missing w s _ _ a address e))
      ∙ sym (read-refused (call.TimerImage address n) s 2 (ap (λ (b : Bool). cond b 27 (unknown_timer s address)) q ∙ ap (λ (o : Option Timer). cond (present o) 0 2) e) (λ z. omega arith))
  timer-told (some t) e false q =
      let g = timer-object s.dispatcher.objects address t e in
      ap (λ (b : Bool). image_told (cond b (imaged (answer.Refused 2) (blank n)) (imaged (answer.Count (size_at w (place_of w 2 address))) (timer_image (timer-words.timer_at w (place_of w 2 address)) (blank n)))))
      (timer-known w s _ _ a address t g)
      ∙ ap (timer_image_answer n) (ap (timer-words.timer_at w) (timer-place w s _ _ a address t g) ∙ timer-read w _ t (object-row w s _ _ a address (timer t) g))
      ∙ sym (ap (λ (o : Option Timer). given o None (timer_image_answer n)) e)
      ∙ sym (read_is (call.TimerImage address n) s (ap (λ (b : Bool). cond b 27 (unknown_timer s address)) q ∙ ap (λ (o : Option Timer). cond (present o) 0 2) e))

  pub read-timer-image : image_told (guarded_image w (blank n) (timer_imaged w address (blank n))) ≡ (step (call.Reads (call.TimerImage address n)) s).answer
  read-timer-image = ap image_told (image-is w f n (timer_imaged w address (blank n))) ∙ timer-told (timer_at s.dispatcher.objects address) refl (ltb n 64) refl

  dpc-told : (o : Option Dpc) → dpc_at s.dpcs.table address ≡ o → (b : Bool) → ltb n 64 ≡ b
      → image_told (cond b (imaged (answer.Refused 27) (blank n)) (dpc_imaged w address (blank n))) ≡ (step (call.Reads (call.DpcImage address n)) s).answer
  unfolding dpc_imaged dpc_size_at dpc-words.dpc_at read_refusal read_answer dpc_image_refusal unknown_dpc
  dpc-told o e true q = sym (read-refused (call.DpcImage address n) s 27 (ap (λ (b : Bool). cond b 27 (unknown_dpc s address)) q) (λ z. omega arith))
  dpc-told none e false q =
      ap (λ (b : Bool). image_told (cond b (imaged (answer.Refused 2) (blank n)) (imaged (answer.Count (dpc_size_at w (place_at w (number_of w address)))) (dpc_image (dpc-words.dpc_at w (place_at w (number_of w address))) (blank n)))))
      (number-known w s _ _ a address ∙ ap (λ (o : Option Dpc). not (present o)) e)
      ∙ sym (read-refused (call.DpcImage address n) s 2 (ap (λ (b : Bool). cond b 27 (unknown_dpc s address)) q ∙ ap (λ (o : Option Dpc). cond (present o) 0 2) e) (λ z. omega arith))
  dpc-told (some d) e false q =
      ap (λ (b : Bool). image_told (cond b (imaged (answer.Refused 2) (blank n)) (imaged (answer.Count (dpc_size_at w (place_at w (number_of w address)))) (dpc_image (dpc-words.dpc_at w (place_at w (number_of w address))) (blank n)))))
      (number-known w s _ _ a address ∙ ap (λ (o : Option Dpc). not (present o)) e)
      ∙ ap (dpc_image_answer n) (dpc-whole w s _ _ a address d e)
      ∙ sym (ap (λ (o : Option Dpc). given o None (dpc_image_answer n)) e)
      ∙ sym (read_is (call.DpcImage address n) s (ap (λ (b : Bool). cond b 27 (unknown_dpc s address)) q ∙ ap (λ (o : Option Dpc). cond (present o) 0 2) e))

  pub read-dpc-image : image_told (guarded_image w (blank n) (dpc_imaged w address (blank n))) ≡ (step (call.Reads (call.DpcImage address n)) s).answer
  read-dpc-image = ap image_told (image-is w f n (dpc_imaged w address (blank n))) ∙ dpc-told (dpc_at s.dpcs.table address) refl (ltb n 64) refl
