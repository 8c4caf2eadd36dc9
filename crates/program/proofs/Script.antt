-- A line on the program and on the log.
use Prim.Native.Nat.{ℕ, zero, suc, ◌+◌}
use mathlib.Core.List.{List}
use mathlib.Core.Bool.{Bool, true, false, cond}
use mathlib.Core.Path.{◌≡◌, refl, sym, ap, ◌∙◌, subst}
use native.Mathlib.Decide.{ℕ_discrete}
use borrow.Author.Tests.{eq-eqb, ne_eqb}
use lib.Dec.{eqb, ltb}
use lib.ListN.{length, length-set, get_or, set}
use Rattle.std.specs.Prelude as std
use Rattle.std.specs.Prelude.{Ok, Err, ⊤}
use Rattle.answers.specs.declared.Answer as code
use Rattle.answers.specs.declared.Answer.TheVariants as answer
use Rattle.answers.specs.Outcome as code-outcome
use Rattle.answers.specs.Outcome.{outcome}
use Rattle.clock.specs.declared.GuestClock.{GuestClock}
use Rattle.clock.specs.declared.ClockError.{ClockError}
use Rattle.clock.specs.declared.Outcome as clock
use Rattle.dpc_work.specs.WorkAnswer.{WorkAnswer}
use Rattle.dpc_work.specs.WorkAnswer as work
use Rattle.std.specs.Prelude.{is_some}
use Rattle.words.specs.Layout as at
use Rattle.words.specs.Word.{top_bit}
use Rattle.threads.specs.Thread.{thread_count}
use Rattle.dispatcher.specs.Dispatch.{Dispatched, listed_in, listed, listed_to, noted, noted_to, is_waiting}
use Rattle.dispatcher.specs.TimerDue.{next_time}
use Rattle.dispatcher.specs.Dispatched.{dispatched}
use Rattle.std.specs.Prelude.{Option, Some, None}
use Rattle.std.specs.Option.{option_map}
use Rattle.script_lex.specs.declared.command.Command.{Command}
use Rattle.script_print.specs.Print.{bare_answer}
use Rattle.opening.specs.Open as words
use Rattle.model.specs.State.{State}
use Rattle.model.specs.Answer.{Answer, Outcome, gives}
use Rattle.model.specs.Answer as log
use Rattle.model.specs.Call.{Call}
use Rattle.model.specs.Call as call
use Rattle.model.specs.Refusal.{open_refusal, words_needed}
use Rattle.model.specs.Step.{step, refusal}
use Rattle.model.specs.Start.{Start, by_open, Accepted}
use Rattle.model.specs.Valid.{Valid}
use Rattle.model.specs.Fits.{Fits, Numbers}
use Rattle.model.proofs.ListLaws.{not-both}
use Rattle.model.proofs.StepLaws.{valid-step}
use Rattle.model.proofs.FitsLaws.{numbers-step}
use Rattle.model.proofs.StartLaws.{first_step, valid-begun, numbers-begun}
use Rattle.call_answers.specs.Told.{told, told_with, told_work}
use Rattle.calls.specs.Guard as kind
use Rattle.calls.specs.Called.{Reading, tells, images, Meaning, opens, acts, starts, dispatches, reads, meaning, ReadResult, Result, called}
use Rattle.calls.specs.Run.{answered, left, answer_of, words_of, LentTo, Lent}
use Rattle.agreement.specs.Agree.{Agree}
use Rattle.agreement_lengths.proofs.Calls.{keeps-length}
use Rattle.agreement_lengths.proofs.Dispatcher.{length-dispatched}
use Rattle.agreement_form.proofs.Passes.{passes}
use Rattle.agreement.proofs.Matches.{step-refused}
use Rattle.agreement_threads.proofs.Open.{open-refusal}
use Rattle.agreement_threads.proofs.Dispatch.{agree-dispatch}
use Rattle.agreement_calls.proofs.Guards.{dispatch-is}
use Rattle.agreement_calls.proofs.Calls.{matches}
use Rattle.theorem.proofs.Start.{agree-begun}
use Rattle.runner.specs.declared.session.Session.{Session}
use Rattle.runner.specs.declared.session.Step.{Step}
use Rattle.runner.specs.Session as program
use Rattle.commands.specs.Commands.{Shown, shown, ReadShown, read_shown, Asked, nothing, begins, calls, bares, works, dispatching, creates, moves, asks, asked, on_words, sequence_of}
use Rattle.runner.specs.Session.{Performed, performed_as, unchanged, answers_with, gone_on, begun, performed, accepts, opens_with, opened_by}
use Rattle.program.specs.Script.{opening, AskedFits, plain, bare, Logged, unread, by_call, by_clock, when_open, beginning, when_closed, logged}
use Rattle.program.proofs.Speaks.{Speaks, told_with_lem, step-speaks, start-speaks, bare-speaks}

-- ---- answers shown as a number alone

bare-told : (a : code.Answer) → told (bare_answer a) ≡ bare (told a)
unfolding bare_answer
bare-told (answer.Refused n) = refl
bare-told answer.Done = refl
bare-told answer.None = refl
bare-told (answer.Thread n) = refl
bare-told (answer.Flag b) = refl
bare-told (answer.Count n) = refl
bare-told (answer.Satisfied n) = refl
bare-told answer.Timeout = refl
bare-told answer.Blocked = refl
bare-told (answer.Run n) = refl
bare-told (answer.AdvanceTo n) = refl
bare-told (answer.Deadlocked n) = refl
bare-told answer.Finished = refl
bare-told (answer.Event key manual signaled) = refl

work-told : (x : WorkAnswer) → told (sequence_of x) ≡ bare (told_work x)
unfolding sequence_of
work-told (work.Refused n) = refl
work-told (work.Work x) = refl

-- a call that is shown as it is
record ShownAs (w : List ℕ) (m : Meaning) (o : code-outcome.Outcome) (r : Result m) : Type 0 where
  tells-it : told o.answer ≡ answer_of w m r
  leaves : o.words ≡ words_of w m r
  lent : LentTo (length w) m

shows-read : (w : List ℕ) (r : Reading) (p : ReadShown r) (a : ReadResult r) → ShownAs w (reads r) (read_shown w r p a) a
shows-read w (tells kind.plain f) p a = record { tells-it = refl; leaves = refl; lent = tt }
shows-read w (tells kind.threads f) p a = absurd p
shows-read w (tells kind.places f) p a = absurd p
shows-read w (tells kind.timers f) p a = absurd p
shows-read w (tells kind.dpcs f) p a = absurd p
shows-read w (tells kind.policies f) p a = absurd p
shows-read w (tells kind.counts f) p a = absurd p
shows-read w (images n f) p a = absurd p

shows : (w : List ℕ) (m : Meaning) (p : Shown m) (r : Result m) → ShownAs w m (shown w m p r) r
shows w (opens n f) p r = absurd p
shows w (acts f) p r = record { tells-it = refl; leaves = refl; lent = tt }
shows w (starts f) p r = absurd p
shows w (dispatches n) p r = absurd p
shows w (reads r) p a = shows-read w r p a

-- ---- a dispatch keeps the length of its output

length-listed : (m : ℕ) (w out : List ℕ) (id k : ℕ) → length (listed_in m w out id k) ≡ length out
unfolding listed_in noted
length-listed zero w out id k = refl
length-listed (suc m) w out id k = length-listed m w (noted w out id k) (id + 1) (noted_to w id k) ∙ go (is_waiting w id)
  where
    go : (b : Bool) → length (cond b (set out k id) out) ≡ length out
    go true = length-set out k id
    go false = refl

record Keeps (out : List ℕ) (x : Dispatched) : Type 0 where
  same : length x.output ≡ length out

one_of : (out : List ℕ) (b : Bool) (x y : Dispatched) → Keeps out x → Keeps out y → Keeps out (cond b x y)
one_of out true x y h k = h
one_of out false x y h k = k

length-output : (w out : List ℕ) → length (dispatched w out).output ≡ length out
unfolding dispatched listed
length-output w out =
    (one_of out (ltb (length out) (get_or w at.thread_limit 0)) _ _ (record { same = refl }) (one_of out (eqb (get_or w at.current 0) 0) _ _
    (one_of out (eqb (top_bit (get_or w at.ready 0)) 0) _ _
    (one_of out (is_some (next_time w)) _ _ (record { same = refl }) (one_of out (eqb (listed_to w) 0) _ _ (record { same = length-listed (thread_count w) w out 1 0 }) (record { same = length-listed (thread_count w) w out 1 0 })))
    (record { same = refl }))
    (record { same = refl }))).same

-- ---- words and log

-- the words tell what the log tells
record Agrees (w : List ℕ) (st : State) : Type 0 where
  agree : Agree w st
  valid : Valid st
  numbers : Numbers st

pub record Stands (w out : List ℕ) (s : Session) (st : State) : Type 0 where
  pub long : length w ≡ words_needed 16 64 64
  pub room : length out ≡ 16
  agrees : s.opened ≡ true → Agrees w st

-- a line on the program and on the log
pub record Same (d : Performed) (l : Logged) : Type 0 where
  pub answer : told_with d.waiting d.step.answer ≡ l.answer
  pub session : d.step.session ≡ l.session
  pub stands : Stands d.words d.waiting l.session l.state

module _ (w out : List ℕ) (s : Session) (st : State) (h : Stands w out s st) where
  skips : Same (performed_as (unchanged s (answer.Refused 28)) w out) (unread s st)
  skips = record { answer = refl; session = refl; stands = h }

  -- ---- after an `open`

  module _ (open-now : s.opened ≡ true) where
    here : Agrees w st
    here = h.agrees open-now

    by_call_lem : (shown : Answer → Answer) (c : Call) (x : code.Answer) (after : List ℕ) → told x ≡ shown (answered w c) → after ≡ left w c
        → Speaks (shown (step c st).answer) → Fits c → Lent (length w) c → Same (performed_as (unchanged s x) after out) (by_call s shown (step c st))
    by_call_lem shown c x after e q speaks fit lent =
        let k = matches w st here.agree here.valid here.numbers c fit lent in
        record {
          answer = told_with_lem out x _ (e ∙ ap shown k.answers) speaks;
          session = refl;
          stands = record {
            long = ap length q ∙ keeps-length w c ∙ h.long;
            room = h.room;
            agrees = λ z. record {
              agree = subst (λ (v : List ℕ). Agree v (step c st).state) (sym q) k.agree;
              valid = valid-step st here.valid c;
              numbers = numbers-step st here.valid here.numbers c fit;
            };
          };
        }

    plainly : (c : Call) (p : Shown (meaning c)) → Fits c → Same (answers_with s out (shown w (meaning c) p (called w c))) (by_call s plain (step c st))
    plainly c p fit =
        let k = shows w (meaning c) p (called w c) in
        by_call_lem plain c _ _ k.tells-it k.leaves (step-speaks c p st) fit k.lent

    barely : (c : Call) (p : Shown (meaning c)) → Fits c
        → let o = shown w (meaning c) p (called w c) in Same (answers_with s out (outcome (bare_answer o.answer) o.words)) (by_call s bare (step c st))
    barely c p fit =
        let k = shows w (meaning c) p (called w c) in
        by_call_lem bare c _ _ (bare-told (shown w (meaning c) p (called w c)).answer ∙ ap bare k.tells-it) k.leaves (bare-speaks _ (step-speaks c p st)) fit k.lent

    dispatch-by : (x : Dispatched) → dispatched w out ≡ x → Same (performed_as (unchanged s x.answer) x.words x.output) (by_call s plain (step (call.Dispatch 16) st))
    dispatch-by x e = subst (λ (y : Dispatched). Same (performed_as (unchanged s y.answer) y.words y.output) (by_call s plain (step (call.Dispatch 16) st))) e (
        let k = agree-dispatch w st here.agree here.valid out in
        record {
          answer = k.answers ∙ ap (λ (n : ℕ). (step (call.Dispatch n) st).answer) h.room;
          session = refl;
          stands = record {
            long = length-dispatched w out ∙ h.long;
            room = length-output w out ∙ h.room;
            agrees = λ z. record {
              agree = subst (λ (n : ℕ). Agree (dispatched w out).words (step (call.Dispatch n) st).state) h.room k.agree;
              valid = valid-step st here.valid (call.Dispatch 16);
              numbers = numbers-step st here.valid here.numbers (call.Dispatch 16) tt;
            };
          };
        })

    dispatch-same : let o : Dispatched = called w (call.Dispatch (length out)) out in
        Same (performed_as (unchanged s o.answer) o.words o.output) (by_call s plain (step (call.Dispatch 16) st))
    unfolding called
    dispatch-same = dispatch-by _ (sym (dispatch-is w (passes w st here.agree here.valid here.numbers) out))

    -- a call of the clock
    by-clock : (x : Step) → Speaks (told x.answer) → x.session.opened ≡ s.opened → Same (performed_as x w out) (by_clock st x)
    by-clock x speaks q = record { answer = told_with_lem out x.answer _ refl speaks; session = refl; stands = record { long = h.long; room = h.room; agrees = λ z. h.agrees (sym q ∙ z) } }

    created-same : (made : std.Result GuestClock ClockError) → Same (performed_as (program.new_clock s made) w out) (by_clock st (program.new_clock s made))
    unfolding program.new_clock
    created-same (Ok c) = by-clock _ (record { it = tt }) refl
    created-same (Err why) = by-clock _ (record { it = tt }) refl

    moved_same : (o : Option clock.Outcome) → Same (performed_as (program.moved s o) w out) (by_clock st (program.moved s o))
    unfolding program.moved program.done_answer
    moved_same None = by-clock _ (record { it = tt }) refl
    moved_same (Some o) = by-clock _ (done o.answer) refl
      where
        done : (x : std.Result ⊤ ClockError) → Speaks (told (program.done_answer x))
        done (Ok x) = record { it = tt }
        done (Err why) = record { it = tt }

    told_same : (r : Option (std.Result ℕ ClockError)) → Same (performed_as (program.told s r) w out) (by_clock st (program.told s r))
    unfolding program.told program.reading_answer
    told_same None = by-clock _ (record { it = tt }) refl
    told_same (Some (Ok n)) = by-clock _ (record { it = tt }) refl
    told_same (Some (Err why)) = by-clock _ (record { it = tt }) refl

    performs : (m : Asked) → AskedFits m → Same (gone_on w out s m) (when_open s st m)
    unfolding gone_on on_words when_open
    performs nothing fit = skips
    performs (begins p) fit = skips
    performs (calls c p) fit = plainly c p fit
    performs (bares c p) fit = barely c p fit
    performs (works address) fit = by_call_lem bare (call.StartDpc address) _ _ (work-told (called w (call.StartDpc address)).answer) refl (bare-speaks _ (start-speaks address st)) fit tt
    performs dispatching fit = dispatch-same
    performs (creates made) fit = created-same made
    performs (moves f) fit = moved_same (option_map f s.clock)
    performs (asks f) fit = told_same (option_map f s.clock)

  -- ---- before an `open`

  module _ (not_yet : s.opened ≡ false) where
    -- the log of an `open` has as many words as the program lends
    refusal_is : (p : ℕ) → open_refusal (words_needed 16 64 64) p 16 64 64 ≡ open_refusal (length w) p 16 64 64
    refusal_is p = ap (λ (n : ℕ). open_refusal n p 16 64 64) (sym h.long)

    abbrev start : ℕ → Start
    start p = by_open p 16 64 64

    abbrev with-opened : Bool → Session
    with-opened b = record { opened = b; clock = s.clock }

    opened-is : (p : ℕ) (b : Bool) → eqb (words.open_refusal w p 16 64 64) 0 ≡ b
        → opens_with w p ≡ cond b (outcome answer.Done (words.started w p 16 64 64)) (outcome (answer.Refused (words.open_refusal w p 16 64 64)) w)
    unfolding called words.opened
    opened-is p b e = ap (λ (x : Bool). cond x (outcome answer.Done (words.started w p 16 64 64)) (outcome (answer.Refused (words.open_refusal w p 16 64 64)) w)) e

    accepted-same : (p : ℕ) → Accepted (length w) (start p) → Same (performed_as (opened_by s (opens_with w p).answer) (opens_with w p).words out) (beginning s st p)
    unfolding accepts
    accepted-same p e =
        let x = opened-is p true (eq-eqb (words.open_refusal w p 16 64 64) 0 (open-refusal w p 16 64 64 ∙ e)) in
        let l = first_step (words_needed 16 64 64) (start p) (refusal_is p ∙ e) st in
        let after = ap (λ (y : Outcome). y.state) l in
        record {
          answer = ap (λ (y : code-outcome.Outcome). told_with out y.answer) x ∙ sym (ap (λ (y : Outcome). y.answer) l);
          session = ap with-opened (ap (λ (y : code-outcome.Outcome). accepts y.answer) x ∙ sym (eq-eqb (open_refusal (words_needed 16 64 64) p 16 64 64) 0 (refusal_is p ∙ e)));
          stands = record {
            long = keeps-length w (call.Open (length w) p 16 64 64) ∙ h.long;
            room = h.room;
            agrees = λ z. record {
              agree = subst (Agree (opens_with w p).words) (sym after) (agree-begun w (start p) e);
              valid = subst Valid (sym after) (valid-begun (length w) (start p) e);
              numbers = subst Numbers (sym after) (numbers-begun (length w) (start p) e);
            };
          };
        }

    refused-same : (p : ℕ) → (open_refusal (length w) p 16 64 64 ≡ 0 → ⊥)
        → Same (performed_as (opened_by s (opens_with w p).answer) (opens_with w p).words out) (beginning s st p)
    unfolding refusal accepts
    refused-same p n =
        let x = opened-is p false (ne_eqb (words.open_refusal w p 16 64 64) 0 (λ z. n (sym (open-refusal w p 16 64 64) ∙ z))) in
        let r : open_refusal (words_needed 16 64 64) p 16 64 64 ≡ 0 → ⊥ = λ z. n (sym (refusal_is p) ∙ z) in
        let l : step (opening p) st ≡ gives (log.Refused (open_refusal (words_needed 16 64 64) p 16 64 64)) st = step-refused (opening p) st (open_refusal (words_needed 16 64 64) p 16 64 64) refl r in
        let shut = ne_eqb (open_refusal (words_needed 16 64 64) p 16 64 64) 0 r in
        record {
          answer = ap (λ (y : code-outcome.Outcome). told_with out y.answer) x ∙ ap log.Refused (open-refusal w p 16 64 64 ∙ sym (refusal_is p)) ∙ sym (ap (λ (y : Outcome). y.answer) l);
          session = ap with-opened (ap (λ (y : code-outcome.Outcome). accepts y.answer) x ∙ sym shut);
          stands = record {
            long = ap (λ (y : code-outcome.Outcome). length y.words) x ∙ h.long;
            room = h.room;
            agrees = λ z. absurd (not-both (sym z ∙ shut));
          };
        }

    opens-same : (p : ℕ) → Same (performed_as (opened_by s (opens_with w p).answer) (opens_with w p).words out) (beginning s st p)
    opens-same p = go (ℕ_discrete (open_refusal (length w) p 16 64 64) 0)
      where
        go : Dec (open_refusal (length w) p 16 64 64 ≡ 0) → Same (performed_as (opened_by s (opens_with w p).answer) (opens_with w p).words out) (beginning s st p)
        go (yes e) = accepted-same p e
        go (no n) = refused-same p n

    begins-as : (m : Asked) → Same (begun w out s m) (when_closed s st m)
    unfolding begun when_closed
    begins-as nothing = skips
    begins-as (begins p) = opens-same p
    begins-as (calls c p) = skips
    begins-as (bares c p) = skips
    begins-as (works address) = skips
    begins-as dispatching = skips
    begins-as (creates made) = skips
    begins-as (moves f) = skips
    begins-as (asks f) = skips

  -- ---- a line, whose numbers of a wait stand in a list

  pub follows : (list : List ℕ) (c : Option Command) → AskedFits (asked list c) → Same (performed w out list s c) (logged s st (asked list c))
  unfolding performed
  follows list c fit = go s.opened refl
    where
      go : (b : Bool) → s.opened ≡ b → Same (cond b (gone_on w out s (asked list c)) (begun w out s (asked list c))) (cond b (when_open s st (asked list c)) (when_closed s st (asked list c)))
      go true e = performs e (asked list c) fit
      go false e = begins-as e (asked list c)

-- before the first line nothing is asked of the words
pub at_first : (w out : List ℕ) (st : State) → length w ≡ words_needed 16 64 64 → length out ≡ 16 → Stands w out program.begin st
unfolding program.begin
at_first w out st long room = record { long = long; room = room; agrees = λ z. absurd (not-both (sym z)) }
