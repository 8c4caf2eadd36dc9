-- The duplicates that `dpc_counters` answers are the inserts that answered no plus the expiries at queued work, and the acceptances the inserts
-- that answered yes plus the other expiries with a DPC.
use Prim.Native.Nat.{ℕ}
use mathlib.Core.List.{List, [], ◌∷◌}
use mathlib.Core.Path.{◌≡◌, refl, sym, ◌∙◌, subst}
use mathlib.Core.Logic.{inl}
use lib.ListN.{length}
use Rattle.calls.specs.Run.{answered, left, Lent}
use Rattle.model.specs.State.{State, Counters}
use Rattle.model.specs.Answer.{CountersAre}
use Rattle.model.specs.Call.{Call}
use Rattle.model.specs.Call as call
use Rattle.model.specs.Step.{step}
use Rattle.model.specs.Start.{Start, first_call, Accepted, begun}
use Rattle.model.specs.Valid.{Valid}
use Rattle.model.specs.Fits.{Fits, Numbers}
use Rattle.model.proofs.StepLaws.{valid-step}
use Rattle.model.proofs.FitsLaws.{numbers-step}
use Rattle.model.proofs.StartLaws.{valid-begun, numbers-begun}
use Rattle.agreement.specs.Agree.{Agree}
use Rattle.agreement_lengths.proofs.Calls.{keeps-length}
use Rattle.agreement_calls.proofs.Calls.{matches}
use Rattle.model.specs.Sums.{Adds, Sums}
use Rattle.model.proofs.Told.{asked}
use Rattle.model.proofs.Asking.{SameReads, same-adds}
use Rattle.model.proofs.SumsLaws.{ran}
use Rattle.model.proofs.SumsLaws as log
use Rattle.theorem.specs.History.{Proper}
use Rattle.theorem.specs.Theorem.{logged, end}
use Rattle.theorem.proofs.Agreed.{proper-rest}
use Rattle.theorem.proofs.Start.{agree-begun}
use Rattle.corollaries.proofs.Next.{next, next-but-one, valid}

-- the sums by the words' answers are those by the log's, on words that agree with it
on-log : (cs : List Call) (w : List ℕ) (s : State) → Agree w s → Valid s → Numbers s → Proper (length w) cs → (d a e b : ℕ) → Sums answered left w cs d a e b → Sums asked ran s cs d a e b
on-log [] w s g v n h d a e b z = z
on-log (c ∷ cs) w s g v n h d a e b z =
    let m = matches w s g v n c (h.fit c (inl refl)) (h.lent c (inl refl)) in (
      z.0,
      z.1,
      same-adds (answered w) (asked s) (λ r. sym (matches w s g v n (call.Reads r) tt tt).answers) c (sym m.answers) d a z.0 z.1 z.2,
      on-log cs (left w c) (step c s).state m.agree (valid-step s v c) (numbers-step s v n c (h.fit c (inl refl))) (proper-rest w c cs h) z.0 z.1 e b z.3,
    )

-- and the other way
on-words : (cs : List Call) (w : List ℕ) (s : State) → Agree w s → Valid s → Numbers s → Proper (length w) cs → (d a e b : ℕ) → Sums asked ran s cs d a e b → Sums answered left w cs d a e b
on-words [] w s g v n h d a e b z = z
on-words (c ∷ cs) w s g v n h d a e b z =
    let m = matches w s g v n c (h.fit c (inl refl)) (h.lent c (inl refl)) in (
      z.0,
      z.1,
      same-adds (asked s) (answered w) (λ r. (matches w s g v n (call.Reads r) tt tt).answers) c m.answers d a z.0 z.1 z.2,
      on-words cs (left w c) (step c s).state m.agree (valid-step s v c) (numbers-step s v n c (h.fit c (inl refl))) (proper-rest w c cs h) z.0 z.1 e b z.3,
    )

module _ (w : List ℕ) (start : Start) (calls : List Call) (accepted : Accepted (length w) start) (proper : Proper (length w) calls) where
  abbrev words : List ℕ
  words = end w start calls

  -- the words after the start, where both sums are 0
  abbrev opened : List ℕ
  opened = left w (first_call (length w) start)

  proper-opened : Proper (length opened) calls
  proper-opened = subst (λ (n : ℕ). Proper n calls) (sym (keeps-length w (first_call (length w) start))) proper

  -- whoever adds up what the calls answered, and the expiries that the reads tell of before each advance, has what `dpc_counters` answers
  pub counters-are : (e b : ℕ) → Sums answered left opened calls 0 0 e b
      → (c : Counters) × (answered words (call.Reads call.DpcCounters) ≡ CountersAre c) × (c.duplicates ≡ e) × (c.accepted ≡ b)
  counters-are e b z =
      let r = log.counters-are (length w) start accepted calls e b
      (on-log calls opened (begun start) (agree-begun w start accepted) (valid-begun (length w) start accepted) (numbers-begun (length w) start accepted) proper-opened 0 0 e b z) in
      (r.0, (next w start calls accepted proper (call.Reads call.DpcCounters) tt tt).answers ∙ r.1, r.2, r.3)

  -- and they can be added up
  pub sums : (e b : ℕ) × Sums answered left opened calls 0 0 e b
  sums =
      let r = log.sums (length w) start accepted calls in
      (r.0, r.1, on-words calls opened (begun start) (agree-begun w start accepted) (valid-begun (length w) start accepted) (numbers-begun (length w) start accepted) proper-opened 0 0 r.0 r.1 r.2)

  -- one call more: the counts that are read before it and after it differ by what it adds
  pub call-adds : (c : Call) → Fits c → Lent (length w) c → (x : Counters) → answered words (call.Reads call.DpcCounters) ≡ CountersAre x → (e b : ℕ) → Adds (answered words) c x.duplicates x.accepted e b
      → (y : Counters) × (answered (left words c) (call.Reads call.DpcCounters) ≡ CountersAre y) × (y.duplicates ≡ e) × (y.accepted ≡ b)
  call-adds c fit lent x q e b h =
      let s = logged w start calls in
      let reads : SameReads (answered words) (asked s) = λ r. sym (next w start calls accepted proper (call.Reads r) tt tt).answers in
      let k = log.call-adds s (valid w start calls accepted proper) c x (reads call.DpcCounters ∙ q) e b
      (same-adds (answered words) (asked s) reads c (sym (next w start calls accepted proper c fit lent).answers) x.duplicates x.accepted e b h) in
      (k.0, (next-but-one w start calls accepted proper c (call.Reads call.DpcCounters) fit lent tt tt).answers ∙ k.1, k.2, k.3)
