-- How a call ends in a wake pass: words that agree up to a change of owners and signals agree after the pass.
use Prim.Native.Nat.{ℕ}
use mathlib.Core.List.{List}
use mathlib.Core.Option.{some}
use mathlib.Core.Path.{◌≡◌, ◌∙◌}
use Rattle.wakes.specs.Wake.{awake}
use Rattle.model.specs.Table.{Rising}
use Rattle.model.specs.State.{State, Dispatcher, Object}
use Rattle.model.specs.Waits.{key_of, object_at, put_object, wake}
use Rattle.model.specs.Valid.{Standing}
use Rattle.model.specs.Step.{with_dispatcher}
use Rattle.model.proofs.TableLaws.{rising-put}
use Rattle.agreement.specs.Records.{active_address, holder_of}
use Rattle.agreement.specs.Agree.{Agreeing, Agree}
use Rattle.agreement_wakes.proofs.Puts.{held_by, holder-put}
use Rattle.agreement_wakes.proofs.Holders.{Held, held-wake, agree-held}
use Rattle.agreement_wakes.proofs.Wake.{sim-wake}

-- a record in the place of one that has the same DPC, or none as well
pub held-put : (x o : Object) → ((a k : ℕ) → held_by a x k ≡ held_by a o k) → (l : List Object) → Rising key_of l → object_at l (key_of x) ≡ some o → Held l (put_object x l)
held-put x o h l r e = record { rising = rising-put key_of x l r; same = λ a. holder-put a x o (h a) l r e }

-- `d` is the dispatcher just before the pass, and `s` the state before the call
pub agree-awake : (w : List ℕ) (s : State) (d : Dispatcher) → Agreeing w (with_dispatcher s d) (holder_of s.dispatcher.objects) (active_address s.dpcs.table)
    → Held s.dispatcher.objects d.objects → Standing d.threads d.placed d.waiters d.current d.sequence → Agree (awake w) (with_dispatcher s (wake d))
agree-awake w s d a h st =
    let k = held-wake d h.rising in
    agree-held (awake w) s (with_dispatcher s (wake d)) (sim-wake w (with_dispatcher s d) (holder_of s.dispatcher.objects) (active_address s.dpcs.table) a st)
    (record { rising = k.rising; same = λ b. k.same b ∙ h.same b })
