-- The words of a DPC's record stored: its phase, new work, and the inserted timer that has it.
use Prim.Native.Nat.{ℕ, ◌+◌, ◌*◌, ◌≤◌, ◌<◌}
use mathlib.Core.List.{List, [], ◌∷◌, ◌++◌}
use mathlib.Core.Option.{Option, none, some}
use mathlib.Core.Logic.{◌⊎◌, inl, inr}
use mathlib.Core.Path.{◌≡◌, refl, sym, ap, ◌∙◌, subst}
use native.Mathlib.Omega.{arith}
use lib.ListN.{set, length}
use Rattle.words.specs.Layout as at
use Rattle.images.specs.declared.Dpc.{Dpc}
use Rattle.images.specs.declared.DpcWork.{DpcWork}
use Rattle.images.specs.declared.DpcOrigin.{DpcOrigin}
use Rattle.images.specs.declared.DpcOrigin.TheVariants as origin
use Rattle.images.specs.declared.DpcPhase.{DpcPhase}
use Rattle.images.specs.declared.DpcPhase.TheVariants.{Queued}
use Rattle.images.specs.Place.{architecture_number, backing_kind, backing_base, backing_size, backing_mapped}
use Rattle.objects.specs.Objects.{dpc_found}
use Rattle.dpc_queue.specs.Queue.{origin_put, work_put}
use Rattle.dpc_queue.specs.declared.Origin.{Origin}
use Rattle.model.specs.Lists.{given}
use Rattle.model.specs.State.{State}
use Rattle.model.specs.Dpcs.{address_of, dpc_at, in_phase, put_dpc, rephased, work_of}
use Rattle.model.specs.Step.{with_dpcs}
use Rattle.model.proofs.TableLaws.{found}
use Rattle.agreement_tables.specs.Tables.{below}
use Rattle.agreement_tables.proofs.Lists.{find_at, find-in}
use Rattle.agreement.specs.Row.{Row}
use Rattle.agreement.specs.Records.{flag, dpc_row, work_row, origin_row, phase_number}
use Rattle.agreement.specs.Agree.{dpcs_from, Agreeing}
use Rattle.agreement.proofs.Rows.{Store, store, written, In, row-set, row-less, row_more, row_written, blank}
use Rattle.agreement.proofs.Places.{Unlinked}
use Rattle.agreement.proofs.Tables.{sim-dpc}
use Rattle.agreement.proofs.Objects.{sim-put-dpc}
use Rattle.agreement.proofs.Lookups.{dpc-place, dpc-row}

unlinked : (k : ℕ) → k < 32 → (k ≡ 2 → ⊥) → Unlinked k
unlinked k h n = record { small = h; no-link = n }

-- ---- rows

-- what stands before the work
abbrev pub before_work : ℕ → Dpc → ℕ → List (Option ℕ)
before_work holder d p =
    some d.address ∷ some p ∷ none ∷ some holder
    ∷ some (architecture_number d.architecture) ∷ some (backing_kind d.backing) ∷ some (backing_base d.backing)
    ∷ some (backing_size d.backing) ∷ some (backing_mapped d.backing) ∷ some d.routine ∷ some d.context ∷ []

-- another phase, with the same work or with none
pub phase-row : (w : List ℕ) (place holder : ℕ) (d : Dpc) (p : DpcPhase) → place + 1 < length w → (work_of p ≡ work_of d.phase) ⊎ (work_of p ≡ none)
    → Row w place (dpc_row holder d) → Row (set w (place + at.phase) (phase_number p)) place (dpc_row holder (in_phase d p))
phase-row w place holder d p h (inl e) a =
    subst (λ (x : Option DpcWork). Row (set w (place + at.phase) (phase_number p)) place (before_work holder d (phase_number p) ++ work_row x)) (sym e)
    (row-set w place (dpc_row holder d) 1 (phase_number p) h a)
phase-row w place holder d p h (inr e) a =
    subst (λ (x : Option DpcWork). Row (set w (place + at.phase) (phase_number p)) place (before_work holder d (phase_number p) ++ work_row x)) (sym e)
    (row-less (set w (place + at.phase) (phase_number p)) place (before_work holder d (phase_number p)) (work_row (work_of d.phase)) (row-set w place (dpc_row holder d) 1 (phase_number p) h a))

-- ---- work as the code writes it

abbrev pub stored_origin : DpcOrigin → Origin
stored_origin origin.Caller = record { timer = 0; address = 0; arm = 0; initialization = 0; deadline = 0; observed = 0; periodic = 0 }
stored_origin (origin.Timer address arm initialization deadline observed periodic) =
    record { timer = 1; address = address; arm = arm; initialization = initialization; deadline = deadline; observed = observed; periodic = flag periodic }

abbrev pub work_stores : ℕ → ℕ → ℕ → Origin → List Store
work_stores sequence first second o =
    store at.phase 1 ∷ store at.work_sequence sequence ∷ store at.work_argument first ∷ store at.work_argument2 second ∷ store at.origin o.timer ∷ store at.origin_timer o.address ∷ store at.origin_arm o.arm ∷ store at.origin_initialization o.initialization
    ∷ store at.origin_deadline o.deadline ∷ store at.origin_observed o.observed ∷ store at.origin_periodic o.periodic ∷ []

pub put-work : (w : List ℕ) (place sequence first second : ℕ) (o : Origin) → origin_put (work_put w place sequence first second) place o ≡ written w place (work_stores sequence first second o)
unfolding origin_put work_put
put-work w place sequence first second o = refl

pub work-stores : (sequence first second : ℕ) (o : Origin) → In Unlinked (work_stores sequence first second o)
work-stores sequence first second o = (
  unlinked 1 (omega arith) (λ e. omega arith),
  (
    unlinked 11 (omega arith) (λ e. omega arith),
    (
      unlinked 12 (omega arith) (λ e. omega arith),
      (
        unlinked 13 (omega arith) (λ e. omega arith),
        (
          unlinked 14 (omega arith) (λ e. omega arith),
          (
            unlinked 15 (omega arith) (λ e. omega arith),
            (
              unlinked 16 (omega arith) (λ e. omega arith),
              (
                unlinked 17 (omega arith) (λ e. omega arith),
                (unlinked 18 (omega arith) (λ e. omega arith), (unlinked 19 (omega arith) (λ e. omega arith), (unlinked 20 (omega arith) (λ e. omega arith), tt))),
              ),
            ),
          ),
        ),
      ),
    ),
  ),
)

-- a DPC with new work
pub work-row : (w : List ℕ) (place holder : ℕ) (d : Dpc) (x : DpcWork) → place + 32 ≤ length w → Row w place (dpc_row holder d)
    → Row (written w place (work_stores x.sequence x.first x.second (stored_origin x.origin))) place (dpc_row holder (in_phase d (Queued x)))
work-row w place holder d x h a = go x.origin
  where
    start : Row w place (before_work holder d (phase_number d.phase) ++ blank 10)
    start = row_more w place (before_work holder d (phase_number d.phase)) 10 (row-less w place (before_work holder d (phase_number d.phase)) (work_row (work_of d.phase)) a)

    go : (o : DpcOrigin) → Row (written w place (work_stores x.sequence x.first x.second (stored_origin o))) place
        (before_work holder d 1 ++ (some x.sequence ∷ some x.first ∷ some x.second ∷ origin_row o))
    go origin.Caller = row_written Unlinked w place (before_work holder d (phase_number d.phase) ++ blank 10) (work_stores x.sequence x.first x.second (stored_origin origin.Caller))
        (work-stores x.sequence x.first x.second (stored_origin origin.Caller)) (λ k q. omega (arith, q.small)) start
    go (origin.Timer b c e f g i) = row_written Unlinked w place (before_work holder d (phase_number d.phase) ++ blank 10) (work_stores x.sequence x.first x.second (stored_origin (origin.Timer b c e f g i)))
        (work-stores x.sequence x.first x.second (stored_origin (origin.Timer b c e f g i))) (λ k q. omega (arith, q.small)) start

module _ (w : List ℕ) (s : State) (holder : ℕ → ℕ) (active : ℕ) (a : Agreeing w s holder active) (k : ℕ) (d : Dpc) (e : dpc_at s.dpcs.table k ≡ some d) where
  abbrev place : ℕ
  place = dpcs_from s.limits + 32 * below address_of k s.dpcs.table

  long : place + 32 ≤ length w
  long = let i = find-in address_of s.dpcs.table a.shape.dpcs.rising k d e in omega (arith, a.enough, a.shape.sizes.dpcs_fit)

  named : d.address ≡ k
  named = (found address_of s.dpcs.table k d e).1

  -- the DPC at the address in another phase, as the log has it
  in-phase : (p : DpcPhase) (w' : List ℕ) → Agreeing w' (with_dpcs s (record { table = put_dpc (in_phase d p) s.dpcs.table; queue = s.dpcs.queue; counters = s.dpcs.counters })) holder active
      → Agreeing w' (with_dpcs s (record { table = rephased s.dpcs.table k p; queue = s.dpcs.queue; counters = s.dpcs.counters })) holder active
  in-phase p w' h = subst (λ (o : Option Dpc). Agreeing w' (with_dpcs s (record { table = given o s.dpcs.table (λ x. put_dpc (in_phase x p) s.dpcs.table); queue = s.dpcs.queue; counters = s.dpcs.counters })) holder active) (sym e) h

  -- another phase with the same work or none
  pub sim-phase : (p : DpcPhase) → (work_of p ≡ work_of d.phase) ⊎ (work_of p ≡ none)
      → Agreeing (set w (dpc_found w k + at.phase) (phase_number p)) (with_dpcs s (record { table = rephased s.dpcs.table k p; queue = s.dpcs.queue; counters = s.dpcs.counters })) holder active
  sim-phase p same = subst (λ (b : ℕ). Agreeing (set w (b + at.phase) (phase_number p)) (with_dpcs s (record { table = rephased s.dpcs.table k p; queue = s.dpcs.queue; counters = s.dpcs.counters })) holder active)
      (sym (dpc-place w s holder active a k d e))
      (in-phase p (set w (place + at.phase) (phase_number p))
      (subst (λ (b : ℕ). Agreeing (set w (dpcs_from s.limits + 32 * below address_of b s.dpcs.table + at.phase) (phase_number p))
      (with_dpcs s (record { table = put_dpc (in_phase d p) s.dpcs.table; queue = s.dpcs.queue; counters = s.dpcs.counters })) holder active) named
      (sim-put-dpc w s holder active a d (in_phase d p) holder (store at.phase (phase_number p) ∷ []) (ap (dpc_at s.dpcs.table) named ∙ e) (λ b n. refl) (unlinked 1 (omega arith) (λ q. omega arith), tt)
      (subst (λ (b : ℕ). Row (set w (dpcs_from s.limits + 32 * below address_of b s.dpcs.table + at.phase) (phase_number p)) (dpcs_from s.limits + 32 * below address_of b s.dpcs.table) (dpc_row (holder d.address) (in_phase d p))) (sym named)
      (phase-row w place (holder d.address) d p (omega (arith, long)) same (dpc-row w s holder active a k d e))))))

  -- new work, queued
  pub sim-work : (x : DpcWork)
      → Agreeing (origin_put (work_put w (dpc_found w k) x.sequence x.first x.second) (dpc_found w k) (stored_origin x.origin))
      (with_dpcs s (record { table = rephased s.dpcs.table k (Queued x); queue = s.dpcs.queue; counters = s.dpcs.counters })) holder active
  sim-work x = subst (λ (v : List ℕ). Agreeing v (with_dpcs s (record { table = rephased s.dpcs.table k (Queued x); queue = s.dpcs.queue; counters = s.dpcs.counters })) holder active)
      (sym (put-work w (dpc_found w k) x.sequence x.first x.second (stored_origin x.origin)))
      (subst (λ (b : ℕ). Agreeing (written w b (work_stores x.sequence x.first x.second (stored_origin x.origin))) (with_dpcs s (record { table = rephased s.dpcs.table k (Queued x); queue = s.dpcs.queue; counters = s.dpcs.counters })) holder active)
      (sym (dpc-place w s holder active a k d e))
      (in-phase (Queued x) (written w place (work_stores x.sequence x.first x.second (stored_origin x.origin)))
      (subst (λ (b : ℕ). Agreeing (written w (dpcs_from s.limits + 32 * below address_of b s.dpcs.table) (work_stores x.sequence x.first x.second (stored_origin x.origin)))
      (with_dpcs s (record { table = put_dpc (in_phase d (Queued x)) s.dpcs.table; queue = s.dpcs.queue; counters = s.dpcs.counters })) holder active) named
      (sim-put-dpc w s holder active a d (in_phase d (Queued x)) holder (work_stores x.sequence x.first x.second (stored_origin x.origin)) (ap (dpc_at s.dpcs.table) named ∙ e) (λ b n. refl)
      (work-stores x.sequence x.first x.second (stored_origin x.origin))
      (subst (λ (b : ℕ). Row (written w (dpcs_from s.limits + 32 * below address_of b s.dpcs.table) (work_stores x.sequence x.first x.second (stored_origin x.origin)))
      (dpcs_from s.limits + 32 * below address_of b s.dpcs.table) (dpc_row (holder d.address) (in_phase d (Queued x)))) (sym named)
      (work-row w place (holder d.address) d x long (dpc-row w s holder active a k d e)))))))

  -- the inserted timer that has it
  pub sim-holder : (v : ℕ) (holder' : ℕ → ℕ) → holder' k ≡ v → ((b : ℕ) → (b ≡ k → ⊥) → holder' b ≡ holder b) → Agreeing (set w (dpc_found w k + at.named_by) v) s holder' active
  sim-holder v holder' own others =
      subst (λ (b : ℕ). Agreeing (set w (b + at.named_by) v) s holder' active) (sym (dpc-place w s holder active a k d e))
      (sim-dpc w s holder active a (below address_of k s.dpcs.table) d s.dpcs.table holder' (store at.named_by v ∷ []) (find-in address_of s.dpcs.table a.shape.dpcs.rising k d e)
      (find_at address_of s.dpcs.table a.shape.dpcs.rising k d e) (λ j n. refl) refl (λ j x n q. others x.address (λ z. n (position j x q z))) refl a.shape.dpcs
      (unlinked 3 (omega arith) (λ q. omega arith), tt)
      (subst (λ (h : ℕ). Row (set w (place + at.named_by) v) place (dpc_row h d)) (sym (ap holder' named ∙ own)) (row-set w place (dpc_row (holder d.address) d) 3 v (omega (arith, long)) (dpc-row w s holder active a k d e))))
    where
      position : (j : ℕ) (x : Dpc) → Rattle.model.specs.Lists.nth s.dpcs.table j ≡ some x → x.address ≡ k → j ≡ below address_of k s.dpcs.table
      position j x q z = sym (Rattle.agreement_tables.proofs.Numbers.below-nth address_of s.dpcs.table a.shape.dpcs.rising j x q) ∙ ap (λ (b : ℕ). below address_of b s.dpcs.table) z
