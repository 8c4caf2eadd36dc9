-- The expiry of due timers: as many words.
use Prim.Native.Nat.{ℕ}
use mathlib.Core.List.{List, [], ◌∷◌}
use mathlib.Core.Path.{◌≡◌, refl, ◌∙◌}
use lib.ListN.{length, length-set}
use Rattle.words.specs.Layout.{entry_at}
use Rattle.objects.specs.Objects.{objects_base}
use Rattle.expiry.specs.Expire.{queued_for, work_queued, unnamed, settled, expired_one, expired_list}
use Rattle.expiry_advance.specs.Advance.{ran, order, expiry_words}
use Rattle.agreement_lengths.proofs.Lengths.{length-cond, cond_same}
use Rattle.agreement_lengths.proofs.Dpc.{length-raised, length-accepted}

length-queued-for : (w : List ℕ) (n place time : ℕ) → length (queued_for w n place time) ≡ length w
unfolding queued_for
length-queued-for w n place time = simp (length-cond, cond_same, length-accepted, length-raised)

length-work-queued : (w : List ℕ) (place time : ℕ) → length (work_queued w place time) ≡ length w
unfolding work_queued
length-work-queued w place time = simp (length-cond, cond_same, length-queued-for)

length-unnamed : (w : List ℕ) (place : ℕ) → length (unnamed w place) ≡ length w
unfolding unnamed
length-unnamed w place = simp (length-cond, cond_same, length-set)

length-settled : (w : List ℕ) (place time : ℕ) → length (settled w place time) ≡ length w
unfolding settled
length-settled w place time = simp (length-cond, cond_same, length-unnamed, length-set)

pub length-expired-one : (w : List ℕ) (place time : ℕ) → length (expired_one w place time) ≡ length w
unfolding expired_one
length-expired-one w place time = simp (length-settled, length-set, length-work-queued)

pub length-expired-list : (w : List ℕ) (base : ℕ) (l : List ℕ) (time : ℕ) → length (expired_list w base l time) ≡ length w
unfolding expired_list
length-expired-list w base [] time = refl
length-expired-list w base (i ∷ is) time =
    length-expired-list (expired_one w (entry_at base i) time) base is time ∙ length-expired-one w (entry_at base i) time

length-ran : (w : List ℕ) (base : ℕ) (l : List ℕ) (time : ℕ) → length (ran w base l time) ≡ length w
unfolding ran
length-ran w base l time = simp (length-cond, cond_same, length-expired-list)

pub length-expiry-words : (w : List ℕ) (time : ℕ) → length (expiry_words w time) ≡ length w
unfolding expiry_words
length-expiry-words w time = length-ran w (objects_base w) (order w time) time
