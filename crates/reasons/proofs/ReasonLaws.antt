-- The words behind a name, at each of them.
use mathlib.Core.Path.{◌≡◌, refl, sym}
use mathlib.Core.Bool.{true, false, false≢true}
use mathlib.Core.List.{List, [], ◌∷◌}
use Prim.Native.Nat.{ℕ, ◌+◌, ◌≤◌, ◌<◌}
use native.Mathlib.Omega.{arith}
use lib.ListN.{length, get_or, drop, length-drop}
use lib.Seq.{drop-cons}
use lib.Dec.{eqb}
use Rattle.reasons.specs.declared.Reason.TheVariants as reason
use Rattle.reasons.proofs.WordLaws.{not-empty}
use Rattle.std.specs.Prelude.{Option, Some, None}
use Rattle.reasons.specs.declared.Reason.{Reason}
use Rattle.script_lex.specs.Text.{bytes_of}
use Rattle.script_lex.specs.Names as name
use Rattle.script_lex.specs.Words.{blank, grown, pieces, full, words_of, first, others, none}
use Rattle.script_lex.proofs.WordLaws.{words-few}
use Rattle.reasons.specs.Grammar.{grammar, clock_grammar}
use Rattle.reasons.specs.Reasons.{is_fine, continued, word_reason, next_of, kind_at, end_reason, reason_from, form_reason}

pub reason-end : (form : List ℕ) (i p : ℕ) (ws : List (List ℕ)) → none ws ≡ true → reason_from form i p ws ≡ end_reason p (kind_at form i)
unfolding none reason_from
reason-end form i p [] e = refl
reason-end form i p (w ∷ ws) e = absurd (false≢true e)

pub reason-stop : (form : List ℕ) (i p : ℕ) (ws : List (List ℕ)) → none ws ≡ false → is_fine (word_reason (kind_at form i) p (first ws)) ≡ false
    → reason_from form i p ws ≡ word_reason (kind_at form i) p (first ws)
unfolding none reason_from first continued
reason-stop form i p [] e f = absurd (false≢true (sym e))
reason-stop form i p (w ∷ ws) e f = simp f

pub reason-more : (form : List ℕ) (i p : ℕ) (ws : List (List ℕ)) → none ws ≡ false → is_fine (word_reason (kind_at form i) p (first ws)) ≡ true
    → reason_from form i p ws ≡ reason_from form (next_of (kind_at form i) (first ws) i) (p + 1) (others ws)
unfolding none reason_from first others continued
reason-more form i p [] e f = absurd (false≢true (sym e))
reason-more form i p (w ∷ ws) e f = simp f

-- a form that a word names, and none
pub form-none : (f : List ℕ) (p : ℕ) (ws : List (List ℕ)) → eqb (length f) 0 ≡ true → form_reason f p ws ≡ Some (reason.UnknownWord p)
unfolding form_reason
form-none [] p ws e = refl
form-none (k ∷ f) p ws e = absurd (not-empty f k e)

pub form-reason : (f : List ℕ) (p : ℕ) (ws : List (List ℕ)) → eqb (length f) 0 ≡ false → form_reason f p ws ≡ reason_from f 0 (p + 1) ws
unfolding form_reason
form-reason [] p ws e = absurd (false≢true (sym e))
form-reason (k ∷ f) p ws e = refl

pub default : (l : List ℕ) (i d e : ℕ) → i < length l → get_or l i d ≡ get_or l i e
default l i d e h = cc (drop-cons l i d h, drop-cons l i e h)

pub no_reason : (r : Option Reason) → ((x : Reason) → r ≡ Some x → ⊥) → is_fine r ≡ true
unfolding is_fine
no_reason None q = refl
no_reason (Some x) q = absurd (q x refl)

-- ---- how many words there are

pub few_words : (s : List ℕ) (from : ℕ) → length s ≤ 4096 → length (words_of (drop from s)) ≤ 4096
few_words s from h = omega (arith, words-few (drop from s), length-drop from s)

pub one_fewer : (ws : List (List ℕ)) → none ws ≡ false → length (others ws) + 1 ≡ length ws
unfolding none others
one_fewer [] e = absurd (false≢true (sym e))
one_fewer (w ∷ ws) e = omega arith

-- ---- the code's texts

pub flags : words_of (bytes_of "0 1") ≡ bytes_of "0" ∷ bytes_of "1" ∷ []
unfolding blank grown pieces full words_of
flags = refl

pub architectures : words_of (bytes_of "x64 x86") ≡ name.x64 ∷ name.x86 ∷ []
unfolding blank grown pieces full words_of
architectures = refl

pub backings : words_of (bytes_of "image pool") ≡ name.image ∷ name.pool ∷ []
unfolding blank grown pieces full words_of
backings = refl

pub sets : words_of (bytes_of "any all") ≡ name.any ∷ name.all ∷ []
unfolding blank grown pieces full words_of
sets = refl

pub kinds : words_of (bytes_of "mutex event timer thread") ≡ name.mutex ∷ name.event ∷ name.timer ∷ name.thread ∷ []
unfolding blank grown pieces full words_of
kinds = refl

pub clock-table : words_of (bytes_of "new nniw instruction . flush_cycles . observe . qpc . tick64 . tsc . advance_microseconds n advance_100ns n advance_milliseconds w") ≡ clock_grammar
unfolding blank grown pieces full words_of clock_grammar
clock-table = refl

pub table : words_of (bytes_of "wait stbkv open b event nff create b dispatch . set n yield . initialize_mutex n adopt_mutex no mutex_owner n mutex_waiters n release_mutex n reset_event n require_event_release nnn retire_event_backing nnn current . priority nb terminate w delay_until nb advance_to n initialize_timer namnnnf set_timer nnfin cancel_timer n timer_initializations . timer_read_overlap nn timer_metadata_overlap nn require_timer_release nn retire_timer_backing nn initialize_dpc namnnnnn dpc_initializations . configure_dpc_dispatch nn queued_dpcs n insert_queue_dpc nnn remove_queue_dpc n start_dpc n returned_dpc nn restored_dpc nn") ≡ grammar
unfolding blank grown pieces full words_of grammar
table = refl
