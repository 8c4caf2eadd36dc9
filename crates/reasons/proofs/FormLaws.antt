-- The lines by their forms: what each reader reads is what fits its form.
use mathlib.Core.Path.{◌≡◌, refl, sym, ap, ◌∙◌}
use mathlib.Core.Bool.{Bool, cond, true, false, ◌&&◌}
use mathlib.Core.List.{List, [], ◌∷◌}
use Prim.Native.Nat.{ℕ, ◌+◌, ◌%◌, ◌≤◌, ◌<◌}
use native.Mathlib.Omega.{arith}
use borrow.Author.Tests.{lt-ltb, eq-eqb, ne_eqb}
use lib.ListN.{length, set, length-set}
use lib.IntN.{ℤ}
use Rattle.std.specs.Prelude.{Option, Some, None}
use Rattle.arch.specs.declared.Architecture.{Architecture}
use Rattle.images.specs.declared.TimerBacking.{TimerBacking}
use Rattle.script_lex.specs.declared.location.Location.{Location}
use Rattle.script_lex.specs.declared.command.Command.{Command}
use Rattle.script_lex.specs.declared.command.Command.TheVariants as command
use Rattle.script_lex.specs.Text.{bytes_of}
use Rattle.script_lex.specs.Names as name
use Rattle.script_lex.specs.Words.{first, others, none, same}
use Rattle.script_lex.specs.Numbers.{number_of, signed_of}
use Rattle.script_lex.specs.Arguments.{most, flag_of, one_of, join_two, two_of, join_three, three_of, with_one, with_two, with_three, bare_line}
use Rattle.script_lex.specs.Location.{architecture_of, image_of, pool_of, image_line, pool_line, backing_of, behind_backing, placed, location_of, behind_location, with_location}
use Rattle.script_lex.proofs.Cases.{either}
use Rattle.script_timers.specs.Clock.{new_of, new_behind, new_line}
use Rattle.script_timers.specs.Dpc.{routine_behind, initialize_dpc_line}
use Rattle.script_timers.specs.Timers.{manual_of, manual_behind, initialize_timer_line, set_of, set_behind, set_timer_line}
use Rattle.script.specs.Scheduler.{with_flags, flagged, event_line, owned_by, adopt_line}
use Rattle.script.specs.Wait.{kind_of, item_of, is_read, told, pairs_of, wait_command, with_irql, wait_from, with_deadline, wait_until, wait_line}
use Rattle.reasons.specs.Read.{reads}
use Rattle.reasons.specs.Reasons.{is_fine, listed, kind_at, end_reason, reason_from, form_reason}
use Rattle.reasons.proofs.FitLaws.{signed_read, flag_read, arch_read, or_read, ends, Numeric, bits64, bits8, bits32, number-then, signed-then, flag-then, arch-then, owner-then, time-then, set_then, backing-then, kind-then, key-then}

-- the command is read exactly if the words fit the form
pub data Agree (c : Option Command) (form : List ℕ) (p : ℕ) (ws : List (List ℕ)) : Type 0 where
  agree : reads c ≡ is_fine (form_reason form p ws) → Agree c form p ws

and-true : (x : Bool) → (x && true) ≡ x
and-true true = refl
and-true false = refl

and-false : (x : Bool) → (x && false) ≡ false
and-false true = refl
and-false false = refl

and_assoc : (x y z : Bool) → ((x && y) && z) ≡ (x && (y && z))
and_assoc true y z = refl
and_assoc false y z = refl

-- ---- the readers

bare-reads : (c : Command) (ws : List (List ℕ)) → reads (bare_line c ws) ≡ none ws
unfolding bare_line reads
bare-reads c ws = either (none ws) (λ e. simp e) (λ e. simp e)

with-one : (f : ℕ → Option Command) (b : Bool) → ((n : ℕ) → reads (f n) ≡ b) → (n : Option ℕ) → reads (with_one f n) ≡ (is_read n && b)
unfolding with_one is_read reads
with-one f b h None = refl
with-one f b h (Some n) = h n

one-read : (limit : ℕ) (ws : List (List ℕ)) → is_read (one_of limit ws) ≡ (is_read (number_of limit (first ws)) && none (others ws))
unfolding one_of is_read
one-read limit ws = either (none (others ws)) (λ e. simp e (sym (and-true (is_read (number_of limit (first ws)))))) (λ e. simp e (sym (and-false (is_read (number_of limit (first ws))))))

one-reads : (f : ℕ → Option Command) → ((n : ℕ) → reads (f n) ≡ true) → (limit : ℕ) (ws : List (List ℕ)) → reads (with_one f (one_of limit ws)) ≡ (is_read (number_of limit (first ws)) && none (others ws))
one-reads f h limit ws = with-one f true h (one_of limit ws) ∙ and-true (is_read (one_of limit ws)) ∙ one-read limit ws

two_read : Option (ℕ × ℕ) → Bool
two_read None = false
two_read (Some (a, b)) = true

three_read : Option (ℕ × ℕ × ℕ) → Bool
three_read None = false
three_read (Some (a, b, d)) = true

join-two : (m n : Option ℕ) → two_read (join_two m n) ≡ (is_read m && is_read n)
unfolding join_two is_read two_read
join-two (Some a) (Some b) = refl
join-two (Some a) None = refl
join-two None n = refl

two-read : (a b : ℕ) (ws : List (List ℕ)) → two_read (two_of a b ws) ≡ (is_read (number_of a (first ws)) && (is_read (number_of b (first (others ws))) && none (others (others ws))))
unfolding two_of
two-read a b ws = join-two (number_of a (first ws)) (one_of b (others ws)) ∙ ap (λ (x : Bool). is_read (number_of a (first ws)) && x) (one-read b (others ws))

two-reads : (f : ℕ → ℕ → Option Command) → ((a b : ℕ) → reads (f a b) ≡ true) → (t : Option (ℕ × ℕ)) → reads (with_two f t) ≡ two_read t
unfolding with_two reads two_read
two-reads f h None = refl
two-reads f h (Some (a, b)) = h a b

join-three : (m : Option ℕ) (t : Option (ℕ × ℕ)) → three_read (join_three m t) ≡ (is_read m && two_read t)
unfolding join_three is_read two_read three_read
join-three (Some a) (Some (b, d)) = refl
join-three (Some a) None = refl
join-three None t = refl

three-read : (ws : List (List ℕ)) → three_read (three_of ws)
    ≡ (is_read (number_of most (first ws)) && (is_read (number_of most (first (others ws))) && (is_read (number_of most (first (others (others ws)))) && none (others (others (others ws))))))
unfolding three_of
three-read ws = join-three (number_of most (first ws)) (two_of most most (others ws)) ∙ ap (λ (x : Bool). is_read (number_of most (first ws)) && x) (two-read most most (others ws))

three-reads : (f : ℕ → ℕ → ℕ → Option Command) → ((a b d : ℕ) → reads (f a b d) ≡ true) → (t : Option (ℕ × ℕ × ℕ)) → reads (with_three f t) ≡ three_read t
unfolding with_three reads three_read
three-reads f h None = refl
three-reads f h (Some (a, b, d)) = h a b d

-- ---- lines of numbers

module _ (p : ℕ) (ws : List (List ℕ)) where
  pub bare-line : (c : Command) → Agree (bare_line c ws) (bytes_of ".") p ws
  unfolding form_reason
  bare-line c = agree (bare-reads c ws ∙ sym (ends (bytes_of ".") 0 (p + 1) ws refl))

  pub one_line : {k limit : ℕ} → Numeric k limit → (f : ℕ → Option Command) → ((n : ℕ) → reads (f n) ≡ true) → Agree (with_one f (one_of limit ws)) (k ∷ []) p ws
  unfolding form_reason
  one_line {k} {limit} q f h =
      agree (simp (number-then (k ∷ []) 0 (p + 1) ws q refl, ends (k ∷ []) 1 (p + 1 + 1) (others ws) refl) (one-reads f h limit ws))

  pub two-line : {j k a b : ℕ} → Numeric j a → Numeric k b → (f : ℕ → ℕ → Option Command) → ((m n : ℕ) → reads (f m n) ≡ true) → Agree (with_two f (two_of a b ws)) (j ∷ k ∷ []) p ws
  unfolding form_reason
  two-line {j} {k} {a} {b} q r f h =
      agree
      (simp (number-then (j ∷ k ∷ []) 0 (p + 1) ws q refl, number-then (j ∷ k ∷ []) 1 (p + 1 + 1) (others ws) r refl, ends (j ∷ k ∷ []) 2 (p + 1 + 1 + 1) (others (others ws)) refl)
      (two-reads f h (two_of a b ws) ∙ two-read a b ws))

  pub three-line : (f : ℕ → ℕ → ℕ → Option Command) → ((a b d : ℕ) → reads (f a b d) ≡ true) → Agree (with_three f (three_of ws)) (bytes_of "nnn") p ws
  unfolding form_reason
  three-line f h =
      agree
      (simp (
        number-then (bytes_of "nnn") 0 (p + 1) ws bits64 refl,
        number-then (bytes_of "nnn") 1 (p + 1 + 1) (others ws) bits64 refl,
        number-then (bytes_of "nnn") 2 (p + 1 + 1 + 1) (others (others ws)) bits64 refl,
        ends (bytes_of "nnn") 3 (p + 1 + 1 + 1 + 1) (others (others (others ws))) refl,
      )
      (three-reads f h (three_of ws) ∙ three-read ws))

-- ---- an event and a mutex's owner

flags_of : (key : ℕ) (a b : Option Bool) (ws : List (List ℕ)) → reads (with_flags key a b ws) ≡ (flag_read a && (flag_read b && none ws))
unfolding with_flags reads flag_read
flags_of key (Some m) (Some s) ws = bare-reads (command.Event key m s) ws
flags_of key (Some m) None ws = refl
flags_of key None b ws = refl

owned : (key : ℕ) (ws : List (List ℕ)) → reads (owned_by key ws) ≡ (or_read name.none (first ws) && none (others ws))
unfolding owned_by reads
owned key ws =
    either (same (first ws) name.none) (λ e. simp e (bare-reads (command.AdoptMutex key None) (others ws)))
    (λ e. simp e (one-reads (λ (owner : ℕ). Some (command.AdoptMutex key (Some owner))) (λ n. refl) most ws))

module _ (p : ℕ) (ws : List (List ℕ)) where
  pub event-line : Agree (event_line ws) (bytes_of "nff") p ws
  unfolding form_reason event_line flagged
  event-line =
      agree
      (simp (
        number-then (bytes_of "nff") 0 (p + 1) ws bits64 refl,
        flag-then (bytes_of "nff") 1 (p + 1 + 1) (others ws) refl,
        flag-then (bytes_of "nff") 2 (p + 1 + 1 + 1) (others (others ws)) refl,
        ends (bytes_of "nff") 3 (p + 1 + 1 + 1 + 1) (others (others (others ws))) refl,
      )
      (with-one (λ (key : ℕ). flagged key (others ws)) (flag_read (flag_of (first (others ws))) && (flag_read (flag_of (first (others (others ws)))) && none (others (others (others ws)))))
      (λ key. flags_of key (flag_of (first (others ws))) (flag_of (first (others (others ws)))) (others (others (others ws)))) (number_of most (first ws))))

  pub adopt-line : Agree (adopt_line ws) (bytes_of "no") p ws
  unfolding form_reason adopt_line
  adopt-line =
      agree
      (simp (number-then (bytes_of "no") 0 (p + 1) ws bits64 refl, owner-then (bytes_of "no") 1 (p + 1 + 1) (others ws) refl, ends (bytes_of "no") 2 (p + 1 + 1 + 1) (others (others ws)) refl)
      (with-one (λ (key : ℕ). owned_by key (others ws)) (or_read name.none (first (others ws)) && none (others (others ws))) (λ key. owned key (others ws)) (number_of most (first ws))))

-- ---- a timer that is set, and a new clock

set-of : (address due : ℕ) (a : Option Bool) (b : Option ℤ) (n : Option ℕ) → reads (set_of address due a b n) ≡ (flag_read a && (signed_read b && is_read n))
unfolding set_of reads is_read flag_read signed_read
set-of address due (Some a) (Some b) (Some n) = refl
set-of address due (Some a) (Some b) None = refl
set-of address due (Some a) None n = refl
set-of address due None b n = refl

new-of : (utc uptime : ℕ) (b : Option ℤ) (n : Option ℕ) → reads (new_of utc uptime b n) ≡ (signed_read b && is_read n)
unfolding new_of reads is_read signed_read
new-of utc uptime (Some b) (Some n) = refl
new-of utc uptime (Some b) None = refl
new-of utc uptime None n = refl

set-behind : (address due : ℕ) (ws : List (List ℕ)) → reads (set_behind address due ws)
    ≡ (flag_read (flag_of (first ws)) && (signed_read (signed_of (first (others ws))) && (is_read (number_of most (first (others (others ws)))) && none (others (others (others ws))))))
unfolding set_behind
set-behind address due ws = simp (set-of address due (flag_of (first ws)) (signed_of (first (others ws))) (one_of most (others (others ws))), one-read most (others (others ws)))

new-behind : (utc uptime : ℕ) (ws : List (List ℕ)) → reads (new_behind utc uptime ws)
    ≡ (signed_read (signed_of (first ws)) && (is_read (number_of 4294967295 (first (others ws))) && none (others (others ws))))
unfolding new_behind
new-behind utc uptime ws = simp (new-of utc uptime (signed_of (first ws)) (one_of 4294967295 (others ws)), one-read 4294967295 (others ws))

-- two numbers, and what is read behind them
with-both : (f : ℕ → ℕ → Option Command) (b : Bool) → ((m n : ℕ) → reads (f m n) ≡ b) → (m n : Option ℕ)
    → reads (with_one (λ (x : ℕ). with_one (λ (y : ℕ). f x y) n) m) ≡ (is_read m && (is_read n && b))
with-both f b h m n = with-one (λ (x : ℕ). with_one (λ (y : ℕ). f x y) n) (is_read n && b) (λ x. with-one (λ (y : ℕ). f x y) b (λ y. h x y) n) m

module _ (p : ℕ) (ws : List (List ℕ)) where
  pub set-timer-line : Agree (set_timer_line ws) (bytes_of "nnfin") p ws
  unfolding form_reason set_timer_line
  set-timer-line =
      let f = bytes_of "nnfin" in
      let vs = others (others ws) in
      agree
      (simp (
        number-then f 0 (p + 1) ws bits64 refl,
        number-then f 1 (p + 1 + 1) (others ws) bits64 refl,
        flag-then f 2 (p + 1 + 1 + 1) vs refl,
        signed-then f 3 (p + 1 + 1 + 1 + 1) (others vs) refl,
        number-then f 4 (p + 1 + 1 + 1 + 1 + 1) (others (others vs)) bits64 refl,
        ends f 5 (p + 1 + 1 + 1 + 1 + 1 + 1) (others (others (others vs))) refl,
      )
      (with-both (λ (address due : ℕ). set_behind address due vs)
      (flag_read (flag_of (first vs)) && (signed_read (signed_of (first (others vs))) && (is_read (number_of most (first (others (others vs)))) && none (others (others (others vs))))))
      (λ address due. set-behind address due vs) (number_of most (first ws)) (number_of most (first (others ws)))))

  pub new_line_lem : Agree (new_line ws) (bytes_of "nniw") p ws
  unfolding form_reason new_line
  new_line_lem =
      let f = bytes_of "nniw" in
      let vs = others (others ws) in
      agree
      (simp (
        number-then f 0 (p + 1) ws bits64 refl,
        number-then f 1 (p + 1 + 1) (others ws) bits64 refl,
        signed-then f 2 (p + 1 + 1 + 1) vs refl,
        number-then f 3 (p + 1 + 1 + 1 + 1) (others vs) bits32 refl,
        ends f 4 (p + 1 + 1 + 1 + 1 + 1) (others (others vs)) refl,
      )
      (with-both (λ (utc uptime : ℕ). new_behind utc uptime vs)
      (signed_read (signed_of (first vs)) && (is_read (number_of 4294967295 (first (others vs))) && none (others (others vs))))
      (λ utc uptime. new-behind utc uptime vs) (number_of most (first ws)) (number_of most (first (others ws)))))

-- ---- locations

back_read : Option TimerBacking → Bool
back_read None = false
back_read (Some b) = true

loc_read : Option Location → Bool
loc_read None = false
loc_read (Some x) = true

image-of : (m n : Option ℕ) → back_read (image_of m n) ≡ (is_read m && is_read n)
unfolding image_of is_read back_read
image-of (Some m) (Some n) = refl
image-of (Some m) None = refl
image-of None n = refl

pool-of : (l m n : Option ℕ) → back_read (pool_of l m n) ≡ (is_read l && (is_read m && is_read n))
unfolding pool_of is_read back_read
pool-of (Some l) (Some m) (Some n) = refl
pool-of (Some l) (Some m) None = refl
pool-of (Some l) None n = refl
pool-of None m n = refl

placed-read : (n : Option ℕ) (a : Option Architecture) (b : Option TimerBacking) → loc_read (placed n a b) ≡ (is_read n && (arch_read a && back_read b))
unfolding placed is_read arch_read back_read loc_read
placed-read (Some n) (Some a) (Some b) = refl
placed-read (Some n) (Some a) None = refl
placed-read (Some n) None b = refl
placed-read None a b = refl

with-location : (f : ℕ → Architecture → TimerBacking → Option Command) (b : Bool) → ((n : ℕ) (a : Architecture) (k : TimerBacking) → reads (f n a k) ≡ b)
    → (l : Option Location) → reads (with_location f l) ≡ (loc_read l && b)
unfolding with_location reads loc_read
with-location f b h None = refl
with-location f b h (Some x) = h x.address x.architecture x.backing

-- a form that starts with a location, the rest of it from place 6 on
module _ (form : List ℕ) (rest : List (List ℕ) → Bool) (law : (p : ℕ) (ws : List (List ℕ)) → is_fine (reason_from form 6 p ws) ≡ rest ws)
    (at0 : kind_at form 0 ≡ 110) (at1 : kind_at form 1 ≡ 97) (at2 : kind_at form 2 ≡ 109) (at3 : kind_at form 3 ≡ 110) (at4 : kind_at form 4 ≡ 110) (at5 : kind_at form 5 ≡ 110) where
  backing-fits : (p : ℕ) (ws : List (List ℕ)) → is_fine (reason_from form 2 p ws) ≡ (back_read (backing_of ws) && rest (behind_backing ws))
  unfolding backing_of image_line pool_line behind_backing listed back_read
  backing-fits p ws =
      let v = others ws in
      either (same (first ws) name.image)
      (λ e. simp (
        backing-then form 2 p ws at2,
        e,
        number-then form 4 (p + 1) v bits64 at4,
        number-then form 5 (p + 1 + 1) (others v) bits64 at5,
        law (p + 1 + 1 + 1) (others (others v)),
        image-of (number_of most (first v)) (number_of most (first (others v))),
        and_assoc,
      ))
      (λ e. either (same (first ws) name.pool)
      (λ d. simp (
        backing-then form 2 p ws at2,
        e,
        d,
        number-then form 3 (p + 1) v bits64 at3,
        number-then form 4 (p + 1 + 1) (others v) bits64 at4,
        number-then form 5 (p + 1 + 1 + 1) (others (others v)) bits64 at5,
        law (p + 1 + 1 + 1 + 1) (others (others (others v))),
        pool-of (number_of most (first v)) (number_of most (first (others v))) (number_of most (first (others (others v)))),
        and_assoc,
      ))
      (λ d. simp (backing-then form 2 p ws at2, e, d)))

  located : (f : ℕ → Architecture → TimerBacking → Option Command) (p : ℕ) (ws : List (List ℕ))
      → ((n : ℕ) (a : Architecture) (k : TimerBacking) → reads (f n a k) ≡ rest (behind_location ws)) → reads (with_location f (location_of ws)) ≡ is_fine (reason_from form 0 p ws)
  unfolding location_of behind_location
  located f p ws h =
      simp (
        with-location f (rest (behind_location ws)) h (location_of ws),
        placed-read (number_of most (first ws)) (architecture_of (first (others ws))) (backing_of (others (others ws))),
        number-then form 0 p ws bits64 at0,
        arch-then form 1 (p + 1) (others ws) at1,
        backing-fits (p + 1 + 1) (others (others ws)),
        and_assoc,
      )

manual-of : (address : ℕ) (a : Architecture) (b : TimerBacking) (f : Option Bool) (ws : List (List ℕ)) → reads (manual_of address a b f ws) ≡ (flag_read f && none ws)
unfolding manual_of reads flag_read
manual-of address a b (Some m) ws = bare-reads (command.InitializeTimer address a b m) ws
manual-of address a b None ws = refl

module _ (p : ℕ) (ws : List (List ℕ)) where
  pub initialize-timer-line : Agree (initialize_timer_line ws) (bytes_of "namnnnf") p ws
  unfolding form_reason initialize_timer_line manual_behind
  initialize-timer-line =
      let f = bytes_of "namnnnf" in
      let rest : List (List ℕ) → Bool = λ us. flag_read (flag_of (first us)) && none (others us) in
      agree
      (located f rest (λ q us. simp (flag-then f 6 q us refl, ends f 7 (q + 1) (others us) refl)) refl refl refl refl refl refl
      (λ address a b. manual_behind address a b (behind_location ws)) (p + 1) ws
      (λ n a b. manual-of n a b (flag_of (first (behind_location ws))) (others (behind_location ws))))

  pub initialize-dpc-line : Agree (initialize_dpc_line ws) (bytes_of "namnnnnn") p ws
  unfolding form_reason initialize_dpc_line routine_behind reads
  initialize-dpc-line =
      let f = bytes_of "namnnnnn" in
      let rest : List (List ℕ) → Bool = λ us. is_read (number_of most (first us)) && (is_read (number_of most (first (others us))) && none (others (others us))) in
      agree
      (located f rest
      (λ q us. simp (number-then f 6 q us bits64 refl, number-then f 7 (q + 1) (others us) bits64 refl, ends f 8 (q + 1 + 1) (others (others us)) refl)) refl refl refl refl refl refl
      (λ address a b. routine_behind address a b (behind_location ws)) (p + 1) ws
      (λ n a b. two-reads (λ x y. Some (command.InitializeDpc n a b x y)) (λ x y. refl) (two_of most most (behind_location ws)) ∙ two-read most most (behind_location ws)))

-- ---- waits

pairs_read : Option ℕ → Bool
pairs_read None = false
pairs_read (Some n) = true

abbrev waits : List ℕ
waits = bytes_of "stbkv"

-- kinds stand at even places, where the form has its letter 3, and keys at odd ones
pairs-fit : (odd : Bool) (ws : List (List ℕ)) (i p : ℕ) (l : List ℕ) → i % 2 ≡ cond odd 1 0 → i + length ws ≤ length l
    → pairs_read (pairs_of ws i l).count ≡ is_fine (reason_from waits (cond odd 4 3) p ws)
unfolding pairs_of pairs_read reason_from end_reason is_fine item_of
pairs-fit true [] i p l e h = refl
pairs-fit false [] i p l e h = refl
pairs-fit true (w ∷ ws) i p l e h =
    let below : i < length l = omega arith in
    let next : (i + 1) % 2 ≡ 0 = omega arith in
    let x = number_of most w in
    let odd : (i % 2 ≡ 0 → ⊥) = λ z. omega arith in
    simp (lt-ltb i (length l) below, ne_eqb (i % 2) 0 odd, key-then waits 4 p w ws refl)
    (either (is_read x)
    (λ r. simp r (pairs-fit false ws (i + 1) (p + 1) (set l i (told x)) next (omega (arith, length-set l i (told x)))))
    (λ r. simp r))
pairs-fit false (w ∷ ws) i p l e h =
    let below : i < length l = omega arith in
    let next : (i + 1) % 2 ≡ 1 = omega arith in
    let x = kind_of w in
    simp (lt-ltb i (length l) below, eq-eqb (i % 2) 0 e, kind-then waits 3 p w ws refl)
    (either (is_read x)
    (λ r. simp r (pairs-fit true ws (i + 1) (p + 1) (set l i (told x)) next (omega (arith, length-set l i (told x)))))
    (λ r. simp r))

counted : (all : Bool) (deadline : Option ℕ) (irql : ℕ) (n : Option ℕ) → reads (wait_command all deadline irql n) ≡ pairs_read n
unfolding wait_command reads pairs_read
counted all deadline irql None = refl
counted all deadline irql (Some n) = refl

with-irql : (all : Bool) (deadline : Option ℕ) (n : Option ℕ) (ws : List (List ℕ)) (l : List ℕ)
    → reads (with_irql all deadline n ws l).command ≡ (is_read n && pairs_read (pairs_of ws 0 l).count)
unfolding with_irql reads is_read
with-irql all deadline None ws l = refl
with-irql all deadline (Some irql) ws l = counted all deadline irql (pairs_of ws 0 l).count

-- from the IRQL on
abbrev irql_read : List (List ℕ) → List ℕ → Bool
irql_read ws l = is_read (number_of 255 (first ws)) && pairs_read (pairs_of (others ws) 0 l).count

with-deadline : (all : Bool) (n : Option ℕ) (ws : List (List ℕ)) (l : List ℕ) → reads (with_deadline all n ws l).command ≡ (is_read n && irql_read ws l)
unfolding with_deadline wait_from reads is_read
with-deadline all None ws l = refl
with-deadline all (Some deadline) ws l = with-irql all (Some deadline) (number_of 255 (first ws)) (others ws) l

until : (all : Bool) (ws : List (List ℕ)) (l : List ℕ) → reads (wait_until all ws l).command ≡ (or_read name.never (first ws) && irql_read (others ws) l)
unfolding wait_until wait_from
until all ws l =
    either (same (first ws) name.never) (λ e. simp e (with-irql all None (number_of 255 (first (others ws))) (others (others ws)) l))
    (λ e. simp e (with-deadline all (number_of most (first ws)) (others ws) l))

wait-reads : (ws : List (List ℕ)) (l : List ℕ)
    → reads (wait_line ws l).command ≡ (listed (name.any ∷ name.all ∷ []) (first ws) && (or_read name.never (first (others ws)) && irql_read (others (others ws)) l))
unfolding wait_line listed reads
wait-reads ws l =
    either (same (first ws) name.any) (λ e. simp e (until false (others ws) l))
    (λ e. either (same (first ws) name.all) (λ d. simp (e, d) (until true (others ws) l)) (λ d. simp (e, d)))

others-few : (ws : List (List ℕ)) → length (others ws) ≤ length ws
unfolding others
others-few [] = omega arith
others-few (w ∷ ws) = omega arith

pub wait-line : (p : ℕ) (ws : List (List ℕ)) (l : List ℕ) → length ws ≤ length l → Agree (wait_line ws l).command waits p ws
unfolding form_reason
wait-line p ws l h =
    let vs = others (others ws) in
    agree
    (simp (
      set_then waits 0 (p + 1) ws refl,
      time-then waits 1 (p + 1 + 1) (others ws) refl,
      number-then waits 2 (p + 1 + 1 + 1) vs bits8 refl,
      ← (pairs-fit false (others vs) 0 (p + 1 + 1 + 1 + 1) l refl (omega (arith, others-few vs, others-few (others ws), others-few ws))),
    )
    (wait-reads ws l))
