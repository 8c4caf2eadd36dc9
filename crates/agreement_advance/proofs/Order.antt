-- The due timers in the order of their expiry: the positions that the words list are those of the timers that the log lists.
use Prim.Native.Nat.{ℕ, suc, ◌+◌, ◌*◌}
use mathlib.Core.List.{List, [], ◌∷◌}
use mathlib.Core.Bool.{Bool, true, false, cond}
use mathlib.Core.Option.{some}
use mathlib.Core.Path.{◌≡◌, refl, sym, ap, ◌∙◌, subst}
use native.Mathlib.Omega.{arith}
use lib.ListN.{get_or, length}
use lib.Dec.{eqb, leb}
use Rattle.words.specs.Layout as at
use Rattle.words.specs.Layout.{entry_at}
use Rattle.objects.specs.Objects.{object_count}
use Rattle.expiry.specs.Due as words
use Rattle.expiry_order.specs.Order.{due_at, goes_first, put, sorted}
use Rattle.expiry_advance.specs.Advance.{arranged, order}
use Rattle.images.specs.declared.Timer.{Timer}
use Rattle.model.specs.Lists.{nth, keep}
use Rattle.model.specs.State.{State, Object, timer, Policy, unselected, cpu0_dispatch}
use Rattle.model.specs.Waits.{on_timer, timers_of}
use Rattle.model.specs.Timers.{is_due, insert_by_due, by_due, in_order, due_timers}
use Rattle.model.proofs.ObjectLaws.{on-timer₂, on-timer}
use Rattle.agreement_tables.proofs.Lists.{nth_in}
use Rattle.agreement.specs.Row.{Row}
use Rattle.agreement.specs.Records.{flag, timer_row, policy_number}
use Rattle.agreement.specs.Agree.{objects_from, Agreeing}
use Rattle.agreement.proofs.Headers.{objects-few}
use Rattle.agreement.proofs.Places.{entry_place}
use Rattle.agreement.proofs.Lookups.{base-is, object-count-is, object-kinds}

-- the positions of the timers in a table
abbrev pub Names : List Object → List ℕ → List Timer → Type 0
Names l [] [] = Unit
Names l [] (t ∷ ts) = ⊥
Names l (i ∷ is) [] = ⊥
Names l (i ∷ is) (t ∷ ts) = (nth l i ≡ some (timer t)) × Names l is ts

module _ (w : List ℕ) (s : State) (holder : ℕ → ℕ) (active : ℕ) (a : Agreeing w s holder active) where
  abbrev base : ℕ
  base = objects_from s.limits

  abbrev objects : List Object
  objects = s.dispatcher.objects

  pub entry-is : (i : ℕ) (x : Object) → nth s.dispatcher.objects i ≡ some x → entry_at (objects_from s.limits) i ≡ objects_from s.limits + 32 * i
  entry-is i x e = entry_place base i (omega (arith, a.shape.sizes.limits.threads)) (omega (arith, objects-few w s holder active a, nth_in objects i x e))

  -- the row of the timer at a position, where the words look for it
  pub timer-row-at : (i : ℕ) (t : Timer) → nth s.dispatcher.objects i ≡ some (timer t) → Row w (entry_at (objects_from s.limits) i) (timer_row t)
  timer-row-at i t e = subst (λ (p : ℕ). Row w p (timer_row t)) (sym (entry-is i (timer t) e)) (a.objects i (timer t) e)

  -- ---- which are due

  module _ (time : ℕ) where
    abbrev due_object : Object → Bool
    due_object = on_timer false (is_due time)

    due-is : (i : ℕ) (x : Object) → nth objects i ≡ some x → words.is_due w (entry_at base i) time ≡ due_object x
    unfolding words.is_due
    due-is i x e = on-timer (λ b. words.is_due w (entry_at base i) time ≡ b) x (λ n. simp (entry-is i x e, object-kinds w s holder active a i x e, n)) λ t z.
        let r = timer-row-at i t (e ∙ ap some z) in
        let q : words.is_due w (entry_at base i) time ≡ cond (eqb (flag t.inserted) 0) false (leb t.due time) = simp (r 1 2 refl, r 5 (flag t.inserted) refl, r 6 t.due refl) in
        q ∙ go t t.inserted
      where
        go : (t : Timer) (b : Bool) → cond (eqb (flag b) 0) false (leb t.due time) ≡ cond b (leb t.due time) false
        go t true = refl
        go t false = refl

    due-along : (l : List Object) (i : ℕ) → ((j : ℕ) (x : Object) → nth l j ≡ some x → nth objects (i + j) ≡ some x)
        → Names objects (words.due_in (length l) w base i time) (keep (is_due time) (timers_of l))
    unfolding words.due_in
    due-along [] i h = tt
    due-along (x ∷ xs) i h = go (due-along xs (i + 1) later)
      where
        here : nth objects i ≡ some x
        here = ap (nth objects) (let q : i ≡ i + 0 = omega arith in q) ∙ h 0 x refl

        later : (j : ℕ) (y : Object) → nth xs j ≡ some y → nth objects (i + 1 + j) ≡ some y
        later j y e = ap (nth objects) (let q : i + 1 + j ≡ i + suc j = omega arith in q) ∙ h (suc j) y e

        rest : List ℕ
        rest = words.due_in (length xs) w base (i + 1) time

        dues : List Timer
        dues = keep (is_due time) (timers_of xs)

        both : (t : Timer) → nth objects i ≡ some (timer t) → Names objects rest dues → (b : Bool) → Names objects (cond b (i ∷ rest) rest) (cond b (t ∷ dues) dues)
        both t e ih true = (e, ih)
        both t e ih false = ih

        go : Names objects rest dues → Names objects (cond (words.is_due w (entry_at base i) time) (i ∷ rest) rest) (keep (is_due time) (timers_of (x ∷ xs)))
        go ih = on-timer₂ (λ b ts. words.is_due w (entry_at base i) time ≡ b → Names objects (cond (words.is_due w (entry_at base i) time) (i ∷ rest) rest) (keep (is_due time) ts)) x
            (λ n q. subst (λ (b : Bool). Names objects (cond b (i ∷ rest) rest) dues) (sym q) ih)
            (λ t z q. subst (λ (b : Bool). Names objects (cond b (i ∷ rest) rest) (cond (is_due time t) (t ∷ dues) dues)) (sym q) (both t (here ∙ ap some z) ih (is_due time t)))
            (due-is i x here)

    pub due-names : Names s.dispatcher.objects (words.due_list w time) (keep (is_due time) (timers_of s.dispatcher.objects))
    unfolding words.due_list
    due-names =
        subst (λ (b : ℕ). Names objects (words.due_in (object_count w) w b 0 time) (keep (is_due time) (timers_of objects))) (sym (base-is w s holder active a))
        (subst (λ (n : ℕ). Names objects (words.due_in n w base 0 time) (keep (is_due time) (timers_of objects))) (sym (object-count-is w s holder active a))
        (due-along objects 0 (λ j x e. ap (nth objects) (let q : 0 + j ≡ j = omega arith in q) ∙ e)))

  -- ---- in what order

  due-at : (i : ℕ) (t : Timer) → nth objects i ≡ some (timer t) → due_at w base i ≡ t.due
  unfolding due_at
  due-at i t e = timer-row-at i t e 6 t.due refl

  put-names : (i : ℕ) (t : Timer) → nth objects i ≡ some (timer t) → (is : List ℕ) (ts : List Timer) → Names objects is ts → Names objects (put w base i is) (insert_by_due t ts)
  unfolding put goes_first
  put-names i t e [] [] n = (e, tt)
  put-names i t e [] (u ∷ us) n = absurd n
  put-names i t e (j ∷ js) [] n = absurd n
  put-names i t e (j ∷ js) (u ∷ us) n =
      subst (λ (b : Bool). Names objects (cond b (i ∷ j ∷ js) (j ∷ put w base i js)) (insert_by_due t (u ∷ us))) (sym first) (go (leb t.due u.due) (put-names i t e js us n.1))
    where
      first : leb (due_at w base i) (due_at w base j) ≡ leb t.due u.due
      first = ap (λ (n : ℕ). leb n (due_at w base j)) (due-at i t e) ∙ ap (leb t.due) (due-at j u n.0)

      go : (b : Bool) → Names objects (put w base i js) (insert_by_due t us) → Names objects (cond b (i ∷ j ∷ js) (j ∷ put w base i js)) (cond b (t ∷ u ∷ us) (u ∷ insert_by_due t us))
      go true ih = (e, n)
      go false ih = (n.0, ih)

  sorted-names : (is : List ℕ) (ts : List Timer) → Names objects is ts → Names objects (sorted w base is) (by_due ts)
  unfolding sorted
  sorted-names [] [] n = tt
  sorted-names [] (t ∷ ts) n = absurd n
  sorted-names (i ∷ is) [] n = absurd n
  sorted-names (i ∷ is) (t ∷ ts) n = put-names i t n.0 (sorted w base is) (by_due ts) (sorted-names is ts n.1)

  pub policy-is : eqb (get_or w at.policy 0) 0 ≡ eqb (policy_number s.policy) 0
  policy-is = ap (λ (n : ℕ). eqb n 0) (a.numbers at.policy (policy_number s.policy) refl)

  arranged-names : (is : List ℕ) (ts : List Timer) → Names objects is ts → Names objects (arranged w base is) (in_order s.policy ts)
  unfolding arranged
  arranged-names is ts n = subst (λ (b : Bool). Names objects (cond b is (sorted w base is)) (in_order s.policy ts)) (sym policy-is) (go s.policy)
    where
      go : (p : Policy) → Names objects (cond (eqb (policy_number p) 0) is (sorted w base is)) (in_order p ts)
      go unselected = n
      go (cpu0_dispatch first second) = sorted-names is ts n

  -- the words' list and the log's
  pub order-names : (time : ℕ) → Names s.dispatcher.objects (order w time) (due_timers s.policy time s.dispatcher.objects)
  unfolding order
  order-names time =
      subst (λ (b : ℕ). Names objects (arranged w b (words.due_list w time)) (due_timers s.policy time objects)) (sym (base-is w s holder active a))
      (arranged-names (words.due_list w time) (keep (is_due time) (timers_of objects)) (due-names time))
