-- Which byte stands where in the images of timers and DPCs, for any architecture, and that each field reads back.
use Rattle.std.proofs.Common.{◌≡◌, ℕ, ◌+◌, ◌-◌, ◌*◌, ◌/◌, ◌%◌, ◌^◌, ◌<◌, ◌≤◌, Bool, true, false, cond, ◌⊎◌, List, [], ◌∷◌, length, get_or, replicate, refl, ap, ◌∙◌, inl, inr, mod-eq_of_lt, arith, le-ltb, lt-ltb}
use mathlib.Core.Path.{subst⁻¹}
use lib.ListN.{length-replicate, get_or-replicate}
use Rattle.arch.specs.declared.Architecture.{Architecture}
use Rattle.arch.specs.declared.Architecture.TheVariants.{X64, X86}
use Rattle.arch.specs.Width.{width_of}
use Rattle.images.specs.declared.Timer.{Timer}
use Rattle.images.specs.declared.Dpc.{Dpc}
use Rattle.images.specs.declared.DpcWork.{DpcWork}
use Rattle.images.specs.declared.DpcPhase.{DpcPhase}
use Rattle.images.specs.declared.DpcPhase.TheVariants.{Idle, Queued, Running, Returning}
use Rattle.images.specs.Place.{timer_size, due_at, timer_dpc_at, dpc_size, routine_at, arguments_at}
use Rattle.images.specs.Field.{Field, placed, little, number, laid, holds}
use Rattle.images.specs.Image.{
  image,
  timer_head,
  timer_links,
  timer_times,
  timer_fields,
  timer_image,
  dpc_head,
  two_words,
  work_fields,
  phase_fields,
  dpc_fields,
  dpc_image,
}
use Rattle.images.proofs.PlaceLaws.{Shaped, shape, Located, located_fits}
use Rattle.images.proofs.FieldLaws.{
  length-placed,
  length-little,
  placed-above,
  placed-here,
  Rising,
  In,
  Gap,
  length-laid,
  laid-above,
  laid-gap,
  laid-field,
  number-reads,
}

-- ---- any image

pub image-short : (size : ℕ) (fs : List Field) (out : List ℕ) → length out < size → image size fs out ≡ out
unfolding image
image-short size fs out h = simp (lt-ltb (length out) size h)

-- where there is room
module _ (size : ℕ) (fs : List Field) (out : List ℕ) (room : size ≤ length out) where
  written : image size fs out ≡ laid fs (placed 0 (replicate size 0) out)
  unfolding image
  written = simp (le-ltb (length out) size room)

  pub image-length : length (image size fs out) ≡ length out
  image-length = rw written (length-laid fs (placed 0 (replicate size 0) out) ∙ length-placed (replicate size 0) 0 out)

  -- behind the image all stays
  pub image-rest : Rising 0 size fs → (j : ℕ) → size ≤ j → get_or (image size fs out) j 0 ≡ get_or out j 0
  image-rest r j h =
      rw written
      (laid-above fs 0 size (placed 0 (replicate size 0) out) r j h
      ∙ placed-above (replicate size 0) 0 out j (omega (arith, length-replicate {A = ℕ} size 0)))

  -- a byte of a field
  pub image-field : Rising 0 size fs → (f : Field) → In f fs → (i : ℕ) → i < length f.bytes → get_or (image size fs out) (f.place + i) 0 ≡ get_or f.bytes i 0
  image-field r f m i h =
      rw written
      (laid-field fs 0 size (placed 0 (replicate size 0) out) r (omega (arith, length-placed (replicate size 0) 0 out)) f m i h)

  -- a byte of no field
  pub image-gap : (j : ℕ) → j < size → Gap j fs → get_or (image size fs out) j 0 ≡ 0
  image-gap j h g =
      rw written
      (laid-gap fs (placed 0 (replicate size 0) out) j g
      ∙ ap (λ (k : ℕ). get_or (placed 0 (replicate size 0) out) k 0) (let z : j ≡ 0 + j = omega arith in z)
      ∙ placed-here (replicate size 0) 0 out j (omega (arith, length-replicate {A = ℕ} size 0)) (omega (arith, length-replicate {A = ℕ} size 0))
      ∙ get_or-replicate size j 0 0 h)

  -- a field that holds a number
  pub image-number : Rising 0 size fs → (p k n : ℕ) → In (holds p k n) fs → number k p (image size fs out) ≡ n % 2 ^ (8 * k)
  image-number r p k n m =
      number-reads k p n (image size fs out) (λ i h. image-field r (holds p k n) m i (omega (arith, length-little k n)))

  -- a field of one byte
  pub image-byte : Rising 0 size fs → (p n : ℕ) → In (holds p 1 n) fs → n < 256 → get_or (image size fs out) p 0 ≡ n
  unfolding little
  image-byte r p n m h =
      ap (λ (j : ℕ). get_or (image size fs out) j 0) (let z : p ≡ p + 0 = omega arith in z)
      ∙ image-field r (holds p 1 n) m 0 (omega arith)
      ∙ mod-eq_of_lt h

-- ---- a timer

pub timer-rising : (t : Timer) → Rising 0 (timer_size t.architecture) (timer_fields t)
unfolding timer_fields timer_head timer_links timer_times
timer-rising t =
    let s : Shaped t.architecture = shape t.architecture in
    simp length-little (omega arith, (omega arith, (omega arith, (omega arith, (omega arith, (omega arith, (omega arith, (omega arith, (omega arith, (omega arith, omega arith))))))))))

below-256 : (b : Bool) (x y : ℕ) → x < 256 → y < 256 → cond b x y < 256
below-256 true x y h k = h
below-256 false x y h k = k

pub timer-short : (t : Timer) (out : List ℕ) → length out < timer_size t.architecture → timer_image t out ≡ out
unfolding timer_image
timer-short t out h = image-short (timer_size t.architecture) (timer_fields t) out h

module _ (t : Timer) (out : List ℕ) (room : timer_size t.architecture ≤ length out) where
  a : Architecture
  a = t.architecture

  pub timer-length : length (timer_image t out) ≡ length out
  unfolding timer_image a
  timer-length = image-length (timer_size a) (timer_fields t) out room

  pub timer-rest : (j : ℕ) → timer_size t.architecture ≤ j → get_or (timer_image t out) j 0 ≡ get_or out j 0
  unfolding timer_image a
  timer-rest = image-rest (timer_size a) (timer_fields t) out room (timer-rising t)

  pub timer-gap : (j : ℕ) → j < timer_size t.architecture → Gap j (timer_fields t) → get_or (timer_image t out) j 0 ≡ 0
  unfolding timer_image a
  timer-gap = image-gap (timer_size a) (timer_fields t) out room

  -- each byte of each field
  pub timer-field : (f : Field) → In f (timer_fields t) → (i : ℕ) → i < length f.bytes → get_or (timer_image t out) (f.place + i) 0 ≡ get_or f.bytes i 0
  unfolding timer_image a
  timer-field = image-field (timer_size a) (timer_fields t) out room (timer-rising t)

  reads : (p k n : ℕ) → In (holds p k n) (timer_fields t) → number k p (timer_image t out) ≡ n % 2 ^ (8 * k)
  unfolding timer_image a
  reads = image-number (timer_size a) (timer_fields t) out room (timer-rising t)

  byte : (p n : ℕ) → In (holds p 1 n) (timer_fields t) → n < 256 → get_or (timer_image t out) p 0 ≡ n
  unfolding timer_image a
  byte = image-byte (timer_size a) (timer_fields t) out room (timer-rising t)

  pub timer-kind : get_or (timer_image t out) 0 0 ≡ cond t.manual_reset 8 9
  unfolding timer_fields timer_head
  timer-kind = byte 0 (cond t.manual_reset 8 9) (inl refl) (below-256 t.manual_reset 8 9 (omega arith) (omega arith))

  pub timer-absolute : get_or (timer_image t out) 1 0 ≡ cond t.absolute 1 0
  unfolding timer_fields timer_head
  timer-absolute = byte 1 (cond t.absolute 1 0) (inr (inl refl)) (below-256 t.absolute 1 0 (omega arith) (omega arith))

  pub timer-fours : 4 * get_or (timer_image t out) 2 0 ≡ timer_size t.architecture
  unfolding timer_fields timer_head
  timer-fours =
      let e : get_or (timer_image t out) 2 0 ≡ timer_size t.architecture / 4 =
      byte 2 (timer_size t.architecture / 4) (inr (inr (inl refl))) (omega (arith, (shape t.architecture).timers))
      in
      rw e (whole t.architecture)
    where
      whole : (a : Architecture) → 4 * (timer_size a / 4) ≡ timer_size a
      whole X64 = refl
      whole X86 = refl

  pub timer-inserted : get_or (timer_image t out) 3 0 ≡ cond t.inserted 64 0
  unfolding timer_fields timer_head
  timer-inserted =
      byte 3 (cond t.inserted 64 0) (inr (inr (inr (inl refl)))) (below-256 t.inserted 64 0 (omega arith) (omega arith))

  pub timer-signaled : number 4 4 (timer_image t out) ≡ cond t.signaled 1 0
  unfolding timer_fields timer_head
  timer-signaled =
      reads 4 4 (cond t.signaled 1 0) (inr (inr (inr (inr (inl refl)))))
      ∙ mod-eq_of_lt (omega (arith, below-256 t.signaled 1 0 (omega arith) (omega arith)))

  pub timer-first-link : number (width_of t.architecture) 8 (timer_image t out) ≡ (t.address + 8) % 2 ^ (8 * width_of t.architecture)
  unfolding timer_fields timer_head timer_links
  timer-first-link = reads 8 (width_of t.architecture) (t.address + 8) (inr (inr (inr (inr (inr (inl refl))))))

  pub timer-last-link : number (width_of t.architecture) (8 + width_of t.architecture) (timer_image t out) ≡ (t.address + 8) % 2 ^ (8 * width_of t.architecture)
  unfolding timer_fields timer_head timer_links
  timer-last-link =
      reads (8 + width_of t.architecture) (width_of t.architecture) (t.address + 8) (inr (inr (inr (inr (inr (inr (inl refl)))))))

  pub timer-due : number 8 (due_at t.architecture) (timer_image t out) ≡ t.due % 2 ^ 64
  unfolding timer_fields timer_head timer_links timer_times
  timer-due = reads (due_at t.architecture) 8 t.due (inr (inr (inr (inr (inr (inr (inr (inl refl))))))))

  pub timer-dpc : number (width_of t.architecture) (timer_dpc_at t.architecture) (timer_image t out) ≡ t.dpc % 2 ^ (8 * width_of t.architecture)
  unfolding timer_fields timer_head timer_links timer_times
  timer-dpc =
      reads (timer_dpc_at t.architecture) (width_of t.architecture) t.dpc
      (inr (inr (inr (inr (inr (inr (inr (inr (inl refl)))))))))

  pub timer-period : number 4 (timer_size t.architecture - 4) (timer_image t out) ≡ t.period_ms % 2 ^ 32
  unfolding timer_fields timer_head timer_links timer_times
  timer-period =
      reads (timer_size t.architecture - 4) 4 t.period_ms (inr (inr (inr (inr (inr (inr (inr (inr (inr (inl refl))))))))))

  -- bytes 0 between its due time and its DPC, and from there to its period
  pub timer-zero : (j : ℕ) → ((due_at t.architecture + 8 ≤ j) × (j < timer_dpc_at t.architecture)) ⊎ ((timer_dpc_at t.architecture + width_of t.architecture ≤ j) × (j < timer_size t.architecture - 4)) → get_or (timer_image t out) j 0 ≡ 0
  unfolding timer_fields timer_head timer_links timer_times
  timer-zero j (inl h) =
      let s : Shaped t.architecture = shape t.architecture in
      let from : due_at t.architecture + 8 ≤ j = h.0 in
      let to : j < timer_dpc_at t.architecture = h.1 in
      timer-gap j (omega arith)
      (simp length-little
      (inr (omega arith), (inr (omega arith), (inr (omega arith), (inr (omega arith), (inr (omega arith), (inr (omega arith), (inr (omega arith), (inr (omega arith), (inl (omega arith), (inl (omega arith), tt)))))))))))
  timer-zero j (inr h) =
      let s : Shaped t.architecture = shape t.architecture in
      let from : timer_dpc_at t.architecture + width_of t.architecture ≤ j = h.0 in
      let to : j < timer_size t.architecture - 4 = h.1 in
      timer-gap j (omega arith)
      (simp length-little
      (inr (omega arith), (inr (omega arith), (inr (omega arith), (inr (omega arith), (inr (omega arith), (inr (omega arith), (inr (omega arith), (inr (omega arith), (inr (omega arith), (inl (omega arith), tt)))))))))))

  -- of a timer at a place the links are whole
  pub timer-links-whole : Located t.address (timer_size t.architecture) t.architecture t.backing → (t.address + 8) % 2 ^ (8 * width_of t.architecture) ≡ t.address + 8
  timer-links-whole l =
      mod-eq_of_lt
      (omega (
        arith,
        located_fits t.address (timer_size t.architecture) t.architecture t.backing l,
        (shape t.architecture).links,
        (shape t.architecture).dues,
        (shape t.architecture).dpcs,
      ))

-- ---- a DPC

-- the work of a DPC that is queued, running or returning
abbrev pub HasWork : DpcPhase → DpcWork → Type 0
HasWork p w = (p ≡ Queued w) ⊎ ((p ≡ Running w) ⊎ (p ≡ Returning w))

working : (a : Architecture) (p : DpcPhase) (w : DpcWork) → HasWork p w → phase_fields a p ≡ work_fields a w
unfolding phase_fields
working a p w (inl e) = rw e
working a p w (inr (inl e)) = rw e
working a p w (inr (inr e)) = rw e

-- where the routine and the context end
abbrev pub behind : Architecture → ℕ
behind a = routine_at a + width_of a + width_of a

work-rising : (a : Architecture) (w : DpcWork) → Rising (behind a) (dpc_size a) (work_fields a w)
unfolding work_fields two_words
work-rising a w = let s : Shaped a = shape a in simp length-little (omega arith, (omega arith, omega arith))

phase-rising : (a : Architecture) (p : DpcPhase) → Rising (behind a) (dpc_size a) (phase_fields a p)
unfolding phase_fields
phase-rising a Idle = omega (arith, (shape a).routines, (shape a).works)
phase-rising a (Queued w) = work-rising a w
phase-rising a (Running w) = work-rising a w
phase-rising a (Returning w) = work-rising a w

pub dpc-rising : (d : Dpc) → Rising 0 (dpc_size d.architecture) (dpc_fields d)
unfolding dpc_fields dpc_head two_words
dpc-rising d =
    let s : Shaped d.architecture = shape d.architecture in
    simp length-little (omega arith, (omega arith, (omega arith, phase-rising d.architecture d.phase)))

pub dpc-short : (d : Dpc) (out : List ℕ) → length out < dpc_size d.architecture → dpc_image d out ≡ out
unfolding dpc_image
dpc-short d out h = image-short (dpc_size d.architecture) (dpc_fields d) out h

module _ (d : Dpc) (out : List ℕ) (room : dpc_size d.architecture ≤ length out) where
  pub dpc-length : length (dpc_image d out) ≡ length out
  unfolding dpc_image
  dpc-length = image-length (dpc_size d.architecture) (dpc_fields d) out room

  pub dpc-rest : (j : ℕ) → dpc_size d.architecture ≤ j → get_or (dpc_image d out) j 0 ≡ get_or out j 0
  unfolding dpc_image
  dpc-rest = image-rest (dpc_size d.architecture) (dpc_fields d) out room (dpc-rising d)

  pub dpc-gap : (j : ℕ) → j < dpc_size d.architecture → Gap j (dpc_fields d) → get_or (dpc_image d out) j 0 ≡ 0
  unfolding dpc_image
  dpc-gap = image-gap (dpc_size d.architecture) (dpc_fields d) out room

  -- each byte of each field
  pub dpc-field : (f : Field) → In f (dpc_fields d) → (i : ℕ) → i < length f.bytes → get_or (dpc_image d out) (f.place + i) 0 ≡ get_or f.bytes i 0
  unfolding dpc_image
  dpc-field = image-field (dpc_size d.architecture) (dpc_fields d) out room (dpc-rising d)

  dpc-reads : (p k n : ℕ) → In (holds p k n) (dpc_fields d) → number k p (dpc_image d out) ≡ n % 2 ^ (8 * k)
  unfolding dpc_image
  dpc-reads = image-number (dpc_size d.architecture) (dpc_fields d) out room (dpc-rising d)

  -- it opens with 0x13 0x01
  pub dpc-opens : (get_or (dpc_image d out) 0 0 ≡ 19) × (get_or (dpc_image d out) 1 0 ≡ 1)
  unfolding dpc_fields dpc_head
  dpc-opens = (
    dpc-field (record { place = 0; bytes = 19 ∷ 1 ∷ [] }) (inl refl) 0 (omega arith),
    dpc-field (record { place = 0; bytes = 19 ∷ 1 ∷ [] }) (inl refl) 1 (omega arith),
  )

  pub dpc-routine : number (width_of d.architecture) (routine_at d.architecture) (dpc_image d out) ≡ d.routine % 2 ^ (8 * width_of d.architecture)
  unfolding dpc_fields two_words
  dpc-routine = dpc-reads (routine_at d.architecture) (width_of d.architecture) d.routine (inr (inl refl))

  pub dpc-context : number (width_of d.architecture) (routine_at d.architecture + width_of d.architecture) (dpc_image d out) ≡ d.context % 2 ^ (8 * width_of d.architecture)
  unfolding dpc_fields two_words
  dpc-context =
      dpc-reads (routine_at d.architecture + width_of d.architecture) (width_of d.architecture) d.context (inr (inr (inl refl)))

  at-work : (w : DpcWork) → HasWork d.phase w → (f : Field) → In f (work_fields d.architecture w) → In f (dpc_fields d)
  unfolding dpc_fields two_words
  at-work w h f m =
      inr (inr (inr (subst⁻¹ (λ (fs : List Field). In f fs) (working d.architecture d.phase w h) m)))

  pub dpc-first : (w : DpcWork) → HasWork d.phase w → number (width_of d.architecture) (arguments_at d.architecture) (dpc_image d out) ≡ w.first % 2 ^ (8 * width_of d.architecture)
  unfolding work_fields two_words
  dpc-first w h =
      dpc-reads (arguments_at d.architecture) (width_of d.architecture) w.first
      (at-work w h (holds (arguments_at d.architecture) (width_of d.architecture) w.first) (inl refl))

  pub dpc-second : (w : DpcWork) → HasWork d.phase w → number (width_of d.architecture) (arguments_at d.architecture + width_of d.architecture) (dpc_image d out) ≡ w.second % 2 ^ (8 * width_of d.architecture)
  unfolding work_fields two_words
  dpc-second w h =
      dpc-reads (arguments_at d.architecture + width_of d.architecture) (width_of d.architecture) w.second
      (at-work w h (holds (arguments_at d.architecture + width_of d.architecture) (width_of d.architecture) w.second) (inr (inl refl)))

  -- an idle one has bytes 0 behind its context
  pub dpc-idle : d.phase ≡ Idle → (j : ℕ) → behind d.architecture ≤ j → j < dpc_size d.architecture → get_or (dpc_image d out) j 0 ≡ 0
  unfolding dpc_fields dpc_head two_words phase_fields
  dpc-idle e j l h =
      let s : Shaped d.architecture = shape d.architecture in
      dpc-gap j h (simp (length-little, e) (inr (omega arith), (inr (omega arith), (inr (omega arith), tt))))
