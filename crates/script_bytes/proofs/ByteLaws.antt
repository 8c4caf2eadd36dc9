-- The program at each byte of a script.
use Rattle.std.proofs.Common.{◌≡◌, ℕ, ◌+◌, ◌<◌, ◌≤◌, List, length, get_or, drop, set, refl, add-one, drop_of_length-le, drop-cons, le-ltb, lt-ltb, eq-eqb, ne_eqb}
use Rattle.script_bytes.specs.Bytes.{Machine, machine, finished, kept, byte_taken, bytes_taken, from_start, ended}

pub newline : (m : Machine) (b : ℕ) → b ≡ 10 → byte_taken m b ≡ finished m
unfolding byte_taken
newline m b e = simp (eq-eqb b 10 e)

pub letter : (m : Machine) (b : ℕ) → (b ≡ 10 → ⊥) → byte_taken m b ≡ kept m b
unfolding byte_taken
letter m b n = simp (ne_eqb b 10 n)

pub letter-kept : (m : Machine) (b : ℕ) → (b ≡ 10 → ⊥) → m.place.used < length m.line
    → byte_taken m b ≡ machine (record { used = m.place.used + 1; number = m.place.number; session = m.place.session; written = m.place.written }) m.words m.waiting m.list (set m.line m.place.used b) m.text
unfolding byte_taken kept
letter-kept m b n h = simp (ne_eqb b 10 n, lt-ltb _ _ h)

pub letter-lost : (m : Machine) (b : ℕ) → (b ≡ 10 → ⊥) → length m.line ≤ m.place.used → byte_taken m b ≡ m
unfolding byte_taken kept
letter-lost m b n h = simp (ne_eqb b 10 n, le-ltb _ _ h)

pub bytes-more : (m : Machine) (bs : List ℕ) (i : ℕ) → i < length bs → bytes_taken m (drop i bs) ≡ bytes_taken (byte_taken m (get_or bs i 0)) (drop (i + 1) bs)
unfolding bytes_taken
bytes-more m bs i h = simp (drop-cons bs i 0 h, add-one i)

pub bytes-end : (m : Machine) (bs : List ℕ) (i : ℕ) → length bs ≤ i → bytes_taken m (drop i bs) ≡ m
unfolding bytes_taken
bytes-end m bs i h = simp (drop_of_length-le bs h)

pub ended-none : (m : Machine) → m.place.used ≡ 0 → ended m ≡ from_start m
unfolding ended
ended-none m e = simp (eq-eqb m.place.used 0 e)

pub ended_some : (m : Machine) → (m.place.used ≡ 0 → ⊥) → ended m ≡ finished (from_start m)
unfolding ended
ended_some m n = simp (ne_eqb m.place.used 0 n)
