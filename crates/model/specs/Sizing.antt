-- Which limits there are, and when a number of words is the least that `open` accepts.
use Rattle.std.specs.Prelude.{ℕ, ◌≤◌, ◌<◌, ◌≡◌}
use Rattle.model.specs.Refusal.{open_refusal}

-- "threads T 1–256, objects O 0–4096, DPCs D 0–4096"
pub record InRange (t o d : ℕ) : Type 0 where
  pub some_thread : 1 ≤ t
  pub threads : t ≤ 256
  pub objects : o ≤ 4096
  pub dpcs : d ≤ 4096

-- with these limits `open` accepts `n` words and more, and refuses fewer by 27
pub record Least (p t o d n : ℕ) : Type 0 where
  pub enough : (m : ℕ) → n ≤ m → open_refusal m p t o d ≡ 0
  pub fewer : (m : ℕ) → m < n → open_refusal m p t o d ≡ 27
