use Rattle.std.proofs.Common.{ℕ, ℤ, ap, ◌∙◌, to_z-of_z, to_z, of_z, w32}
use Rattle.clock_words.specs.ClockWords.{fitted, offset_at, clock_at}
use Rattle.clock_words.proofs.OffsetLaws.{offset-fits}
use Rattle.clock_words.proofs.WordLaws.{converted-is}
use Rattle.clock_words.proofs.load.Goals as goal

pub returns : goal.returns
unfolding clock_at
returns c = λ i. record {
  utc_filetime = c.get-utc_filetime.ensures i;
  uptime_ms = c.get-uptime_ms.ensures i;
  submillisecond_100ns = (c.unwrap_or-submillisecond_100ns.ensures ∙ converted-is 4294967295 _ 10000 _ c.try_from.ensures ∙ ap (λ (x : ℕ). fitted 4294967295 x 10000) c.get.ensures) i;
  utc_offset_minutes = (ap (λ (z : ℤ). to_z w32 (of_z w32 z)) (c.offset_at-utc_offset_minutes.ensures ∙ ap offset_at c.get-2.ensures) ∙ to_z-of_z (offset-fits _)) i;
  base_mhz = (c.unwrap_or-base_mhz.ensures ∙ converted-is 4294967295 _ 0 _ c.try_from-2.ensures ∙ ap (λ (x : ℕ). fitted 4294967295 x 0) c.get-3.ensures) i;
  pending_cycles = c.get-pending_cycles.ensures i;
  until_flush = (c.unwrap_or-until_flush.ensures ∙ converted-is 65535 _ 0 _ c.try_from-3.ensures ∙ ap (λ (x : ℕ). fitted 65535 x 0) c.get-4.ensures) i;
}
