-- P1 to P9 together, the example script, the readings to rule out, and waits for "all": computed.
use mathlib.Core.List.{[], ◌∷◌}
use mathlib.Core.Bool.{true}
use mathlib.Core.Path.{◌≡◌, refl}
use Rattle.images.specs.Place.{location_refusal, is_outside, overlaps}
use Rattle.clock.specs.Samples as clock
use Rattle.clock.specs.Clock.{offset_in_range, in_range, in_form, when_in_form, read_in_form, started, created, advances, moved, flush_ticks, flushes, flushed, instructed, instruction, qpc}
use Rattle.model.specs.State.{State}
use Rattle.model.specs.Threads as threads
use Rattle.model.specs.Waits as waits
use Rattle.model.specs.Timers as timers
use Rattle.model.specs.Dpcs as dpcs
use Rattle.model.specs.Refusal as row
use Rattle.model.specs.Reads as reads
use Rattle.model.specs.Step.{answers, refusal, effect, step}
use Rattle.model.specs.Step as does
use Rattle.model_samples.specs.Samples as sample
use Rattle.model_samples.specs.Samples.{samples, script, printed, readings, ruled, all_waits, every_or_none, p1, p2, p3, p4, p5, p6, p9}

pub all-samples : samples ≡ (true ∷ true ∷ true ∷ true ∷ true ∷ true ∷ true ∷ true ∷ true ∷ [])
unfolding samples p1 p2 p3 p4 p5 p6 p9 sample.told sample.is_told sample.refuses sample.times_out sample.blocks_at sample.due_is sample.begun sample.with_timer sample.periodic sample.events sample.list_of clock.p7 clock.of clock.stands clock.iterate started created in_range offset_in_range in_form instruction when_in_form instructed flushes flushed flush_ticks advances moved clock.p8 clock.at_limit clock.reads clock.refuses qpc read_in_form step refusal effect threads.becomes threads.woken threads.blocked waits.wake_one waits.wake waits.time_out timers.new_timer timers.armed timers.next_due timers.expired timers.horizon_refusal timers.expiry_refusal timers.dpcs_after timers.expire_one row.collides row.is_full row.event_refusal row.bad_list row.sequence_refusal row.wait_refusal row.delay_refusal row.advance_refusal row.is_overlapped row.place_refusal location_refusal is_outside row.timer_refusal row.arm_refusal row.set_refusal row.set_signed_refusal row.unknown_timer reads.read_refusal reads.read_answer does.opened does.granted does.timed_out does.blocks does.waited does.delayed does.advanced does.timer_initialized does.timer_set
all-samples = refl

-- whatever was before: an accepted `open` starts anew
pub example-script : (s : State) → answers script s ≡ printed
unfolding script printed step refusal effect row.open_refusal row.not_priority row.bad_limits does.opened row.event_refusal row.collides row.is_full row.create_refusal threads.created threads.becomes row.wait_refusal row.bad_list row.sequence_refusal does.waited does.blocks does.granted does.timed_out threads.blocked row.dispatch_refusal does.dispatched does.idle_answer does.counts threads.ran row.signal_refusal does.event_set waits.wake waits.wake_one threads.woken row.yield_refusal threads.yielded
example-script s = refl

-- the readings that document 01 rules out, but for the clock's
pub all-readings : readings ≡ ruled
unfolding readings ruled sample.begun sample.granted_at2 sample.wakes_first sample.cancels_queued location_refusal is_outside overlaps step refusal effect threads.becomes threads.created threads.woken threads.blocked threads.ran waits.wake_one waits.wake waits.time_out timers.new_timer timers.armed timers.next_due timers.expired timers.horizon_refusal timers.expiry_refusal timers.dpcs_after timers.expire_one dpcs.accepted dpcs.withdrawn row.not_priority row.create_refusal row.collides row.is_full row.event_refusal row.bad_list row.sequence_refusal row.wait_refusal row.advance_refusal row.is_overlapped row.place_refusal row.timer_refusal row.dpc_refusal row.arm_refusal row.set_refusal row.unknown_timer row.is_untouched row.configure_refusal row.dispatch_refusal does.opened does.granted does.timed_out does.blocks does.waited does.advanced does.counts does.idle_answer does.dispatched does.timer_initialized does.dpc_initialized does.timer_set does.cancels_work does.timer_cancelled does.configured
all-readings = refl

-- a wait for "all" takes every one or none
pub all-waits : all_waits ≡ every_or_none
unfolding all_waits every_or_none sample.begun sample.both_waited sample.event_is step refusal effect threads.becomes threads.blocked row.collides row.is_full row.event_refusal row.bad_list row.sequence_refusal row.wait_refusal reads.read_refusal reads.read_answer does.opened does.granted does.blocks does.waited
all-waits = refl
