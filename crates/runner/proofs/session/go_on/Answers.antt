use mathlib.Core.Path.{◌∙◌, ap}
use mir.Syntax.{w32}
use mir.Val.{SFits}
use mir.Facts.{to_z-of_z}
use Rattle.std.proofs.Common.{rules}
use Rattle.answers.proofs.Converted.{told-is}
use Rattle.clock.specs.declared.GuestClock.{GuestClock}
use Rattle.clock.specs.Clock.{instruction, advance_microseconds, advance100ns, advance_milliseconds, flush_cycles, observe, qpc, tick64, tsc}
use Rattle.runner.proofs.CommandLaws.{same_step, goes_on, mapped}
use Rattle.commands.specs.Commands.{asked}
use Rattle.runner.specs.Session.{unchanged, new_clock, moved, told, gone_on}
use Rattle.runner.proofs.session.go_on.Goals as goal

pub returns-in-Dispatch : goal.returns-in-Dispatch
unfolding asked gone_on
returns-in-Dispatch c = simp (c.in-Dispatch.is, ← c.dispatch.ensures) (same_step _ _ _ _ (c.unchanged.ensures ∙ ap (unchanged _) (told-is _ _ _ c.into.ensures (λ x b e. e))))

pub returns-in-ClockNew : goal.returns-in-ClockNew
unfolding asked gone_on
returns-in-ClockNew c = let f : SFits w32 c.in-ClockNew.offset = search rules in simp c.in-ClockNew.is (same_step _ _ _ _ (c.new_clock.ensures ∙ ap (new_clock _) (simp (to_z-of_z f) at c.new.ensures)))

pub returns-in-ClockInstruction : goal.returns-in-ClockInstruction
unfolding asked gone_on
returns-in-ClockInstruction c = simp c.in-ClockInstruction.is (same_step _ _ _ _ (c.moved.ensures ∙ ap (moved _) (mapped instruction (λ x y q. search rules) c.args.s.clock _ c.map.ensures.cases)))

pub returns-in-ClockAdvanceMicroseconds : goal.returns-in-ClockAdvanceMicroseconds
unfolding asked gone_on
returns-in-ClockAdvanceMicroseconds c = simp c.in-ClockAdvanceMicroseconds.is (same_step _ _ _ _ (c.moved-in-ClockAdvanceMicroseconds.ensures ∙ ap (moved _) (mapped (λ (k : GuestClock). advance_microseconds k c.in-ClockAdvanceMicroseconds.n) (λ x y q. search rules) c.args.s.clock _ c.map-in-ClockAdvanceMicroseconds.ensures.cases)))

pub returns-in-ClockAdvance100ns : goal.returns-in-ClockAdvance100ns
unfolding asked gone_on
returns-in-ClockAdvance100ns c = simp c.in-ClockAdvance100ns.is (same_step _ _ _ _ (c.moved-in-ClockAdvance100ns.ensures ∙ ap (moved _) (mapped (λ (k : GuestClock). advance100ns k c.in-ClockAdvance100ns.n) (λ x y q. search rules) c.args.s.clock _ c.map-in-ClockAdvance100ns.ensures.cases)))

pub returns-in-ClockAdvanceMilliseconds : goal.returns-in-ClockAdvanceMilliseconds
unfolding asked gone_on
returns-in-ClockAdvanceMilliseconds c = simp c.in-ClockAdvanceMilliseconds.is (same_step _ _ _ _ (c.moved-in-ClockAdvanceMilliseconds.ensures ∙ ap (moved _) (mapped (λ (k : GuestClock). advance_milliseconds k c.in-ClockAdvanceMilliseconds.n) (λ x y q. search rules) c.args.s.clock _ c.map-in-ClockAdvanceMilliseconds.ensures.cases)))

pub returns-in-ClockFlushCycles : goal.returns-in-ClockFlushCycles
unfolding asked gone_on
returns-in-ClockFlushCycles c = simp c.in-ClockFlushCycles.is (same_step _ _ _ _ (c.moved-in-ClockFlushCycles.ensures ∙ ap (moved _) (mapped flush_cycles (λ x y q. search rules) c.args.s.clock _ c.map-in-ClockFlushCycles.ensures.cases)))

pub returns-in-ClockObserve : goal.returns-in-ClockObserve
unfolding asked gone_on
returns-in-ClockObserve c = simp c.in-ClockObserve.is (same_step _ _ _ _ (c.moved-in-ClockObserve.ensures ∙ ap (moved _) (mapped observe (λ x y q. search rules) c.args.s.clock _ c.map-in-ClockObserve.ensures.cases)))

pub returns-in-ClockQpc : goal.returns-in-ClockQpc
unfolding asked gone_on
returns-in-ClockQpc c = simp c.in-ClockQpc.is (same_step _ _ _ _ (c.told.ensures ∙ ap (told _) (mapped qpc (λ x y q. search rules) c.args.s.clock _ c.map-in-ClockQpc.ensures.cases)))

pub returns-in-ClockTick64 : goal.returns-in-ClockTick64
unfolding asked gone_on
returns-in-ClockTick64 c = simp c.in-ClockTick64.is (same_step _ _ _ _ (c.told-in-ClockTick64.ensures ∙ ap (told _) (mapped tick64 (λ x y q. search rules) c.args.s.clock _ c.map-in-ClockTick64.ensures.cases)))

pub returns-in-ClockTsc : goal.returns-in-ClockTsc
unfolding asked gone_on
returns-in-ClockTsc c = simp c.in-ClockTsc.is (same_step _ _ _ _ (c.told-in-ClockTsc.ensures ∙ ap (told _) (mapped tsc (λ x y q. search rules) c.args.s.clock _ c.map-in-ClockTsc.ensures.cases)))

pub returns-in_default : goal.returns-in_default
returns-in_default c = simp c.unchanged-in_default.ensures (goes_on _ _ _ _ c.args.c (record { dispatch = c.in_default.not-Dispatch; new = c.in_default.not-ClockNew; instruction = c.in_default.not-ClockInstruction; microseconds = c.in_default.not-ClockAdvanceMicroseconds; hundreds = c.in_default.not-ClockAdvance100ns; milliseconds = c.in_default.not-ClockAdvanceMilliseconds; flush_cycles = c.in_default.not-ClockFlushCycles; observe = c.in_default.not-ClockObserve; qpc = c.in_default.not-ClockQpc; tick64 = c.in_default.not-ClockTick64; tsc = c.in_default.not-ClockTsc }) _ _ c.on_words.ensures)
