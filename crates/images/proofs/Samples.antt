-- The bytes of the samples, computed: a DPC's open with 0x13 0x01, and every field stands where document 01 has it.
use Rattle.std.proofs.Common.{◌≡◌, refl}
use Rattle.images.specs.Field.{placed, little, laid}
use Rattle.images.specs.Image.{image, timer_head, timer_links, timer_times, timer_fields, timer_image, dpc_head, two_words, work_fields, phase_fields, dpc_fields, dpc_image}
use Rattle.images.specs.Samples.{room, dpc_x64, dpc_x64_bytes, dpc_x86, dpc_x86_bytes, timer_x64, timer_x64_bytes, timer_x86, timer_x86_bytes}

pub dpc-x64 : dpc_image dpc_x64 room ≡ dpc_x64_bytes
unfolding room dpc_x64 dpc_x64_bytes dpc_image image dpc_fields dpc_head two_words phase_fields work_fields laid placed little
dpc-x64 = refl

pub dpc-x86 : dpc_image dpc_x86 room ≡ dpc_x86_bytes
unfolding room dpc_x86 dpc_x86_bytes dpc_image image dpc_fields dpc_head two_words phase_fields work_fields laid placed little
dpc-x86 = refl

pub timer-x64 : timer_image timer_x64 room ≡ timer_x64_bytes
unfolding room timer_x64 timer_x64_bytes timer_image image timer_fields timer_head timer_links timer_times laid placed little
timer-x64 = refl

pub timer-x86 : timer_image timer_x86 room ≡ timer_x86_bytes
unfolding room timer_x86 timer_x86_bytes timer_image image timer_fields timer_head timer_links timer_times laid placed little
timer-x86 = refl
