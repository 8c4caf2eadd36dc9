use Rattle.std.proofs.Common.{◌+◌, ◌^◌, arith, le-ltb, lt-ltb, le-leb}
use borrow.Author.Tests.{lt-leb}
use Rattle.images.specs.Place.{is_outside}
use Rattle.images.proofs.is_outside.Goals as goal

pub returns-then-address-base : goal.returns-then-address-base
unfolding is_outside
returns-then-address-base c = simp (← c.backing_base-base.ensures, lt-ltb _ _ c.if-address-base.true)

pub returns-then-base-length : goal.returns-then-base-length
unfolding is_outside
returns-then-base-length c = simp (← c.backing_base-base.ensures, ← c.backing_size-length.ensures, le-ltb _ _ c.if-address-base.false, le-leb (2 ^ 64) (c.backing_base-base.result + c.backing_size-length.result) (omega arith))

pub returns : goal.returns
unfolding is_outside
returns c = simp (← c.backing_base-base.ensures, ← c.backing_size-length.ensures, le-ltb _ _ c.if-address-base.false, lt-leb (2 ^ 64) (c.backing_base-base.result + c.backing_size-length.result) (omega arith))
