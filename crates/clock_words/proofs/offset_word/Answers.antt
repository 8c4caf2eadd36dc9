use Rattle.std.proofs.Common.{rules, w32, SFits}
use Rattle.clock_words.proofs.OffsetLaws.{out_of_range, sum_fits, sum-casts, cast_is}
use Rattle.clock_words.proofs.offset_word.Goals as goal

pub returns-then-not-offset_in_range : goal.returns-then-not-offset_in_range
returns-then-not-offset_in_range c =
    let h : SFits w32 c.args.c.utc_offset_minutes = search rules in
    out_of_range _ h c.offset_in_range.ensures c.if-not-offset_in_range.true

pub overflow_add-result : goal.overflow_add-result
overflow_add-result c =
    let h : SFits w32 c.args.c.utc_offset_minutes = search rules in
    sum_fits _ h c.offset_in_range.ensures c.if-not-offset_in_range.false

pub overflow_cast-result : goal.overflow_cast-result
overflow_cast-result c =
    let h : SFits w32 c.args.c.utc_offset_minutes = search rules in
    sum-casts _ h c.offset_in_range.ensures c.if-not-offset_in_range.false

pub returns : goal.returns
returns c =
    let h : SFits w32 c.args.c.utc_offset_minutes = search rules in
    cast_is _ h c.offset_in_range.ensures c.if-not-offset_in_range.false
