-- What a walk along a chain has left.
use Rattle.std.specs.Prelude.{ℕ, List}
use Rattle.chains.specs.Chain.{members_in}
use Rattle.chains.specs.declared.Members.{Members}

abbrev pub members_left : Members → List ℕ
members_left it = members_in it.left it.w.now it.chain it.at
