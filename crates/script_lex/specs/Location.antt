-- Where a timer or a DPC stands, as a line has it: its address, its architecture and its backing.
use Rattle.std.specs.Prelude.{cond, List, ℕ, Option, Some, None}
use Rattle.arch.specs.declared.Architecture.{Architecture}
use Rattle.arch.specs.declared.Architecture.TheVariants as architecture
use Rattle.images.specs.declared.TimerBacking.{TimerBacking}
use Rattle.images.specs.declared.TimerBacking.TheVariants as memory
use Rattle.script_lex.specs.declared.location.Location.{Location}
use Rattle.script_lex.specs.declared.command.Command.{Command}
use Rattle.script_lex.specs.Names as name
use Rattle.script_lex.specs.Words.{first, others, same}
use Rattle.script_lex.specs.Numbers.{number_of}
use Rattle.script_lex.specs.Arguments.{most}

unfoldable pub architecture_of : List ℕ → Option Architecture
architecture_of w = cond (same w name.x64) (Some architecture.X64) (cond (same w name.x86) (Some architecture.X86) None)

-- ---- a backing: `image BASE SIZE` or `pool BASE REQUESTED MAPPED`, more words may follow

unfoldable pub image_of : Option ℕ → Option ℕ → Option TimerBacking
image_of (Some base) (Some size) = Some (memory.Image base size)
image_of (Some base) None = None
image_of None size = None

unfoldable pub pool_of : Option ℕ → Option ℕ → Option ℕ → Option TimerBacking
pool_of (Some base) (Some requested) (Some mapped) = Some (memory.NonpagedPool base requested mapped)
pool_of (Some base) (Some requested) None = None
pool_of (Some base) None mapped = None
pool_of None requested mapped = None

-- behind `image`
unfoldable pub image_line : List (List ℕ) → Option TimerBacking
image_line ws = image_of (number_of most (first ws)) (number_of most (first (others ws)))

-- behind `pool`
unfoldable pub pool_line : List (List ℕ) → Option TimerBacking
pool_line ws = pool_of (number_of most (first ws)) (number_of most (first (others ws))) (number_of most (first (others (others ws))))

unfoldable pub backing_of : List (List ℕ) → Option TimerBacking
backing_of ws = cond (same (first ws) name.image) (image_line (others ws)) (cond (same (first ws) name.pool) (pool_line (others ws)) None)

-- the words behind a backing: an image has three, else there are four
unfoldable pub behind_backing : List (List ℕ) → List (List ℕ)
behind_backing ws = cond (same (first ws) name.image) (others (others (others ws))) (others (others (others (others ws))))

-- ---- the address, the architecture and the backing

unfoldable pub placed : Option ℕ → Option Architecture → Option TimerBacking → Option Location
placed (Some address) (Some a) (Some b) = Some (record { address = address; architecture = a; backing = b })
placed (Some address) (Some a) None = None
placed (Some address) None b = None
placed None a b = None

unfoldable pub location_of : List (List ℕ) → Option Location
location_of ws = placed (number_of most (first ws)) (architecture_of (first (others ws))) (backing_of (others (others ws)))

unfoldable pub behind_location : List (List ℕ) → List (List ℕ)
behind_location ws = behind_backing (others (others ws))

unfoldable pub with_location : (ℕ → Architecture → TimerBacking → Option Command) → Option Location → Option Command
with_location f None = None
with_location f (Some x) = f x.address x.architecture x.backing
