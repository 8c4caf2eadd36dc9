-- The words after a DPC is made or written anew, and after DPCs are taken out.
use Rattle.std.specs.Prelude.{cond, ℕ, zero, suc, ◌+◌, List, get_or, set, eqb, leb}
use Rattle.words.specs.Layout as at
use Rattle.words.specs.Layout.{entry_at}
use Rattle.tables.specs.Table.{position, gap_opened}
use Rattle.tables.specs.Compact.{compacted, compacted_to}
use Rattle.objects.specs.Objects.{dpcs_base, dpc_found}
use Rattle.chains.specs.declared.Chain.{Chain}
use Rattle.chains.specs.Chain.{link_at, next_of}
use Rattle.dpcs.specs.Record.{place_at, queue_chain, dpc_count}
use Rattle.dpc_table.specs.declared.NewDpc.{NewDpc}

-- ---- a record written whole

-- idle, in no queue, and no timer's
unfoldable pub put_idle : List ℕ → ℕ → ℕ → List ℕ
put_idle w place address = set (set (set (set w place address) (place + at.phase) 0) (place + at.next_queued) 0) (place + at.named_by) 0

unfoldable pub put_image : List ℕ → ℕ → NewDpc → List ℕ
put_image w place d =
    set
    (set
    (set
    (set
    (set
    (set
    (set w (place + at.dpc_architecture) d.architecture)
    (place + at.dpc_backing) d.backing)
    (place + at.dpc_base) d.base)
    (place + at.dpc_size) d.size)
    (place + at.dpc_mapped) d.mapped)
    (place + at.routine) d.routine)
    (place + at.context) d.context

unfoldable pub put_dpc : List ℕ → ℕ → ℕ → NewDpc → List ℕ
put_dpc w place address d = put_image (put_idle w place address) place d

-- ---- enter: a record made, and the numbers behind it one more

unfoldable pub raised_number : ℕ → ℕ → ℕ
raised_number n i = cond (leb n i) n (cond (leb 4096 n) n (n + 1))

unfoldable pub number_raised : List ℕ → ℕ → ℕ → List ℕ
number_raised w place i = set w place (raised_number (get_or w place 0) i)

-- `m` links from that of DPC `k` on; link 0 is the queue's first
unfoldable pub links_raised_in : ℕ → List ℕ → Chain → ℕ → ℕ → List ℕ
links_raised_in zero w c k i = w
links_raised_in (suc m) w c k i = links_raised_in m (number_raised w (link_at c k) i) c (k + 1) i

unfoldable pub links_raised : List ℕ → ℕ → ℕ → List ℕ
links_raised w n i = number_raised (links_raised_in (n + 1) w (queue_chain w) 0 i) at.queue_last i

unfoldable pub inserted : List ℕ → ℕ → NewDpc → List ℕ
inserted w address d =
    let n = get_or w at.dpcs 0 in
    let base = dpcs_base w in
    let i = position w base n address in
    cond (leb 4096 n) w (set (put_dpc (gap_opened (links_raised w n i) base n i) (entry_at base i) address d) at.dpcs (n + 1))

unfoldable pub entered : List ℕ → ℕ → NewDpc → List ℕ
entered w address d = cond (eqb (dpc_found w address) 0) (inserted w address d) (put_dpc w (dpc_found w address) address d)

-- ---- close_up: the DPCs of phase 9 taken out

-- the new number, one more than the last one given, where the DPC stays; and then the last one given
unfoldable pub number_put : List ℕ → ℕ → ℕ → List ℕ
number_put w place last = cond (eqb (get_or w (place + at.phase) 0) 9) w (set w (place + at.new_number) (last + 1))

unfoldable pub number_to : List ℕ → ℕ → ℕ → ℕ
number_to w place last = cond (eqb (get_or w (place + at.phase) 0) 9) last (last + 1)

-- `m` DPCs from position `i` on
unfoldable pub numbered_in : ℕ → List ℕ → ℕ → ℕ → ℕ → List ℕ
numbered_in zero w base i last = w
numbered_in (suc m) w base i last = numbered_in m (number_put w (entry_at base i) last) base (i + 1) (number_to w (entry_at base i) last)

unfoldable pub numbered : List ℕ → List ℕ
numbered w = numbered_in (dpc_count w) w (dpcs_base w) 0 0

unfoldable pub new_number : List ℕ → ℕ → ℕ
new_number w n = cond (eqb n 0) 0 (get_or w (place_at w n + at.new_number) 0)

unfoldable pub link_renewed : List ℕ → Chain → ℕ → List ℕ
link_renewed w c before = set w (link_at c before) (new_number w (next_of w c before))

-- at most `m` links from that of `before` on, by the old numbers
unfoldable pub links_renewed_in : ℕ → List ℕ → Chain → ℕ → List ℕ
links_renewed_in zero w c before = w
links_renewed_in (suc m) w c before =
    cond (eqb (next_of w c before) 0) (link_renewed w c before) (links_renewed_in m (link_renewed w c before) c (next_of w c before))

-- the queue's first and the links of 4096 DPCs
unfoldable pub links_renewed : List ℕ → Chain → List ℕ
links_renewed w c = links_renewed_in 4097 w c 0

unfoldable pub relinked : List ℕ → List ℕ
relinked w =
    let renewed = links_renewed w (queue_chain w) in
    set renewed at.queue_last (new_number renewed (get_or renewed at.queue_last 0))

unfoldable pub settled : List ℕ → List ℕ
settled w = set (compacted w (dpcs_base w) (dpc_count w) at.phase 9) at.dpcs (compacted_to w (dpcs_base w) (dpc_count w) at.phase 9)

unfoldable pub closed_up : List ℕ → List ℕ
closed_up w = settled (relinked (numbered w))
