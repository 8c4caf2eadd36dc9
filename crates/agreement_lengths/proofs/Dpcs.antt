-- A DPC made or written anew, and DPCs taken out of the table: as many words.
use Prim.Native.Nat.{ℕ, zero, suc}
use mathlib.Core.List.{List}
use mathlib.Core.Path.{◌≡◌, refl}
use lib.ListN.{length, length-set}
use Rattle.chains.specs.declared.Chain.{Chain}
use Rattle.chains.specs.Chain.{next_of}
use Rattle.objects.specs.Objects.{dpcs_base}
use Rattle.dpc_table.specs.declared.NewDpc.{NewDpc}
use Rattle.dpcs.specs.Record.{dpc_count}
use Rattle.dpc_table.specs.Table.{links_raised, inserted, entered, numbered, link_renewed, links_renewed_in, links_renewed, relinked, settled, closed_up}
use Rattle.agreement_chains.proofs.Raised.{length-number, length-links}
use Rattle.agreement_tables.proofs.Moves.{length-opened}
use Rattle.agreement_tables.proofs.Compacts.{length-compacted}
use Rattle.agreement_tables.proofs.Renewals.{length-numbered}
use Rattle.agreement_tables.proofs.Dpcs.{length-dpc}
use Rattle.agreement_lengths.proofs.Lengths.{length-cond, cond_same}

-- ---- a record made

pub length-links-raised : (w : List ℕ) (n i : ℕ) → length (links_raised w n i) ≡ length w
unfolding links_raised
length-links-raised w n i = simp (length-number, length-links)

pub length_inserted : (w : List ℕ) (address : ℕ) (d : NewDpc) → length (inserted w address d) ≡ length w
unfolding inserted
length_inserted w address d = simp (length-cond, cond_same, length-set, length-dpc, length-opened, length-links-raised)

pub length-entered : (w : List ℕ) (address : ℕ) (d : NewDpc) → length (entered w address d) ≡ length w
unfolding entered
length-entered w address d = simp (length-cond, cond_same, length_inserted, length-dpc)

-- ---- records taken out

pub length-renumbered : (w : List ℕ) → length (numbered w) ≡ length w
unfolding numbered
length-renumbered w = length-numbered (dpc_count w) w (dpcs_base w) 0 0

length-link-renewed : (w : List ℕ) (c : Chain) (before : ℕ) → length (link_renewed w c before) ≡ length w
unfolding link_renewed
length-link-renewed w c before = simp length-set

length-renewed-in : (m : ℕ) (w : List ℕ) (c : Chain) (before : ℕ) → length (links_renewed_in m w c before) ≡ length w
unfolding links_renewed_in
length-renewed-in zero w c before = refl
length-renewed-in (suc m) w c before =
    simp (length-cond, cond_same, length-renewed-in m (link_renewed w c before) c (next_of w c before), length-link-renewed)

pub length-links-renewed : (w : List ℕ) (c : Chain) → length (links_renewed w c) ≡ length w
unfolding links_renewed
length-links-renewed w c = length-renewed-in 4097 w c 0

pub length-relinked : (w : List ℕ) → length (relinked w) ≡ length w
unfolding relinked
length-relinked w = simp (length-set, length-links-renewed)

pub length-settled : (w : List ℕ) → length (settled w) ≡ length w
unfolding settled
length-settled w = simp (length-set, length-compacted)

pub length-closed-up : (w : List ℕ) → length (closed_up w) ≡ length w
unfolding closed_up
length-closed-up w = simp (length-settled, length-relinked, length-renumbered)
