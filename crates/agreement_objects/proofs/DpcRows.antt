-- The eleven words of a new DPC as a row, and that a DPC's row does not depend on its link.
use Prim.Native.Nat.{ℕ, zero, suc, ◌+◌}
use mathlib.Core.List.{List, [], ◌∷◌}
use mathlib.Core.Option.{Option, none, some}
use mathlib.Core.Path.{◌≡◌, sym, ap, ◌∙◌}
use native.Mathlib.Omega.{arith}
use lib.ListN.{get_or}
use Rattle.images.specs.declared.Dpc.{Dpc}
use Rattle.dpc_table.specs.declared.NewDpc.{NewDpc}
use Rattle.model.proofs.TableLaws.{none-some, some_same}
use Rattle.agreement_tables.specs.Tables.{NoLink, Local, DpcAt}
use Rattle.agreement_tables.proofs.Holds.{row-local}
use Rattle.agreement.specs.Row.{Row}
use Rattle.agreement.specs.Records.{dpc_row}
use Rattle.agreement.proofs.Rows.{says-short}
use Rattle.agreement.proofs.Frames.{dpc-short}

-- the eleven words as a row
abbrev pub eleven_row : ℕ → NewDpc → List (Option ℕ)
eleven_row address d =
    some address ∷ some 0 ∷ none ∷ some 0 ∷ some d.architecture ∷ some d.backing ∷ some d.base ∷ some d.size ∷ some d.mapped ∷ some d.routine ∷ some d.context ∷ []

pub eleven-row : (w : List ℕ) (place address : ℕ) (d : NewDpc) → DpcAt w place address d → Row w place (eleven_row address d)
eleven-row w place address d h zero n e = ap (λ (p : ℕ). get_or w p 0) (let z : place + 0 ≡ place = omega arith in z) ∙ h.address_word ∙ some_same address n e
eleven-row w place address d h (suc zero) n e = h.phase_word ∙ some_same 0 n e
eleven-row w place address d h (suc (suc zero)) n e = absurd (none-some n e)
eleven-row w place address d h (suc (suc (suc zero))) n e = h.timer_word ∙ some_same 0 n e
eleven-row w place address d h (suc (suc (suc (suc zero)))) n e = h.architecture_word ∙ some_same d.architecture n e
eleven-row w place address d h (suc (suc (suc (suc (suc zero))))) n e = h.backing_word ∙ some_same d.backing n e
eleven-row w place address d h (suc (suc (suc (suc (suc (suc zero)))))) n e = h.base_word ∙ some_same d.base n e
eleven-row w place address d h (suc (suc (suc (suc (suc (suc (suc zero))))))) n e = h.size_word ∙ some_same d.size n e
eleven-row w place address d h (suc (suc (suc (suc (suc (suc (suc (suc zero)))))))) n e = h.mapped_word ∙ some_same d.mapped n e
eleven-row w place address d h (suc (suc (suc (suc (suc (suc (suc (suc (suc zero))))))))) n e = h.routine_word ∙ some_same d.routine n e
eleven-row w place address d h (suc (suc (suc (suc (suc (suc (suc (suc (suc (suc zero)))))))))) n e = h.context_word ∙ some_same d.context n e
eleven-row w place address d h (suc (suc (suc (suc (suc (suc (suc (suc (suc (suc (suc k))))))))))) n e = absurd (none-some n e)

pub dpc-local : (holder : ℕ → ℕ) → Local NoLink (λ (w : List ℕ) (place : ℕ) (d : Dpc). Row w place (dpc_row (holder d.address) d))
dpc-local holder = row-local NoLink (λ d. dpc_row (holder d.address) d)
    (λ d k n e. (
      omega (arith, says-short (dpc_row (holder d.address) d) k n e, dpc-short (holder d.address) d),
      λ q. none-some n (ap (λ (j : ℕ). get_or (dpc_row (holder d.address) d) j none) (sym q) ∙ e),
    ))
