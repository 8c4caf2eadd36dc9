-- The expiry of a list of timers, as the code walks it.
use Rattle.std.proofs.Common.{◌≡◌, ℕ, ◌+◌, ◌<◌, ◌≤◌, List, length, get_or, drop, sym, ap, ◌∙◌, add-one, drop_of_length-le, drop-cons}
use Rattle.words.specs.Layout.{entry_at}
use Rattle.expiry.specs.Expire.{expired_one, expired_list}

pub expired-end : (w : List ℕ) (base : ℕ) (list : List ℕ) (i time : ℕ) → length list ≤ i → expired_list w base (drop i list) time ≡ w
unfolding expired_list
expired-end w base list i time h = ap (λ (l : List ℕ). expired_list w base l time) (drop_of_length-le list h)

pub expired-more : (w : List ℕ) (base : ℕ) (list : List ℕ) (i time : ℕ) → i < length list
    → expired_list w base (drop i list) time ≡ expired_list (expired_one w (entry_at base (get_or list i 0)) time) base (drop (i + 1) list) time
unfolding expired_list
expired-more w base list i time h =
    ap (λ (l : List ℕ). expired_list w base l time) (drop-cons list i 0 h)
    ∙ ap (λ (k : ℕ). expired_list (expired_one w (entry_at base (get_or list i 0)) time) base (drop k list) time) (sym (add-one i))
