-- Laws of words written one after the other.
use Rattle.std.proofs.Common.{◌≡◌, ℕ, suc, ◌+◌, ◌-◌, ◌*◌, ◌<◌, ◌≤◌, List, arith}
use Rattle.tables.specs.Stores.{put_word}
use Rattle.run_heap.specs.Views.{fill}

pub fill-next :
    (w : List ℕ) (a n i v : ℕ) → i < n → fill (put_word w (a + i * 4) v) (a + (i + 1) * 4) (n - (i + 1)) v ≡ fill w (a + i * 4) (n - i) v
unfolding fill
fill-next w a n i v h =
    let e : n - i ≡ suc (n - (i + 1)) = omega arith in
    let f : a + (i + 1) * 4 ≡ a + i * 4 + 4 = omega arith in
    rw (e, f)

pub fill_end : (w : List ℕ) (a n i v : ℕ) → n ≤ i → fill w (a + i * 4) (n - i) v ≡ w
unfolding fill
fill_end w a n i v h = let e : n - i ≡ 0 = omega arith in rw e
