-- A flat list as a table: rows of w words. One word set, or a run of words inside one row, is one change of the table. The arithmetic of indices is
-- done here, for every width, and nowhere else.
use mathlib.Core.Path.{◌≡◌, refl, sym, ap, ◌∙◌, fun_ext}
use mathlib.Core.List.{List, [], ◌∷◌}
use Prim.Native.Nat.{ℕ, zero, suc, ◌+◌, ◌-◌, ◌*◌, ◌≤◌, ◌<◌}
use native.Mathlib.Nat.{not-suc-le-zero, mul-le-mul_left}
use native.Mathlib.Omega.{arith}
use native.Mathlib.Decide.{dec_lt}
use lib.ListN.{length, get_or, set, length-set, get_or-replicate, get_or-eq_default}
use lib.Seq.{get_or-set_same, get_or-set_other, sets}
use borrow.Author.Tests.{lt-ltb, le-ltb}
use Rattle.preservation.proofs.Tests.{split, upd, upd2, upd_row}
use Rattle.preservation.proofs.Tables.{over_row}
use Rattle.rules.specs.Store.{tab, zeros}
use Rattle.rules.proofs.Lists.{length-zeros}

pub tab-in : (w : ℕ) (xs : List ℕ) (i k : ℕ) → k < w → tab w xs i k ≡ get_or xs (w * i + k) 0
tab-in w xs i k h = rw (lt-ltb k w h)

pub tab_out : (w : ℕ) (xs : List ℕ) (i k : ℕ) → w ≤ k → tab w xs i k ≡ 0
tab_out w xs i k h = rw (le-ltb k w h)

rows_apart : (w i j : ℕ) → i < j → w * i + w ≤ w * j
rows_apart w i j h = omega (arith, mul-le-mul_left w h)

-- ---- ys is l with vs from index i on

pub record Run (l : List ℕ) (i : ℕ) (vs : List ℕ) (ys : List ℕ) : Type 0 where
  pub inside : (k : ℕ) → k < length vs → get_or ys (i + k) 0 ≡ get_or vs k 0
  pub before : (n : ℕ) → n < i → get_or ys n 0 ≡ get_or l n 0
  pub past : (n : ℕ) → i + length vs ≤ n → get_or ys n 0 ≡ get_or l n 0

pub set-run : (l : List ℕ) (i v : ℕ) → i < length l → Run l i (v ∷ []) (set l i v)
set-run l i v h = record {
  inside = λ k hk. let z : k ≡ 0 = omega arith in let e : i + k ≡ i = omega arith in rw (e, z) (get_or-set_same l i v 0 h);
  before = λ n hn. get_or-set_other l i n v 0 (λ e. omega arith);
  past = λ n hn. get_or-set_other l i n v 0 (λ e. omega arith);
}

pub sets-run : (vs l : List ℕ) (i : ℕ) → i + length vs ≤ length l → Run l i vs (sets l i vs)
sets-run [] l i h = record { inside = λ k hk. absurd (not-suc-le-zero hk); before = λ n _. refl; past = λ n _. refl }
sets-run (v ∷ vs) l i h = go (sets-run vs (set l i v) (suc i) (rw (length-set l i v) (omega arith)))
  where
    go : Run (set l i v) (suc i) vs (sets (set l i v) (suc i) vs) → Run l i (v ∷ vs) (sets (set l i v) (suc i) vs)
    go r = record {
      inside = λ k. here k;
      before = λ n hn. r.before n (omega arith) ∙ get_or-set_other l i n v 0 (λ e. omega arith);
      past = λ n hn. r.past n (omega arith) ∙ get_or-set_other l i n v 0 (λ e. omega arith);
    }
      where
        here : (k : ℕ) → k < suc (length vs) → get_or (sets (set l i v) (suc i) vs) (i + k) 0 ≡ get_or (v ∷ vs) k 0
        here zero hk = let e : i + 0 ≡ i = omega arith in rw e (r.before i (omega arith) ∙ get_or-set_same l i v 0 (omega arith))
        here (suc k) hk = let e : i + suc k ≡ suc i + k = omega arith in rw e (r.inside k (omega arith))

-- ---- a run inside one row

pub tab-run : (w : ℕ) (l ys : List ℕ) (j a : ℕ) (vs : List ℕ) → Run l (w * j + a) vs ys → a + length vs ≤ w → tab w ys ≡ upd (tab w l) j (over_row (tab w l j) a vs)
tab-run w l ys j a vs r h = fun_ext (λ i. fun_ext (λ k. at i k (dec_lt k w)))
  where
    same : (i k : ℕ) → k < w → get_or ys (w * i + k) 0 ≡ get_or l (w * i + k) 0 → tab w ys i k ≡ tab w l i k
    same i k hk e = tab-in w ys i k hk ∙ e ∙ sym (tab-in w l i k hk)

    row : (k : ℕ) → k < w → Dec (k < a) → Dec (k < a + length vs) → tab w ys j k ≡ over_row (tab w l j) a vs k
    row k hk (yes p) d = rw (lt-ltb k a p) (same j k hk (r.before (w * j + k) (omega arith)))
    row k hk (no p) (yes q) =
        let e : w * j + k ≡ w * j + a + (k - a) = omega arith in
        rw (le-ltb k a (omega arith), lt-ltb k (a + length vs) q) (tab-in w ys j k hk ∙ rw e (r.inside (k - a) (omega arith)))
    row k hk (no p) (no q) = rw (le-ltb k a (omega arith), le-ltb k (a + length vs) (omega arith)) (same j k hk (r.past (w * j + k) (omega arith)))

    beyond : (k : ℕ) → w ≤ k → over_row (tab w l j) a vs k ≡ 0
    beyond k hk = rw (le-ltb k a (omega arith), le-ltb k (a + length vs) (omega arith)) (tab_out w l j k hk)

    at : (i k : ℕ) → Dec (k < w) → tab w ys i k ≡ upd (tab w l) j (over_row (tab w l j) a vs) i k
    at i k (yes hk) = split i j
        (λ q t. rw (t, q) (row k hk (dec_lt k a) (dec_lt k (a + length vs))))
        (λ q t. rw t (same i k hk (apart q (dec_lt i j))))
      where
        apart : (i ≡ j → ⊥) → Dec (i < j) → get_or ys (w * i + k) 0 ≡ get_or l (w * i + k) 0
        apart q (yes p) = r.before (w * i + k) (omega (arith, rows_apart w i j p))
        apart q (no p) = r.past (w * i + k) (omega (arith, rows_apart w j i (omega arith)))
    at i k (no hk) = split i j
        (λ q t. rw t (tab_out w ys i k (omega arith) ∙ sym (beyond k (omega arith))))
        (λ q t. rw t (tab_out w ys i k (omega arith) ∙ sym (tab_out w l i k (omega arith))))

-- one word
pub tab-set : (w : ℕ) (l : List ℕ) (j c v : ℕ) → w * j + c < length l → c < w → tab w (set l (w * j + c) v) ≡ upd_row (tab w l) j c v
tab-set w l j c v h hc = tab-run w l (set l (w * j + c) v) j c (v ∷ []) (set-run l (w * j + c) v h) (omega arith) ∙ ap (λ (r : ℕ → ℕ). upd (tab w l) j r) (fun_ext (λ k. word k))
  where
    word : (k : ℕ) → over_row (tab w l j) c (v ∷ []) k ≡ upd (tab w l j) c v k
    word k = split k c
        (λ q t. let e : k - c ≡ 0 = omega arith in rw (t, le-ltb k c (omega arith), lt-ltb k (c + 1) (omega arith), e))
        (λ q t. rw t (go q (dec_lt k c)))
      where
        go : (k ≡ c → ⊥) → Dec (k < c) → over_row (tab w l j) c (v ∷ []) k ≡ tab w l j k
        go q (yes p) = rw (lt-ltb k c p)
        go q (no p) = rw (le-ltb k c (omega arith), le-ltb k (c + 1) (omega arith))

-- a changed word, the column looked at first or the row
pub upd2-row : (f : ℕ → ℕ → ℕ) (j c v : ℕ) → upd_row f j c v ≡ upd2 f j c v
upd2-row f j c v = fun_ext (λ i. fun_ext (λ k. split i j
    (λ q t. split k c (λ p u. rw (t, u)) (λ p u. rw (t, u, q)))
    (λ q t. split k c (λ p u. rw (t, u)) (λ p u. rw (t, u)))))

-- two changes of one row are one
pub upd-twice : {A : Type 0} (f : ℕ → A) (j : ℕ) (x y : A) → upd (upd f j x) j y ≡ upd f j y
upd-twice f j x y = fun_ext (λ i. split i j (λ q t. rw t) (λ q t. rw t))

pub upd-same-value : {A : Type 0} (f : ℕ → A) (j : ℕ) → upd f j (f j) ≡ f
upd-same-value f j = fun_ext (λ i. split i j (λ q t. rw (t, q)) (λ q t. rw t))

-- a row written whole
pub tab-row : (w : ℕ) (l : List ℕ) (j : ℕ) (ws : List ℕ) → length ws ≡ w → w * j + w ≤ length l → tab w (sets l (w * j + 0) ws) ≡ upd (tab w l) j (λ c. get_or ws c 0)
tab-row w l j ws e h =
    tab-run w l (sets l (w * j + 0) ws) j 0 ws (sets-run ws l (w * j + 0) (omega arith)) (omega arith)
    ∙ ap (λ (r : ℕ → ℕ). upd (tab w l) j r) (fun_ext (λ c. word c (dec_lt c w)))
  where
    word : (c : ℕ) → Dec (c < w) → over_row (tab w l j) 0 ws c ≡ get_or ws c 0
    word c (yes q) = let z : c - 0 ≡ c = omega arith in rw (le-ltb c 0 (omega arith), lt-ltb c (0 + length ws) (omega arith), z)
    word c (no q) = rw (le-ltb c 0 (omega arith), le-ltb c (0 + length ws) (omega arith)) (tab_out w l j c (omega arith) ∙ sym (get_or-eq_default ws 0 (omega arith)))

pub get_or-zeros : (n k : ℕ) → get_or (zeros n) k 0 ≡ 0
get_or-zeros n k = go (dec_lt k n)
  where
    go : Dec (k < n) → get_or (zeros n) k 0 ≡ 0
    go (yes h) = get_or-replicate n k 0 0 h
    go (no h) = get_or-eq_default (zeros n) 0 (omega (arith, length-zeros n))
