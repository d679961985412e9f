-- What the view shows of a slot, as bytes of the tables; and the directory entries of a list of bytes as rows.
use mathlib.Core.Path.{◌≡◌, refl, sym, ◌∙◌}
use mathlib.Core.Bool.{Bool, true, false, cond, not, false≢true}
use mathlib.Core.List.{List, [], ◌∷◌}
use Prim.Native.Nat.{ℕ, zero, suc, ◌+◌, ◌*◌, ◌≤◌, ◌<◌}
use native.Mathlib.Omega.{arith}
use native.Mathlib.Decide.{dec_lt}
use lib.Dec.{eqb, ltb}
use lib.ListN.{length, get_or, take, drop, length-drop, get_or-eq_default}
use lib.Seq.{length-take-le, get_or-take, get_or-drop, ext_get_or}
use borrow.Author.Tests.{eqb-true, eq-eqb, ne_eqb}
use Rattle.rules.specs.Layout.{SLOTS, BLOCK, DIRENT_WIDTH, NAME, POINT, FILE_WIDTH, FILE_KIND, FILE_LENGTH, FREE, PLAIN}
use Rattle.rules.specs.Choice.{every, some}
use Rattle.rules.specs.Store.{tab, block, hidden, shown_of, Table}
use Rattle.rules.specs.Paths.{same_name, same_at, is_dots}
use Rattle.rules.specs.Directories.{dirent_at, dirent_slot, is_empty, is_padding, has_name}
use Rattle.rules.specs.Sound.{all_zero, name_byte_sound, name_sound, used_sound, dirent_sound}
use Rattle.rules.proofs.Scans.{all_same}
use Rattle.preservation.proofs.Tests.{split, Means, means-every, means-and, means-last, means-cond, means-eq, means-lt, means-not, means-test, means-within, means-same}
use Rattle.preservation.proofs.Tables.{col}
use Rattle.preservation.proofs.FlatList.{tab-in, tab_out}
use Rattle.preservation.proofs.Sound.{All, Dirent, valid_row, valid_byte, same_row}

-- ---- bytes

module _ (C : List ℕ) (z : length C ≡ SLOTS * BLOCK) (d : ℕ) (h : d < SLOTS) where
  pub block-length : length (block C d) ≡ BLOCK
  block-length = length-take-le BLOCK (drop (BLOCK * d) C) (rw (length-drop (BLOCK * d) C) (omega arith))

  pub block-byte : (k : ℕ) → get_or (block C d) k 0 ≡ tab BLOCK C d k
  block-byte k = at (dec_lt k BLOCK)
    where
      at : Dec (k < BLOCK) → get_or (block C d) k 0 ≡ tab BLOCK C d k
      at (yes l) = get_or-take BLOCK (drop (BLOCK * d) C) k 0 l ∙ get_or-drop (BLOCK * d) C k 0 ∙ sym (tab-in BLOCK C d k l)
      at (no l) = get_or-eq_default (block C d) 0 (omega (arith, block-length)) ∙ sym (tab_out BLOCK C d k (omega arith))

  -- a text that its first n bytes spell
  pub block-text : (n : ℕ) (text : List ℕ) → length text ≡ n → n ≤ BLOCK → ((b : ℕ) → b < n → get_or text b 0 ≡ tab BLOCK C d b) → take n (block C d) ≡ text
  block-text n text e l same = ext_get_or 0 (take n (block C d)) text (size ∙ sym e) (λ b hb. get_or-take n (block C d) b 0 (rw size at hb) ∙ block-byte b ∙ sym (same b (rw size at hb)))
    where
      size : length (take n (block C d)) ≡ n
      size = length-take-le n (block C d) (rw block-length l)

pub shown-whole : (F C : List ℕ) (d : ℕ) → (tab FILE_WIDTH F d FILE_KIND ≡ PLAIN → ⊥) → shown_of F C d ≡ block C d
unfolding shown_of hidden
shown-whole F C d n = rw (ne_eqb (tab FILE_WIDTH F d FILE_KIND) PLAIN n)

pub shown-plain : (F C : List ℕ) (d : ℕ) → tab FILE_WIDTH F d FILE_KIND ≡ PLAIN → shown_of F C d ≡ drop (tab FILE_WIDTH F d FILE_LENGTH) (block C d)
unfolding shown_of hidden
shown-plain F C d e = rw (eq-eqb (tab FILE_WIDTH F d FILE_KIND) PLAIN e)

-- ---- zero bytes

zeros-holds : (bs : List ℕ) (z : ℕ) → all_zero (drop z bs) ≡ true → (b : ℕ) → b < length bs → z ≤ b → get_or bs b 0 ≡ 0
unfolding all_zero
zeros-holds [] z e b h l = refl
zeros-holds (x ∷ bs) zero e b h l = go (eqb x 0) refl e b h (λ r c g. zeros-holds bs 0 r c g (omega arith))
  where
    go : (t : Bool) → eqb x 0 ≡ t → cond t (all_zero bs) false ≡ true → (b : ℕ) → b < suc (length bs) → (all_zero bs ≡ true → (c : ℕ) → c < length bs → get_or bs c 0 ≡ 0) → get_or (x ∷ bs) b 0 ≡ 0
    go true q e zero h rest = eqb-true x 0 q
    go true q e (suc b) h rest = rest e b (omega arith)
    go false q e b h rest = absurd (false≢true e)
zeros-holds (x ∷ bs) (suc z) e zero h l = absurd (omega arith)
zeros-holds (x ∷ bs) (suc z) e (suc b) h l = zeros-holds bs z e b (omega arith) (omega arith)

zeros-tests : (bs : List ℕ) (z : ℕ) → ((b : ℕ) → b < length bs → z ≤ b → get_or bs b 0 ≡ 0) → all_zero (drop z bs) ≡ true
unfolding all_zero
zeros-tests [] zero h = refl
zeros-tests [] (suc z) h = refl
zeros-tests (x ∷ bs) zero h = rw (eq-eqb x 0 (h 0 (omega arith) (omega arith))) (zeros-tests bs 0 (λ b hb l. h (suc b) (omega arith) (omega arith)))
zeros-tests (x ∷ bs) (suc z) h = zeros-tests bs z (λ b hb l. h (suc b) (omega arith) (omega arith))

pub means-zeros : (bs : List ℕ) (z : ℕ) → Means (all_zero (drop z bs)) ((b : ℕ) → b < length bs → z ≤ b → get_or bs b 0 ≡ 0)
means-zeros bs z = record { holds = zeros-holds bs z; tests = zeros-tests bs z }

-- ---- names

pub same_row-to : (r r' t t' : ℕ → ℕ) → ((k : ℕ) → k < NAME → r k ≡ r' k) → ((k : ℕ) → k < NAME → t k ≡ t' k) → same_row r t ≡ same_row r' t'
unfolding same_row
same_row-to r r' t t' e f = all_same (λ k. eqb (r k) (t k)) (λ k. eqb (r' k) (t' k)) NAME (λ k h. rw (e k h, f k h))

valid_byte-to : (r r' : ℕ → ℕ) → ((k : ℕ) → k < NAME → r k ≡ r' k) → (k : ℕ) → k < NAME → valid_byte r k ≡ valid_byte r' k
unfolding valid_byte some
valid_byte-to r r' e k h = split (k + 1) NAME (λ q t. rw (e k h, t)) (λ q t. rw (e k h, t, e (k + 1) (omega arith)))

pub valid_row-to : (r r' : ℕ → ℕ) → ((k : ℕ) → k < NAME → r k ≡ r' k) → valid_row r ≡ valid_row r'
unfolding valid_row
valid_row-to r r' e = rw (
  e 0 (omega arith),
  all_same (valid_byte r) (valid_byte r') NAME (valid_byte-to r r' e),
  same_row-to r r' (λ k. get_or (POINT ∷ []) k 0) (λ k. get_or (POINT ∷ []) k 0) e (λ k _. refl),
  same_row-to r r' (λ k. get_or (POINT ∷ POINT ∷ []) k 0) (λ k. get_or (POINT ∷ POINT ∷ []) k 0) e (λ k _. refl),
)

pub name-row : (n : List ℕ) → name_sound n ≡ valid_row (λ k. get_or n k 0)
unfolding name_sound name_byte_sound valid_row valid_byte is_dots same_name same_at same_row is_padding
name-row n = refl

-- entry i, of which the row is known, has the name
pub has-name : (D n : List ℕ) (i : ℕ) (row : ℕ → ℕ) → ((k : ℕ) → k < NAME → get_or (dirent_at D i) k 0 ≡ row k) → has_name D n i ≡ same_row row (λ k. get_or n k 0)
unfolding has_name
has-name D n i row agree = open_row ∙ same_row-to (λ k. get_or (dirent_at D i) k 0) row (λ k. get_or n k 0) (λ k. get_or n k 0) agree (λ k _. refl)
  where
    open_row : same_name (dirent_at D i) n ≡ same_row (λ k. get_or (dirent_at D i) k 0) (λ k. get_or n k 0)
    open_row = unfold same_name same_at same_row in refl

-- ---- the entries of D are rows

module _ (D : List ℕ) (rows : ℕ → ℕ → ℕ) (agree : (i k : ℕ) → k < DIRENT_WIDTH → get_or (dirent_at D i) k 0 ≡ rows i k) where
  pub slot_row : (i : ℕ) → dirent_slot D i ≡ rows i NAME
  unfolding dirent_slot
  slot_row i = agree i NAME (omega arith)

  pub same_row_lem : (i j : ℕ) → same_name (dirent_at D i) (dirent_at D j) ≡ same_row (rows i) (rows j)
  unfolding same_name same_at
  same_row_lem i j = unfold-row ∙ same_row-to (λ k. get_or (dirent_at D i) k 0) (rows i) (λ k. get_or (dirent_at D j) k 0) (rows j) (λ k l. agree i k (omega arith)) (λ k l. agree j k (omega arith))
    where
      unfold-row : same_name (dirent_at D i) (dirent_at D j) ≡ same_row (λ k. get_or (dirent_at D i) k 0) (λ k. get_or (dirent_at D j) k 0)
      unfold-row = unfold same_name same_at same_row in refl

  pub means-empty : (i : ℕ) → Means (is_empty D i) (rows i NAME ≡ 0)
  unfolding is_empty
  means-empty i = rw (slot_row i) (means-eq (rows i NAME) 0)

  -- Test by test over the row's bytes. Only a used entry's slot is tested to be small: an empty one's is 0.
  pub means-dirent : (file : Table) (i : ℕ) → Means (dirent_sound file D i) (Dirent (col file FILE_KIND) (rows i))
  unfolding dirent_sound used_sound
  means-dirent file i = means-same w
      (λ u. record {
        last-zero = u.0;
        slot_small = small u (dec_lt (rows i NAME) SLOTS);
        empty-zero = u.1.0;
        slot-used = λ n. (u.1.1 n).1.1;
        valid = λ n. (u.1.1 n).0;
      })
      (λ u. (u.last-zero, ((λ q. u.empty-zero q), λ n. (u.valid n, (u.slot_small, u.slot-used n)))))
    where
      valid-row : name_sound (dirent_at D i) ≡ valid_row (rows i)
      valid-row = name-row (dirent_at D i) ∙ valid_row-to (λ k. get_or (dirent_at D i) k 0) (rows i) (λ k l. agree i k (omega arith))

      padding : (k : ℕ) → k < NAME → Means (is_padding (dirent_at D i) k) (rows i k ≡ 0)
      padding k h = unfold is_padding in rw (agree i k (omega arith)) (means-eq (rows i k) 0)

      used : Means (every (name_sound (dirent_at D i) ∷ ltb (dirent_slot D i) SLOTS ∷ not (eqb (file (dirent_slot D i) FILE_KIND) FREE) ∷ []))
          ((valid_row (rows i) ≡ true) × ((rows i NAME < SLOTS) × (file (rows i NAME) FILE_KIND ≡ FREE → ⊥)))
      used = rw (slot_row i, valid-row) (means-every (means-and (means-test (valid_row (rows i))) (means-and (means-lt (rows i NAME) SLOTS) (means-last (means-not (means-eq (file (rows i NAME) FILE_KIND) FREE))))))

      w : Means (dirent_sound file D i) ((rows i (NAME + 1) ≡ 0) × ((rows i NAME ≡ 0 → All NAME (λ k. rows i k ≡ 0))
          × ((rows i NAME ≡ 0 → ⊥) → (valid_row (rows i) ≡ true) × ((rows i NAME < SLOTS) × (file (rows i NAME) FILE_KIND ≡ FREE → ⊥)))))
      w = rw (agree i (NAME + 1) (omega arith)) (means-every (means-and (means-eq (rows i (NAME + 1)) 0)
          (means-last (means-cond (means-empty i) (means-within NAME (is_padding (dirent_at D i)) (λ k. rows i k ≡ 0) padding) used))))

      small : ((rows i (NAME + 1) ≡ 0) × ((rows i NAME ≡ 0 → All NAME (λ k. rows i k ≡ 0))
          × ((rows i NAME ≡ 0 → ⊥) → (valid_row (rows i) ≡ true) × ((rows i NAME < SLOTS) × (file (rows i NAME) FILE_KIND ≡ FREE → ⊥))))) → Dec (rows i NAME < SLOTS) → rows i NAME < SLOTS
      small u (yes l) = l
      small u (no l) = absurd (l (u.1.1 (λ q. l (omega arith))).1.0)
