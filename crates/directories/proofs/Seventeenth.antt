-- The seventeenth entry, and the root and /rom as they are seen.
use Prim.Native.Nat.{ℕ, zero, suc, ◌+◌, ◌*◌, ◌≤◌, ◌<◌}
use mathlib.Core.Path.{◌≡◌, refl, sym, ap, ◌∙◌}
use mathlib.Core.Bool.{Bool, true, false, cond}
use mathlib.Core.List.{List, [], ◌∷◌, ◌++◌, append-nil}
use native.Mathlib.Nat.{not-suc-le-zero}
use native.Mathlib.Omega.{arith}
use borrow.Author.Tests.{ltb-true, ltb-false, eqb-true, eqb-false}
use lib.Dec.{eqb, ltb}
use lib.ListN.{length, get_or, set, take, drop, replicate, length-replicate, length-append, drop_of_length-le, get_or-append, get_or-eq_default}
use lib.Seq.{sets, sets-eq, length-sets, drop_at, get_or-drop}
use Rattle.rules.specs.Choice.{every}
use Rattle.rules.specs.Scan.{first}
use Rattle.rules.specs.Layout.{DIRENTS, ENTRIES, DIRENT_WIDTH, NAME, PROMPTS, ROM}
use Rattle.rules.specs.Store.{slot, entry, is_dirent}
use Rattle.rules.specs.Directories.{dirent_at, dirent_slot, dirent_ranked, padded, dirent}
use Rattle.rules.specs.Rom.{ROM_NAME, prompt_dirents, rom_dirents, with_rom, seen_dirents}
use Rattle.rules.specs.declared.ids.Slot.{Slot}
use Rattle.rules.specs.declared.ids.Dirent.{Dirent}
use Rattle.rules.proofs.Lists.{length-padded, padded-at}
use Rattle.rules.proofs.Scans.{more, first_more, first-same}
use Rattle.tables.specs.NameWords.{low_word, high_word}
use Rattle.directories.specs.ByWords.{has_words, stored_by, dirent_by}
use Rattle.directories.specs.Seen.{ROM_LOW, found_in, root_slot, store_dirents}
use Rattle.directories.specs.declared.seen.Found.{Found}

-- ---- the code finds among 16, and then asks the seventeenth; D is seen, S is scanned

module _ (D S : List ℕ) (low high : ℕ) (same : (j : ℕ) → j < DIRENTS → has_words S low high j ≡ has_words D low high j) where
  by-more : dirent_by D low high ≡ entry (more (has_words D low high) DIRENTS (first (has_words S low high) 0 DIRENTS))
  by-more = ap entry (first_more (has_words D low high) DIRENTS ∙ ap (more (has_words D low high) DIRENTS) (sym (first-same (has_words S low high) (has_words D low high) DIRENTS same)))

  there : (i : Dirent) (r : Bool) → i ≡ stored_by S low high → r ≡ is_dirent i → r ≡ true → i ≡ dirent_by D low high
  there i r e q t = by-more-at ∙ sym by-more
    where
      inside : ltb (first (has_words S low high) 0 DIRENTS) DIRENTS ≡ true
      inside = sym (ap (λ (x : Dirent). is_dirent x) e) ∙ sym q ∙ t

      by-more-at : i ≡ entry (more (has_words D low high) DIRENTS (first (has_words S low high) 0 DIRENTS))
      by-more-at = rw inside e

  after-all : (i z : Dirent) (r b : Bool) → i ≡ stored_by S low high → r ≡ is_dirent i → r ≡ false → b ≡ has_words D low high DIRENTS → z ≡ entry (cond b DIRENTS ENTRIES) → z ≡ dirent_by D low high
  after-all i z r b e q t w p = p ∙ at_last ∙ sym by-more
    where
      past : ltb (first (has_words S low high) 0 DIRENTS) DIRENTS ≡ false
      past = sym (ap (λ (x : Dirent). is_dirent x) e) ∙ sym q ∙ t

      at_last : entry (cond b DIRENTS ENTRIES) ≡ entry (more (has_words D low high) DIRENTS (first (has_words S low high) 0 DIRENTS))
      at_last = rw (past, w)

-- of a directory of the store
module _ (D : List ℕ) (low high : ℕ) where
  pub by_there : (i : Dirent) (r : Bool) → i ≡ stored_by D low high → r ≡ is_dirent i → r ≡ true → i ≡ dirent_by D low high
  by_there = there D D low high (λ j _. refl)

  pub by_last : (i z : Dirent) (r b : Bool) → i ≡ stored_by D low high → r ≡ is_dirent i → r ≡ false → b ≡ has_words D low high DIRENTS → z ≡ entry (cond b DIRENTS ENTRIES) → z ≡ dirent_by D low high
  by_last = after-all D D low high (λ j _. refl)

  pub found-is : (i : Dirent) (s : Slot) → i ≡ dirent_by D low high → s ≡ slot (dirent_slot D i.0) → record { dirent = i; slot = s } ≡ found_in D low high
  found-is i s e q = rw (q, e)

  pub none_own : (i : Dirent) (r : Bool) → i ≡ stored_by D low high → r ≡ is_dirent i → r ≡ false → is_dirent (stored_by D low high) ≡ false
  none_own i r e q t = sym (ap (λ (x : Dirent). is_dirent x) e) ∙ sym q ∙ t

  pub own_last : (z : Dirent) (b : Bool) (s : Slot) → is_dirent (stored_by D low high) ≡ false → b ≡ has_words D low high DIRENTS → z ≡ entry (cond b DIRENTS ENTRIES) → s ≡ slot (dirent_slot D z.0) → record { dirent = z; slot = s } ≡ found_in D low high
  own_last z b s t w p q = found-is z s (by_last (stored_by D low high) z (is_dirent (stored_by D low high)) b refl refl t w p) q

-- ---- the root: its own entries, then that of /rom

module _ (D : List ℕ) where
  abbrev own : List ℕ
  own = padded (DIRENTS * DIRENT_WIDTH) D

  abbrev last : List ℕ
  last = dirent ROM_NAME (slot ROM)

  own-byte : (j k : ℕ) → j < DIRENTS → k < DIRENT_WIDTH → get_or (dirent_at (with_rom D) j) k 0 ≡ get_or (dirent_at D j) k 0
  unfolding with_rom
  own-byte j k h w =
      let inside : DIRENT_WIDTH * j + k < DIRENTS * DIRENT_WIDTH = omega (arith, h, w) in
      get_or-drop (DIRENT_WIDTH * j) (own ++ last) k 0
      ∙ get_or-append own last 0 (DIRENT_WIDTH * j + k) (rw (length-padded (DIRENTS * DIRENT_WIDTH) D) inside)
      ∙ padded-at (DIRENTS * DIRENT_WIDTH) D (DIRENT_WIDTH * j + k) inside
      ∙ sym (get_or-drop (DIRENT_WIDTH * j) D k 0)

  own-words : (low high j : ℕ) → j < DIRENTS → has_words D low high j ≡ has_words (with_rom D) low high j
  unfolding has_words low_word high_word
  own-words low high j h = rw (own-byte j 0 h (omega arith), own-byte j 1 h (omega arith), own-byte j 2 h (omega arith), own-byte j 3 h (omega arith), own-byte j 4 h (omega arith), own-byte j 5 h (omega arith), own-byte j 6 h (omega arith), own-byte j 7 h (omega arith), own-byte j 8 h (omega arith), own-byte j 9 h (omega arith), own-byte j 10 h (omega arith), own-byte j 11 h (omega arith), own-byte j 12 h (omega arith), own-byte j 13 h (omega arith))

  at_last : dirent_at (with_rom D) DIRENTS ≡ last
  unfolding with_rom
  at_last = drop_at own last (DIRENTS * DIRENT_WIDTH) (length-padded (DIRENTS * DIRENT_WIDTH) D)

  rom-words : (low high : ℕ) → has_words (with_rom D) low high DIRENTS ≡ every (eqb ROM_LOW low ∷ eqb 0 high ∷ [])
  unfolding has_words
  rom-words low high = rw at_last (unfold low_word high_word dirent padded in refl)

  root-there : (low high : ℕ) (i : Dirent) (r : Bool) → i ≡ stored_by D low high → r ≡ is_dirent i → r ≡ true → i ≡ dirent_by (with_rom D) low high
  root-there low high = there (with_rom D) D low high (own-words low high)

  root-last : (low high : ℕ) (i z : Dirent) (r b : Bool) → i ≡ stored_by D low high → r ≡ is_dirent i → r ≡ false → b ≡ every (eqb ROM_LOW low ∷ eqb 0 high ∷ []) → z ≡ entry (cond b DIRENTS ENTRIES) → z ≡ dirent_by (with_rom D) low high
  root-last low high i z r b e q t w p = after-all (with_rom D) D low high (own-words low high) i z r b e q t (w ∙ sym (rom-words low high)) p

  -- ---- what its entries name

  length_last : length last ≡ DIRENT_WIDTH
  length_last = unfold dirent padded in refl

  nothing-past : (i : ℕ) → DIRENTS < i → dirent_slot (with_rom D) i ≡ 0
  unfolding dirent_slot with_rom
  nothing-past i h =
      get_or-drop (DIRENT_WIDTH * i) (own ++ last) NAME 0
      ∙ get_or-eq_default (own ++ last) 0 (omega (arith, h, length-append own last, length-padded (DIRENTS * DIRENT_WIDTH) D, length_last))

  root-slot : (i : Dirent) → root_slot D i ≡ slot (dirent_slot (with_rom D) i.0)
  unfolding root_slot
  root-slot i = by (is_dirent i) refl (eqb i.0 DIRENTS) refl
    where
      by : (a : Bool) → is_dirent i ≡ a → (b : Bool) → eqb i.0 DIRENTS ≡ b → cond a (slot (dirent_slot D i.0)) (cond b (slot ROM) (slot 0)) ≡ slot (dirent_slot (with_rom D) i.0)
      by true p b q = ap slot (unfold dirent_slot in sym (own-byte i.0 NAME (ltb-true i.0 DIRENTS p) (omega arith)))
      by false p true q = ap slot (rw (eqb-true i.0 DIRENTS q) (unfold dirent_slot in rw at_last (unfold dirent padded in refl)))
      by false p false q = ap slot (sym (nothing-past i.0 (omega (arith, ltb-false i.0 DIRENTS p, eqb-false i.0 DIRENTS q))))

  root-found : (low high : ℕ) (i : Dirent) (s : Slot) → i ≡ dirent_by (with_rom D) low high → s ≡ root_slot D i → record { dirent = i; slot = s } ≡ found_in (with_rom D) low high
  root-found low high i s e q = rw (q, root-slot i, e)

  pub root_past : (low high : ℕ) (z : Dirent) (b : Bool) (s : Slot) → is_dirent (stored_by D low high) ≡ false → b ≡ every (eqb ROM_LOW low ∷ eqb 0 high ∷ []) → z ≡ entry (cond b DIRENTS ENTRIES) → s ≡ root_slot D z → record { dirent = z; slot = s } ≡ found_in (with_rom D) low high
  root_past low high z b s t w p q = root-found low high z s (root-last low high (stored_by D low high) z (is_dirent (stored_by D low high)) b refl refl t w p) q

  own-slot : (i : Dirent) → is_dirent i ≡ true → root_slot D i ≡ slot (dirent_slot D i.0)
  unfolding root_slot
  own-slot i t = rw t

-- ---- any directory of the store

module _ (D : List ℕ) (low high d : ℕ) where
  pub in_store : (i : Dirent) (r : Bool) (s : Slot) → i ≡ stored_by D low high → r ≡ is_dirent i → r ≡ true → s ≡ slot (dirent_slot D i.0) → record { dirent = i; slot = s } ≡ found_in (store_dirents D d) low high
  in_store i r s e q t p = by (eqb d 0)
    where
      by : (x : Bool) → record { dirent = i; slot = s } ≡ found_in (cond x (with_rom D) D) low high
      by true = root-found D low high i s (root-there D low high i r e q t) (p ∙ sym (own-slot D i (sym q ∙ t)))
      by false = found-is D low high i s (by_there D low high i r e q t) p

  module _ (z : Found) where
    pub last_root : eqb d 0 ≡ true → z ≡ found_in (with_rom D) low high → z ≡ found_in (store_dirents D d) low high
    last_root a e = rw a e

    pub last_own : eqb d 0 ≡ false → z ≡ found_in D low high → z ≡ found_in (store_dirents D d) low high
    last_own a e = rw a e

-- ---- written out

sets-past : (x : ℕ) (l : List ℕ) (i : ℕ) (vs : List ℕ) → sets (x ∷ l) (suc i) vs ≡ x ∷ sets l i vs
sets-past x l i [] = refl
sets-past x l i (v ∷ vs) = sets-past x (set l i v) (suc i) vs

take_none : (n : ℕ) → take {A = ℕ} n [] ≡ []
take_none zero = refl
take_none (suc n) = refl

filled : (n m : ℕ) (D : List ℕ) → n ≤ m → take n (sets (replicate m 0) 0 (take n D)) ≡ padded n D
unfolding padded
filled zero m D h = refl
filled (suc n) zero D h = absurd (not-suc-le-zero h)
filled (suc n) (suc m) [] h = ap (λ (l : List ℕ). 0 ∷ l) (rw (take_none n) at (filled n m [] (omega arith)))
filled (suc n) (suc m) (x ∷ xs) h = rw (sets-past x (replicate m 0) 0 (take n xs)) (ap (λ (l : List ℕ). x ∷ l) (filled n m xs (omega arith)))

-- "rom", padded to 14 bytes, its number, 0
abbrev LAST : List ℕ
LAST = 114 ∷ 111 ∷ 109 ∷ 0 ∷ 0 ∷ 0 ∷ 0 ∷ 0 ∷ 0 ∷ 0 ∷ 0 ∷ 0 ∷ 0 ∷ 0 ∷ 144 ∷ 0 ∷ []

pub written : (D P A B : List ℕ) → P ≡ take (DIRENTS * DIRENT_WIDTH) D → A ≡ sets (replicate 272 0) 0 P → B ≡ sets A (DIRENTS * DIRENT_WIDTH) LAST → B ≡ with_rom D
unfolding with_rom dirent padded
written D P A B p a b =
    let size : length A ≡ 272 = ap length a ∙ length-sets (replicate 272 0) 0 P ∙ length-replicate {A = ℕ} 272 0 in
    let own-part : take (DIRENTS * DIRENT_WIDTH) A ≡ own D = rw (a, p) (filled (DIRENTS * DIRENT_WIDTH) 272 D (omega arith)) in
    let none : drop (DIRENTS * DIRENT_WIDTH + length LAST) A ≡ [] = drop_of_length-le A {i = DIRENTS * DIRENT_WIDTH + length LAST} (omega (arith, size)) in
    b ∙ sets-eq LAST A (DIRENTS * DIRENT_WIDTH) (omega (arith, size)) ∙ rw (none, own-part) (append-nil (own D ++ LAST))

pub copied : (A : List ℕ) → A ≡ sets (replicate 256 0) 0 (prompt_dirents 0 PROMPTS) → A ≡ prompt_dirents 0 PROMPTS
unfolding prompt_dirents dirent padded
copied A a =
    let Z : List ℕ = replicate 256 0 in
    let size : length Z ≡ 256 = length-replicate {A = ℕ} 256 0 in
    let none : drop (0 + 256) Z ≡ [] = drop_of_length-le Z {i = 0 + 256} (omega (arith, size)) in
    a ∙ sets-eq (prompt_dirents 0 PROMPTS) Z 0 (omega (arith, size)) ∙ rw none (append-nil (prompt_dirents 0 PROMPTS))

-- ---- which entries a directory is seen with

module _ (R : List ℕ) (dirents : ℕ → List ℕ) (s : ℕ) where
  seen-root : eqb s 0 ≡ true → seen_dirents R dirents s ≡ with_rom (dirents 0)
  unfolding seen_dirents
  seen-root a = rw a

  seen-rom : eqb s 0 ≡ false → eqb s ROM ≡ true → seen_dirents R dirents s ≡ rom_dirents R
  unfolding seen_dirents
  seen-rom a b = rw (a, b)

  seen-own : eqb s 0 ≡ false → eqb s ROM ≡ false → seen_dirents R dirents s ≡ dirents s
  unfolding seen_dirents
  seen-own a b = rw (a, b)

  seen-store : eqb s ROM ≡ false → store_dirents (dirents s) s ≡ seen_dirents R dirents s
  seen-store b = by (eqb s 0) refl
    where
      by : (x : Bool) → eqb s 0 ≡ x → cond x (with_rom (dirents s)) (dirents s) ≡ seen_dirents R dirents s
      by true a = ap (λ (n : ℕ). with_rom (dirents n)) (eqb-true s 0 a) ∙ sym (seen-root a)
      by false a = sym (seen-own a b)

  rom-is-not-root : eqb s ROM ≡ true → eqb s 0 ≡ false
  rom-is-not-root b = rw (eqb-true s ROM b) refl

  module _ (low high : ℕ) (z : Found) where
    pub found_rom : eqb s ROM ≡ true → z ≡ found_in (rom_dirents R) low high → z ≡ found_in (seen_dirents R dirents s) low high
    found_rom b e = rw (seen-rom (rom-is-not-root b) b) e

    pub found_store : (D : List ℕ) → D ≡ dirents s → eqb s ROM ≡ false → z ≡ found_in (store_dirents D s) low high → z ≡ found_in (seen_dirents R dirents s) low high
    found_store D p b e = e ∙ ap (λ (B : List ℕ). found_in (store_dirents B s) low high) p ∙ ap (λ (B : List ℕ). found_in B low high) (seen-store b)

  module _ (k : ℕ) (z : Dirent) where
    pub ranked_root : eqb s 0 ≡ true → z ≡ dirent_ranked (with_rom (dirents 0)) k → z ≡ dirent_ranked (seen_dirents R dirents s) k
    ranked_root a e = rw (seen-root a) e

    pub ranked_rom : eqb s 0 ≡ false → eqb s ROM ≡ true → z ≡ dirent_ranked (rom_dirents R) k → z ≡ dirent_ranked (seen_dirents R dirents s) k
    ranked_rom a b e = rw (seen-rom a b) e

    pub ranked_own : eqb s 0 ≡ false → eqb s ROM ≡ false → z ≡ dirent_ranked (dirents s) k → z ≡ dirent_ranked (seen_dirents R dirents s) k
    ranked_own a b e = rw (seen-own a b) e
