-- The word of a process's descriptors: how the loop makes it, what its bits say, and that its complement gives the lowest free one.
use mathlib.Core.Path.{◌≡◌, refl, ◌∙◌, sym, ap, fun_ext}
use mathlib.Core.Bool.{Bool, true, false, cond, not}
use mathlib.Core.List.{List}
use Prim.Native.Nat.{ℕ, ◌+◌, ◌-◌, ◌*◌, ◌%◌, ◌^◌, ◌<◌, ◌≤◌}
use native.Mathlib.Nat.{one-mul}
use native.Mathlib.Omega.{arith}
use borrow.Author.Tests.{ltb-true}
use lib.Dec.{eqb, ltb}
use lib.ListN.{get_or, take, drop}
use lib.Seq.{get_or-take, get_or-drop}
use lib.Pow.{shl_exact}
use lib.Count.{count_trailing_zeros, trailing_le}
use Rattle.rules.specs.Layout.{DESCRIPTORS, PROCESS_WIDTH, PROCESS_DESCRIPTOR}
use Rattle.rules.specs.Store.{Table, desc_of, fd_of}
use Rattle.rules.specs.Checks.{held, fd_free, free_fd}
use Rattle.rules.specs.declared.ids.Pid.{Pid}
use Rattle.allocation.specs.Word.{bits, used_word, BitsHeld}
use Rattle.allocation.proofs.Bits.{set_at, none-past, all_ones, covered, taken, all-taken, first-zeros}

-- the bit of descriptor i, as the code makes it
shifted : (i : ℕ) → i < 8 → (1 * 2 ^ i) % 256 ≡ 2 ^ i
shifted i l = shl_exact {a = 1} 1 i 8 (omega arith) (omega arith) ∙ one-mul (2 ^ i)

module _ (desc : Table) (p : Pid) where
  -- what the word is while the bits of the free descriptors from i on are still in it
  abbrev pub Left : ℕ → ℕ → Type 0
  Left w i = w ≡ used_word desc p + 2 ^ i * bits (fd_free desc p) i DESCRIPTORS

  pub at-start : Left 255 0
  unfolding held fd_free
  at-start = all_ones (fd_free desc p) 8

  module _ (w i v : ℕ) (inv : Left w i) (l : i < 8) (e : v ≡ cond (fd_free desc p i) ((1 * 2 ^ i) % 256) 0) where
    pub fits : v ≤ w
    unfolding held fd_free
    fits = covered (fd_free desc p) 8 i l w v inv (rw (shifted i l) at e)

    pub next : Left (w - v) (i + 1)
    unfolding held fd_free
    next = taken (fd_free desc p) 8 i l w v inv (rw (shifted i l) at e)

  pub at-end : (w i : ℕ) → Left w i → 8 ≤ i → w ≡ used_word desc p
  unfolding held fd_free
  at-end w i inv l = all-taken (fd_free desc p) 8 i w inv l

  pub bits-held : (w : ℕ) → w ≡ used_word desc p → BitsHeld desc p w
  bits-held w e = rw e (set_at (λ n. held desc p (fd_of n)) 8, none-past (λ n. held desc p (fd_of n)) 8)

  pub lowest-free : (w r : ℕ) → w ≡ used_word desc p → r ≡ count_trailing_zeros 8 (255 - w) → r ≡ (free_fd desc p).0
  unfolding held fd_free
  lowest-free w r e q = q ∙ rw e (sym (first-zeros (fd_free desc p) 8))

-- a count of eight bits is a byte
pub a_byte : (n : ℕ) → count_trailing_zeros 8 n < 256
a_byte n = omega (arith, trailing_le 8 n)

-- a process's record taken alone, as a table of one process
module _ (P : List ℕ) (p : Pid) where
  abbrev row : List ℕ
  row = take (PROCESS_WIDTH * p.0 + PROCESS_WIDTH - PROCESS_WIDTH * p.0) (drop (PROCESS_WIDTH * p.0) P)

  same : (n : ℕ) → desc_of row 0 n ≡ desc_of P p.0 n
  unfolding desc_of
  same n = by (ltb n DESCRIPTORS) refl
    where
      by : (b : Bool) → ltb n DESCRIPTORS ≡ b → cond b (get_or row (PROCESS_WIDTH * 0 + (PROCESS_DESCRIPTOR + n)) 0) 0 ≡ cond b (get_or P (PROCESS_WIDTH * p.0 + (PROCESS_DESCRIPTOR + n)) 0) 0
      by false e = refl
      by true e =
          let l : PROCESS_WIDTH * 0 + (PROCESS_DESCRIPTOR + n) < PROCESS_WIDTH * p.0 + PROCESS_WIDTH - PROCESS_WIDTH * p.0 = omega (arith, ltb-true n DESCRIPTORS e) in
          let z : PROCESS_WIDTH * 0 + (PROCESS_DESCRIPTOR + n) ≡ PROCESS_DESCRIPTOR + n = omega arith in
          get_or-take (PROCESS_WIDTH * p.0 + PROCESS_WIDTH - PROCESS_WIDTH * p.0) (drop (PROCESS_WIDTH * p.0) P) (PROCESS_WIDTH * 0 + (PROCESS_DESCRIPTOR + n)) 0 l
          ∙ rw z (get_or-drop (PROCESS_WIDTH * p.0) P (PROCESS_DESCRIPTOR + n) 0)

  pub alone : (w : ℕ) → w ≡ used_word (desc_of row) (record { 0 = 0 }) → w ≡ used_word (desc_of P) p
  unfolding held
  alone w e = e ∙ ap (λ (t : ℕ → ℕ). bits (λ n. not (eqb (t n) 0)) 0 DESCRIPTORS) (fun_ext same)
