-- The factory part: how many prompts it has and how long they are; and the kinds and lengths of the files that the rules see of it.
use mathlib.Core.Path.{◌≡◌, refl, sym, ◌∙◌}
use mathlib.Core.Bool.{Bool, true, false, cond}
use mathlib.Core.List.{List, [], ◌∷◌}
use Prim.Native.Nat.{ℕ, zero, suc, ◌+◌, ◌-◌, ◌≤◌, ◌<◌}
use native.Mathlib.Omega.{arith}
use native.Mathlib.Decide.{dec_lt}
use lib.Dec.{eqb, ltb}
use lib.ListN.{length, get_or, drop, length-drop, length-take}
use borrow.Author.Tests.{eqb-true, lt-ltb, le-ltb, ne_eqb, leb-true}
use Rattle.rules.specs.Choice.{every}
use Rattle.rules.specs.Layout.{SLOTS, BLOCK, PROMPTS, ROM, FILE_KIND, FILE_LENGTH, FREE, PLAIN, DIRECTORY, LINK}
use Rattle.rules.specs.Store.{Table, words, block}
use Rattle.rules.specs.Rom.{next_prompt, prompt_length, rom_from, prompt_count, prompt_sound, prompts_sound, rom_sound, first_prompt, prompt, rom_record, rom_words, seen_file, length_in}
use Rattle.rules.specs.Step.{bytes_of}
use Rattle.rules.specs.declared.ids.Slot.{Slot}
use Rattle.rules.proofs.Tests.{test}
use Rattle.rules.proofs.Prompts.{count_most}
use Rattle.rules.proofs.Seen.{seen_stored}

-- ---- a prompt of a sound part has at most 512 bytes

from-most : (k : ℕ) (X : List ℕ) → length (rom_from k X) ≤ length X
unfolding rom_from
from-most zero X = omega arith
from-most (suc k) X = omega (arith, from-most k (next_prompt X), length-drop (2 + prompt_length X) X)

none-most : (X : List ℕ) → length X ≡ 0 → (k : ℕ) → length (first_prompt (rom_from k X)) ≤ BLOCK
none-most X e k = rw (length-take (prompt_length (rom_from k X)) (drop 2 (rom_from k X)), length-drop 2 (rom_from k X)) (omega (arith, from-most k X))

first-most : (n : ℕ) (X : List ℕ) → prompts_sound n X ≡ true → (k : ℕ) → length (first_prompt (rom_from k X)) ≤ BLOCK
unfolding prompts_sound rom_from
first-most zero X e k = none-most X (eqb-true (length X) 0 e) k
first-most (suc n) X e k = by (eqb (length X) 0) refl e k (first-most n (next_prompt X))
  where
    by : (b : Bool) → eqb (length X) 0 ≡ b → cond b true (every (prompt_sound X ∷ prompts_sound n (next_prompt X) ∷ [])) ≡ true → (k : ℕ) →
        (prompts_sound n (next_prompt X) ≡ true → (j : ℕ) → length (first_prompt (rom_from j (next_prompt X))) ≤ BLOCK) → length (first_prompt (rom_from k X)) ≤ BLOCK
    by true q r k rest = none-most X (eqb-true (length X) 0 q) k
    by false q r zero rest = rw (length-take (prompt_length X) (drop 2 X)) (omega (arith, leb-true (prompt_length X) BLOCK (unfold prompt_sound in test 0 _ (test 0 _ r))))
    by false q r (suc j) rest = rest (test 1 _ r) j

prompt-most : (R : List ℕ) → rom_sound R ≡ true → (k : ℕ) → length (prompt R k) ≤ BLOCK
unfolding prompt
prompt-most R e k = by (ltb k PROMPTS)
  where
    by : (b : Bool) → length (cond b (first_prompt (rom_from k R)) []) ≤ BLOCK
    by true = first-most PROMPTS R e k
    by false = omega arith

-- ---- kinds: a number past the slots is a plain file's, or that of /rom

module _ (file : Table) (s : ℕ) where
  factory-kind : SLOTS ≤ s → seen_file file s FILE_KIND ≡ cond (ltb s ROM) PLAIN (cond (eqb s ROM) DIRECTORY FREE)
  unfolding seen_file rom_words
  factory-kind h = rw (le-ltb s SLOTS h) (go (ltb s ROM) (eqb s ROM))
    where
      go : (a b : Bool) → get_or (cond a (words (rom_record PLAIN 292)) (cond b (words (rom_record DIRECTORY 365)) [])) FILE_KIND 0 ≡ cond a PLAIN (cond b DIRECTORY FREE)
      go true b = refl
      go false true = refl
      go false false = refl

  pub directory-rom : SLOTS ≤ s → seen_file file s FILE_KIND ≡ DIRECTORY → s ≡ ROM
  directory-rom h e = by (ltb s ROM) (eqb s ROM) refl (sym (factory-kind h) ∙ e)
    where
      by : (a b : Bool) → eqb s ROM ≡ b → cond a PLAIN (cond b DIRECTORY FREE) ≡ DIRECTORY → s ≡ ROM
      by true b q z = absurd (omega (arith, z))
      by false true q z = eqb-true s ROM q
      by false false q z = absurd (omega (arith, z))

  pub link-stored : seen_file file s FILE_KIND ≡ LINK → s < SLOTS
  link-stored e = by (dec_lt s SLOTS)
    where
      none : (a b : Bool) → cond a PLAIN (cond b DIRECTORY FREE) ≡ LINK → ⊥
      none true b z = omega (arith, z)
      none false true z = omega (arith, z)
      none false false z = omega (arith, z)

      by : Dec (s < SLOTS) → s < SLOTS
      by (yes l) = l
      by (no l) = absurd (none (ltb s ROM) (eqb s ROM) (sym (factory-kind (omega arith)) ∙ e))

pub plain-below : (file : Table) (s : ℕ) → seen_file file s FILE_KIND ≡ PLAIN → s ≡ ROM → ⊥
plain-below file s e q = omega (arith, rw q at e, is-directory)
  where
    is-directory : seen_file file ROM FILE_KIND ≡ DIRECTORY
    is-directory = unfold seen_file rom_words in refl

-- ---- lengths

module _ (R : List ℕ) (file : Table) (s : Slot) where
  pub length-in : rom_sound R ≡ true → (s.0 < SLOTS → file s.0 FILE_LENGTH ≤ BLOCK) → length_in R (seen_file file) s ≤ BLOCK
  unfolding length_in
  length-in e h = by (dec_lt s.0 SLOTS)
    where
      part : (b : Bool) → cond b (prompt_count PROMPTS R) (length (prompt R (s.0 - SLOTS))) ≤ BLOCK
      part true = omega (arith, count_most PROMPTS R)
      part false = prompt-most R e (s.0 - SLOTS)

      by : Dec (s.0 < SLOTS) → cond (ltb s.0 SLOTS) (seen_file file s.0 FILE_LENGTH) (cond (eqb s.0 ROM) (prompt_count PROMPTS R) (length (prompt R (s.0 - SLOTS)))) ≤ BLOCK
      by (yes l) = rw (lt-ltb s.0 SLOTS l, seen_stored file s.0 FILE_LENGTH l) (h l)
      by (no n) = rw (le-ltb s.0 SLOTS (omega arith)) (part (eqb s.0 ROM))

  -- a file has all the bytes of its length
  pub bytes-in : (C : List ℕ) → (s.0 ≡ ROM → ⊥) → (s.0 < SLOTS → file s.0 FILE_LENGTH ≤ length (block C s.0)) → length_in R (seen_file file) s ≤ length (bytes_of R C s)
  unfolding length_in bytes_of
  bytes-in C n h = by (dec_lt s.0 SLOTS)
    where
      by : Dec (s.0 < SLOTS) → cond (ltb s.0 SLOTS) (seen_file file s.0 FILE_LENGTH) (cond (eqb s.0 ROM) (prompt_count PROMPTS R) (length (prompt R (s.0 - SLOTS))))
          ≤ length (cond (ltb s.0 SLOTS) (block C s.0) (prompt R (s.0 - SLOTS)))
      by (yes l) = rw (lt-ltb s.0 SLOTS l, seen_stored file s.0 FILE_LENGTH l) (h l)
      by (no l) = rw (le-ltb s.0 SLOTS (omega arith), ne_eqb s.0 ROM n) (omega arith)
