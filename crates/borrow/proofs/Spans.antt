-- The numbers of a borrowing read name its bytes.
use Prim.Native.Nat.{ℕ, zero, suc, ◌+◌, ◌-◌, ◌*◌, ◌^◌, ◌≤◌, ◌<◌, min}
use mathlib.Core.Path.{◌≡◌, refl, ap, ◌∙◌}
use mathlib.Core.Bool.{Bool, true, false, cond}
use mathlib.Core.List.{List, [], ◌∷◌}
use native.Mathlib.Nat.{mod-eq_of_lt}
use native.Mathlib.Omega.{arith}
use borrow.Author.Tests.{eqb-true, leb-true}
use lib.Dec.{eqb, ltb}
use lib.ListN.{length, take, drop, length-take, length-drop}
use lib.Seq.{drop-drop}
use Rattle.std.specs.Prelude.{Ok, Err}
use Rattle.rules.specs.Choice.{every}
use Rattle.rules.specs.Layout.{BLOCK, SLOTS, PROMPTS}
use Rattle.rules.specs.Store.{Fixed, Store, view, is_slot, block}
use Rattle.rules.specs.Refusals.{GRANTED}
use Rattle.rules.specs.Rom.{seen, prompt_length, next_prompt, rom_from, prompt_sound, prompts_sound, first_prompt, prompt}
use Rattle.rules.specs.Sound.{slots_sized, sizes_sound, tables_sound, opens_within, store_sound, sound}
use Rattle.rules.specs.Checks.{ofd_held}
use Rattle.rules.specs.Decide.{decide_borrow}
use Rattle.rules.specs.Step.{bytes_of, bytes_out, step_borrow}
use Rattle.rules.specs.declared.ids.Slot.{Slot}
use Rattle.rules.specs.declared.ids.Pid.{Pid}
use Rattle.rules.specs.declared.ids.Fd.{Fd}
use Rattle.rules.specs.declared.ids.Ofd.{Ofd}
use Rattle.rules.specs.declared.refusal.Refusal.TheVariants.{Unsound}
use Rattle.rules.specs.declared.decision.Output.{Output}
use Rattle.rules.specs.declared.decision.Output.TheVariants as output
use Rattle.rules.specs.Decisions.{Decision, Refused}
use Rattle.rules.proofs.Tests.{both, test}
use Rattle.rom.specs.Rest.{prompt_rest}
use Rattle.borrow.specs.declared.span.Borrowed.{Borrowed}
use Rattle.borrow.specs.Lent.{lent_back, of_outcome}
use Rattle.borrow.specs.Judged.{judged, refusal_of, bytes_lent, moved_on}
use Rattle.borrow.specs.Spans.{span_bytes, placed, memory_of, place_of, span_in, span_out, span_of}
use Rattle.borrow.proofs.Steps.{lent_back_lem}

-- ---- tails and parts of lists

-- what is left of M from a on begins where M's length less its own says
tail_at : (a : ℕ) (M : List ℕ) → drop (length M - length (drop a M)) M ≡ drop a M
tail_at zero M = let e : length M - length M ≡ 0 = omega arith in rw e
tail_at (suc a) [] = refl
tail_at (suc a) (x ∷ xs) =
    let e : suc (length xs) - length (drop a xs) ≡ suc (length xs - length (drop a xs)) = omega (arith, length-drop a xs) in
    rw e (tail_at a xs)

start-part : (n m : ℕ) (X : List ℕ) → take (length (take n (take m X))) X ≡ take n (take m X)
start-part zero m X = refl
start-part (suc n) zero X = refl
start-part (suc n) (suc m) [] = refl
start-part (suc n) (suc m) (x ∷ xs) = ap (λ (l : List ℕ). x ∷ l) (start-part n m xs)

-- n elements from f on of the first m of X are as many from f on of X
inner-part : (n f m : ℕ) (X : List ℕ) → take (length (take n (drop f (take m X)))) (drop f X) ≡ take n (drop f (take m X))
inner-part zero f m X = refl
inner-part (suc n) zero m X = start-part (suc n) m X
inner-part (suc n) (suc f) zero X = refl
inner-part (suc n) (suc f) (suc m) [] = refl
inner-part (suc n) (suc f) (suc m) (x ∷ xs) = inner-part (suc n) f m xs

-- the factory part from prompt k on is what is left of it from some place on
rom_place : ℕ → List ℕ → ℕ
rom_place zero X = 0
rom_place (suc k) X = (2 + prompt_length X) + rom_place k (next_prompt X)

rom-place : (k : ℕ) (X : List ℕ) → rom_from k X ≡ drop (rom_place k X) X
unfolding rom_from rom_place
rom-place zero X = refl
rom-place (suc k) X = rom-place k (next_prompt X) ∙ drop-drop (rom_place k (next_prompt X)) (2 + prompt_length X) X

-- ---- a sound memory is small

rom-small : (n : ℕ) (X : List ℕ) → prompts_sound n X ≡ true → length X ≤ n * (2 + BLOCK)
unfolding prompts_sound
rom-small zero X e = omega (arith, eqb-true (length X) 0 e)
rom-small (suc n) X e = by (eqb (length X) 0) refl e (rom-small n (next_prompt X))
  where
    by : (b : Bool) → eqb (length X) 0 ≡ b → cond b true (every (prompt_sound X ∷ prompts_sound n (next_prompt X) ∷ [])) ≡ true → (prompts_sound n (next_prompt X) ≡ true → length (next_prompt X) ≤ n * (2 + BLOCK))
        → length X ≤ suc n * (2 + BLOCK)
    by true q r rest = omega (arith, eqb-true (length X) 0 q)
    by false q r rest =
        let few : prompt_length X ≤ BLOCK = leb-true (prompt_length X) BLOCK (unfold prompt_sound in test 0 _ (test 0 _ r)) in
        let more : length (next_prompt X) ≤ n * (2 + BLOCK) = rest (test 1 _ r) in
        omega (arith, few, more, length-drop (2 + prompt_length X) X)

module _ (K : Fixed) (s : Store) (e : sound K s ≡ true) where
  rom-fits : length K.rom < 2 ^ 32
  unfolding sound
  rom-fits = let l : length K.rom ≤ PROMPTS * (2 + BLOCK) = rom-small PROMPTS K.rom (test 1 _ e) in omega (arith, l)

  sized : sizes_sound s ≡ true
  unfolding sound store_sound
  sized = (both (sizes_sound s) (every (tables_sound (view s) ∷ opens_within K.rom (view s).open_files ∷ [])) (test 2 _ e)).0

  contents-fit : length s.contents < 2 ^ 32
  unfolding sizes_sound slots_sized
  contents-fit = let l : length s.contents ≡ SLOTS * BLOCK = eqb-true (length s.contents) (SLOTS * BLOCK) (test 1 _ (test 0 _ sized)) in omega (arith, l)

-- ---- the bytes of a span

least : (n : ℕ) (X : List ℕ) → min (length (take n X)) n ≡ length (take n X)
least n X = omega (arith, length-take n X)

-- a tail of M begins at its place
placed_at : (M : List ℕ) → length M < 2 ^ 32 → (a : ℕ) → drop (placed M (drop a M)) M ≡ drop a M
placed_at M h a = rw (mod-eq_of_lt small) (tail_at a M)
  where
    small : length M - length (drop a M) < 2 ^ 32
    small = omega (arith, h)

module _ (R C : List ℕ) (r : length R < 2 ^ 32) (c : length C < 2 ^ 32) (from n : ℕ) where
  in-contents : (s : ℕ) → take (min (length (take n (drop from (block C s)))) n) (drop (placed C (drop (BLOCK * s + from) C)) C) ≡ take n (drop from (block C s))
  in-contents s = rw (least n (drop from (block C s)), placed_at C c (BLOCK * s + from), ← drop-drop from (BLOCK * s) C) (inner-part n from BLOCK (drop (BLOCK * s) C))

  in-rom : (k : ℕ) → take (min (length (take n (drop from (prompt R k)))) n) (drop (placed R (drop from (prompt_rest R k))) R) ≡ take n (drop from (prompt R k))
  unfolding prompt prompt_rest
  in-rom k = by (ltb k PROMPTS)
    where
      none_of : (m : ℕ) → take {A = ℕ} m [] ≡ []
      none_of zero = refl
      none_of (suc m) = refl

      none_from : (m : ℕ) → drop {A = ℕ} m [] ≡ []
      none_from zero = refl
      none_from (suc m) = refl

      by : (b : Bool) → take (min (length (take n (drop from (cond b (first_prompt (rom_from k R)) [])))) n) (drop (placed R (drop from (cond b (drop 2 (rom_from k R)) []))) R) ≡ take n (drop from (cond b (first_prompt (rom_from k R)) []))
      by true =
          let tail : drop from (drop 2 (rom_from k R)) ≡ drop (rom_place k R + 2 + from) R = rw (rom-place k R, drop-drop 2 (rom_place k R) R, drop-drop from (rom_place k R + 2) R) refl in
          rw (least n (drop from (first_prompt (rom_from k R))), tail, placed_at R r (rom_place k R + 2 + from), ← tail) (inner-part n from (prompt_length (rom_from k R)) (drop 2 (rom_from k R)))
      by false = rw (least n (drop from []), none_from from, none_of n) refl

  in_memory : (s : Slot) → span_bytes R C (span_in R C s from n) ≡ take n (drop from (bytes_of R C s))
  unfolding span_bytes memory_of place_of bytes_of
  in_memory s = by (is_slot s)
    where
      by : (b : Bool) → take (min (length (take n (drop from (cond b (block C s.0) (prompt R (s.0 - SLOTS)))))) n)
          (drop (cond b (placed C (drop (BLOCK * s.0 + from) C)) (placed R (drop from (prompt_rest R (s.0 - SLOTS))))) (cond (eqb (cond b 0 1) 0) C R))
          ≡ take n (drop from (cond b (block C s.0) (prompt R (s.0 - SLOTS))))
      by true = in-contents s.0
      by false = in-rom (s.0 - SLOTS)

module _ (R C : List ℕ) (r : length R < 2 ^ 32) (c : length C < 2 ^ 32) where
  out-bytes : (o : Output) → span_bytes R C (span_out R C o) ≡ bytes_out R C o
  unfolding span_out bytes_out
  out-bytes output.Nothing = unfold span_bytes in refl
  out-bytes (output.Name d i) = unfold span_bytes in refl
  out-bytes (output.Fields f) = unfold span_bytes in refl
  out-bytes (output.Bytes s from n) = in_memory R C r c from n s

  span-bytes : (d : Decision) → span_bytes R C (span_of R C d) ≡ bytes_lent R C d
  unfolding span_of bytes_lent
  span-bytes (Err stop) = unfold span_bytes in refl
  span-bytes (Ok grant) = out-bytes grant.output

module _ (R C : List ℕ) where
  out-refusal : (o : Output) → (span_out R C o).refusal ≡ GRANTED
  unfolding span_out
  out-refusal output.Nothing = refl
  out-refusal (output.Name d i) = refl
  out-refusal (output.Fields f) = refl
  out-refusal (output.Bytes s from n) = refl

  span-refusal : (d : Decision) → (span_of R C d).refusal ≡ refusal_of d
  unfolding span_of refusal_of
  span-refusal (Err stop) = refl
  span-refusal (Ok grant) = out-refusal grant.output

  out-value : (o : Output) → (span_out R C o).value ≡ length (bytes_out R C o)
  unfolding span_out bytes_out
  out-value output.Nothing = refl
  out-value (output.Name d i) = refl
  out-value (output.Fields f) = refl
  out-value (output.Bytes s from n) = least n (drop from (bytes_of R C s))

  value_of : (d : Decision) → (span_of R C d).value ≡ length (bytes_lent R C d)
  unfolding span_of bytes_lent
  value_of (Err stop) = refl
  value_of (Ok grant) = out-value grant.output

-- ---- of a borrowing read

module _ (K : Fixed) (s : Store) (p : Pid) (i : Fd) (n : ℕ) where
  judged-bytes : span_bytes K.rom s.contents (span_of K.rom s.contents (judged K s p i n)) ≡ bytes_lent K.rom s.contents (judged K s p i n)
  unfolding judged
  judged-bytes = by (sound K s) refl
    where
      by : (b : Bool) → sound K s ≡ b → span_bytes K.rom s.contents (span_of K.rom s.contents (cond b (decide_borrow K (seen K.rom (view s)) p i n) (Refused Unsound 0)))
          ≡ bytes_lent K.rom s.contents (cond b (decide_borrow K (seen K.rom (view s)) p i n) (Refused Unsound 0))
      by true e = span-bytes K.rom s.contents (rom-fits K s e) (contents-fit K s e) (decide_borrow K (seen K.rom (view s)) p i n)
      by false e = unfold span_of bytes_lent span_bytes in refl

  module _ (d : Decision) (v : Borrowed) (a : d ≡ judged K s p i n) (b : v ≡ span_of K.rom s.contents d) where
    bytes-are : span_bytes K.rom s.contents v ≡ bytes_lent K.rom s.contents d
    bytes-are = rw (b, a) judged-bytes

    pub span-back : (e : Ofd) (t : Store) → e ≡ ofd_held (view s).desc p i → t ≡ moved_on e d s → lent_back v.refusal (span_bytes K.rom s.contents v) t ≡ of_outcome (step_borrow K s p i n)
    span-back e t q m = lent_back_lem K s p i n d e v.refusal (span_bytes K.rom s.contents v) t a q (rw b (span-refusal K.rom s.contents d)) bytes-are m

    pub span_value : v.value ≡ length (span_bytes K.rom s.contents v)
    span_value = rw bytes-are (rw b (value_of K.rom s.contents d))
