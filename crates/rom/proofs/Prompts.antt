-- The part read by loops: each turn takes one prompt and leaves what follows it.
use Prim.Native.Nat.{ℕ, suc, ◌+◌, ◌-◌, ◌≤◌, ◌<◌, min}
use mathlib.Core.Path.{◌≡◌, refl, sym, ◌∙◌, ap}
use mathlib.Core.Bool.{Bool, true, false, cond}
use mathlib.Core.List.{List, []}
use native.Mathlib.Nat.{min_comm}
use native.Mathlib.Omega.{arith}
use lib.Dec.{eqb, ltb}
use lib.ListN.{length, drop, length-take}
use Rattle.rules.specs.Choice.{every}
use Rattle.rules.specs.Layout.{PROMPTS}
use Rattle.rules.specs.Rom.{prompt_length, first_prompt, prompt, next_prompt, rom_from, prompt_count, prompt_sound, prompts_sound}
use Rattle.rom.specs.Rest.{prompt_rest}

-- The loops: what is asked of the whole part is asked of the rest, after as many prompts as turns.
pub from-start : (k : ℕ) (X : List ℕ) → rom_from (k - 0) X ≡ rom_from k X
from-start k X = let e : k - 0 ≡ k = omega arith in rw e refl

module _ (k i : ℕ) (X : List ℕ) {Z : List ℕ} (v : rom_from (k - i) X ≡ Z) where
  pub from-step : {Y : List ℕ} → i < k → Y ≡ next_prompt X → rom_from (k - (i + 1)) Y ≡ Z
  unfolding rom_from
  from-step h y = let e : k - i ≡ suc (k - (i + 1)) = omega arith in rw y (rw e at v)

  pub from-done : k ≤ i → X ≡ Z
  unfolding rom_from
  from-done h = let e : k - i ≡ 0 = omega arith in rw e at v

pub count-start : (n : ℕ) (X : List ℕ) → 0 + prompt_count (n - 0) X ≡ prompt_count n X
count-start n X = let e : n - 0 ≡ n = omega arith in rw e (omega arith)

module _ (n k : ℕ) (X : List ℕ) {z : ℕ} (v : k + prompt_count (n - k) X ≡ z) where
  pub count-ended : {r : Bool} → k < n → r ≡ eqb (length X) 0 → r ≡ true → k ≡ z
  unfolding prompt_count
  count-ended h q t =
      let e : n - k ≡ suc (n - (k + 1)) = omega arith in
      let w : prompt_count (n - k) X ≡ 0 = rw (e, sym q ∙ t) refl in
      omega arith

  pub count-step : {r : Bool} {Y : List ℕ} → k < n → r ≡ eqb (length X) 0 → r ≡ false → Y ≡ next_prompt X → k + 1 + prompt_count (n - (k + 1)) Y ≡ z
  unfolding prompt_count
  count-step h q f y =
      let e : n - k ≡ suc (n - (k + 1)) = omega arith in
      let w : prompt_count (n - k) X ≡ suc (prompt_count (n - (k + 1)) (next_prompt X)) = rw (e, sym q ∙ f) refl in
      rw y (omega arith)

  pub count-done : n ≤ k → k ≤ n → n ≡ z
  unfolding prompt_count
  count-done h l =
      let e : n - k ≡ 0 = omega arith in
      let w : prompt_count (n - k) X ≡ 0 = rw e refl in
      omega arith

pub sound-start : (n : ℕ) (X : List ℕ) → prompts_sound (n - 0) X ≡ prompts_sound n X
sound-start n X = let e : n - 0 ≡ n = omega arith in rw e refl

module _ (n i : ℕ) (X : List ℕ) {z : Bool} (v : prompts_sound (n - i) X ≡ z) where
  pub sound-ended : {r : Bool} → i < n → r ≡ eqb (length X) 0 → r ≡ true → true ≡ z
  unfolding prompts_sound
  sound-ended h q t = let e : n - i ≡ suc (n - (i + 1)) = omega arith in rw (sym q ∙ t) at (rw e at v)

  pub sound-broken : {r b : Bool} → i < n → r ≡ eqb (length X) 0 → r ≡ false → b ≡ prompt_sound X → b ≡ false → false ≡ z
  unfolding prompts_sound every
  sound-broken h q f p g = let e : n - i ≡ suc (n - (i + 1)) = omega arith in rw (sym p ∙ g) at (rw (sym q ∙ f) at (rw e at v))

  pub sound-step : {r b : Bool} {Y : List ℕ} → i < n → r ≡ eqb (length X) 0 → r ≡ false → b ≡ prompt_sound X → b ≡ true → Y ≡ next_prompt X
      → prompts_sound (n - (i + 1)) Y ≡ z
  unfolding prompts_sound every
  sound-step h q f p t y =
      let e : n - i ≡ suc (n - (i + 1)) = omega arith in
      rw y (last (prompts_sound (n - (i + 1)) (next_prompt X)) ∙ rw (sym p ∙ t) at (rw (sym q ∙ f) at (rw e at v)))
    where
      last : (b : Bool) → b ≡ cond b true false
      last true = refl
      last false = refl

  pub sound-done : {r : Bool} → n ≤ i → r ≡ eqb (length X) 0 → r ≡ z
  unfolding prompts_sound
  sound-done h q = let e : n - i ≡ 0 = omega arith in q ∙ rw e at v

pub first-length : (X A : List ℕ) (m z : ℕ) → A ≡ drop 2 X → m ≡ prompt_length X → z ≡ min (length A) m → z ≡ length (first_prompt X)
first-length X A m z a e p = p ∙ rw (a, e, length-take (prompt_length X) (drop 2 X)) (min_comm (length (drop 2 X)) (prompt_length X))

-- of prompt k, from the part that it begins
module _ (R P : List ℕ) (k : ℕ) (e : P ≡ cond (ltb k PROMPTS) (rom_from k R) []) where
  pub prompt_of : first_prompt P ≡ prompt R k
  unfolding prompt prompt_length
  prompt_of = rw e (by (ltb k PROMPTS))
    where
      by : (b : Bool) → first_prompt (cond b (rom_from k R) []) ≡ cond b (first_prompt (rom_from k R)) []
      by true = refl
      by false = refl

  pub rest_of : drop 2 P ≡ prompt_rest R k
  unfolding prompt_rest
  rest_of = rw e (by (ltb k PROMPTS))
    where
      by : (b : Bool) → drop 2 (cond b (rom_from k R) []) ≡ cond b (drop 2 (rom_from k R)) []
      by true = refl
      by false = refl

  pub size_of : length (first_prompt P) ≡ length (prompt R k)
  size_of = ap length prompt_of
