-- Numbers and bytes that a script may hold are those that are printed.
use Prim.Native.Nat.{ℕ, zero, suc, ◌+◌, ◌-◌, ◌*◌, ◌/◌, ◌%◌, ◌≤◌, ◌<◌}
use mathlib.Core.Path.{◌≡◌, refl, sym, ◌∙◌, ap}
use mathlib.Core.Bool.{Bool, true, false, cond, false≢true}
use mathlib.Core.List.{List, [], ◌∷◌, ◌++◌}
use native.Mathlib.Decide.{dec_lt}
use native.Mathlib.Omega.{arith}
use borrow.Author.Tests.{eqb-true, ltb-true, leb-true, lt-leb, lt-ltb, le-ltb, eq-eqb, ne_eqb}
use lib.Dec.{eqb, ltb, leb}
use lib.ListN.{length, get_or, length-append, get_or-append}
use Rattle.rules.specs.Choice.{every, some, implies}
use Rattle.rules.specs.Scan.{all}
use Rattle.rules.specs.Layout.{NUMBER_MAX}
use Rattle.rules.proofs.Scans.{all-at}
use Rattle.rules.proofs.Tests.{test}
use Rattle.script_rules.specs.Computing.{computing}
use Rattle.script_rules.specs.Text.{ZERO, is_digit, digits_from, number_of, leads, length_ok, number_ok, digits, decimal, is_letter, is_hex, hex_value, bytes_of, hex_digit, hex_of}
use Rattle.script_rules.proofs.Digits.{grows}
use Rattle.script_claims.proofs.Lists.{Pass}
use Rattle.script_claims.proofs.Texts.{digits-snoc}

-- ---- numbers: a list of digits, by its last

data Snoc : List ℕ → Type 0 where
  none : Snoc []
  more : (es : List ℕ) (d : ℕ) → Snoc es → Snoc (es ++ (d ∷ []))

snoc-cons : (a : ℕ) {l : List ℕ} → Snoc l → Snoc (a ∷ l)
snoc-cons a none = more [] a none
snoc-cons a (more es d s) = more (a ∷ es) d (snoc-cons a s)

snoc : (l : List ℕ) → Snoc l
snoc [] = none
snoc (a ∷ l) = snoc-cons a (snoc l)

pass-split : (t : ℕ → Bool) (p q : List ℕ) → Pass t (p ++ q) → Pass t p × Pass t q
unfolding Pass
pass-split t [] q h = (tt, h)
pass-split t (b ∷ p) q h = let r = pass-split t p q h.1 in ((h.0, r.0), r.1)

digit-range : (d : ℕ) → is_digit d ≡ true → (48 ≤ d) × (d ≤ 57)
unfolding is_digit
digit-range d e = (leb-true 48 d (test 0 _ e), leb-true d 57 (test 1 _ e))

only : (d : ℕ) → Pass is_digit (d ∷ []) → is_digit d ≡ true
unfolding Pass
only d h = h.0

-- digits of which the first is not 0 write no 0
leading-some : (ds : List ℕ) → Pass is_digit ds → 1 ≤ length ds → (get_or ds 0 0 ≡ ZERO → ⊥) → 1 ≤ number_of ds
unfolding digits_from Pass
leading-some [] p l z = absurd (omega arith)
leading-some (d ∷ ds) p l z = omega (arith, z, digit-range d p.0, grows (0 * 10 + (d - ZERO)) ds)

one-digit : (k d : ℕ) → 48 ≤ d → d ≤ 57 → digits (suc k) (0 * 10 + (d - ZERO)) ≡ d ∷ []
unfolding digits
one-digit k d a b =
    let e : ZERO + (0 * 10 + (d - ZERO)) ≡ d = omega arith in
    rw (lt-ltb (0 * 10 + (d - ZERO)) 10 (omega arith)) (ap (λ x. x ∷ []) e)

last-digit : (k d m : ℕ) (es : List ℕ) → 48 ≤ d → d ≤ 57 → 1 ≤ m → digits k m ≡ es → digits (suc k) (m * 10 + (d - ZERO)) ≡ es ++ (d ∷ [])
unfolding digits
last-digit k d m es a b l e =
    let front : (m * 10 + (d - ZERO)) / 10 ≡ m = omega arith in
    let last : ZERO + (m * 10 + (d - ZERO)) % 10 ≡ d = omega arith in
    rw (le-ltb (m * 10 + (d - ZERO)) 10 (omega arith), front, last, e)

digits-snoc' : (k d : ℕ) (es : List ℕ) → digits (suc k) (number_of es * 10 + (d - ZERO)) ≡ es ++ (d ∷ []) → digits (suc k) (number_of (es ++ (d ∷ []))) ≡ es ++ (d ∷ [])
digits-snoc' k d es e = rw (digits-snoc 0 es d) e

digits-exact : {ds : List ℕ} → Snoc ds → (k : ℕ) → length ds ≤ k → 1 ≤ length ds → Pass is_digit ds → (2 ≤ length ds → get_or ds 0 0 ≡ ZERO → ⊥) → digits k (number_of ds) ≡ ds
digits-exact none k l s p z = absurd (omega arith)
digits-exact (more es d t) zero l s p z = absurd (omega arith)
digits-exact (more es d none) (suc k) l s p z = let r = digit-range d (only d p) in digits-snoc' k d [] (unfold digits_from in one-digit k d r.0 r.1)
digits-exact (more es d (more fs e t)) (suc k) l s p z =
    let q = pass-split is_digit (fs ++ (e ∷ [])) (d ∷ []) p in
    let r = digit-range d (only d q.1) in
    let size : length (fs ++ (e ∷ []) ++ (d ∷ [])) ≡ length (fs ++ (e ∷ [])) + 1 = length-append (fs ++ (e ∷ [])) (d ∷ []) in
    let some : length (fs ++ (e ∷ [])) ≡ length fs + 1 = length-append fs (e ∷ []) in
    let first : get_or (fs ++ (e ∷ [])) 0 0 ≡ ZERO → ⊥ = λ x. z (omega arith) (get_or-append (fs ++ (e ∷ [])) (d ∷ []) 0 0 (omega arith) ∙ x) in
    digits-snoc' k d (fs ++ (e ∷ [])) (last-digit k d (number_of (fs ++ (e ∷ []))) (fs ++ (e ∷ [])) r.0 r.1 (leading-some (fs ++ (e ∷ [])) q.0 (omega arith) first)
    (digits-exact (more fs e t) k (omega arith) (omega arith) q.0 (λ _. first)))

no_zero : (ds : List ℕ) → leads ds ≡ true → 2 ≤ length ds → get_or ds 0 0 ≡ ZERO → ⊥
unfolding leads some
no_zero ds e l z = false≢true (sym (rw (ne_eqb (length ds) 1 (λ q. omega arith), eq-eqb (get_or ds 0 0) ZERO z)) ∙ e)

pub decimal-exact : (ds : List ℕ) → Pass is_digit ds → number_ok ds ≡ true → (decimal (number_of ds) ≡ ds) × (number_of ds ≤ NUMBER_MAX)
unfolding number_ok length_ok
decimal-exact ds p e =
    let size = test 0 _ e in
    let five : length ds ≤ 5 = leb-true (length ds) 5 (test 1 _ size) in
    (digits-exact (snoc ds) 10 (omega arith) (leb-true 1 (length ds) (test 0 _ size)) p (no_zero ds (test 1 _ e)), leb-true (number_of ds) NUMBER_MAX (test 2 _ e))

-- ---- bytes

-- a digit of hex, by computation of all that there are
hex_exact : ℕ → Bool
hex_exact b = implies (is_hex b) (every (eqb (hex_digit (hex_value b)) b ∷ ltb (hex_value b) 16 ∷ []))

hex-exact-all : all hex_exact 0 103 ≡ true
unfolding computing hex_exact
hex-exact-all = refl

hex-small : (b : ℕ) → is_hex b ≡ true → b < 103
unfolding is_hex is_digit is_letter every some
hex-small b e = go (dec_lt b 103)
  where
    out : (x y : Bool) → cond (cond x false false) true (cond (cond y false false) true false) ≡ true → ⊥
    out true true e = false≢true e
    out true false e = false≢true e
    out false true e = false≢true e
    out false false e = false≢true e

    go : Dec (b < 103) → b < 103
    go (yes l) = l
    go (no g) = absurd (out (leb 48 b) (leb 97 b) (rw (lt-leb b 57 (omega arith), lt-leb b 102 (omega arith)) at e))

hex-digit : (b : ℕ) → is_hex b ≡ true → (hex_digit (hex_value b) ≡ b) × (hex_value b < 16)
unfolding hex_exact implies
hex-digit b e =
    let h = rw e at (all-at hex_exact 0 103 hex-exact-all b (omega arith) (hex-small b e)) in
    (eqb-true _ _ (test 0 _ h), ltb-true _ _ (test 1 _ h))

pub hex-exact : (t : List ℕ) → Pass is_hex t → length t % 2 ≡ 0 → hex_of (bytes_of t) ≡ t
unfolding Pass hex_of bytes_of
hex-exact [] p e = refl
hex-exact (a ∷ []) p e = absurd (omega arith)
hex-exact (a ∷ b ∷ t) p e =
    let x = hex-digit a p.0 in
    let y = hex-digit b p.1.0 in
    let high : (hex_value a * 16 + hex_value b) / 16 ≡ hex_value a = omega arith in
    let low : (hex_value a * 16 + hex_value b) % 16 ≡ hex_value b = omega arith in
    rw (high, low, x.0, y.0, hex-exact t p.1.1 (omega arith))
