-- Numbers and bytes as a script writes them are read back.
use Prim.Native.Nat.{ℕ, zero, suc, ◌+◌, ◌-◌, ◌*◌, ◌/◌, ◌%◌, ◌^◌, ◌≤◌, ◌<◌}
use mathlib.Core.Path.{◌≡◌, refl, sym, ◌∙◌}
use mathlib.Core.Bool.{Bool, true, false, not, cond}
use mathlib.Core.List.{List, [], ◌∷◌, ◌++◌}
use native.Mathlib.Decide.{dec_lt}
use native.Mathlib.Omega.{arith}
use borrow.Author.Tests.{le-leb, lt-ltb, eq-eqb, ne_eqb, ltb-true, ltb-false, eqb-true}
use lib.Dec.{ltb, eqb}
use lib.ListN.{length, get_or, length-append, get_or-append}
use Rattle.rules.specs.Choice.{every, some}
use Rattle.rules.specs.Scan.{all}
use Rattle.rules.specs.Layout.{NUMBER_MAX}
use Rattle.rules.proofs.Scans.{all-at}
use Rattle.rules.proofs.Tests.{test}
use Rattle.rules.specs.Written.{Bytes}
use Rattle.script_rules.specs.Computing.{computing}
use Rattle.script_rules.specs.Text.{NEWLINE, not_newline, ZERO, is_digit, digits_from, number_of, leads, length_ok, number_ok, digits, decimal, is_hex, hex_value, bytes_of, hex_ok, hex_digit, hex_of}
use Rattle.script_rules.proofs.Texts.{length-hex}
use Rattle.script_claims.proofs.Lists.{Pass, pass-append}

-- ---- numbers

-- a digit of decimal
digit : (n : ℕ) → n < 10 → is_digit (ZERO + n) ≡ true
unfolding is_digit every
digit n h = rw (le-leb 48 (ZERO + n) (omega arith), le-leb (ZERO + n) 57 (omega arith))

pub digits-snoc : (n : ℕ) (ds : List ℕ) (d : ℕ) → digits_from n (ds ++ (d ∷ [])) ≡ digits_from n ds * 10 + (d - ZERO)
unfolding digits_from
digits-snoc n [] d = refl
digits-snoc n (e ∷ ds) d = digits-snoc (n * 10 + (e - ZERO)) ds d

-- ds writes n, without leading zeros
record Writes (n : ℕ) (ds : List ℕ) : Type 0 where
  number : number_of ds ≡ n
  pass : Pass is_digit ds
  least : 1 ≤ length ds
  most : (j : ℕ) → n < 10 ^ suc j → length ds ≤ suc j
  lead : 1 ≤ n → get_or ds 0 0 ≡ ZERO → ⊥

writes_one : (n : ℕ) → n < 10 → Writes n ((ZERO + n) ∷ [])
unfolding digits_from Pass
writes_one n h = record { number = omega arith; pass = (digit n h, tt); least = omega arith; most = λ j l. omega arith; lead = λ l e. omega arith }

writes_more : (n : ℕ) (ds : List ℕ) → 10 ≤ n → Writes (n / 10) ds → Writes n (ds ++ ((ZERO + n % 10) ∷ []))
unfolding Pass
writes_more n ds h w = record {
  number = digits-snoc 0 ds (ZERO + n % 10) ∙ rw w.number (omega arith);
  pass = pass-append is_digit ds _ w.pass (digit (n % 10) (omega arith), tt);
  least = simp length-append (omega (arith, w.least));
  most = most;
  lead = λ l e. w.lead (omega arith) (sym (get_or-append ds _ 0 0 w.least) ∙ e);
}
  where
    most : (j : ℕ) → n < 10 ^ suc j → length (ds ++ ((ZERO + n % 10) ∷ [])) ≤ suc j
    most zero l = absurd (omega arith)
    most (suc j) l = simp length-append (omega (arith, w.most j (omega arith)))

digits-write : (k n : ℕ) → n < 10 ^ suc k → Writes n (digits (suc k) n)
unfolding digits
digits-write zero n h = rw (lt-ltb n 10 h) (writes_one n h)
digits-write (suc k) n h = go (ltb n 10) refl (digits-write k (n / 10))
  where
    go : (b : Bool) → ltb n 10 ≡ b → (n / 10 < 10 ^ suc k → Writes (n / 10) (digits (suc k) (n / 10))) →
        Writes n (cond b ((ZERO + n) ∷ []) (digits (suc k) (n / 10) ++ ((ZERO + n % 10) ∷ [])))
    go true e ih = writes_one n (ltb-true n 10 e)
    go false e ih = writes_more n _ (ltb-false n 10 e) (ih (omega arith))

module _ (n : ℕ) (h : n ≤ NUMBER_MAX) where
  written : Writes n (decimal n)
  written = digits-write 9 n (omega arith)

  pub decimal-back : number_of (decimal n) ≡ n
  decimal-back = written.number

  pub decimal-pass : Pass is_digit (decimal n)
  decimal-pass = written.pass

  decimal-leads : leads (decimal n) ≡ true
  unfolding leads some
  decimal-leads = go (dec_lt n 10)
    where
      go : Dec (n < 10) → some (eqb (length (decimal n)) 1 ∷ not (eqb (get_or (decimal n) 0 0) ZERO) ∷ []) ≡ true
      go (yes l) = rw (eq-eqb (length (decimal n)) 1 (omega (arith, written.least, written.most 0 l)))
      go (no g) = rw (ne_eqb (get_or (decimal n) 0 0) ZERO (written.lead (omega arith))) (done (eqb (length (decimal n)) 1))
        where
          done : (b : Bool) → cond b true true ≡ true
          done true = refl
          done false = refl

  pub decimal-ok : number_ok (decimal n) ≡ true
  unfolding number_ok length_ok every
  decimal-ok =
      rw (le-leb 1 (length (decimal n)) written.least, le-leb (length (decimal n)) 5 (written.most 4 (omega arith)), decimal-leads, decimal-back, le-leb n NUMBER_MAX h)

-- ---- bytes

-- a digit of hex, by computation of all sixteen
hex_back : ℕ → Bool
hex_back n = every (is_hex (hex_digit n) ∷ eqb (hex_value (hex_digit n)) n ∷ [])

hex-digits : all hex_back 0 16 ≡ true
unfolding computing hex_back
hex-digits = refl

module _ (n : ℕ) (h : n < 16) where
  hex-back : every (is_hex (hex_digit n) ∷ eqb (hex_value (hex_digit n)) n ∷ []) ≡ true
  unfolding hex_back
  hex-back = all-at hex_back 0 16 hex-digits n (omega arith) h

  hex-pass : is_hex (hex_digit n) ≡ true
  hex-pass = test 0 _ hex-back

  hex-value : hex_value (hex_digit n) ≡ n
  hex-value = eqb-true _ _ (test 1 _ hex-back)

pub hex_of-pass : (bs : List ℕ) → Bytes bs → Pass is_hex (hex_of bs)
unfolding hex_of Pass
hex_of-pass [] h = tt
hex_of-pass (b ∷ bs) h = (hex-pass (b / 16) (omega (arith, h 0)), (hex-pass (b % 16) (omega arith), hex_of-pass bs (λ i. h (suc i))))

pub hex_of-back : (bs : List ℕ) → Bytes bs → bytes_of (hex_of bs) ≡ bs
unfolding hex_of bytes_of
hex_of-back [] h = refl
hex_of-back (b ∷ bs) h =
    let e : b / 16 * 16 + b % 16 ≡ b = omega arith in
    rw (hex-value (b / 16) (omega (arith, h 0)), hex-value (b % 16) (omega arith), e, hex_of-back bs (λ i. h (suc i)))

pub hex_of-ok : (bs : List ℕ) → hex_ok (hex_of bs) ≡ true
unfolding hex_ok
hex_of-ok bs = eq-eqb (length (hex_of bs) % 2) 0 (omega (arith, length-hex bs))

-- ---- paths

pub path-pass : (p : List ℕ) → ((i : ℕ) → get_or p i 0 ≡ NEWLINE → ⊥) → Pass not_newline p
unfolding Pass not_newline
path-pass [] h = tt
path-pass (b ∷ p) h = (rw (ne_eqb b NEWLINE (h 0)), path-pass p (λ i. h (suc i)))
