-- The numbers of calls, modes and bits, and what they say.
use mathlib.Core.Path.{◌≡◌, refl, subst}
use mathlib.Core.Bool.{Bool, true, false, cond, false≢true}
use mathlib.Core.List.{[], ◌∷◌}
use Prim.Native.Nat.{ℕ, ◌+◌, ◌-◌, ◌≤◌, ◌<◌}
use native.Mathlib.Omega.{arith}
use lib.Dec.{eqb, leb}
use borrow.Author.Tests.{eqb-true, leb-true}
use Rattle.std.specs.Prelude.{Some, None, Option}
use Rattle.rules.specs.Layout.{BITS_MAX, MODE_MAX}
use Rattle.rules.specs.Choice.{every}
use Rattle.rules.specs.Rights.{bits_of, mode_of, TRUNCATE}
use Rattle.rules.specs.Calls.{operation_of}
use Rattle.rules.specs.declared.rights.Bits.{Bits}
use Rattle.rules.specs.declared.rights.OpenMode.{OpenMode}
use Rattle.rules.specs.declared.rights.OpenFlags.{OpenFlags}
use Rattle.rules.specs.Decisions.{Keep, Truncate}
use Rattle.rules.specs.declared.request.Operation.{Operation}
use Rattle.rules.specs.declared.request.Operation.TheVariants as op
use Rattle.preservation.proofs.Tests.{means-every, means-and, means-last, means-le}

-- k is the number of operation o
unfoldable pub NumberOf : ℕ → Operation → Type 0
NumberOf k op.Open = k ≡ 1
NumberOf k op.Create = k ≡ 2
NumberOf k op.MakeDirectory = k ≡ 3
NumberOf k op.Unlink = k ≡ 4
NumberOf k op.RemoveDirectory = k ≡ 5
NumberOf k op.Link = k ≡ 6
NumberOf k op.List = k ≡ 7
NumberOf k op.ChangeBits = k ≡ 8
NumberOf k op.Stat = k ≡ 9
NumberOf k op.Close = k ≡ 10
NumberOf k op.Read = k ≡ 11
NumberOf k op.Write = k ≡ 12
NumberOf k op.Seek = k ≡ 13
NumberOf k op.Duplicate = k ≡ 14
NumberOf k op.Fork = k ≡ 15
NumberOf k op.Exit = k ≡ 16
NumberOf k op.Execute = k ≡ 17
NumberOf k op.Symlink = k ≡ 18
NumberOf k op.ReadLink = k ≡ 19
NumberOf k op.Rename = k ≡ 20
NumberOf k op.Unknown = Unit {0}

numbered : (P : Operation → Type 0) (k : ℕ) → ((o : Operation) → NumberOf k o → P o) → P (operation_of k)
unfolding operation_of NumberOf
numbered P k f =
    at 1 (f op.Open) (at 2 (f op.Create) (at 3 (f op.MakeDirectory) (at 4 (f op.Unlink) (at 5 (f op.RemoveDirectory) (
    at 6 (f op.Link) (at 7 (f op.List) (at 8 (f op.ChangeBits) (at 9 (f op.Stat) (at 10 (f op.Close) (
    at 11 (f op.Read) (at 12 (f op.Write) (at 13 (f op.Seek) (at 14 (f op.Duplicate) (at 15 (f op.Fork) (
    at 16 (f op.Exit) (at 17 (f op.Execute) (at 18 (f op.Symlink) (at 19 (f op.ReadLink) (at 20 (f op.Rename) (
    f op.Unknown tt))))))))))))))))))))
  where
    at : (n : ℕ) {x y : Operation} → (k ≡ n → P x) → P y → P (cond (eqb k n) x y)
    at n {x} {y} f g = by (eqb k n) refl
      where
        by : (b : Bool) → eqb k n ≡ b → P (cond b x y)
        by true e = f (eqb-true k n e)
        by false e = g

pub number_of : (k : ℕ) → NumberOf k (operation_of k)
number_of k = numbered (NumberOf k) k (λ _ q. q)

-- mode m, which number n says, is 1 to 4; where n truncates, it is over 8 and m is not 1
pub record GoodMode (n : ℕ) (m : OpenMode) (truncating : Bool) : Type 0 where
  pub least : 0 < m.0
  pub most : m.0 ≤ MODE_MAX
  pub over : truncating ≡ true → TRUNCATE < n
  pub writing : truncating ≡ true → 1 < m.0

unfoldable pub ModeSays : ℕ → Option OpenFlags → Type 0
ModeSays n (Some flags) = GoodMode n flags.mode flags.truncates
ModeSays n None = Unit {0}

pub mode-says : (n : ℕ) → ModeSays n (mode_of n)
unfolding mode_of ModeSays
mode-says n = by (every (leb 1 n ∷ leb n MODE_MAX ∷ [])) refl (every (leb (TRUNCATE + 2) n ∷ leb n (TRUNCATE + MODE_MAX) ∷ [])) refl
  where
    by : (a : Bool) → every (leb 1 n ∷ leb n MODE_MAX ∷ []) ≡ a → (b : Bool) → every (leb (TRUNCATE + 2) n ∷ leb n (TRUNCATE + MODE_MAX) ∷ []) ≡ b →
        ModeSays n (cond a (Keep (record { 0 = n })) (cond b (Truncate (record { 0 = n - TRUNCATE })) None))
    by true e b f = let w = (means-every (means-and (means-le 1 n) (means-last (means-le n MODE_MAX)))).holds e in record { least = w.0; most = w.1; over = λ z. absurd (false≢true z); writing = λ z. absurd (false≢true z) }
    by false e true f =
        let w = (means-every (means-and (means-le (TRUNCATE + 2) n) (means-last (means-le n (TRUNCATE + MODE_MAX))))).holds f in
        record { least = omega (arith, w.0); most = omega (arith, w.1); over = λ _. omega (arith, w.0); writing = λ _. omega (arith, w.0) }
    by false e false f = tt

unfoldable BitsSay : Option Bits → Type 0
BitsSay (Some b) = b.0 ≤ BITS_MAX
BitsSay None = Unit {0}

bits-say : (n : ℕ) → BitsSay (bits_of n)
unfolding bits_of BitsSay
bits-say n = by (leb n BITS_MAX) refl
  where
    by : (b : Bool) → leb n BITS_MAX ≡ b → BitsSay (cond b (Some (record { 0 = n })) None)
    by true e = leb-true n BITS_MAX e
    by false e = tt

pub bits_most : (n : ℕ) (b : Bits) → bits_of n ≡ Some b → b.0 ≤ BITS_MAX
unfolding BitsSay
bits_most n b e = subst BitsSay e (bits-say n)
