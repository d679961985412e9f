-- The written form loses nothing of a call that can be kept, and no other bytes are taken for one.
use Prim.Native.Nat.{ℕ, zero, suc, ◌+◌, ◌*◌, ◌/◌, ◌%◌, ◌≤◌, ◌<◌}
use mathlib.Core.Path.{◌≡◌, refl, sym}
use mathlib.Core.Bool.{Bool, true, false, cond, not, false≢true}
use mathlib.Core.List.{List, [], ◌∷◌, ◌++◌}
use native.Mathlib.Nat.{mod-add-div'}
use native.Mathlib.Omega.{arith}
use lib.Dec.{eqb, leb}
use lib.ListN.{length, length-append, take-append-drop}
use lib.Seq.{take-append_seam, drop-append_seam, length-take-le}
use borrow.Author.Tests.{leb-true, eqb-true, le-leb}
use Rattle.rules.specs.Choice.{every, some, implies}
use Rattle.rules.specs.Layout.{PATH, NUMBER_MAX, SLASH}
use Rattle.rules.specs.Store.{zeros}
use Rattle.rules.specs.Calls.{Call, operation_of, uses}
use Rattle.rules.specs.declared.refusal.Refusal.TheVariants.{Malformed}
use Rattle.rules.specs.declared.request.Operation.{Operation}
use Rattle.rules.specs.declared.request.Operation.TheVariants as op
use Rattle.rules.specs.Written.{BYTE, Bytes, Written, written, parts_of, number_if, text_if, capped, normal_by, normal, texts_fit, can_keep, layout, encode, keep, Keeps, Refuses, Kept, NotWritten, numbers_fit, accepted, parsed, decode}
use Rattle.rules.specs.declared.request.Parts.{Parts}
use Rattle.rules.specs.Computing.{computing}

-- ---- lists of tests

both : (a b : Bool) → every (a ∷ b ∷ []) ≡ true → (a ≡ true) × (b ≡ true)
unfolding every
both true true e = (refl, refl)
both true false e = absurd (false≢true e)
both false b e = absurd (false≢true e)

three : (a b c : Bool) → every (a ∷ b ∷ c ∷ []) ≡ true → (a ≡ true) × (b ≡ true) × (c ≡ true)
unfolding every
three true true true e = (refl, refl, refl)
three true true false e = absurd (false≢true e)
three true false c e = absurd (false≢true e)
three false b c e = absurd (false≢true e)

-- ---- the normal form

pub capped-most : (n : ℕ) → capped n ≤ NUMBER_MAX
unfolding capped
capped-most n = by (leb n NUMBER_MAX) refl
  where
    by : (t : Bool) → leb n NUMBER_MAX ≡ t → cond t n NUMBER_MAX ≤ NUMBER_MAX
    by true e = leb-true n NUMBER_MAX e
    by false e = omega arith

capped_same : (n : ℕ) → n ≤ NUMBER_MAX → capped n ≡ n
unfolding capped
capped_same n h = rw (le-leb n NUMBER_MAX h)

number-unused : (used : Bool) (n : ℕ) → implies (not used) (eqb (number_if used n) 0) ≡ true
unfolding implies number_if
number-unused true n = refl
number-unused false n = refl

pub number_same : (used : Bool) (n : ℕ) → implies (not used) (eqb n 0) ≡ true → number_if used n ≡ n
unfolding implies number_if
number_same true n e = refl
number_same false n e = sym (eqb-true n 0 e)

text_same : (most : ℕ) (t : List ℕ) → leb (length t) most ≡ true → text_if most t ≡ t
unfolding text_if
text_same most t e = by (eqb most 0) refl t e
  where
    by : (b : Bool) → eqb most 0 ≡ b → (t : List ℕ) → leb (length t) most ≡ true → cond b [] t ≡ t
    by true q [] e = refl
    by true q (x ∷ t) e = absurd (omega (arith, eqb-true most 0 q, leb-true (length (x ∷ t)) most e))
    by false q t e = refl

numbers_fit_lem : (u : Parts) (w : Written) → numbers_fit u (normal_by u w) ≡ true
unfolding numbers_fit normal_by every
numbers_fit_lem u w = rw (number-unused u.fd w.fd.0, number-unused u.number (capped w.number))

-- the test of `decode` accepts only calls in the normal form
normal-same : (u : Parts) (w : Written) → w.number ≤ NUMBER_MAX → numbers_fit u w ≡ true → texts_fit u w ≡ true → normal_by u w ≡ w
unfolding numbers_fit texts_fit normal_by
normal-same u w h ns ts =
    let n = both _ _ ns in
    let t = both _ _ ts in
    rw (capped_same w.number h, number_same u.fd w.fd.0 n.0, number_same u.number w.number n.1, text_same u.path w.path t.0, text_same u.«data» w.«data» t.1)

-- ---- the bytes of a number

number-back : (n : ℕ) → n % BYTE + n / BYTE * BYTE ≡ n
number-back n = mod-add-div' n BYTE

low_byte : (low high : ℕ) → low < BYTE → (low + high * BYTE) % BYTE ≡ low
low_byte low high h = omega arith

high_byte : (low high : ℕ) → low < BYTE → (low + high * BYTE) / BYTE ≡ high
high_byte low high h = omega arith

-- ---- there and back

parsed-back : (w : Written) → parsed w.process.0 w.call w.fd.0 (w.number % BYTE) (w.number / BYTE) (length w.path) (w.path ++ w.«data») ≡ w
parsed-back w = rw (number-back w.number, take-append_seam w.path w.«data», drop-append_seam w.path w.«data»)

accepted-same : (full : Bool) (v w : Written) → v ≡ w → full ≡ true → numbers_fit (parts_of w) w ≡ true → texts_fit (parts_of w) w ≡ true → accepted full v ≡ Kept w
unfolding accepted every
accepted-same full v w same f n t = rw (same, f, n, t)

accepts : (w : Written) → numbers_fit (parts_of w) w ≡ true → texts_fit (parts_of w) w ≡ true → decode (layout w) ≡ Kept w
unfolding decode layout
accepts w n t = accepted-same _ _ w (parsed-back w) (le-leb (length w.path) _ (simp length-append (omega arith))) n t

-- A call that can be kept is read back in its normal form.
pub round_trip : (w : Written) → can_keep w ≡ true → decode (encode w) ≡ Kept (normal w)
unfolding normal_by
round_trip w h = accepts (normal w) (numbers_fit_lem (parts_of w) w) h

-- ---- each part has the bytes that it is given

pub bytes-append : (xs ys : List ℕ) → Bytes xs → Bytes ys → Bytes (xs ++ ys)
bytes-append [] ys h t i = t i
bytes-append (x ∷ xs) ys h t zero = h 0
bytes-append (x ∷ xs) ys h t (suc i) = bytes-append xs ys (λ j. h (suc j)) t i

number-most : (used : Bool) (n : ℕ) → number_if used n ≤ n
unfolding number_if
number-most true n = omega arith
number-most false n = omega arith

text-if : (most : ℕ) (t : List ℕ) → Bytes t → Bytes (text_if most t)
unfolding text_if
text-if most t h = by (eqb most 0)
  where
    by : (b : Bool) → Bytes (cond b [] t)
    by true = λ i. omega arith
    by false = h

path-most : (o : Operation) → leb (uses o).path PATH ≡ true
unfolding uses
path-most op.Open = refl
path-most op.Create = refl
path-most op.MakeDirectory = refl
path-most op.Unlink = refl
path-most op.RemoveDirectory = refl
path-most op.Link = refl
path-most op.List = refl
path-most op.ChangeBits = refl
path-most op.Stat = refl
path-most op.Close = refl
path-most op.Read = refl
path-most op.Write = refl
path-most op.Seek = refl
path-most op.Duplicate = refl
path-most op.Fork = refl
path-most op.Exit = refl
path-most op.Execute = refl
path-most op.Symlink = refl
path-most op.ReadLink = refl
path-most op.Rename = refl
path-most op.Unknown = refl

layout-bytes : (w : Written) → w.process.0 < BYTE → w.call < BYTE → w.fd.0 < BYTE → w.number ≤ NUMBER_MAX → length w.path ≤ PATH → Bytes w.path → Bytes w.«data» → Bytes (layout w)
unfolding layout
layout-bytes w p c f n l hp hb zero = p
layout-bytes w p c f n l hp hb (suc zero) = c
layout-bytes w p c f n l hp hb (suc (suc zero)) = f
layout-bytes w p c f n l hp hb (suc (suc (suc zero))) = omega arith
layout-bytes w p c f n l hp hb (suc (suc (suc (suc zero)))) = omega arith
layout-bytes w p c f n l hp hb (suc (suc (suc (suc (suc zero))))) = omega arith
layout-bytes w p c f n l hp hb (suc (suc (suc (suc (suc (suc i)))))) = bytes-append w.path w.«data» hp hb i

-- A call that can be kept is written in bytes.
pub encode-bytes : (w : Written) → w.process.0 < BYTE → w.call < BYTE → w.fd.0 < BYTE → Bytes w.path → Bytes w.«data» → can_keep w ≡ true → Bytes (encode w)
unfolding normal_by texts_fit
encode-bytes w p c f hp hb k =
    let u = parts_of w in
    let fits = both _ _ k in
    layout-bytes (normal w) p c
    (omega (arith, number-most u.fd w.fd.0))
    (omega (arith, number-most u.number (capped w.number), capped-most w.number))
    (omega (arith, leb-true (length (normal w).path) u.path fits.0, leb-true u.path PATH (path-most (operation_of w.call))))
    (text-if u.path w.path hp)
    (text-if u.«data» w.«data» hb)

-- ---- what `decode` accepts

-- the bytes of a call in the normal form, which can be kept
abbrev pub IsWritten : List ℕ → Written → Type 0
IsWritten bs w = (encode w ≡ bs) × (normal w ≡ w) × (can_keep w ≡ true)

not-kept : (w : Written) → NotWritten ≡ Kept w → ⊥
not-kept w e = let z : ◌≡◌ {A = ℕ} 0 1 = cc in omega arith

accepted-kept : (full : Bool) (v w : Written) → accepted full v ≡ Kept w → (every (full ∷ numbers_fit (parts_of v) v ∷ texts_fit (parts_of v) v ∷ []) ≡ true) × (v ≡ w)
unfolding accepted
accepted-kept full v w e = by (every (full ∷ numbers_fit (parts_of v) v ∷ texts_fit (parts_of v) v ∷ [])) e
  where
    by : (t : Bool) → cond t (Kept v) NotWritten ≡ Kept w → (t ≡ true) × (v ≡ w)
    by true e = (refl, cc)
    by false e = absurd (not-kept w e)

module _ (process call fd low high n : ℕ) (rest : List ℕ) where
  read : Written
  read = parsed process call fd low high n rest

  layout-read : low < BYTE → n ≤ length rest → layout read ≡ process ∷ call ∷ fd ∷ low ∷ high ∷ n ∷ rest
  unfolding layout read
  layout-read l f = rw (low_byte low high l, high_byte low high l, length-take-le n rest f, take-append-drop n rest)

  read-normal : low < BYTE → high < BYTE → numbers_fit (parts_of read) read ≡ true → texts_fit (parts_of read) read ≡ true → normal read ≡ read
  unfolding read
  read-normal l h ns ts = normal-same (parts_of read) read (omega arith) ns ts

  read-written : low < BYTE → high < BYTE → (w : Written) → accepted (leb n (length rest)) read ≡ Kept w → IsWritten (process ∷ call ∷ fd ∷ low ∷ high ∷ n ∷ rest) w
  read-written l h w e =
      let k = accepted-kept (leb n (length rest)) read w e in
      let t = three (leb n (length rest)) _ _ k.0 in
      let same : normal read ≡ read = read-normal l h t.1 t.2 in
      let bytes : encode read ≡ process ∷ call ∷ fd ∷ low ∷ high ∷ n ∷ rest = rw same (layout-read l (leb-true n (length rest) t.0)) in
      let fits : can_keep read ≡ true = rw same t.2 in
      rw (← k.1) (bytes, same, fits)

-- Bytes that are read as a call are those that it is written as; it is in the normal form and can be kept.
pub exact : (bs : List ℕ) → Bytes bs → (w : Written) → decode bs ≡ Kept w → IsWritten bs w
unfolding decode read
exact [] h w e = absurd (not-kept w e)
exact (process ∷ []) h w e = absurd (not-kept w e)
exact (process ∷ call ∷ []) h w e = absurd (not-kept w e)
exact (process ∷ call ∷ fd ∷ []) h w e = absurd (not-kept w e)
exact (process ∷ call ∷ fd ∷ low ∷ []) h w e = absurd (not-kept w e)
exact (process ∷ call ∷ fd ∷ low ∷ high ∷ []) h w e = absurd (not-kept w e)
exact (process ∷ call ∷ fd ∷ low ∷ high ∷ n ∷ rest) h w e = read-written process call fd low high n rest (h 3) (h 4) w e

-- ---- some calls as they are written, by computation

asked : (process call fd number : ℕ) (path bytes buffer : List ℕ) → Call
asked process call fd number path bytes buffer = record { process = record { 0 = process }; call = call; fd = record { 0 = fd }; number = number; path = path; «data» = bytes; buffer = buffer }

-- process 2 opens "/a", mode 1: the descriptor, the bytes and the buffer are not used
open-written : encode (written (asked 2 1 5 1 (SLASH ∷ 97 ∷ []) (9 ∷ []) (zeros 16))) ≡ 2 ∷ 1 ∷ 0 ∷ 1 ∷ 0 ∷ 2 ∷ SLASH ∷ 97 ∷ []
unfolding computing asked
open-written = refl

-- a read from descriptor 3 into 600 bytes
read-sized : encode (written (asked 2 11 3 1 (SLASH ∷ []) [] (zeros 600))) ≡ 2 ∷ 11 ∷ 3 ∷ 88 ∷ 2 ∷ 0 ∷ []
unfolding computing asked
read-sized = refl

-- "larger ones as 65,535"
seek-far : encode (written (asked 2 13 3 70000 [] [] [])) ≡ 2 ∷ 13 ∷ 3 ∷ 255 ∷ 255 ∷ 0 ∷ []
unfolding computing asked
seek-far = refl

-- of an unknown call nothing is unused
unknown-whole : encode (written (asked 2 99 3 258 (SLASH ∷ []) (7 ∷ 8 ∷ []) [])) ≡ 2 ∷ 99 ∷ 3 ∷ 2 ∷ 1 ∷ 1 ∷ SLASH ∷ 7 ∷ 8 ∷ []
unfolding computing asked
unknown-whole = refl

-- calls by their number and the lengths of their texts. "paths of at most 64 bytes and data of at most 512": a second path is a path, what is
-- unused does not count
kept : (call path bytes : ℕ) → Bool
kept call path bytes = can_keep (written (asked 2 call 3 0 (zeros path) (zeros bytes) []))

longest-kept : every (kept 1 64 513 ∷ kept 6 64 64 ∷ kept 12 65 512 ∷ []) ≡ true
unfolding computing kept asked
longest-kept = refl

longest-unknown-kept : kept 99 64 512 ≡ true
unfolding computing kept asked
longest-unknown-kept = refl

longer-not-kept : some (kept 1 65 0 ∷ kept 6 65 0 ∷ kept 6 0 65 ∷ kept 12 0 513 ∷ kept 99 65 0 ∷ kept 99 0 513 ∷ []) ≡ false
unfolding computing kept asked
longer-not-kept = refl

-- a call that is kept, and one byte too many
shortest-kept : keep (written (asked 2 10 3 0 [] [] [])) ≡ Keeps (2 ∷ 10 ∷ 3 ∷ 0 ∷ 0 ∷ 0 ∷ [])
unfolding computing asked
shortest-kept = refl

longer-refused : keep (written (asked 2 12 3 0 [] (zeros 513) [])) ≡ Refuses Malformed
unfolding computing asked
longer-refused = refl
