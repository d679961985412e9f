-- The caps of `asked_by` show in no answer: the process, the call's number, the descriptor and the last text, one after the other. A call that does not
-- use what is capped does not look at it (`unused-unseen`); one that uses it is refused, before and after.
use Prim.Native.Nat.{ℕ, ◌+◌, ◌≤◌, ◌<◌}
use mathlib.Core.Path.{◌≡◌, refl, sym, ◌∙◌}
use mathlib.Core.Bool.{Bool, true, false, cond, false≢true}
use mathlib.Core.List.{List, [], ◌∷◌}
use native.Mathlib.Decide.{dec_le}
use native.Mathlib.Omega.{arith}
use borrow.Author.Tests.{le-leb, lt-leb, le-ltb, ne_eqb}
use lib.Dec.{leb}
use lib.ListN.{length, take}
use lib.Seq.{length-take-le, take_all}
use Rattle.rules.specs.Choice.{every}
use Rattle.rules.specs.Layout.{BLOCK, PROCESSES, DESCRIPTORS, PATH, OPEN_MODE}
use Rattle.rules.specs.Rights.{WRITE, writes}
use Rattle.rules.specs.Store.{Store, Fixed, Table, View, pid_of, fd_of, mode_at, subject_of, view, desc_of}
use Rattle.rules.specs.Rom.{seen}
use Rattle.rules.specs.Paths.{size_ok, shape_ok, path_ok}
use Rattle.rules.specs.Calls.{Call, operation_of, uses, Agree, form_ok, path_below_root}
use Rattle.rules.specs.Written.{Written}
use Rattle.rules.specs.Checks.{need, in_use, held, ofd_held}
use Rattle.rules.specs.Decide.{decide_close, label_allows_open, decide_read, decide_write, write_open, write_some, write_file, decide_seek, decide_duplicate, decide_own, decide}
use Rattle.rules.specs.Step.{reply_to, store_after, outcome_of, into, act, step}
use Rattle.rules.specs.declared.ids.Ofd.{Ofd}
use Rattle.rules.specs.declared.refusal.Refusal.TheVariants.{NoProcess, Malformed, NotHeld, WrongDirection, LabelForbids, TooLong}
use Rattle.rules.specs.declared.request.Operation.{Operation}
use Rattle.rules.specs.declared.request.Operation.TheVariants as op
use Rattle.rules.specs.Decisions.{Decision, Refused}
use Rattle.rules.proofs.Passed.{Fit, granting, refusing, need-fit}
use Rattle.rules.proofs.Unused.{unused-unseen}
use Rattle.script_rules.specs.Replay.{BYTE_MAX, as_byte, UNKNOWN, reads_too_much, call_for, bytes_for, asked_by}
use Rattle.script_rules.proofs.Numbers.{unknown}
use Rattle.script_claims.specs.Claims.{whole}

-- what is capped stays, or it is over the cap, and so is what it becomes
data Cap {A : Type 0} (Over : A → Type 0) (x y : A) : Type 0 where
  stays : x ≡ y → Cap Over x y
  over : Over x → Over y → Cap Over x y

either : {A B : Type 0} {Over : A → Type 0} {x y : A} → Cap Over x y → (x ≡ y → B) → (Over x → Over y → B) → B
either (stays e) f g = f e
either (over h k) f g = g h k

-- ---- a number: no process, descriptor or call has one as large

abbrev Large : ℕ → Type 0
Large n = BYTE_MAX ≤ n

large : (n : ℕ) → Cap Large n (as_byte n)
unfolding as_byte
large n = go (dec_le n BYTE_MAX)
  where
    go : Dec (n ≤ BYTE_MAX) → Cap Large n (cond (leb n BYTE_MAX) n BYTE_MAX)
    go (yes l) = stays (rw (le-leb n BYTE_MAX l))
    go (no g) = rw (lt-leb n BYTE_MAX (omega arith)) (over (omega arith) (omega arith))

large-call : (w : Written) → Cap Large (whole w).call (call_for w)
unfolding call_for
large-call w = go (reads_too_much w)
  where
    go : (t : Bool) → Cap Large (cond t UNKNOWN w.call) (cond t UNKNOWN (as_byte w.call))
    go true = stays refl
    go false = large w.call

-- ---- the last text: none as long is a path, or can be written

abbrev Long : List ℕ → Type 0
Long b = BLOCK < length b

long : (w : Written) → Cap Long w.«data» (bytes_for w)
unfolding bytes_for
long w = go (dec_le (length w.«data») (BLOCK + 1))
  where
    go : Dec (length w.«data» ≤ BLOCK + 1) → Cap Long w.«data» (take (BLOCK + 1) w.«data»)
    go (yes l) = stays (sym (take_all (BLOCK + 1) w.«data» l))
    go (no g) = over (omega arith) (omega (arith, length-take-le (BLOCK + 1) w.«data» (omega arith)))

not-path : (b : List ℕ) → Long b → path_ok b ≡ false
unfolding path_ok shape_ok size_ok every
not-path b h = rw (le-leb 1 (length b) (omega arith), lt-leb (length b) PATH (omega arith))

not-below : (b : List ℕ) → Long b → path_below_root b ≡ false
unfolding path_below_root every
not-below b h = rw (not-path b h)

-- the second of two tests
second-fails : (t : Bool) {u : Bool} → u ≡ false → every (t ∷ u ∷ []) ≡ false
unfolding every
second-fails true e = rw e
second-fails false e = refl

too_long : (file open_files : Table) (e : Ofd) (at n : ℕ) → BLOCK < n → write_file file open_files e at n ≡ Refused TooLong 0
unfolding write_file need
too_long file open_files e at n h = rw (lt-leb (at + n) BLOCK (omega arith))

-- ---- calls that differ in what is capped

module _ (K : Fixed) (s : Store) (k : ℕ) (path buffer : List ℕ) where
  abbrev asks : (p n i : ℕ) → List ℕ → Call
  asks p n i b = record { process = pid_of p; call = n; fd = fd_of i; number = k; path = path; «data» = b; buffer = buffer }

  -- what calls are decided on
  abbrev v : View
  v = seen K.rom (view s)

  -- a call's form, and then its own checks
  abbrev formed : Call → Operation → Decision
  formed c o = need (form_ok o k path c.«data») Malformed (decide_own K v c o)

  -- nothing is granted
  abbrev Refuses : Decision → Type 0
  Refuses x = Fit (λ n o e. ⊥) x

  refused-same : (c d : Call) (x : Decision) → c.buffer ≡ d.buffer → Refuses x → outcome_of K.rom s c (into c.buffer) x ≡ outcome_of K.rom s d (into d.buffer) x
  unfolding outcome_of reply_to store_after
  refused-same c d x e (granting n o f g) = absurd g
  refused-same c d x e (refusing r j) = rw e

  -- two calls o agree in what they use, or are refused alike
  data Alike (c d : Call) (o : Operation) : Type 0 where
    agree : Agree (uses o) c d → Alike c d o
    refuse : (x : Decision) → Refuses x → formed c o ≡ x → formed d o ≡ x → Alike c d o

  alike_same : (p n m i j : ℕ) (a b : List ℕ) (o : Operation) → operation_of n ≡ o → operation_of m ≡ o → Alike (asks p n i a) (asks p m j b) o → step K s (asks p n i a) ≡ step K s (asks p m j b)
  unfolding step act decide
  alike_same p n m i j a b o e f (agree h) = unused-unseen K s _ _ (rw e h)
  alike_same p n m i j a b o e f (refuse x r g h) = rw (e, f, g, h, refused-same (asks p n i a) (asks p m j b) _ refl (need-fit (in_use v.proc (pid_of p)) NoProcess x (λ _. r)))

  -- ---- the process, and the call's number

  no-process : (p : ℕ) → Large p → in_use v.proc (pid_of p) ≡ false
  unfolding in_use every
  no-process p h = rw (le-ltb p PROCESSES (omega arith))

  process-same : (p q n i : ℕ) (b : List ℕ) → Cap Large p q → step K s (asks p n i b) ≡ step K s (asks q n i b)
  unfolding step act decide need outcome_of reply_to store_after
  process-same p q n i b (stays e) = rw e
  process-same p q n i b (over h g) = rw (no-process p h, no-process q g)

  call_same : (p n m i : ℕ) (b : List ℕ) → Cap Large n m → step K s (asks p n i b) ≡ step K s (asks p m i b)
  unfolding form_ok need
  call_same p n m i b (stays e) = rw e
  call_same p n m i b (over h g) = alike_same p n m i i b b op.Unknown (unknown n h) (unknown m g) (refuse (Refused Malformed 0) (refusing Malformed 0) refl refl)

  -- ---- the descriptor, and the last text

  not-held : (p i : ℕ) → Large i → held v.desc (pid_of p) (fd_of i) ≡ false
  unfolding held desc_of
  not-held p i h = rw (le-ltb i DESCRIPTORS (omega arith))

  -- what becomes of a write of too much
  unwritten : (p i : ℕ) → Decision
  unwritten p i =
      need (held v.desc (pid_of p) (fd_of i)) NotHeld
      (need (writes (mode_at (v.open_files (ofd_held v.desc (pid_of p) (fd_of i)).0 OPEN_MODE))) WrongDirection
      (need (label_allows_open v.tree.file v.open_files K.policy (subject_of v.proc (pid_of p)) (ofd_held v.desc (pid_of p) (fd_of i)) WRITE) LabelForbids
      (Refused TooLong 0)))

  unwritten-refuses : (p i : ℕ) → Refuses (unwritten p i)
  unfolding unwritten
  unwritten-refuses p i = need-fit _ _ _ (λ _. need-fit _ _ _ (λ _. need-fit _ _ _ (λ _. refusing TooLong 0)))

  module _ (p n i j : ℕ) (a b : List ℕ) (fd : Cap Large i j) (text : Cap Long a b) where
    abbrev Same : Operation → Type 0
    Same o = Alike (asks p n i a) (asks p n j b) o

    agrees : {o : Operation} → ((uses o).fd ≡ true → i ≡ j) → (((uses o).«data» ≡ 0 → ⊥) → a ≡ b) → Same o
    agrees f d = agree (record { process = refl; call = refl; fd = λ u. rw (f u); number = λ u r. refl; path = λ u. refl; «data» = d; buffer = refl })

    -- neither is used
    neither : {o : Operation} → (uses o).fd ≡ false → (uses o).«data» ≡ 0 → Same o
    neither f z = agrees (λ u. absurd (false≢true (sym f ∙ u))) (λ u. absurd (u z))

    -- the descriptor is used, alone: a call of good form (t) is refused for it
    holds : {o : Operation} → (uses o).«data» ≡ 0 → (t : Bool) → ((l : ℕ) (x : List ℕ) → Large l → formed (asks p n l x) o ≡ need t Malformed (Refused NotHeld 0)) → Same o
    holds z t f = either fd (λ e. agrees (λ u. e) (λ u. absurd (u z))) (λ h g. refuse _ (need-fit t Malformed (Refused NotHeld 0) (λ _. refusing NotHeld 0)) (f i a h) (f j b g))

    -- the last text is used, alone: a call is refused for it
    names : {o : Operation} → (uses o).fd ≡ false → ((x : List ℕ) → Long x → form_ok o k path x ≡ false) → Same o
    unfolding need
    names z f = either text (λ e. agrees (λ u. absurd (false≢true (sym z ∙ u))) (λ u. e)) (λ h g. refuse (Refused Malformed 0) (refusing Malformed 0) (rw (f a h)) (rw (f b g)))

    write-unheld : (l : ℕ) (t : List ℕ) → Large l → formed (asks p n l t) op.Write ≡ Refused NotHeld 0
    unfolding form_ok need decide_own decide_write
    write-unheld l t h = rw (not-held p l h)

    write-long : (l : ℕ) (t : List ℕ) → Long t → formed (asks p n l t) op.Write ≡ unwritten p l
    unfolding form_ok need decide_own decide_write write_open write_some unwritten
    write-long l t h = rw (ne_eqb (length t) 0 (λ e. omega arith), too_long _ _ _ _ (length t) h)

    stores : Same op.Write
    stores = either fd
        (λ e. either text (λ f. agrees (λ u. e) (λ u. f)) (λ h g. refuse (unwritten p i) (unwritten-refuses p i) (write-long i a h) (rw e (write-long j b g))))
        (λ h g. refuse (Refused NotHeld 0) (refusing NotHeld 0) (write-unheld i a h) (write-unheld j b g))

    alike : (o : Operation) → Same o
    unfolding uses form_ok need decide_own decide_close decide_read decide_seek decide_duplicate
    alike op.Open = neither refl refl
    alike op.Create = neither refl refl
    alike op.MakeDirectory = neither refl refl
    alike op.Unlink = neither refl refl
    alike op.RemoveDirectory = neither refl refl
    alike op.Link = names refl (λ x h. second-fails (path_ok path) (not-below x h))
    alike op.List = neither refl refl
    alike op.ChangeBits = neither refl refl
    alike op.Stat = neither refl refl
    alike op.Close = holds refl true (λ l x h. rw (not-held p l h))
    alike op.Read = holds refl true (λ l x h. rw (not-held p l h))
    alike op.Write = stores
    alike op.Seek = holds refl (leb k BLOCK) (λ l x h. rw (not-held p l h))
    alike op.Duplicate = holds refl true (λ l x h. rw (not-held p l h))
    alike op.Fork = neither refl refl
    alike op.Exit = neither refl refl
    alike op.Execute = neither refl refl
    alike op.Symlink = names refl (λ x h. second-fails (path_below_root path) (not-path x h))
    alike op.ReadLink = neither refl refl
    alike op.Rename = names refl (λ x h. second-fails (path_below_root path) (not-below x h))
    alike op.Unknown = refuse (Refused Malformed 0) (refusing Malformed 0) refl refl

    rest-same : step K s (asks p n i a) ≡ step K s (asks p n j b)
    rest-same = alike_same p n n i j a b (operation_of n) refl refl (alike (operation_of n))

-- ---- all of them

pub caps-unseen : (K : Fixed) (s : Store) (w : Written) → step K s (asked_by w) ≡ step K s (whole w)
unfolding asked_by
caps-unseen K s w = sym (
    process-same K s _ _ _ _ _ _ _ _ (large w.process.0)
    ∙ call_same K s _ _ _ _ _ _ _ _ (large-call w)
    ∙ rest-same K s _ _ _ _ _ _ _ _ _ (large w.fd.0) (long w))
