-- What a granted call has asked, and which call it is, said of its effect: a change of a directory's names the right to write it by its bits.
use mathlib.Core.Path.{◌≡◌, refl}
use mathlib.Core.Bool.{Bool, true, not}
use mathlib.Core.List.{[], ◌∷◌}
use Prim.Native.Nat.{ℕ}
use lib.Dec.{eqb}
use Rattle.rules.specs.Choice.{every}
use Rattle.rules.specs.Rights.{WRITE, covers, bits_grant}
use Rattle.rules.specs.Store.{Store, Fixed, View, view, subject_of}
use Rattle.rules.specs.Rom.{seen}
use Rattle.rules.specs.Walk.{bits_allow}
use Rattle.rules.specs.Calls.{Call, operation}
use Rattle.rules.specs.Checks.{held}
use Rattle.rules.specs.declared.ids.Slot.{Slot}
use Rattle.rules.specs.declared.request.Operation.{Operation}
use Rattle.rules.specs.declared.decision.Output.{Output}
use Rattle.rules.specs.declared.decision.Effect.{Effect}
use Rattle.rules.specs.declared.decision.Effect.TheVariants as effect
use Rattle.rules.proofs.Seen.{row-stored}
use Rattle.rules.proofs.Tests.{test}
use Rattle.rules.proofs.Passed.{Allowed, Makes, Passed, Permit}
use Rattle.rules.proofs.Passed as passed
use Rattle.preservation.proofs.Tests.{means-or, means-eq, means-test}
use Rattle.preservation.proofs.Numbers.{NumberOf, number_of}
use Rattle.preservation.proofs.Granted.{may_write}
use Rattle.ownership.specs.History.{OPEN, CLOSE, DUPLICATE, FORK, EXIT}
use Rattle.ownership.specs.Directory.{user_of, rights_on}

-- none of the calls that give or take descriptors
unfoldable pub is_other : ℕ → Bool
is_other k = every (not (eqb k OPEN) ∷ not (eqb k CLOSE) ∷ not (eqb k DUPLICATE) ∷ not (eqb k FORK) ∷ not (eqb k EXIT) ∷ [])

module _ (K : Fixed) (s : Store) (c : Call) where
  abbrev v : View
  v = seen K.rom (view s)

  -- the bits of directory d let the caller write it, if he is not user 0
  abbrev pub May : Slot → Type 0
  May d = (user_of s c.process ≡ 0 → ⊥) → covers (rights_on s d.0 c.process) WRITE ≡ true

  may : (d : Slot) → Allowed K v c d WRITE → May d
  unfolding bits_allow bits_grant
  may d a =
      let e = row-stored (view s).tree.file d.0 (may_write v.tree.file (subject_of (view s).proc c.process) d a.bits) in
      let w = rw e at (test 0 _ a.bits) in
      (means-or (means-eq (user_of s c.process) 0) (means-test (covers (rights_on s d.0 c.process) WRITE))).holds w

  -- ---- by the effect

  unfoldable pub Asked : Effect → Type 0
  Asked effect.Nothing = Unit {0}
  Asked (effect.Opened n) = Unit {0}
  Asked (effect.Truncated n r) = Unit {0}
  Asked (effect.Created d y r) = May d.dir
  Asked (effect.Unlinked d u) = May d.dir
  Asked (effect.Removed d y r) = May d.dir
  Asked (effect.Linked d y n) = May d.dir
  Asked (effect.BitsChanged y b) = Unit {0}
  Asked (effect.Closed i r) = held (view s).desc c.process i ≡ true
  Asked (effect.Stored w) = Unit {0}
  Asked (effect.Moved e n) = Unit {0}
  Asked (effect.Duplicated i e n) = Unit {0}
  Asked (effect.Forked q who) = Unit {0}
  Asked effect.Exited = Unit {0}
  Asked (effect.Relabelled l) = Unit {0}
  Asked (effect.Symlinked d y r) = May d.dir
  Asked (effect.Renamed d y) = May d.dir
  Asked (effect.Transferred from to y) = May from.dir × May to.dir

  abbrev pub Other : Type 0
  Other = is_other c.call ≡ true

  unfoldable pub Numbered : Effect → Type 0
  Numbered effect.Nothing = Other
  Numbered (effect.Opened n) = c.call ≡ OPEN
  Numbered (effect.Truncated n r) = c.call ≡ OPEN
  Numbered (effect.Created d y r) = Other
  Numbered (effect.Unlinked d u) = Other
  Numbered (effect.Removed d y r) = Other
  Numbered (effect.Linked d y n) = Other
  Numbered (effect.BitsChanged y b) = Other
  Numbered (effect.Closed i r) = c.call ≡ CLOSE
  Numbered (effect.Stored w) = Other
  Numbered (effect.Moved e n) = Other
  Numbered (effect.Duplicated i e n) = c.call ≡ DUPLICATE
  Numbered (effect.Forked q who) = c.call ≡ FORK
  Numbered effect.Exited = c.call ≡ EXIT
  Numbered (effect.Relabelled l) = Other
  Numbered (effect.Symlinked d y r) = Other
  Numbered (effect.Renamed d y) = Other
  Numbered (effect.Transferred from to y) = Other

  pub record Facts (e : Effect) : Type 0 where
    pub asked : Asked e
    pub numbered : Numbered e

  other : (k : ℕ) → is_other k ≡ true → c.call ≡ k → Other
  other k t q = rw q t

  making : {o : Operation} {kind : ℕ} → Makes K v c o kind → NumberOf c.call o → Other
  unfolding NumberOf is_other every
  making passed.plain q = other 2 refl q
  making passed.directory q = other 3 refl q

  by_call : (o : Operation) (n : ℕ) (out : Output) (e : Effect) → NumberOf c.call o → Passed K v c o n out e → Facts e
  unfolding NumberOf Asked Numbered is_other every
  by_call o n out e k (passed.opens at m t i p q) = record { asked = tt; numbered = k }
  by_call o n out e k (passed.opens_truncating at m t i p q) = record { asked = tt; numbered = k }
  by_call o n out e k (passed.creates _ kind at b i q m d t) = record { asked = may at.dir m.allows; numbered = making i k }
  by_call o n out e k (passed.unlinks at w p r y) = record { asked = may at.dir r; numbered = other 4 refl k }
  by_call o n out e k (passed.removes at w p r y z) = record { asked = may at.dir r; numbered = other 5 refl k }
  by_call o n out e k (passed.links old at w p y m) = record { asked = may at.dir m.allows; numbered = other 6 refl k }
  by_call o n out e k (passed.lists at w p r i) = record { asked = tt; numbered = other 7 refl k }
  by_call o n out e k (passed.lists_past at w p r i) = record { asked = tt; numbered = other 7 refl k }
  by_call o n out e k (passed.changes_bits at b q w p y l) = record { asked = tt; numbered = other 8 refl k }
  by_call o n out e k (passed.describes at w) = record { asked = tt; numbered = other 9 refl k }
  by_call o n out e k (passed.closes t) = record { asked = t; numbered = k }
  by_call o n out e k (passed.fetches t r l) = record { asked = tt; numbered = other 11 refl k }
  by_call o n out e k (passed.stores_nothing t r l z) = record { asked = tt; numbered = other 12 refl k }
  by_call o n out e k (passed.stores t r y z l) = record { asked = tt; numbered = other 12 refl k }
  by_call o n out e k (passed.seeks t) = record { asked = tt; numbered = other 13 refl k }
  by_call o n out e k (passed.duplicates t i) = record { asked = tt; numbered = k }
  by_call o n out e k (passed.forks q) = record { asked = tt; numbered = k }
  by_call o n out e k passed.exits = record { asked = tt; numbered = k }
  by_call o n out e k (passed.executes at w p b l) = record { asked = tt; numbered = other 17 refl k }
  by_call o n out e k (passed.symlinks at m t) = record { asked = may at.dir m.allows; numbered = other 18 refl k }
  by_call o n out e k (passed.reads_link at w p) = record { asked = tt; numbered = other 19 refl k }
  by_call o n out e k (passed.renames_in old at h q) = record { asked = may old.dir h.leaves; numbered = other 20 refl k }
  by_call o n out e k (passed.transfers old at h q d i) = record { asked = (may old.dir h.leaves, may at.dir h.enters); numbered = other 20 refl k }

  pub facts : {n : ℕ} {o : Output} {e : Effect} → Permit K v c n o e → Facts e
  facts {n} {o} {e} p = by_call (operation c) n o e (number_of c.call) p.passed
