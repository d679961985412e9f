-- Parts that a call does not use are not looked at: calls that agree in what they use are decided alike and carried out alike.
use Prim.Native.Nat.{ℕ}
use mathlib.Core.Path.{◌≡◌, refl, ◌∙◌}
use native.Mathlib.Omega.{arith}
use Rattle.rules.specs.Store.{Store, Fixed, View, view}
use Rattle.rules.specs.Rom.{seen}
use Rattle.rules.specs.Calls.{Call, operation, uses, Agree, form_ok}
use Rattle.rules.specs.Checks.{need}
use Rattle.rules.specs.Decide.{decide_own, decide}
use Rattle.rules.specs.Effects.{carry_out}
use Rattle.rules.specs.Step.{reply_to, store_after, outcome_of, into, act, step}
use Rattle.rules.specs.declared.request.Operation.{Operation}
use Rattle.rules.specs.declared.request.Operation.TheVariants as op
use Rattle.rules.specs.declared.refusal.Refusal.TheVariants.{Malformed}
use Rattle.rules.specs.declared.decision.Output.{Output}
use Rattle.rules.specs.declared.decision.Effect.{Effect}
use Rattle.rules.specs.Decisions.{Decision}
use Rattle.rules.proofs.Passed.{Fit, granting, refusing, Permit, permitted, Passed}
use Rattle.rules.proofs.Passed as passed

module _ (K : Fixed) (v : View) (c d : Call) where
  -- a call's form, and then its own checks
  abbrev formed : Call → Operation → Decision
  formed c o = need (form_ok o c.number c.path c.«data») Malformed (decide_own K v c o)

  formed-same : (o : Operation) → Agree (uses o) c d → formed c o ≡ formed d o
  unfolding uses form_ok decide_own
  formed-same op.Open a = rw (a.process, a.number refl refl, a.path (λ z. omega (arith, z)))
  formed-same op.Create a = rw (a.process, a.number refl refl, a.path (λ z. omega (arith, z)))
  formed-same op.MakeDirectory a = rw (a.process, a.number refl refl, a.path (λ z. omega (arith, z)))
  formed-same op.Unlink a = rw (a.process, a.path (λ z. omega (arith, z)))
  formed-same op.RemoveDirectory a = rw (a.process, a.path (λ z. omega (arith, z)))
  formed-same op.Link a = rw (a.process, a.path (λ z. omega (arith, z)), a.«data» (λ z. omega (arith, z)))
  formed-same op.List a = rw (a.process, a.number refl refl, a.path (λ z. omega (arith, z)))
  formed-same op.ChangeBits a = rw (a.process, a.number refl refl, a.path (λ z. omega (arith, z)))
  formed-same op.Stat a = rw (a.process, a.path (λ z. omega (arith, z)))
  formed-same op.Close a = rw (a.process, a.fd refl)
  formed-same op.Read a = rw (a.process, a.fd refl, a.buffer)
  formed-same op.Write a = rw (a.process, a.fd refl, a.«data» (λ z. omega (arith, z)))
  formed-same op.Seek a = rw (a.process, a.fd refl, a.number refl refl)
  formed-same op.Duplicate a = rw (a.process, a.fd refl)
  formed-same op.Fork a = rw a.process
  formed-same op.Exit a = refl
  formed-same op.Execute a = rw (a.process, a.path (λ z. omega (arith, z)))
  formed-same op.Symlink a = rw (a.process, a.path (λ z. omega (arith, z)), a.«data» (λ z. omega (arith, z)))
  formed-same op.ReadLink a = rw (a.process, a.path (λ z. omega (arith, z)), a.buffer)
  formed-same op.Rename a = rw (a.process, a.path (λ z. omega (arith, z)), a.«data» (λ z. omega (arith, z)))
  formed-same op.Unknown a = refl

  pub decided-same : Agree (uses (operation c)) c d → decide K v c ≡ decide K v d
  unfolding decide
  decided-same a = rw (formed-same (operation c) a, a.process, a.call)

  -- what an effect looks at of its call
  carried_same : (t : Store) (o : Operation) (n : ℕ) (out : Output) (e : Effect) → Agree (uses o) c d → Passed K v c o n out e → carry_out c e t ≡ carry_out d e t
  unfolding uses carry_out
  carried_same t o n out e a (passed.opens at m k h i q) = rw a.process
  carried_same t o n out e a (passed.opens_truncating at m k h i q) = rw a.process
  carried_same t o n out e a (passed.creates _ kind at b passed.plain h i y q) = rw (a.path (λ z. omega (arith, z)))
  carried_same t o n out e a (passed.creates _ kind at b passed.directory h i y q) = rw (a.path (λ z. omega (arith, z)))
  carried_same t o n out e a (passed.unlinks at w p r y) = refl
  carried_same t o n out e a (passed.removes at w p r y z) = refl
  carried_same t o n out e a (passed.links old at w p y r) = rw (a.«data» (λ z. omega (arith, z)))
  carried_same t o n out e a (passed.lists at w p r i) = refl
  carried_same t o n out e a (passed.lists_past at w p r i) = refl
  carried_same t o n out e a (passed.changes_bits at b q w p y l) = refl
  carried_same t o n out e a (passed.describes at w) = refl
  carried_same t o n out e a (passed.closes h) = rw a.process
  carried_same t o n out e a (passed.fetches h r l) = refl
  carried_same t o n out e a (passed.stores_nothing h r y z) = refl
  carried_same t o n out e a (passed.stores h r y z l) = rw (a.«data» (λ z. omega (arith, z)))
  carried_same t o n out e a (passed.seeks h) = refl
  carried_same t o n out e a (passed.duplicates h i) = rw a.process
  carried_same t o n out e a (passed.forks q) = rw a.process
  carried_same t o n out e a passed.exits = rw a.process
  carried_same t o n out e a (passed.executes at w p b l) = rw a.process
  carried_same t o n out e a (passed.symlinks at h q) = rw (a.path (λ z. omega (arith, z)), a.«data» (λ z. omega (arith, z)))
  carried_same t o n out e a (passed.reads_link at w l) = refl
  carried_same t o n out e a (passed.renames_in old at h q) = rw (a.«data» (λ z. omega (arith, z)))
  carried_same t o n out e a (passed.transfers old at h q d i) = rw (a.«data» (λ z. omega (arith, z)))

  outcome-same : (t : Store) (x : Decision) → Agree (uses (operation c)) c d → Fit (Permit K v c) x → outcome_of K.rom t c (into c.buffer) x ≡ outcome_of K.rom t d (into d.buffer) x
  unfolding outcome_of reply_to store_after
  outcome-same t x a (granting n o e g) = rw (carried_same t (operation c) n o e a g.passed, a.buffer)
  outcome-same t x a (refusing r k) = rw a.buffer

module _ (K : Fixed) (s : Store) (c d : Call) (a : Agree (uses (operation c)) c d) where
  abbrev v : View
  v = seen K.rom (view s)

  act-same : act K s c ≡ act K s d
  unfolding act
  act-same = outcome-same K v c d s _ a (permitted K v c) ∙ rw (decided-same K v c d a)

  pub unused-unseen : step K s c ≡ step K s d
  unfolding step
  unused-unseen = rw (act-same, a.buffer)
