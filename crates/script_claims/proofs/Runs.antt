-- A run, by its turns: it takes the next call or stops, and why.
use Prim.Native.Nat.{ℕ, zero, suc, ◌+◌, ◌-◌, ◌≤◌, ◌<◌}
use mathlib.Core.Path.{◌≡◌, refl}
use mathlib.Core.Bool.{Bool, true, false, not, cond}
use mathlib.Core.List.{List, [], ◌∷◌}
use native.Mathlib.Omega.{arith}
use borrow.Author.Tests.{eqb-true, eqb-false, ne_eqb, ltb-true, ltb-false, le-ltb, lt-ltb}
use lib.Dec.{eqb, ltb}
use lib.ListN.{length}
use Rattle.rules.specs.Store.{Store, Fixed}
use Rattle.rules.specs.Step.{step}
use Rattle.script_rules.specs.Blocks.{block_ok, after_block}
use Rattle.script_rules.specs.Replay.{Run, run, stopped, took, next_call, next_text}
use Rattle.script_rules.specs.declared.replayed.Reason.{Reason}
use Rattle.script_rules.specs.declared.replayed.Reason.TheVariants as reason
use Rattle.script_claims.proofs.Lines.{block-kept}

pub none_left : (S : List ℕ) → length S ≡ 0 → S ≡ []
none_left [] e = refl
none_left (b ∷ S) e = absurd (omega arith)

-- a block is something
pub block-some : (S : List ℕ) → block_ok S ≡ true → eqb (length S) 0 ≡ false
block-some S b = ne_eqb (length S) 0 (λ e. omega (arith, (block-kept S [] b).shorter))

module _ (K : Fixed) where
  -- the run after the first call of S
  abbrev pub rest : (n : ℕ) (S : List ℕ) (at room : ℕ) → Store → Run
  rest n S at room s = run n K (after_block S) (at + (length S - length (after_block S))) (room - length (next_text K S s)) (step K s (next_call S)).store

  -- "It stops before the first of these that holds"
  pub data Stops (S : List ℕ) (room : ℕ) (s : Store) : ℕ → Reason → Type 0 where
    ended : {n : ℕ} → S ≡ [] → Stops S room s n reason.End
    spent : (length S ≡ 0 → ⊥) → Stops S room s zero reason.Allowance
    broken : {n : ℕ} → (length S ≡ 0 → ⊥) → block_ok S ≡ false → Stops S room s (suc n) reason.Broken
    full : {n : ℕ} → block_ok S ≡ true → room < length (next_text K S s) → Stops S room s (suc n) reason.Room

  pub run-takes : (n : ℕ) (S : List ℕ) (at room : ℕ) (s : Store) → block_ok S ≡ true → length (next_text K S s) ≤ room →
      run (suc n) K S at room s ≡ took (next_call S) (next_text K S s) (rest n S at room s)
  unfolding run
  run-takes n S at room s b f = rw (block-some S b, b, le-ltb room (length (next_text K S s)) f)

  pub run-full : (n : ℕ) (S : List ℕ) (at room : ℕ) (s : Store) → block_ok S ≡ true → room < length (next_text K S s) → run (suc n) K S at room s ≡ stopped reason.Room at s
  unfolding run
  run-full n S at room s b f = rw (block-some S b, b, lt-ltb room (length (next_text K S s)) f)

  pub run-spent : (S : List ℕ) (at room : ℕ) (s : Store) → block_ok S ≡ true → run 0 K S at room s ≡ stopped reason.Allowance at s
  unfolding run
  run-spent S at room s b = rw (block-some S b)

  pub run_none : (n at room : ℕ) (s : Store) → run n K [] at room s ≡ stopped reason.End at s
  unfolding run
  run_none zero at room s = refl
  run_none (suc n) at room s = refl

  -- ---- what holds of every run: it holds where a run stops, and of a run that takes a call if it holds of the rest

  abbrev pub OfRuns : Type 1
  OfRuns = (n : ℕ) (S : List ℕ) (at room : ℕ) → Store → Run → Type 0

  abbrev pub WhereStopped : OfRuns → Type 0
  WhereStopped P = (n : ℕ) (S : List ℕ) (at room : ℕ) (s : Store) (why : Reason) → Stops S room s n why → P n S at room s (stopped why at s)

  abbrev pub OfRest : OfRuns → (n : ℕ) (S : List ℕ) (at room : ℕ) → Store → Type 0
  OfRest P n S at room s = P n (after_block S) (at + (length S - length (after_block S))) (room - length (next_text K S s)) (step K s (next_call S)).store (rest n S at room s)

  abbrev pub WhereTaken : OfRuns → Type 0
  WhereTaken P = (n : ℕ) (S : List ℕ) (at room : ℕ) (s : Store) → block_ok S ≡ true → length (next_text K S s) ≤ room → OfRest P n S at room s →
      P (suc n) S at room s (took (next_call S) (next_text K S s) (rest n S at room s))

  abbrev pub Always : OfRuns → Type 0
  Always P = (n : ℕ) (S : List ℕ) (at room : ℕ) (s : Store) → P n S at room s (run n K S at room s)

  module _ (P : OfRuns) (stops : WhereStopped P) (takes : WhereTaken P) where
    pub every-run : Always P
    unfolding run
    every-run zero S at room s = go (eqb (length S) 0) refl
      where
        go : (e : Bool) → eqb (length S) 0 ≡ e → P zero S at room s (cond e (stopped reason.End at s) (stopped reason.Allowance at s))
        go true e = stops zero S at room s reason.End (ended (none_left S (eqb-true _ _ e)))
        go false e = stops zero S at room s reason.Allowance (spent (eqb-false _ _ e))
    every-run (suc n) S at room s = go (eqb (length S) 0) (block_ok S) (ltb room (length (next_text K S s))) refl refl refl (every-run n (after_block S) _ _ _)
      where
        go : (e b f : Bool) → eqb (length S) 0 ≡ e → block_ok S ≡ b → ltb room (length (next_text K S s)) ≡ f →
            OfRest P n S at room s →
            P (suc n) S at room s (cond e (stopped reason.End at s) (cond (not b) (stopped reason.Broken at s) (cond f (stopped reason.Room at s) (took (next_call S) (next_text K S s) (rest n S at room s)))))
        go true b f qe qb qf ih = stops (suc n) S at room s reason.End (ended (none_left S (eqb-true _ _ qe)))
        go false false f qe qb qf ih = stops (suc n) S at room s reason.Broken (broken (eqb-false _ _ qe) qb)
        go false true true qe qb qf ih = stops (suc n) S at room s reason.Room (full qb (ltb-true _ _ qf))
        go false true false qe qb qf ih = takes n S at room s qb (ltb-false _ _ qf) ih
