use Prim.Native.Nat.{ℕ, ◌≤◌, ◌<◌, ◌+◌, ◌-◌}
use mathlib.Core.Path.{◌≡◌}
use mathlib.Core.List.{List}
use native.Mathlib.Nat.{le_of_lt}
use native.Mathlib.Omega.{arith}
use lib.ListN.{length, take, drop}
use Rattle.rules.specs.Paths.{Name, span, is_slash, not_slash}
use Rattle.resolution.proofs.Spans.{within}
use Rattle.resolution.proofs.Names.{names-zero, no_names, more-names, last_of, last-of}
use Rattle.resolution.proofs.paths.last_name.Invariants.{last}
use Rattle.resolution.proofs.paths.last_name.Goals as goal

module _ (p : List ℕ) (name : Name) (at k : ℕ) (z : Name) (inv : last p name at k ≡ z) where
  past : 9 ≤ k → name ≡ z
  unfolding last_of
  past l = let e : 9 - k ≡ 0 = omega arith in rw (e, names-zero) at inv

  module _ (s : ℕ) (a : s ≡ at + span is_slash (drop at p)) where
    stop : length p ≤ s → name ≡ z
    unfolding last_of
    stop h = rw (no_names p at s a (9 - k) h) at inv

    more : s < length p → k < 9 → (e : ℕ) → e ≡ s + span not_slash (drop s p) → last p (take (e - s) (drop s p)) e (k + 1) ≡ z
    unfolding last_of
    more h l e b = rw (more-names p at s a e b (9 - k) (9 - (k + 1)) h (omega arith)) at inv

pub loop-k-init : goal.loop-k-init
loop-k-init c = last-of _

pub returns-then-path-start : goal.returns-then-path-start
returns-then-path-start c = search stop

pub slice_bounds-name-end-in-loop-k : goal.slice_bounds-name-end-in-loop-k
slice_bounds-name-end-in-loop-k c = search (within, le_of_lt)

pub loop-k-preserved : goal.loop-k-preserved
loop-k-preserved c = search more

pub returns : goal.returns
returns c = search past
