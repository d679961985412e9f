-- A script that is cut between blocks, or whose allowance is spent, and is resumed.
use Prim.Native.Nat.{ℕ, zero, suc, ◌+◌, ◌-◌, ◌≤◌}
use mathlib.Core.Path.{◌≡◌, refl, ◌∙◌, ap}
use mathlib.Core.Bool.{Bool, true, false, cond}
use mathlib.Core.List.{List, [], ◌++◌, append_assoc}
use native.Mathlib.Nat.{le_refl, suc-add, zero-add, sub-zero, sub_self}
use native.Mathlib.Omega.{arith}
use lib.Dec.{ltb}
use borrow.Author.Tests.{ltb-true, ltb-false}
use lib.ListN.{length, drop, length-append}
use lib.Seq.{drop-drop}
use Rattle.rules.specs.Store.{Store, Fixed}
use Rattle.rules.specs.Step.{step}
use Rattle.script_rules.specs.Blocks.{block_ok, after_block, after_blocks}
use Rattle.script_rules.specs.Replay.{run, took, next_call, next_text}
use Rattle.script_rules.specs.declared.replayed.Reason.TheVariants as reason
use Rattle.script_claims.specs.Claims.{followed, Ended, Unbroken, Enough, Same}
use Rattle.script_claims.proofs.Lists.{rest-drop}
use Rattle.script_claims.proofs.Lines.{block-kept, block-rest}
use Rattle.script_claims.proofs.Own.{own}
use Rattle.script_claims.proofs.Runs.{OfRuns, WhereStopped, WhereTaken, Always, ended, spent, broken, full, rest, run-takes, run-full, run-spent, run_none, every-run}

module _ (K : Fixed) where
  -- the first call of A and B is that of A
  takes_first : (n : ℕ) (A B : List ℕ) (at room : ℕ) (s : Store) → block_ok A ≡ true → length (next_text K A s) ≤ room →
      run (suc n) K (A ++ B) at room s
      ≡ took (next_call A) (next_text K A s) (run n K (after_block A ++ B) (at + (length A - length (after_block A))) (room - length (next_text K A s)) (step K s (next_call A)).store)
  takes_first n A B at room s b f =
      let k = block-kept A B b in
      let long : length (A ++ B) - length (after_block A ++ B) ≡ length A - length (after_block A) = simp length-append (omega (arith, k.shorter)) in
      run-takes K n (A ++ B) at room s k.ok (rw k.block f) ∙ rw (k.block, k.after, long)

  module _ (B : List ℕ) where
    -- n is what A's run was allowed, r that run
    abbrev Cut : OfRuns K
    Cut n A at room s r =
        Ended r → (m : ℕ) → (r.next ≡ at + length A) × (run (length r.calls + m) K (A ++ B) at room s ≡ followed r (run m K B r.next (room - length r.text) r.store))

    cut-stops : WhereStopped K Cut
    cut-stops n A at room s why (ended e) q m = (omega (arith, ap length e), rw (e, zero-add, sub-zero))
    cut-stops n A at room s why (spent x) q m = ((cc), (cc))
    cut-stops n A at room s why (broken x y) q m = ((cc), (cc))
    cut-stops n A at room s why (full x y) q m = ((cc), (cc))

    cut-takes : WhereTaken K Cut
    cut-takes n A at room s b f ih q m =
        let i = ih q m in
        let left : room - length (next_text K A s) - length (rest K n A at room s).text ≡ room - length (next_text K A s ++ (rest K n A at room s).text) = simp length-append (omega arith) in (
          omega (arith, i.0, (block-kept A B b).shorter),
          rw suc-add (takes_first (length (rest K n A at room s).calls + m) A B at room s b f ∙ (rw (i.1, left, append_assoc))),
        )

    pub cut : Always K Cut
    cut = every-run K Cut cut-stops cut-takes

  -- what is left of S after its first block and on to `next`
  past-block : (S : List ℕ) (at next : ℕ) → at + (length S - length (after_block S)) ≤ next → drop (next - (at + (length S - length (after_block S)))) (after_block S) ≡ drop (next - at) S
  past-block S at next h =
      let d = length S - length (after_block S) in
      let past : d + (next - (at + d)) ≡ next - at = omega arith in
      ap (drop (next - (at + d))) (rest-drop S (after_block S) (block-rest S)) ∙ drop-drop _ d S ∙ ap (λ k. drop k S) past

  -- ---- the allowance spent, and given again

  abbrev Again : OfRuns K
  Again n S at room s r =
      (at ≤ r.next) × (r.reason ≡ reason.Allowance → (m : ℕ) → run (n + m) K S at room s ≡ followed r (run m K (drop (r.next - at) S) r.next (room - length r.text) r.store))

  again-stops : WhereStopped K Again
  again-stops n S at room s why (ended e) = (le_refl at, λ q m. cc)
  again-stops n S at room s why (spent x) = (le_refl at, λ q m. rw (zero-add, sub-zero, sub_self))
  again-stops n S at room s why (broken x y) = (le_refl at, λ q m. cc)
  again-stops n S at room s why (full x y) = (le_refl at, λ q m. cc)

  again-takes : WhereTaken K Again
  again-takes n S at room s b f ih =
      let r = rest K n S at room s in
      let d = length S - length (after_block S) in
      let script : drop (r.next - (at + d)) (after_block S) ≡ drop (r.next - at) S = past-block S at r.next ih.0 in
      let left : room - length (next_text K S s) - length r.text ≡ room - length (next_text K S s ++ r.text) = simp length-append (omega arith) in
      (omega (arith, ih.0), λ q m. rw suc-add (run-takes K (n + m) S at room s b f ∙ rw (ih.1 q m, script, left, append_assoc)))

  pub again : Always K Again
  again = every-run K Again again-stops again-takes

  -- ---- the room spent, and given again

  abbrev Roomier : OfRuns K
  Roomier n S at room s r =
      (at ≤ r.next) × ((more : ℕ) → run n K S at (room + more) s ≡ followed r (run (n - length r.calls) K (drop (r.next - at) S) r.next (room + more - length r.text) r.store))

  roomier-stops : WhereStopped K Roomier
  roomier-stops n S at room s why w = (le_refl at, λ more. rw (sub-zero, sub_self, sub-zero))

  roomier-takes : WhereTaken K Roomier
  roomier-takes n S at room s b f ih =
      let r = rest K n S at room s in
      let d = length S - length (after_block S) in
      let script : drop (r.next - (at + d)) (after_block S) ≡ drop (r.next - at) S = past-block S at r.next ih.0 in
      let fewer : suc n - suc (length r.calls) ≡ n - length r.calls = omega arith in (
        omega (arith, ih.0),
        λ more.
            let wider : length (next_text K S s) ≤ room + more = omega arith in
            let before : room + more - length (next_text K S s) ≡ room - length (next_text K S s) + more = omega arith in
            let left : room - length (next_text K S s) + more - length r.text ≡ room + more - length (next_text K S s ++ r.text) = simp length-append (omega arith) in
            run-takes K n S at (room + more) s b wider ∙ rw (before, ih.1 more, script, left, fewer, append_assoc),
      )

  pub roomier : Always K Roomier
  roomier = every-run K Roomier roomier-stops roomier-takes

  -- ---- room and allowance

  -- a run that gets to the end is the same with any room and allowance that is enough for it
  abbrev Same-run : OfRuns K
  Same-run n S at room s r = Ended r → (p first : ℕ) → length r.calls ≤ p → length r.text ≤ first → run p K S at first s ≡ r

  same-stops : WhereStopped K Same-run
  same-stops n S at room s why (ended e) q p first c t = rw e (run_none K p at first s)
  same-stops n S at room s why (spent x) q p first c t = cc
  same-stops n S at room s why (broken x y) q p first c t = cc
  same-stops n S at room s why (full x y) q p first c t = cc

  same_takes : WhereTaken K Same-run
  same_takes n S at room s b f ih q zero first c t = absurd (omega arith)
  same_takes n S at room s b f ih q (suc p) first c t =
      let long : length (next_text K S s) + length (rest K n S at room s).text ≤ first = simp length-append at t in
      run-takes K p S at first s b (omega arith) ∙ rw (ih q p (first - length (next_text K S s)) (omega arith) (omega arith))

  pub same-run : Always K Same-run
  same-run = every-run K Same-run same-stops same_takes

  -- ---- the paper's words

  -- where the whole run gets to the end, so does that of its first blocks
  first_ends : (k n : ℕ) (A B : List ℕ) (at room : ℕ) (s : Store) → Unbroken k A → Ended (run n K (A ++ B) at room s) → Ended (run n K A at room s)
  unfolding after_blocks
  first_ends zero n A B at room s u e = rw (u, run_none K n at room s)
  first_ends (suc k) n A B at room s u e = go n (block_ok A) (ltb room (length (next_text K A s))) refl refl u e (λ m. first_ends k m (after_block A) B _ _ _)
    where
      go : (n : ℕ) (b f : Bool) → block_ok A ≡ b → ltb room (length (next_text K A s)) ≡ f → cond b (after_blocks k (after_block A)) A ≡ [] → Ended (run n K (A ++ B) at room s) →
          ((m : ℕ) → Unbroken k (after_block A) →
          Ended (run m K (after_block A ++ B) (at + (length A - length (after_block A))) (room - length (next_text K A s)) (step K s (next_call A)).store) →
          Ended (rest K m A at room s)) →
          Ended (run n K A at room s)
      go n false f qb qf u e ih = rw (u, run_none K n at room s)
      go zero true f qb qf u e ih = let z = run-spent K (A ++ B) at room s (block-kept A B qb).ok in cc
      go (suc n) true true qb qf u e ih =
          let k = block-kept A B qb in
          let z = run-full K n (A ++ B) at room s k.ok (rw k.block (ltb-true _ _ qf)) in
          cc
      go (suc n) true false qb qf u e ih =
          let f = ltb-false _ _ qf in
          rw (run-takes K n A at room s qb f) (ih n u (rw (takes_first n A B at room s qb f) at e))

  -- the whole run is A's and then B's (`cut`), and each of these is the same with any room and allowance that is enough (`same-run`)
  pub cut-anywhere : (k n p q : ℕ) (A B : List ℕ) (at room first second : ℕ) (s : Store) →
      let whole = run n K (A ++ B) at room s in let a = run p K A at first s in
      Unbroken k A → Ended whole → Enough p first whole → Enough q second whole → Same whole a (run q K B a.next second a.store)
  cut-anywhere k n p q A B at room first second s u e g h =
      let a = run n K A at room s in
      let ends : Ended a = first_ends k n A B at room s u e in
      let o = own K n A at room s in
      let b = run (n - length a.calls) K B a.next (room - length a.text) a.store in
      let all : length a.calls + (n - length a.calls) ≡ n = omega (arith, o.allowed) in
      let whole : run n K (A ++ B) at room s ≡ followed a b = rw all at (cut B n A at room s ends (n - length a.calls)).1 in
      let calls : length (run n K (A ++ B) at room s).calls ≡ length a.calls + length b.calls = rw whole (length-append a.calls b.calls) in
      let text : length (run n K (A ++ B) at room s).text ≡ length a.text + length b.text = rw whole (length-append a.text b.text) in
      let same-a : run p K A at first s ≡ a = same-run n A at room s ends p first (omega (arith, g.0)) (omega (arith, g.1)) in
      let same-b : run q K B a.next second a.store ≡ b = same-run _ B _ _ _ (rw whole at e) q second (omega (arith, h.0)) (omega (arith, h.1)) in
      rw (whole, same-a, same-b) (record { first_ends = ends; second-ends = rw whole at e; calls = refl; text = refl; next = refl; store = refl })
