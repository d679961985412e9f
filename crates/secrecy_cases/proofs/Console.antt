-- Demand 3 is not empty: the fresh test console satisfies all that is supposed, slot 3 being /key, whatever its four bytes are.
use Prim.Native.Nat.{ℕ, zero, suc, ◌+◌, ◌-◌, ◌*◌, ◌≤◌, ◌<◌}
use mathlib.Core.Path.{◌≡◌, refl, sym, ap, ◌∙◌, subst}
use mathlib.Core.Bool.{Bool, true, false, false≢true}
use mathlib.Core.List.{List, [], ◌∷◌, ◌++◌, append_assoc}
use native.Mathlib.Omega.{arith}
use native.Mathlib.Decide.{dec_lt}
use borrow.Author.Tests.{eqb-true, ltb-true}
use lib.Dec.{eqb, ltb}
use lib.ListN.{length, get_or, length-append}
use Rattle.rules.specs.Computing.{computing}
use Rattle.rules.specs.Choice.{implies}
use Rattle.rules.specs.Scan.{all}
use Rattle.rules.specs.Layout.{SLOTS, BLOCK, FILE_WIDTH, PROCESSES, FILE_LABEL, NO_TRANSITION, PROCESS_LABEL}
use Rattle.rules.specs.Rights.{transition}
use Rattle.rules.specs.Store.{view, tab, proc_of, zeros, slot, pid_of}
use Rattle.rules.specs.Directories.{dirent}
use Rattle.rules.specs.Checks.{in_use}
use Rattle.rules.specs.Sound.{sound}
use Rattle.rules.specs.Step.{Action}
use Rattle.rules.specs.Console.{FARES, NOW, KEY, filled, console_contents, console_with, console_fixed, console_policy}
use Rattle.rules.specs.declared.ids.Pid.{Pid}
use Rattle.rules.proofs.Scans.{all-at}
use Rattle.cases.proofs.Quick.{no-prompts, sound-of}
use Rattle.cases.proofs.Cases.{policy-sound}
use Rattle.secrecy.specs.Claim.{Reached, held, given, may_read, Supposed, Claimed}
use Rattle.secrecy_cases.specs.Needed.{KEY_ONE, KEY_OTHER}
use Rattle.secrecy.proofs.Agree.{Agree}
use Rattle.secrecy.proofs.Tables.{Own}
use Rattle.secrecy.proofs.Related.{Apart}
use Rattle.rules.proofs.Tests.{test}
use Rattle.secrecy.proofs.Alike.{sound-same}
use Rattle.secrecy_cases.proofs.Needed.{key-one-sound}
use Rattle.secrecy.proofs.Secrecy.{differ_of, secrecy}

-- ---- two lists that have different middles of one length

agree-cons : (a b x : ℕ) (C C' : List ℕ) → Agree a b C C' → Agree (suc a) (suc b) (x ∷ C) (x ∷ C')
agree-cons a b x C C' h = record { size = ap suc h.size; outside = go }
  where
    go : (i : ℕ) → (suc a ≤ i → i < suc b → ⊥) → get_or (x ∷ C) i 0 ≡ get_or (x ∷ C') i 0
    go zero out = refl
    go (suc i) out = h.outside i (λ lo hi. out (omega arith) (omega arith))

past : (k : List ℕ) (back : List ℕ) (i : ℕ) → length k ≤ i → get_or (k ++ back) i 0 ≡ get_or back (i - length k) 0
past [] back i h =
    let e : i - 0 ≡ i = omega arith in
    rw e refl
past (x ∷ k) back zero h = absurd (omega arith)
past (x ∷ k) back (suc i) h =
    let e : suc i - suc (length k) ≡ i - length k = omega arith in
    rw e (past k back i (omega arith))

agree-middle : (front k k' back : List ℕ) → length k ≡ length k' → Agree (length front) (length front + length k) (front ++ (k ++ back)) (front ++ (k' ++ back))
agree-middle [] k k' back e = record {
  size = simp length-append (rw e refl);
  outside = λ i out.
      let le : length k ≤ i = go i out (dec_lt i (length k)) in
      past k back i le ∙ ap (λ (n : ℕ). get_or back (i - n) 0) e ∙ sym (past k' back i (rw (← e) le));
}
  where
    go : (i : ℕ) → (0 ≤ i → i < 0 + length k → ⊥) → Dec (i < length k) → length k ≤ i
    go i out (yes lt) = absurd (out (omega arith) (omega arith))
    go i out (no ge) = omega arith
agree-middle (x ∷ front) k k' back e = agree-suc (agree-cons _ _ x _ _ (agree-middle front k k' back e))
  where
    agree-suc : Agree (suc (length front)) (suc (length front + length k)) (x ∷ (front ++ (k ++ back))) (x ∷ (front ++ (k' ++ back)))
        → Agree (suc (length front)) (suc (length front) + length k) (x ∷ (front ++ (k ++ back))) (x ∷ (front ++ (k' ++ back)))
    agree-suc h =
        let z : suc (length front) + length k ≡ suc (length front + length k) = omega arith in
        rw z h

-- ---- the console with one key and with another

front : List ℕ
front = filled BLOCK (dirent FARES (slot 1) ++ dirent KEY (slot 3)) ++ (filled BLOCK (dirent NOW (slot 2)) ++ filled BLOCK (50 ∷ 46 ∷ 52 ∷ 48 ∷ 10 ∷ []))

back : List ℕ
back = zeros 508 ++ zeros ((SLOTS - 4) * BLOCK)

front-size : length front ≡ 1536
unfolding front computing
front-size = refl

-- of blanks that stay unknown: known zeros would all be written out
cut-by : (blanks : ℕ → List ℕ) (x y z k : List ℕ) (n : ℕ) → length k ≡ 4 → x ++ y ++ z ++ (k ++ blanks (BLOCK - length k)) ++ blanks n ≡ x ++ (y ++ z) ++ (k ++ (blanks 508 ++ blanks n))
cut-by blanks x y z k n e = simp (e, append_assoc)

cut-key : (k : List ℕ) → length k ≡ 4 → console_contents k ≡ front ++ (k ++ back)
unfolding front back
cut-key k e = cut-by zeros (filled BLOCK (dirent FARES (slot 1) ++ dirent KEY (slot 3))) (filled BLOCK (dirent NOW (slot 2))) (filled BLOCK (50 ∷ 46 ∷ 52 ∷ 48 ∷ 10 ∷ [])) k ((SLOTS - 4) * BLOCK) e

console-agree : (k k' : List ℕ) → length k ≡ 4 → length k' ≡ 4 → Agree 1536 1540 (console_contents k) (console_contents k')
console-agree k k' e e' = rw (cut-key k e, cut-key k' e') (rw (front-size, e) at (agree-middle front k k' back (e ∙ sym e')))

console-apart : (k k' : List ℕ) → length k ≡ 4 → length k' ≡ 4 → Apart 3 4 (console_with k) (console_with k')
unfolding console_with
console-apart k k' e e' = record { files = refl; open_files = refl; processes = refl; contents = console-agree k k' e e'; small = omega arith }

console-own : (k : List ℕ) → Own 3 4 3 (console_with k).files
unfolding computing
console-own k = record { plain = refl; label = refl; within = omega arith; room = omega arith; slot = omega arith }

sound-with : (k : List ℕ) → length k ≡ 4 → sound console_fixed (console_with k) ≡ true
sound-with k e =
    sym (sound-same console_fixed 3 4 3 (console_with KEY_ONE) (console_with k) (console-apart KEY_ONE k refl e) (console-own KEY_ONE))
    ∙ sound-of console_fixed policy-sound no-prompts (console_with KEY_ONE) key-one-sound

-- ---- who may read: the labels in use are 0, 1 and 2, there are no transitions, and none of the three has right 4 over label 3

few_labels : ℕ → Bool
few_labels p = implies (in_use (view (console_with [])).proc (pid_of p)) (ltb (proc_of (console_with []).processes p PROCESS_LABEL) 3)

few-labels : all few_labels 0 PROCESSES ≡ true
unfolding computing few_labels
few-labels = refl

no_transition : ℕ → Bool
no_transition i = eqb (get_or console_policy i 0) NO_TRANSITION

no-transitions : all no_transition 256 512 ≡ true
unfolding computing no_transition
no-transitions = refl

implied : (a b : Bool) → implies a b ≡ true → a ≡ true → b ≡ true
unfolding implies
implied true b h e = h
implied false b h e = absurd (false≢true e)

used-small : (k : List ℕ) (p : Pid) → in_use (view (console_with k)).proc p ≡ true → p.0 < 8
unfolding in_use
used-small k p h = ltb-true _ _ (test 0 _ h)

used-few : (k : List ℕ) (p : Pid) → in_use (view (console_with k)).proc p ≡ true → proc_of (console_with k).processes p.0 PROCESS_LABEL < 3
unfolding console_with in_use few_labels
used-few k p h = ltb-true _ _ (implied _ _ (all-at few_labels 0 PROCESSES few-labels p.0 (omega arith) (used-small k p h)) h)

reached-few : (k : List ℕ) (l : ℕ) → Reached console_policy (console_with k) l → l < 3
unfolding transition no_transition
reached-few k l (held _ h) = subst (λ (x : ℕ). x < 3) h.has (used-few k h.process h.used)
reached-few k _ (given l m small some r) =
    let few : l < 3 = reached-few k l r in
    let none : get_or console_policy (256 + (16 * l + m)) 0 ≡ 255 = eqb-true _ _ (all-at no_transition 256 512 no-transitions (256 + (16 * l + m)) (omega arith) (omega arith)) in
    absurd (some none)

no-right : (l : ℕ) → l < 3 → may_read console_policy l 3 ≡ false
unfolding computing
no-right zero h = refl
no-right (suc zero) h = refl
no-right (suc (suc zero)) h = refl
no-right (suc (suc (suc l))) h = absurd (omega arith)

key-label : (k : List ℕ) → tab FILE_WIDTH (console_with k).files 3 FILE_LABEL ≡ 3
unfolding computing
key-label k = refl

-- ---- all that is supposed

pub console-supposed : (k k' : List ℕ) → length k ≡ 4 → length k' ≡ 4 → Supposed console_fixed 3 (console_with k) (console_with k')
console-supposed k k' e e' = record {
  sound-one = sound-with k e;
  sound-other = sound-with k' e';
  differ = differ_of 3 4 3 (console_with k) (console_with k') (console-apart k k' e e') (console-own k);
  no_reader = λ l r. rw (key-label k) (no-right l (reached-few k l r));
}

-- so the answers to no list of calls and borrowing reads depend on the key
pub console-secrecy : (k k' : List ℕ) → length k ≡ 4 → length k' ≡ 4 → (xs : List Action) → Claimed console_fixed 3 (console_with k) (console_with k') xs
console-secrecy k k' e e' xs = secrecy console_fixed 3 (console_with k) (console_with k') (console-supposed k k' e e') xs

-- two keys that differ in every byte
pub keys-supposed : Supposed console_fixed 3 (console_with KEY_ONE) (console_with KEY_OTHER)
keys-supposed = console-supposed KEY_ONE KEY_OTHER refl refl
