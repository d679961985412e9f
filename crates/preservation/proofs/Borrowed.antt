-- A borrowing read is the read into as many bytes, but for what becomes of them: it moves an offset and no more, and its value is how many bytes it hands
-- back.
use mathlib.Core.Path.{◌≡◌, refl, sym, subst}
use mathlib.Core.Bool.{Bool, true, false, cond}
use mathlib.Core.List.{[]}
use Prim.Native.Nat.{ℕ, ◌≤◌, min}
use native.Mathlib.Omega.{arith}
use lib.ListN.{length, take, drop, length-drop}
use lib.Seq.{length-take-le}
use borrow.Author.Tests.{le-leb}
use Rattle.rules.specs.Layout.{SLOTS, BLOCK, PROMPTS, OPEN_SLOT, OPEN_OFFSET}
use Rattle.rules.specs.Store.{Store, Fixed, View, view, slot, apply_all, plus}
use Rattle.rules.specs.Rom.{seen, length_in}
use Rattle.rules.specs.Calls.{Call, operation_of, form_ok}
use Rattle.rules.specs.Checks.{need, in_use, held, ofd_held}
use Rattle.rules.specs.Decide.{remaining, read_open, decide_read, decide_own, decide, decide_borrow}
use Rattle.rules.specs.Effects.{carry_out}
use Rattle.rules.specs.Sound.{sound}
use Rattle.rules.specs.Step.{bytes_of, bytes_out, reply_to, store_after, outcome_of, into, act, step, handed, read_of, act_borrow, step_borrow}
use Rattle.rules.specs.declared.ids.Pid.{Pid}
use Rattle.rules.specs.declared.ids.Fd.{Fd}
use Rattle.rules.specs.declared.ids.Ofd.{Ofd}
use Rattle.rules.specs.declared.decision.Output.{Output}
use Rattle.rules.specs.declared.decision.Output.TheVariants as output
use Rattle.rules.specs.declared.decision.Effect.{Effect}
use Rattle.rules.specs.declared.decision.Effect.TheVariants as effect
use Rattle.rules.specs.Decisions.{Decision}
use Rattle.rules.proofs.Passed.{Fit, granting, refusing, need-fit}
use Rattle.preservation.specs.Claims.{SameFile, put_into}
use Rattle.preservation.proofs.OneWord.{Held}
use Rattle.preservation.proofs.Words.{length_most}
use Rattle.preservation.proofs.StoreChanges.{tables_of}
use Rattle.preservation.proofs.Shown.{block-length}
use Rattle.preservation.proofs.SoundStore.{AllSound, means-sound}
use Rattle.preservation.proofs.OpenEffects.{held-open}
use Rattle.preservation.proofs.Prompts.{bytes-in}
use Rattle.rules.proofs.Prompts.{count_most}
use Rattle.preservation.proofs.Granted.{in_use_lem, holds}
use Rattle.preservation.proofs.TestedOnce.{untaken, borrow-by}
use Rattle.preservation.proofs.Kept.{same-file, unchanged}

-- ---- what is granted

module _ (K : Fixed) (v : View) (p : Pid) (i : Fd) (n : ℕ) where
  abbrev ofd : Ofd
  ofd = ofd_held v.desc p i

  abbrev offset : ℕ
  offset = v.open_files ofd.0 OPEN_OFFSET

  abbrev count : ℕ
  count = min n (remaining K.rom v.tree.file v.open_files ofd)

  data Lent : ℕ → Output → Effect → Type 0 where
    lent : in_use v.proc p ≡ true → held v.desc p i ≡ true → Lent count (output.Bytes (slot (v.open_files ofd.0 OPEN_SLOT)) offset count) (effect.Moved ofd (plus offset count))

  lent-fit : Fit Lent (decide_borrow K v p i n)
  unfolding decide_borrow decide_read read_open
  lent-fit = need-fit _ _ _ (λ u. need-fit _ _ _ (λ _. need-fit _ _ _ (λ h. need-fit _ _ _ (λ _. need-fit _ _ _ (λ _. granting _ _ _ (lent u h))))))

-- no file is changed
pub borrow-leaves : (K : Fixed) (s : Store) (p : Pid) (i : Fd) (n f : ℕ) → SameFile s (step_borrow K s p i n).store f
borrow-leaves K s p i n f = borrow-by K s p i n (λ x. SameFile s x.store f) (λ _. unfold act_borrow outcome_of in by (lent-fit K (seen K.rom (view s)) p i n)) (λ _. unchanged s f)
  where
    by : {d : Decision} → Fit (Lent K (seen K.rom (view s)) p i n) d → SameFile s (store_after s (read_of p i n) d) f
    by (granting _ _ _ (lent u h)) = unfold store_after carry_out apply_all in same-file s _ f ((λ _. refl), refl)
    by (refusing r k) = unfold store_after in unchanged s f

-- and no more is read than asked
pub borrow-most : (K : Fixed) (s : Store) (p : Pid) (i : Fd) (n : ℕ) → (step_borrow K s p i n).reply.value ≤ n
borrow-most K s p i n = borrow-by K s p i n (λ x. x.reply.value ≤ n) (λ _. unfold act_borrow outcome_of in by (lent-fit K (seen K.rom (view s)) p i n)) (λ _. omega arith)
  where
    by : {d : Decision} → Fit (Lent K (seen K.rom (view s)) p i n) d → (reply_to K.rom s handed d).value ≤ n
    by (granting _ _ _ (lent u h)) = unfold reply_to in (omega arith)
    by (refusing r k) = unfold reply_to in (omega arith)

-- ---- the read that it is

module _ (K : Fixed) (s : Store) (c : Call) (e : c.call ≡ 11) (l : length c.buffer ≤ BLOCK) where
  abbrev v : View
  v = seen K.rom (view s)

  same-decision : decide_borrow K v c.process c.fd (length c.buffer) ≡ decide K v c
  unfolding decide_borrow decide operation_of form_ok decide_own need
  same-decision = rw (e, le-leb (length c.buffer) BLOCK l)

  -- what it changes asks nothing of the call
  same_outcome : {d : Decision} → Fit (Lent K v c.process c.fd (length c.buffer)) d →
      outcome_of K.rom s c (into c.buffer) d ≡ put_into c.buffer (outcome_of K.rom s (read_of c.process c.fd (length c.buffer)) handed d)
  unfolding outcome_of reply_to store_after carry_out
  same_outcome (granting _ _ _ (lent u h)) = refl
  same_outcome (refusing r k) = refl

  same-act : act K s c ≡ put_into c.buffer (act_borrow K s c.process c.fd (length c.buffer))
  unfolding act act_borrow
  same-act = subst (λ (d : Decision). outcome_of K.rom s c (into c.buffer) d ≡ put_into c.buffer (act_borrow K s c.process c.fd (length c.buffer)))
      same-decision (same_outcome (lent-fit K v c.process c.fd (length c.buffer)))

  pub borrow-is-read : step K s c ≡ put_into c.buffer (step_borrow K s c.process c.fd (length c.buffer))
  unfolding step step_borrow
  borrow-is-read = by (sound K s)
    where
      by : (b : Bool) → cond b (act K s c) (untaken s c.buffer) ≡ put_into c.buffer (cond b (act_borrow K s c.process c.fd (length c.buffer)) (untaken s []))
      by true = same-act
      by false = refl

-- ---- its value

module _ (K : Fixed) (s : Store) (a : AllSound K s) (p : Pid) (i : Fd) (n : ℕ) where
  abbrev w : View
  w = seen K.rom (view s)

  -- the file has all that is read
  whole : (e : Ofd) → Held (tables_of s) e.0 → min n (remaining K.rom w.tree.file (view s).open_files e)
      ≡ length (take (min n (remaining K.rom w.tree.file (view s).open_files e)) (drop ((view s).open_files e.0 OPEN_OFFSET) (bytes_of K.rom s.contents (slot ((view s).open_files e.0 OPEN_SLOT)))))
  whole e o =
      let y = (view s).open_files e.0 OPEN_SLOT in
      let l : length_in K.rom w.tree.file (slot y) ≤ length (bytes_of K.rom s.contents (slot y))
      = bytes-in K.rom (view s).tree.file (slot y) s.contents (λ q. omega (arith, a.within e.0 o.small, count_most PROMPTS K.rom))
      (λ h. rw (block-length s.contents a.store.sized.contents-size y h) (unfold tables_of in length_most SLOTS (tables_of s) a.store.tables y h)) in
      sym (length-take-le (min n (remaining K.rom w.tree.file (view s).open_files e)) (drop ((view s).open_files e.0 OPEN_OFFSET) (bytes_of K.rom s.contents (slot y)))
      (rw (length-drop ((view s).open_files e.0 OPEN_OFFSET) (bytes_of K.rom s.contents (slot y))) (omega arith)))

  decided : {d : Decision} → Fit (Lent K w p i n) d → (outcome_of K.rom s (read_of p i n) handed d).reply.value ≡ length (outcome_of K.rom s (read_of p i n) handed d).reply.buffer
  unfolding outcome_of reply_to bytes_out
  decided (granting _ _ _ (lent u h)) = whole (ofd_held (view s).desc p i) (held-open s a.store p i (ofd_held (view s).desc p i).0 (holds s a.store p i (in_use_lem s a.store p u) h))
  decided (refusing r k) = refl

pub borrow-value : (K : Fixed) (s : Store) (p : Pid) (i : Fd) (n : ℕ) → (step_borrow K s p i n).reply.value ≡ length (step_borrow K s p i n).reply.buffer
borrow-value K s p i n = borrow-by K s p i n (λ x. x.reply.value ≡ length x.reply.buffer)
    (λ e. unfold act_borrow in decided K s ((means-sound K s).holds e) p i n (lent-fit K (seen K.rom (view s)) p i n)) (λ _. refl)
