-- Laws of a run's loop: a turn that stops it, and one that answers a call.
use Prim.Native.Nat.{ℕ, zero, suc, ◌+◌, ◌-◌, ◌≤◌}
use mathlib.Core.Path.{◌≡◌, refl, sym, ◌∙◌, ap}
use mathlib.Core.Bool.{Bool, true, false, false≢true}
use mathlib.Core.List.{List, []}
use native.Mathlib.Nat.{add-zero, sub-zero}
use native.Mathlib.Omega.{arith}
use borrow.Author.Tests.{leb-true, leb-false, lt-ltb, le-ltb, ne_eqb}
use Rattle.std.specs.Prelude.{Result, Ok, Err}
use Rattle.std.specs.Result.{is_ok}
use lib.Dec.{eqb, leb}
use lib.ListN.{length, drop, length-append, length-drop, drop_of_length-le}
use lib.Seq.{sets, length-sets, drop-drop, drop-length}
use Rattle.rules.proofs.Lists.{sets-append}
use Rattle.rules.specs.Store.{Store, Fixed}
use Rattle.rules.specs.Calls.{Call}
use Rattle.stages.specs.Judged.{act_if}
use Rattle.script_rules.specs.Blocks.{key_of, after_key, text_length, after_line, after_block, block_ok, from_call, from_fd, from_arg, from_path, from_data}
use Rattle.script_rules.specs.Replay.{Run, stopped, took, next_call}
use Rattle.script_rules.specs.declared.line.Line.{Line}
use Rattle.script_rules.specs.declared.line.Line.TheVariants as line
use Rattle.script_rules.specs.declared.replayed.Reason.{Reason}
use Rattle.script_rules.specs.declared.replayed.Reason.TheVariants as reason
use Rattle.script_turn.specs.Turns.{Turned, turned, text_if, turn_of}
use Rattle.replay.specs.Runs.{Left, left, left_by}
use Rattle.replay.specs.Once.{run_if}
use Rattle.script_turn.specs.declared.turn.Answered.{Answered as Block}

-- ---- what is left of a script is a part of it

record Drops (S T : List ℕ) : Type 0 where
  by : ℕ
  is : T ≡ drop by S

single : (n : ℕ) (S : List ℕ) → Drops S (drop n S)
single n S = record { by = n; is = refl }

both : {S T U : List ℕ} → Drops S T → Drops T U → Drops S U
both {S} {T} {U} a b = record { by = a.by + b.by; is = rw (b.is, a.is, drop-drop) }

line-drops : (l : Line) (S : List ℕ) → Drops S (after_line l S)
unfolding after_line
line-drops l S = both (single (length (key_of l)) S) (both (single (text_length l S) (after_key l S)) (single 1 (drop (text_length l S) (after_key l S))))

block-drops : (S : List ℕ) → Drops S (after_block S)
block-drops S =
    both (line-drops line.Proc S)
    (both (line-drops line.Call (from_call S))
    (both (line-drops line.Fd (from_fd S))
    (both (line-drops line.Arg (from_arg S))
    (both (line-drops line.Path (from_path S))
    (line-drops line.Data (from_data S))))))

part : (S T : List ℕ) → Drops S T → drop (length S - length T) S ≡ T
part S T d = by (leb d.by (length S)) refl
  where
    by : (t : Bool) → leb d.by (length S) ≡ t → drop (length S - length T) S ≡ T
    by true e =
        let h : d.by ≤ length S = leb-true d.by (length S) e in
        let l : length T ≡ length S - d.by = rw (d.is, length-drop) in
        let k : length S - length T ≡ d.by = omega arith in
        rw k (sym d.is)
    by false e =
        let h : length S ≤ d.by = omega (arith, leb-false d.by (length S) e) in
        let n : T ≡ [] = d.is ∙ drop_of_length-le S h in
        let k : length S - length T ≡ length S = rw n (omega arith) in
        rw (k, drop-length, n)

-- ---- a turn, and the run from there on

module _ (fit : Bool) (K : Fixed) (R out : List ℕ) (w at : ℕ) (s : Store) where
  abbrev text : List ℕ
  text = text_if fit K R s

  abbrev size : ℕ
  size = length R - length (after_block R)

  abbrev next : ℕ → Run
  next k = run_if fit k K (after_block R) (at + size) (length out - w - length text) (act_if fit K s (next_call R)).store

  -- what a turn is, and what the run is then
  data Goes : ℕ → Turned → Run → Type 0 where
    stops : (n : ℕ) (why : Reason) → Goes n (turned (Err why) out s) (stopped why at s)
    answers : (k : ℕ) → length text ≤ length out - w → Goes (suc k) (turned (Ok (record { size = size; length = length text })) (sets out w text) (act_if fit K s (next_call R)).store) (took (next_call R) text (next k))

  goes : (n : ℕ) → Goes n (turn_of fit n K R out w s) (run_if fit n K R at (length out - w) s)
  unfolding turn_of run_if
  goes zero = by (eqb (length R) 0) refl
    where
      by : (t : Bool) → eqb (length R) 0 ≡ t → Goes zero (turn_of fit zero K R out w s) (run_if fit zero K R at (length out - w) s)
      by true e = rw e (stops zero reason.End)
      by false e = rw e (stops zero reason.Allowance)
  goes (suc k) = by (eqb (length R) 0) (block_ok R) (leb (length text) (length out - w)) refl refl refl
    where
      z : eqb (suc k) 0 ≡ false
      z = ne_eqb (suc k) 0 (λ x. omega arith)

      by : (t u v : Bool) → eqb (length R) 0 ≡ t → block_ok R ≡ u → leb (length text) (length out - w) ≡ v → Goes (suc k) (turn_of fit (suc k) K R out w s) (run_if fit (suc k) K R at (length out - w) s)
      by true u v e f g = rw e (stops (suc k) reason.End)
      by false false v e f g = rw (e, z, f) (stops (suc k) reason.Broken)
      by false true false e f g = rw (e, z, f, g, lt-ltb (length out - w) (length text) (leb-false (length text) (length out - w) g)) (stops (suc k) reason.Room)
      by false true true e f g =
          let h : length text ≤ length out - w = leb-true (length text) (length out - w) g in
          rw (e, z, f, g, le-ltb (length out - w) (length text) h) (answers k h)

-- ---- the loop: z is what the whole run leaves

took-left : (k w : ℕ) (out : List ℕ) (c : Call) (text : List ℕ) (r : Run) → left_by k w out (took c text r) ≡ left_by (k + 1) (w + length text) (sets out w text) r
unfolding left_by
took-left k w out c text r =
    let a : k + suc (length r.calls) ≡ k + 1 + length r.calls = omega arith in
    let b : w + (length text + length r.text) ≡ w + length text + length r.text = omega arith in
    rw (length-append, sets-append, a, b)

stopped-left : (k w : ℕ) (out : List ℕ) (why : Reason) (at : ℕ) (s : Store) → left_by k w out (stopped why at s) ≡ left (record { calls = k; next = at; written = w; reason = why }) out s
unfolding left_by
stopped-left k w out why at s = rw (add-zero, add-zero)

-- the parts of a turn
abbrev reason_in : Result Block Reason → Reason
reason_in (Err why) = why
reason_in (Ok b) = reason.End

abbrev size_in : Result Block Reason → ℕ
size_in (Err why) = 0
size_in (Ok b) = b.size

abbrev length_in : Result Block Reason → ℕ
length_in (Err why) = 0
length_in (Ok b) = b.length

module _ (fit : Bool) (K : Fixed) (S : List ℕ) (allowance m w at : ℕ) (out : List ℕ) (s : Store) {z : Left} (inv : left_by (allowance - m) w out (run_if fit m K (drop at S) at (length out - w) s) ≡ z) where
  pub stop : (why : Reason) (after : List ℕ) (t : Store) → turned (Err why) after t ≡ turn_of fit m K (drop at S) out w s
      → left (record { calls = allowance - m; next = at; written = w; reason = why }) after t ≡ z
  stop why after t e = by (goes fit K (drop at S) out w at s m) e inv
    where
      by : {n : ℕ} {T : Turned} {r : Run} → Goes fit K (drop at S) out w at s n T r → turned (Err why) after t ≡ T → left_by (allowance - m) w out r ≡ z
          → left (record { calls = allowance - m; next = at; written = w; reason = why }) after t ≡ z
      by (stops n because) e v =
          let a : why ≡ because = ap (λ (x : Turned). reason_in x.turn) e in
          let b : after ≡ out = ap (λ (x : Turned). x.output) e in
          let c : t ≡ s = ap (λ (x : Turned). x.store) e in
          rw (a, b, c) (sym (stopped-left (allowance - m) w out because at s) ∙ v)
      by (answers k h) e v = absurd (false≢true (ap (λ (x : Turned). is_ok x.turn) e))

-- after a call is answered
pub record Answered (fit : Bool) (K : Fixed) (S : List ℕ) (allowance m w at : ℕ) (out : List ℕ) (z : Left) (size n : ℕ) (after : List ℕ) (t : Store) : Type 0 where
  pub allowed : 1 ≤ m
  pub within : at + size ≤ length S
  pub fits : w + n ≤ length out
  pub output : length after ≡ length out
  pub rest : left_by (allowance - (m - 1)) (w + n) after (run_if fit (m - 1) K (drop (at + size) S) (at + size) (length after - (w + n)) t) ≡ z

module _ (fit : Bool) (K : Fixed) (S : List ℕ) (allowance w at : ℕ) (out : List ℕ) (s : Store) (in-script : at ≤ length S) (in-output : w ≤ length out) (k : ℕ) where
  abbrev R : List ℕ
  R = drop at S

  abbrev T : List ℕ
  T = text_if fit K R s

  abbrev bytes : ℕ
  bytes = length R - length (after_block R)

  drops : drop (at + bytes) S ≡ after_block R
  drops = sym (drop-drop bytes at S) ∙ part R (after_block R) (block-drops R)

  room : length (sets out w T) - (w + length T) ≡ length out - w - length T
  room = omega (arith, length-sets out w T)

  after-answer : {z : Left} → left_by (allowance - suc k) w out (took (next_call R) T (next fit K R out w at s k)) ≡ z → suc k ≤ allowance → length T ≤ length out - w
      → Answered fit K S allowance (suc k) w at out z bytes (length T) (sets out w T) (act_if fit K s (next_call R)).store
  after-answer {z} v l h =
      let x : allowance - (suc k - 1) ≡ allowance - suc k + 1 = omega arith in
      let y : suc k - 1 ≡ k = omega arith in
      record {
        allowed = omega arith;
        within = omega (arith, length-drop at S);
        fits = omega arith;
        output = length-sets out w T;
        rest = rw (x, y, drops, room) (sym (took-left (allowance - suc k) w out (next_call R) T (next fit K R out w at s k)) ∙ v);
      }

module _ (fit : Bool) (K : Fixed) (S : List ℕ) (allowance m w at : ℕ) (out : List ℕ) (s : Store) {z : Left} (inv : left_by (allowance - m) w out (run_if fit m K (drop at S) at (length out - w) s) ≡ z) (some : m ≤ allowance) (in-script : at ≤ length S) (in-output : w ≤ length out) where
  pub answer : (size n : ℕ) (after : List ℕ) (t : Store) → turned (Ok (record { size = size; length = n })) after t ≡ turn_of fit m K (drop at S) out w s → Answered fit K S allowance m w at out z size n after t
  answer size n after t e = by (goes fit K (drop at S) out w at s m) e inv some
    where
      by : {m : ℕ} {T : Turned} {r : Run} → Goes fit K (drop at S) out w at s m T r → turned (Ok (record { size = size; length = n })) after t ≡ T → left_by (allowance - m) w out r ≡ z → m ≤ allowance
          → Answered fit K S allowance m w at out z size n after t
      by (stops n because) e v l = absurd (false≢true (sym (ap (λ (x : Turned). is_ok x.turn) e)))
      by (answers k h) e v l =
          rw (ap (λ (x : Turned). size_in x.turn) e, ap (λ (x : Turned). length_in x.turn) e, ap (λ (x : Turned). x.output) e, ap (λ (x : Turned). x.store) e)
          (after-answer fit K S allowance w at out s in-script in-output k v l h)

-- where the loop begins
pub starts : (fit : Bool) (K : Fixed) (S : List ℕ) (allowance : ℕ) (out : List ℕ) (s : Store) → left_by (allowance - allowance) 0 out (run_if fit allowance K (drop 0 S) 0 (length out - 0) s) ≡ left_by 0 0 out (run_if fit allowance K S 0 (length out) s)
starts fit K S allowance out s = let a : allowance - allowance ≡ 0 = omega arith in rw (a, sub-zero)

-- ---- the same, of what the code has in hand

module _ (fit : Bool) (K : Fixed) (S : List ℕ) (allowance m w at : ℕ) (out : List ℕ) (s : Store) (left_over : List ℕ) (p : left_over ≡ drop at S) (x : Result Block Reason) (after : List ℕ) (t : Store) (e : turned x after t ≡ turn_of fit m K left_over out w s) {z : Left} (inv : left_by (allowance - m) w out (run_if fit m K (drop at S) at (length out - w) s) ≡ z) where
  pub stop-turn : (why : Reason) → x ≡ Err why → left (record { calls = allowance - m; next = at; written = w; reason = why }) after t ≡ z
  stop-turn why q = stop fit K S allowance m w at out s inv why after t (rw (q, p) at e)

  pub answer-turn : (size n : ℕ) → x ≡ Ok (record { size = size; length = n }) → m ≤ allowance → at ≤ length S → w ≤ length out → Answered fit K S allowance m w at out z size n after t
  answer-turn size n q a b c = answer fit K S allowance m w at out s inv a b c size n after t (rw (q, p) at e)
