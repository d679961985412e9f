-- Laws of one block: its call is made just where its answer has room.
use Prim.Native.Nat.{ℕ, zero, suc, ◌+◌, ◌-◌, ◌≤◌, min}
use mathlib.Core.Path.{◌≡◌, refl, sym, ◌∙◌, ap}
use mathlib.Core.Bool.{Bool, true, false, cond}
use mathlib.Core.List.{List, []}
use native.Mathlib.Omega.{arith}
use borrow.Author.Tests.{leb-true, leb-false}
use Rattle.std.specs.Prelude.{Option, Some, None}
use Rattle.std.proofs.lemmas.Option.{none-some}
use lib.Dec.{leb}
use lib.ListN.{length, take, drop, replicate, length-take, length-replicate, take-append-drop}
use lib.Seq.{sets, sets-eq, length-sets, length-take-le, take_all, take-append_seam}
use native.Mathlib.Nat.{not-suc-le-zero, le_of_suc-le-suc, le_of_lt, sub-zero}
use Rattle.rules.proofs.Lists.{sets-append, sets-out}
use Rattle.rules.specs.Choice.{every}
use Rattle.rules.specs.Layout.{BLOCK}
use Rattle.rules.specs.Store.{Store, Fixed, zeros}
use Rattle.rules.specs.Written.{Written as Asked}
use Rattle.rules.specs.Calls.{Call}
use Rattle.rules.specs.Step.{store_after, outcome_of, into, answer_of}
use Rattle.rules.specs.Decisions.{Decision}
use Rattle.rules.specs.declared.answer.Answer.{Answer}
use Rattle.reply.specs.Answers.{Said, said}
use Rattle.stages.specs.Judged.{judged, act_if, answered_by}
use Rattle.stages.proofs.StageLaws.{reply-answered}
use Rattle.script_rules.specs.Answers.{answer_text}
use Rattle.script_rules.specs.Replay.{reply_text, reads, room_for}
use Rattle.script_output.specs.Writes.{Written, writes, written}
use Rattle.rules.specs.Calls.{call_of}
use Rattle.rules.specs.declared.request.Request.{Request}
use Rattle.script_rules.specs.Text.{bytes_of}
use Rattle.script_rules.specs.Blocks.{text_of}
use Rattle.script_rules.specs.declared.line.Line.TheVariants as line
use Rattle.script_text.specs.Hex.{pairs}
use Rattle.script_input.specs.Read.{numbered, request_for}
use Rattle.script_input.specs.declared.blocks.Numbers.{Numbers}
use Rattle.script_text.proofs.HexLaws.{pairs-bytes}
use Rattle.script_turn.specs.Turns.{Served, served, served_by, block_served}

module _ (fit : Bool) (K : Fixed) (out : List ℕ) (at : ℕ) (s : Store) (c : Call) (d : Decision) (j : d ≡ judged fit K s c) where
  module _ (a : Answer) (b : List ℕ) (said-so : said a b ≡ answered_by K.rom s d c.buffer) where
    abbrev text : List ℕ
    text = reply_text (act_if fit K s c).reply

    same_text : answer_text a b ≡ text
    same_text =
        let p : said a b ≡ said (answer_of (outcome_of K.rom s c (into c.buffer) d).reply) (outcome_of K.rom s c (into c.buffer) d).reply.buffer = said-so ∙ reply-answered K.rom s c d in
        rw (← j, ap (λ (r : Said). r.answer) p, ap (λ (r : Said). r.buffer) p)

    module _ (n : Option ℕ) (after : List ℕ) (w : writes n after ≡ written out at (answer_text a b)) where
      wrote : writes n after ≡ cond (leb (length text) (length out - at)) (writes (Some (length text)) (sets out at text)) (writes None out)
      unfolding written
      wrote = rw same_text at w

      -- it has no room: nothing is done
      pub unserved : n ≡ None → served None after s ≡ served_by fit K out at s c
      unfolding served_by
      unserved e = by (leb (length text) (length out - at)) refl wrote
        where
          by : (t : Bool) → leb (length text) (length out - at) ≡ t → writes n after ≡ cond t (writes (Some (length text)) (sets out at text)) (writes None out)
              → served None after s ≡ cond (leb (length text) (length out - at)) (served (Some (length text)) (sets out at text) (act_if fit K s c).store) (served None out s)
          by true q v = absurd (none-some (length text) (sym e ∙ ap (λ (r : Written). r.length) v))
          by false q v = rw (q, ap (λ (r : Written). r.output) v)

      pub serves : {m : ℕ} → n ≡ Some m → {t : Store} → t ≡ store_after s c d → served (Some m) after t ≡ served_by fit K out at s c
      unfolding served_by outcome_of
      serves {m} e {t} u = by (leb (length text) (length out - at)) refl wrote
        where
          done : (act_if fit K s c).store ≡ t
          done = rw (← j, u)

          by : (q : Bool) → leb (length text) (length out - at) ≡ q → writes n after ≡ cond q (writes (Some (length text)) (sets out at text)) (writes None out)
              → served (Some m) after t ≡ cond (leb (length text) (length out - at)) (served (Some (length text)) (sets out at text) (act_if fit K s c).store) (served None out s)
          by true q v = rw (q, ap (λ (r : Written). r.output) v, sym e ∙ ap (λ (r : Written). r.length) v, done)
          by false q v = absurd (none-some m (sym (ap (λ (r : Written). r.length) v) ∙ e))

-- ---- what is lent to the call

pub room-few : (w : Asked) (r : ℕ) → r ≡ room_for w → r ≤ 512
unfolding room_for every
room-few w r e = by (reads w) (leb w.number BLOCK) refl (e ∙ refl)
  where
    by : (p q : Bool) → leb w.number BLOCK ≡ q → r ≡ cond (cond p (cond q true false) false) w.number 0 → r ≤ 512
    by true true h v = let k : w.number ≤ 512 = leb-true w.number BLOCK h in omega arith
    by true false h v = omega arith
    by false q h v = omega arith

take-zeros : (m n : ℕ) → m ≤ n → take m (replicate n 0) ≡ zeros m
take-zeros zero n h = refl
take-zeros (suc m) zero h = absurd (not-suc-le-zero h)
take-zeros (suc m) (suc n) h = rw (take-zeros m n (le_of_suc-le-suc h))

-- what lies past the end is not stored
sets-cut : (vs xs : List ℕ) → sets xs 0 vs ≡ sets xs 0 (take (length xs) vs)
sets-cut vs xs = by (leb (length xs) (length vs)) refl
  where
    by : (t : Bool) → leb (length xs) (length vs) ≡ t → sets xs 0 vs ≡ sets xs 0 (take (length xs) vs)
    by true e =
        let h : length xs ≤ length vs = leb-true (length xs) (length vs) e in
        let l : length (take (length xs) vs) ≡ length xs = length-take-le (length xs) vs h in
        let o : length (sets xs 0 (take (length xs) vs)) ≤ 0 + length (take (length xs) vs) = omega (arith, length-sets xs 0 (take (length xs) vs)) in
        ap (λ (v : List ℕ). sets xs 0 v) (sym (take-append-drop (length xs) vs))
        ∙ sets-append (take (length xs) vs) (drop (length xs) vs) xs 0
        ∙ sets-out (drop (length xs) vs) (sets xs 0 (take (length xs) vs)) (0 + length (take (length xs) vs)) o
    by false e = let h : length vs ≤ length xs = le_of_lt (leb-false (length xs) (length vs) e) in rw (take_all (length xs) vs h)

-- the bytes read are the first of those that there are
pub take-read : (vs xs : List ℕ) → take (min (length vs) (length xs)) (sets xs 0 vs) ≡ take (length xs) vs
take-read vs xs =
    let l : length (take (length xs) vs) ≡ min (length xs) (length vs) = length-take (length xs) vs in
    let c : min (length vs) (length xs) ≡ length (take (length xs) vs) = omega arith in
    rw (sets-cut vs xs, sets-eq (take (length xs) vs) xs 0 (omega arith), c, take-append_seam)

module _ (n : Numbers) (D : List ℕ) where
  pub bytes-lent : {bytes read T : List ℕ} {count : ℕ} → bytes ≡ take count read → read ≡ sets (replicate 513 0) 0 (pairs T) → count ≡ min (length (pairs T)) (length {A = ℕ} (replicate 513 0)) → T ≡ text_of line.Data D
      → bytes ≡ take (BLOCK + 1) (bytes_of (text_of line.Data D))
  bytes-lent p q r t = rw (p, q, r, t, take-read, pairs-bytes D, length-replicate)

  pub buffer_lent : {size : ℕ} → size ≡ room_for (numbered n [] []) → take (size - 0) (replicate 512 0) ≡ zeros (room_for (numbered n [] []))
  buffer_lent {size} e = rw (sub-zero, ← e) (take-zeros size 512 (room-few (numbered n [] []) size e))

  pub block-serves : (fit : Bool) (K : Fixed) (out P : List ℕ) (at : ℕ) (s : Store) (x : Served) (c : Request) (path bytes buffer : List ℕ)
      → c ≡ request_for n → path ≡ text_of line.Path P → bytes ≡ take (BLOCK + 1) (bytes_of (text_of line.Data D)) → buffer ≡ zeros (room_for (numbered n [] []))
      → x ≡ served_by fit K out at s (call_of c path bytes buffer) → x ≡ block_served fit K n P D out at s
  block-serves fit K out P at s x c path bytes buffer p q r t u = u ∙ rw (p, q, r, t)
