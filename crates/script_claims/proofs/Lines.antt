-- A line that ends within A is the same line where more follows; and so is a block.
use Prim.Native.Nat.{ℕ, ◌≤◌, ◌<◌}
use mathlib.Core.Path.{◌≡◌, refl}
use mathlib.Core.Bool.{true, false}
use mathlib.Core.List.{List, [], ◌++◌}
use native.Mathlib.Omega.{arith}
use borrow.Author.Tests.{eqb-true}
use lib.ListN.{length, get_or, drop, length-drop, get_or-append}
use lib.Seq.{take-append-le, drop-append-le}
use Rattle.rules.specs.Choice.{every}
use Rattle.rules.specs.Paths.{same_at}
use Rattle.rules.proofs.Scans.{all-at, all_of}
use Rattle.rules.proofs.Tests.{test}
use Rattle.script_rules.specs.Computing.{computing}
use Rattle.script_rules.specs.Text.{NEWLINE}
use Rattle.script_rules.specs.Blocks.{key_of, in_text, has_key, after_key, text_length, text_of, line_ok, after_line, from_call, from_fd, from_arg, from_path, from_data, after_block, number_line_ok, data_line_ok, head_lines_ok, operand_lines_ok, number_lines_ok, text_lines_ok, lines_ok, block_of, block_ok}
use Rattle.script_rules.specs.declared.line.Line.{Line}
use Rattle.script_rules.specs.declared.line.Line.TheVariants as line
use Rattle.script_rules.proofs.Blocks.{lines}
use Rattle.script_claims.proofs.Lists.{inside, Rest, rest-rest, span-append}

-- what a whole line has
pub record Line-there (l : Line) (S : List ℕ) : Type 0 where
  pub key : has_key (key_of l) S ≡ true
  pub room : length (key_of l) ≤ length S
  pub within : text_length l S < length (after_key l S)
  pub ends : get_or (after_key l S) (text_length l S) 0 ≡ NEWLINE

pub line-there : (l : Line) (S : List ℕ) → line_ok l S ≡ true → Line-there l S
unfolding line_ok
line-there l S e =
    let ends : get_or (after_key l S) (text_length l S) 0 ≡ NEWLINE = eqb-true _ _ (test 1 _ e) in
    let within : text_length l S < length (after_key l S) = inside (after_key l S) (text_length l S) NEWLINE ends (omega arith) in
    record { key = test 0 _ e; room = omega (arith, length-drop (length (key_of l)) S); within = within; ends = ends }

-- the line l that A begins with
pub record Kept (l : Line) (A B : List ℕ) : Type 0 where
  pub ok : line_ok l (A ++ B) ≡ line_ok l A
  pub text : text_of l (A ++ B) ≡ text_of l A
  pub after : after_line l (A ++ B) ≡ after_line l A ++ B
  pub shorter : length (after_line l A) < length A

module _ (l : Line) (A B : List ℕ) where
  key-kept : length (key_of l) ≤ length A → has_key (key_of l) A ≡ true → has_key (key_of l) (A ++ B) ≡ true
  unfolding has_key same_at
  key-kept h e = all_of (same_at (A ++ B) (key_of l)) 0 (length (key_of l)) (λ j a b. rw (get_or-append A B 0 j (omega arith)) (all-at (same_at A (key_of l)) 0 (length (key_of l)) e j a b))

  pub line_kept : line_ok l A ≡ true → Kept l A B
  unfolding line_ok text_of after_line every
  line_kept e =
      let t = line-there l A e in
      let key : after_key l (A ++ B) ≡ after_key l A ++ B = drop-append-le (length (key_of l)) A B t.room in
      let long : text_length l (A ++ B) ≡ text_length l A = rw key (span-append (in_text l) (after_key l A) B t.within) in
      let more : 1 ≤ length (drop (text_length l A) (after_key l A)) = simp (length-drop (text_length l A) (after_key l A)) (omega (arith, t.within)) in
      record {
        ok = rw (key-kept t.room t.key, long, key, get_or-append (after_key l A) B 0 (text_length l A) t.within, t.key);
        text = rw (long, key, take-append-le (text_length l A) (after_key l A) B (omega (arith, t.within)));
        after = rw (long, key, drop-append-le (text_length l A) (after_key l A) B (omega (arith, t.within)), drop-append-le 1 (drop (text_length l A) (after_key l A)) B more);
        shorter = simp length-drop (omega (arith, t.within, length-drop (length (key_of l)) A));
      }

-- a block that A begins with
pub record KeptBlock (A B : List ℕ) : Type 0 where
  pub ok : block_ok (A ++ B) ≡ true
  pub block : block_of (A ++ B) ≡ block_of A
  pub after : after_block (A ++ B) ≡ after_block A ++ B
  pub shorter : length (after_block A) < length A

number-line : (l : Line) (S : List ℕ) → number_line_ok l S ≡ true → line_ok l S ≡ true
unfolding number_line_ok
number-line l S e = test 0 _ e

data-line : (S : List ℕ) → data_line_ok S ≡ true → line_ok line.Data S ≡ true
unfolding data_line_ok
data-line S e = test 0 _ e

-- line by line: a line's text is the same, and what is left after it is that of A, with B after it
pub block-kept : (A B : List ℕ) → block_ok A ≡ true → KeptBlock A B
unfolding block_ok lines_ok number_lines_ok head_lines_ok operand_lines_ok text_lines_ok number_line_ok data_line_ok
block-kept A B e =
    let l = lines A e in
    let n = l.numbers in
    let p = line_kept line.Proc A B (number-line line.Proc A n.proc) in
    let c = line_kept line.Call (from_call A) B (number-line line.Call (from_call A) n.call) in
    let f = line_kept line.Fd (from_fd A) B (number-line line.Fd (from_fd A) n.fd) in
    let a = line_kept line.Arg (from_arg A) B (number-line line.Arg (from_arg A) n.arg) in
    let t = line_kept line.Path (from_path A) B l.path in
    let d = line_kept line.Data (from_data A) B (data-line (from_data A) l.bytes) in
    record {
      ok = simp (p.ok, p.text, p.after, c.ok, c.text, c.after, f.ok, f.text, f.after, a.ok, a.text, a.after, t.ok, t.text, t.after, d.ok, d.text) e;
      block = simp (p.text, p.after, c.text, c.after, f.text, f.after, a.text, a.after, t.text, t.after, d.text);
      after = simp (p.after, c.after, f.after, a.after, t.after, d.after);
      shorter = omega (arith, p.shorter, c.shorter, f.shorter, a.shorter, t.shorter, d.shorter);
    }

-- nothing is no block
pub no_block : block_ok [] ≡ false
unfolding computing
no_block = refl

-- ---- what is left after a block

line-rest : (l : Line) (S : List ℕ) → Rest S (after_line l S)
unfolding after_line
line-rest l S = rest-rest S _ _ (rest-rest S (after_key l S) _ (record { by = length (key_of l); is = refl }) (record { by = text_length l S; is = refl })) (record { by = 1; is = refl })

pub block-rest : (S : List ℕ) → Rest S (after_block S)
block-rest S =
    rest-rest S _ _ (rest-rest S _ _ (rest-rest S _ _ (rest-rest S _ _ (rest-rest S _ _ (line-rest line.Proc S)
    (line-rest line.Call (from_call S))) (line-rest line.Fd (from_fd S))) (line-rest line.Arg (from_arg S))) (line-rest line.Path (from_path S))) (line-rest line.Data (from_data S))
