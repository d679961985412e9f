-- A printed script is read back.
use Prim.Native.Nat.{ℕ, zero, suc, ◌≤◌}
use mathlib.Core.Path.{◌≡◌, refl, ◌∙◌, ap}
use mathlib.Core.Bool.{Bool, true, false, not, cond}
use mathlib.Core.List.{List, [], ◌∷◌, ◌++◌, map, append_assoc}
use native.Mathlib.Omega.{arith}
use borrow.Author.Tests.{eq-eqb}
use lib.Dec.{eqb}
use lib.ListN.{length, get_or, drop, get_or-append}
use lib.Seq.{take-append_seam, drop-append_seam, get_or-append_seam}
use Rattle.rules.specs.Choice.{every, implies}
use Rattle.rules.specs.Layout.{NUMBER_MAX}
use Rattle.rules.specs.Paths.{same_at}
use Rattle.rules.specs.Written.{Bytes, Written, parts_of, number_if, text_if, capped, normal_by, normal, numbers_fit}
use Rattle.rules.proofs.Scans.{all_of}
use Rattle.rules.proofs.Written.{capped-most}
use Rattle.script_rules.specs.Text.{NEWLINE, not_newline, is_digit, is_letter, is_hex, decimal, hex_of}
use Rattle.script_rules.specs.Blocks.{key_of, in_text, has_key, text_of, line_ok, after_line, line_for, from_call, from_fd, from_arg, from_path, from_data, after_block, number_line_ok, data_line_ok, block_of, parts_ok, texts_used, head_lines_ok, operand_lines_ok, number_lines_ok, text_lines_ok, lines_ok, block_ok, printed_block, printed, Scriptable, blocks, after_blocks}
use Rattle.script_rules.specs.declared.line.Line.{Line}
use Rattle.script_rules.specs.declared.line.Line.TheVariants as line
use Rattle.script_claims.specs.Claims.{AllScriptable}
use Rattle.script_claims.proofs.Lists.{Pass, span-pass}
use Rattle.script_claims.proofs.Lines.{block-kept, no_block}
use Rattle.script_claims.proofs.Texts.{decimal-back, decimal-pass, decimal-ok, hex_of-pass, hex_of-back, hex_of-ok, path-pass}

-- ---- a line

-- byte 10 stands in no text
newline-ends : (l : Line) → in_text l NEWLINE ≡ false
unfolding is_digit is_letter is_hex not_newline every Rattle.rules.specs.Choice.some
newline-ends line.Proc = refl
newline-ends line.Call = refl
newline-ends line.Fd = refl
newline-ends line.Arg = refl
newline-ends line.Path = refl
newline-ends line.Data = refl

-- S begins with the line l, whose text is that; R is left
record Reads (l : Line) (S t R : List ℕ) : Type 0 where
  ok : line_ok l S ≡ true
  text : text_of l S ≡ t
  after : after_line l S ≡ R

has-key : (l : Line) (R : List ℕ) → has_key (key_of l) (key_of l ++ R) ≡ true
unfolding has_key same_at
has-key l R = all_of (same_at (key_of l ++ R) (key_of l)) 0 (length (key_of l)) (λ j a b. rw (get_or-append (key_of l) R 0 j b) (eq-eqb (get_or (key_of l) j 0) _ refl))

line_reads : (l : Line) (S text R : List ℕ) → Pass (in_text l) text → S ≡ key_of l ++ (text ++ (NEWLINE ∷ R)) → Reads l S text R
unfolding line_ok text_of after_line every
line_reads l S text R h e =
    let key : drop (length (key_of l)) (key_of l ++ (text ++ (NEWLINE ∷ R))) ≡ text ++ (NEWLINE ∷ R) = drop-append_seam (key_of l) _ in
    let long = span-pass (in_text l) text NEWLINE R h (newline-ends l) in
    rw e (record {
      ok = rw (has-key l (text ++ (NEWLINE ∷ R)), key, long, get_or-append_seam text NEWLINE R 0);
      text = rw (key, long, take-append_seam text (NEWLINE ∷ R));
      after = rw (key, long, drop-append_seam text (NEWLINE ∷ R));
    })

line-more : (l : Line) (S text R : List ℕ) → Pass (in_text l) text → S ≡ line_for l text ++ R → Reads l S text R
line-more l S text R h e = line_reads l S text R h (e ∙ simp append_assoc)

-- ---- a block

-- a call whose block is whole: it is in the normal form, and each part can be printed
record Printable (w : Written) : Type 0 where
  process : w.process.0 ≤ NUMBER_MAX
  call : w.call ≤ NUMBER_MAX
  fd : w.fd.0 ≤ NUMBER_MAX
  number : w.number ≤ NUMBER_MAX
  path : Pass not_newline w.path
  bytes : Bytes w.«data»
  used : parts_ok (parts_of w) w ≡ true

record BlockReads (S : List ℕ) (w : Written) (R : List ℕ) : Type 0 where
  ok : block_ok S ≡ true
  block : block_of S ≡ w
  after : after_block S ≡ R

block_reads : (S : List ℕ) (w : Written) → Printable w → S ≡ printed_block w → BlockReads S w []
unfolding printed_block block_ok lines_ok number_lines_ok head_lines_ok operand_lines_ok text_lines_ok number_line_ok data_line_ok every
block_reads S w h e =
    let p = line-more line.Proc S (decimal w.process.0) _ (decimal-pass _ h.process) e in
    let c = line-more line.Call (from_call S) (decimal w.call) _ (decimal-pass _ h.call) p.after in
    let f = line-more line.Fd (from_fd S) (decimal w.fd.0) _ (decimal-pass _ h.fd) c.after in
    let a = line-more line.Arg (from_arg S) (decimal w.number) _ (decimal-pass _ h.number) f.after in
    let t = line-more line.Path (from_path S) w.path _ h.path a.after in
    let d = line_reads line.Data (from_data S) (hex_of w.«data») [] (hex_of-pass _ h.bytes) t.after in
    let texts : block_of S ≡ w =
    rw (p.text, c.text, f.text, a.text, t.text, d.text, decimal-back w.process.0 h.process, decimal-back w.call h.call, decimal-back w.fd.0 h.fd, decimal-back w.number h.number, hex_of-back w.«data» h.bytes) in
    let used : parts_ok (parts_of (block_of S)) (block_of S) ≡ true = ap (λ v. parts_ok (parts_of v) v) texts ∙ h.used in
    record {
      ok = rw (used, p.ok, p.text, c.ok, c.text, f.ok, f.text, a.ok, a.text, t.ok, d.ok, d.text, decimal-ok w.process.0 h.process, decimal-ok w.call h.call, decimal-ok w.fd.0 h.fd, decimal-ok w.number h.number, hex_of-ok w.«data»);
      block = texts;
      after = d.after;
    }

-- ---- the normal form can be printed

-- what is unused is 0 or empty, and else as it was
number-if : (used : Bool) (n most : ℕ) → n ≤ most → (number_if used n ≤ most) × (implies (not used) (eqb (number_if used n) 0) ≡ true)
unfolding number_if implies
number-if true n most h = (h, refl)
number-if false n most h = (omega arith, refl)

text-if : (P : List ℕ → Type 0) (most : ℕ) (t : List ℕ) → P [] → P t → P (text_if most t) × (implies (eqb most 0) (eqb (length (text_if most t)) 0) ≡ true)
unfolding text_if implies
text-if P most t none h = by (eqb most 0)
  where
    by : (b : Bool) → P (cond b [] t) × (cond b (eqb (length (cond b [] t)) 0) true ≡ true)
    by true = (none, refl)
    by false = (h, refl)

printable : (w : Written) → Scriptable w → Printable (normal w)
unfolding normal_by parts_ok numbers_fit texts_used every Pass
printable w s =
    let u = parts_of w in
    let fd = number-if u.fd w.fd.0 NUMBER_MAX s.fd in
    let number = number-if u.number (capped w.number) NUMBER_MAX (capped-most w.number) in
    let path = text-if (Pass not_newline) u.path w.path tt (path-pass w.path s.path) in
    let bytes = text-if Bytes u.«data» w.«data» (λ i. omega arith) s.bytes in
    record {
      process = s.process;
      call = s.call;
      fd = fd.0;
      number = number.0;
      path = path.0;
      bytes = bytes.0;
      used = rw (fd.1, number.1, path.1, bytes.1);
    }

-- ---- a script

pub round_trip : (n : ℕ) (ws : List Written) → AllScriptable ws → length ws ≤ n → (blocks n (printed ws) ≡ map normal ws) × (after_blocks n (printed ws) ≡ [])
unfolding AllScriptable blocks after_blocks printed
round_trip zero [] h l = (refl, refl)
round_trip (suc n) [] h l = (rw no_block, rw no_block)
round_trip zero (w ∷ ws) h l = absurd (omega arith)
round_trip (suc n) (w ∷ ws) h l =
    let r = block_reads (printed_block (normal w)) (normal w) (printable w h.0) refl in
    let k = block-kept (printed_block (normal w)) (printed ws) r.ok in
    let rest = round_trip n ws h.1 (omega arith) in
    let block : block_of (printed_block (normal w) ++ printed ws) ≡ normal w = k.block ∙ r.block in
    let after : after_block (printed_block (normal w) ++ printed ws) ≡ printed ws = k.after ∙ ap (λ A. A ++ printed ws) r.after in
    (rw (k.ok, block, after, rest.0), rw (k.ok, after, rest.1))
