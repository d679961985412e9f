-- No other text is read as a call: an unbroken script is what is printed from its calls.
use Prim.Native.Nat.{ℕ, zero, suc, ◌%◌, ◌≤◌}
use mathlib.Core.Path.{◌≡◌, refl, sym, ◌∙◌, ap}
use mathlib.Core.Bool.{Bool, true, false, cond}
use mathlib.Core.List.{List, [], ◌∷◌, ◌++◌, append_assoc}
use native.Mathlib.Numerals.{add-one}
use native.Mathlib.Omega.{arith}
use borrow.Author.Tests.{eqb-true, le-leb}
use lib.Dec.{eqb}
use lib.ListN.{length, take, drop, take-append-drop}
use lib.Seq.{split_at, drop-drop, length-take-le, get_or-take, ext_get_or}
use Rattle.rules.specs.Choice.{implies}
use Rattle.rules.specs.Layout.{NUMBER_MAX}
use Rattle.rules.specs.Paths.{same_at}
use Rattle.rules.specs.Written.{Written, parts_of, text_if, capped, normal_by, normal, numbers_fit}
use Rattle.rules.specs.declared.request.Parts.{Parts}
use Rattle.rules.proofs.Scans.{all-at}
use Rattle.rules.proofs.Tests.{test}
use Rattle.rules.proofs.Written.{number_same}
use Rattle.script_rules.specs.Text.{NEWLINE, is_digit, decimal, hex_ok, bytes_of, hex_of}
use Rattle.script_rules.specs.Blocks.{key_of, in_text, has_key, after_key, text_length, text_of, line_ok, after_line, line_for, from_call, from_fd, from_arg, from_path, from_data, after_block, number_line_ok, data_line_ok, number_in, block_of, parts_ok, texts_used, block_ok, printed_block, printed, blocks, after_blocks}
use Rattle.script_rules.specs.declared.line.Line.{Line}
use Rattle.script_rules.specs.declared.line.Line.TheVariants as line
use Rattle.script_rules.proofs.Blocks.{lines}
use Rattle.script_claims.specs.Claims.{Unbroken}
use Rattle.script_claims.proofs.Lists.{Pass, pass-span}
use Rattle.script_claims.proofs.Lines.{line-there}
use Rattle.script_claims.proofs.ExactTexts.{decimal-exact, hex-exact}

-- ---- a line

has-exact : (key S : List ℕ) → length key ≤ length S → has_key key S ≡ true → take (length key) S ≡ key
unfolding has_key same_at
has-exact key S l e =
    let size : length (take (length key) S) ≡ length key = length-take-le (length key) S l in
    ext_get_or 0 (take (length key) S) key size
    (λ i h. get_or-take (length key) S i 0 (omega arith) ∙ eqb-true _ _ (all-at (same_at S key) 0 (length key) e i (omega arith) (omega arith)))

-- S begins with the line l, whose text is that; R is left
line-exact : (l : Line) (S : List ℕ) → line_ok l S ≡ true → (S ≡ line_for l (text_of l S) ++ after_line l S) × Pass (in_text l) (text_of l S)
unfolding line_ok text_of after_line
line-exact l S e =
    let t = line-there l S e in
    let X = after_key l S in
    let n = text_length l S in
    let rest : drop 1 (drop n X) ≡ drop (suc n) X = drop-drop 1 n X ∙ ap (λ k. drop k X) (add-one n) in
    let split : X ≡ take n X ++ (NEWLINE ∷ drop 1 (drop n X)) = rw (rest, ← t.ends) (split_at X n 0 t.within) in
    let whole : S ≡ key_of l ++ X = sym (take-append-drop (length (key_of l)) S) ∙ ap (λ k. k ++ X) (has-exact (key_of l) S t.room t.key) in
    (whole ∙ ap (λ x. key_of l ++ x) split ∙ simp append_assoc, pass-span (in_text l) X)

number-exact : (l : Line) (S : List ℕ) → (Pass (in_text l) (text_of l S) → Pass is_digit (text_of l S)) → number_line_ok l S ≡ true →
    (S ≡ line_for l (decimal (number_in l S)) ++ after_line l S) × (number_in l S ≤ NUMBER_MAX)
unfolding number_line_ok
number-exact l S same e =
    let r = line-exact l S (test 0 _ e) in
    let d = decimal-exact (text_of l S) (same r.1) (test 1 _ e) in
    (r.0 ∙ ap (λ x. line_for l x ++ after_line l S) (sym d.0), d.1)

data-exact : (S : List ℕ) → data_line_ok S ≡ true → S ≡ line_for line.Data (hex_of (bytes_of (text_of line.Data S))) ++ after_line line.Data S
unfolding data_line_ok hex_ok
data-exact S e =
    let r = line-exact line.Data S (test 0 _ e) in
    let even : length (text_of line.Data S) % 2 ≡ 0 = eqb-true _ _ (test 1 _ e) in
    r.0 ∙ ap (λ x. line_for line.Data x ++ after_line line.Data S) (sym (hex-exact (text_of line.Data S) r.1 even))

-- ---- what is read is in the normal form

text-used : (most : ℕ) (t : List ℕ) → implies (eqb most 0) (eqb (length t) 0) ≡ true → text_if most t ≡ t
unfolding implies text_if
text-used most t e = go (eqb most 0) t e
  where
    go : (b : Bool) (t : List ℕ) → cond b (eqb (length t) 0) true ≡ true → cond b [] t ≡ t
    go true [] e = refl
    go true (x ∷ t) e = absurd (omega (arith, eqb-true (length (x ∷ t)) 0 e))
    go false t e = refl

normal-exact : (u : Parts) (w : Written) → w.number ≤ NUMBER_MAX → parts_ok u w ≡ true → normal_by u w ≡ w
unfolding parts_ok numbers_fit texts_used normal_by capped
normal-exact u w h e =
    let n = test 0 _ e in
    let t = test 1 _ e in
    rw (le-leb w.number NUMBER_MAX h, number_same u.fd w.fd.0 (test 0 _ n), number_same u.number w.number (test 1 _ n), text-used u.path w.path (test 0 _ t), text-used u.«data» w.«data» (test 1 _ t))

-- ---- a block, and a script

-- six lines, each with what is left after it
joined : (a b c d e f R : List ℕ) {S T U W X Y : List ℕ} → S ≡ a ++ T → T ≡ b ++ U → U ≡ c ++ W → W ≡ d ++ X → X ≡ e ++ Y → Y ≡ f ++ R → a ++ (b ++ (c ++ (d ++ (e ++ f)))) ++ R ≡ S
joined a b c d e f R s t u w x y = rw (s, t, u, w, x, y) (simp append_assoc)

-- each line is what is printed for its text, the texts are in the normal form, and the six lines are joined
block-exact : (S : List ℕ) → block_ok S ≡ true → (printed_block (normal (block_of S)) ++ after_block S ≡ S)
unfolding block_ok printed_block
block-exact S e =
    let l = lines S e in
    let n = l.numbers in
    let a = number-exact line.Arg (from_arg S) (λ x. x) n.arg in
    let same : normal (block_of S) ≡ block_of S = normal-exact (parts_of (block_of S)) (block_of S) a.1 (test 1 _ e) in
    let w = block_of S in
    ap (λ w. printed_block w ++ after_block S) same
    ∙ joined (line_for line.Proc (decimal w.process.0)) (line_for line.Call (decimal w.call)) (line_for line.Fd (decimal w.fd.0)) (line_for line.Arg (decimal w.number)) (line_for line.Path w.path) (line_for line.Data (hex_of w.«data»)) (after_block S)
    (number-exact line.Proc S (λ x. x) n.proc).0
    (number-exact line.Call (from_call S) (λ x. x) n.call).0
    (number-exact line.Fd (from_fd S) (λ x. x) n.fd).0
    a.0
    (line-exact line.Path (from_path S) l.path).0
    (data-exact (from_data S) l.bytes)

pub printed-only : (n : ℕ) (S : List ℕ) → Unbroken n S → printed (blocks n S) ≡ S
unfolding printed blocks after_blocks
printed-only zero S u = sym u
printed-only (suc n) S u = go (block_ok S) refl u (printed-only n (after_block S))
  where
    go : (b : Bool) → block_ok S ≡ b → cond b (after_blocks n (after_block S)) S ≡ [] → (Unbroken n (after_block S) → printed (blocks n (after_block S)) ≡ after_block S) →
        printed (cond b (block_of S ∷ blocks n (after_block S)) []) ≡ S
    go false e u ih = sym u
    go true e u ih = rw (ih u) (block-exact S e)
