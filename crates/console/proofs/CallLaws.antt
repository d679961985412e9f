-- Laws of a line that makes a call.
use Prim.Native.Nat.{ℕ, zero, suc, ◌≤◌}
use mathlib.Core.Path.{◌≡◌, refl, ap}
use mathlib.Core.Bool.{Bool, true, false, cond, false≢true}
use mathlib.Core.List.{List, [], ◌∷◌}
use native.Mathlib.Nat.{not-suc-le-zero, le_of_suc-le-suc}
use borrow.Author.Tests.{leb-true}
use lib.Dec.{leb}
use lib.ListN.{take, replicate}
use Rattle.std.specs.Prelude.{Option, Some, None, IfSome}
use Rattle.std.specs.Option.{is_some}
use Rattle.rules.specs.Choice.{every}
use Rattle.rules.specs.Layout.{BLOCK}
use Rattle.rules.specs.Store.{store, fixed}
use Rattle.rules.specs.Calls.{Call, call_of}
use Rattle.rules.specs.Step.{step}
use Rattle.rules.specs.declared.answer.Answer.{Answer}
use Rattle.rules.specs.declared.request.Request.{Request}
use Rattle.store.specs.Lent.{Lent, lent, lent_of}
use Rattle.console.specs.Settings.{tables, part_of}
use Rattle.console.specs.declared.settings.Console.{Console}
use Rattle.console.specs.Numbers.{number_at}
use Rattle.console.specs.Calls.{PATH, DATA, call_asked, part_place, part_text, fd_in, argument_in, ends_there, request_of, request_in, buffer_size, fitting, call_with, call_in, call_made, outcome_on, called_tables, line_called}

-- ---- the buffer, lent as the first bytes of 512

buffer_lent : (m n : ℕ) → m ≤ n → take {A = ℕ} m (replicate n 0) ≡ replicate m 0
buffer_lent zero n h = refl
buffer_lent (suc m) zero h = absurd (not-suc-le-zero h)
buffer_lent (suc m) (suc n) h = rw (buffer_lent m n (le_of_suc-le-suc h))

-- ---- the tables after the line

pub tables_after : (s : Console) (c : Call) {R : List ℕ} → R ≡ part_of s → {a : Answer} {b F C E P : List ℕ}
    → lent a b (store F C E P) ≡ lent_of (step (fixed s.policy R) (store s.files s.contents s.open_files s.processes) c)
    → (tables F C E P s.policy s.rom ≡ called_tables s c) × (b ≡ (outcome_on s c).reply.buffer)
unfolding called_tables
tables_after s c {R} q {a} {b} {F} {C} {E} {P} h =
    let k : lent a b (store F C E P) ≡ lent_of (outcome_on s c) = rw q at h in (
      ap (λ (l : Lent). tables l.store.files l.store.contents l.store.open_files l.store.processes s.policy s.rom) k,
      ap (λ (l : Lent). l.buffer) k,
    )

last : (a b : Bool) → every (a ∷ b ∷ []) ≡ true → b ≡ true
unfolding every
last true true h = refl
last true false h = absurd (false≢true h)
last false b h = absurd (false≢true h)

-- a line's request has a buffer of 512 bytes at most
few : (o : Option Request) (ended : Bool) → IfSome (fitting o ended) (λ c. leb (buffer_size c) BLOCK ≡ true)
unfolding fitting
few None ended = tt
few (Some c) ended = by (every (ended ∷ leb (buffer_size c) BLOCK ∷ [])) refl
  where
    by : (t : Bool) → every (ended ∷ leb (buffer_size c) BLOCK ∷ []) ≡ t → IfSome (cond t (Some c) None) (λ z. leb (buffer_size z) BLOCK ≡ true)
    by true e = last ended _ e
    by false e = tt

pub zeros-lent : (l : List ℕ) {c : Request} → Some c ≡ request_in l → take {A = ℕ} (buffer_size c) (replicate BLOCK 0) ≡ replicate (buffer_size c) 0
unfolding request_in
zeros-lent l {c} e =
    let h : leb (buffer_size c) BLOCK ≡ true = rw (← e) at (few (request_of (number_at l 0) (call_asked l) (fd_in l) (argument_in l)) (ends_there l)) in
    buffer_lent (buffer_size c) BLOCK (leb-true (buffer_size c) BLOCK h)

pub call-made : (l : List ℕ) (s : Console) {c : Request} → Some c ≡ request_in l → {p d b : List ℕ} → Some p ≡ part_text l (part_place l PATH) → Some d ≡ part_text l (part_place l DATA) → {n : ℕ} → n ≡ buffer_size c → b ≡ take n (replicate BLOCK 0)
    → {r : Console} → r ≡ called_tables s (call_of c p d b) → (true ≡ is_some (call_in l)) × (r ≡ line_called l s)
unfolding call_made call_with
call-made l s q p d n b e = (rw (← q, ← p, ← d), rw (← q, ← p, ← d, e, b, n, zeros-lent l q))
