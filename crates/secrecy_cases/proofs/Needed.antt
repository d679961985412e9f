-- Each of these runs but the last leaves one supposition out and gets different answers, so what demand 3 claims does not hold of it; the last, with the
-- file open where the list starts, are refused.
use Prim.Native.Nat.{ℕ}
use mathlib.Core.Path.{◌≡◌, refl, sym, ap, ◌∙◌}
use mathlib.Core.Bool.{Bool, true, false, not, cond}
use mathlib.Core.List.{List, [], ◌∷◌}
use native.Mathlib.Omega.{arith}
use borrow.Author.Tests.{eqb-true}
use lib.Dec.{eqb}
use lib.ListN.{get_or}
use Rattle.rules.specs.Choice.{every}
use Rattle.rules.specs.Scan.{all}
use Rattle.rules.specs.Layout.{LABELS}
use Rattle.rules.specs.Rights.{moved}
use Rattle.rules.specs.Computing.{computing}
use Rattle.rules.specs.Store.{Store, Fixed}
use Rattle.rules.specs.Rom.{rom_sound}
use Rattle.rules.specs.Sound.{sound, policy_sound}
use Rattle.rules.specs.Refusals.{GRANTED, refusal_number}
use Rattle.rules.specs.Step.{Reply, Outcome, Action, serve, answers}
use Rattle.rules.specs.Console.{console_with, console, console_fixed}
use Rattle.cases.proofs.Quick.{quick, quick_sound, no-prompts, sound-of}
use Rattle.cases.proofs.Cases.{policy-sound, console-sound}
use Rattle.secrecy.specs.Claim.{may_read, Claimed}
use Rattle.secrecy.proofs.Alike.{attempt, unsound, serve_is}
use Rattle.secrecy_cases.specs.Needed.{KEY_ONE, KEY_OTHER, first_bytes, held_policy, held_fixed, held_calls, held_borrows, reached_policy, reached_fixed, reached_calls, opened, opened_calls, refusals, StaleRefused}
use Rattle.rules.proofs.Tests.{test, both}

-- ---- a run without the soundness test, and that test at each store that an action after the first finds

unfoldable act_answers : Fixed → Store → List Action → List Reply
act_answers K s [] = []
act_answers K s (x ∷ xs) = let o = attempt K s x in o.reply ∷ act_answers K o.store xs

unfoldable sound_after : Fixed → Store → List Action → Bool
sound_after K s [] = true
sound_after K s (x ∷ []) = true
sound_after K s (x ∷ y ∷ xs) = let t = (attempt K s x).store in cond (quick_sound K.rom t) (sound_after K t (y ∷ xs)) false

serve-act : (K : Fixed) (s : Store) (x : Action) → sound K s ≡ true → serve K s x ≡ attempt K s x
serve-act K s x e = rw (serve_is K s x, e)

module _ (K : Fixed) (policy : policy_sound K.policy ≡ true) (rom : rom_sound K.rom ≡ true) where
  answers-act : (xs : List Action) (s : Store) → quick_sound K.rom s ≡ true → sound_after K s xs ≡ true → answers K s xs ≡ act_answers K s xs
  unfolding answers act_answers sound_after
  answers-act [] s e h = refl
  answers-act (x ∷ []) s e h = ap (λ (o : Outcome). o.reply ∷ []) (serve-act K s x (sound-of K policy rom s e))
  answers-act (x ∷ y ∷ xs) s e h =
      let g : (quick_sound K.rom (attempt K s x).store ≡ true) × (sound_after K (attempt K s x).store (y ∷ xs) ≡ true) = both _ _ h in
      ap (λ (o : Outcome). o.reply ∷ answers K o.store (y ∷ xs)) (serve-act K s x (sound-of K policy rom s e))
      ∙ ap (λ (rs : List Reply). (attempt K s x).reply ∷ rs) (answers-act (y ∷ xs) (attempt K s x).store g.0 g.1)

-- ---- a run whose actions are all granted needs no soundness test: an unsound store refuses

unfoldable all_granted : List Reply → Bool
all_granted [] = true
all_granted (r ∷ rs) = cond (eqb r.refusal GRANTED) (all_granted rs) false

granted-act : (K : Fixed) (s : Store) (x : Action) → (serve K s x).reply.refusal ≡ GRANTED → serve K s x ≡ attempt K s x
unfolding refusal_number
granted-act K s x h = serve_is K s x ∙ go (sound K s) (rw (serve_is K s x) at h)
  where
    go : (b : Bool) → (cond b (attempt K s x) (unsound x s)).reply.refusal ≡ 0 → cond b (attempt K s x) (unsound x s) ≡ attempt K s x
    go true e = refl
    go false e = absurd (omega arith)

granted-answers : (K : Fixed) (xs : List Action) (s : Store) → all_granted (answers K s xs) ≡ true → answers K s xs ≡ act_answers K s xs
unfolding answers act_answers all_granted
granted-answers K [] s h = refl
granted-answers K (x ∷ xs) s h =
    let g : (eqb (serve K s x).reply.refusal GRANTED ≡ true) × (all_granted (answers K (serve K s x).store xs) ≡ true) = both _ _ h in
    let e : serve K s x ≡ attempt K s x = granted-act K s x (eqb-true _ _ g.0) in
    ap (λ (rs : List Reply). (serve K s x).reply ∷ rs) (granted-answers K xs (serve K s x).store g.1)
    ∙ ap (λ (o : Outcome). o.reply ∷ act_answers K o.store xs) e

-- ---- so the answers are not the same where one run, sound at each of its stores and granted, gives a byte and the other another

different : (K : Fixed) (s s' : Store) (xs : List Action) (k : ℕ) (bs bs' : List ℕ)
    → policy_sound K.policy ≡ true → rom_sound K.rom ≡ true → quick_sound K.rom s ≡ true → sound_after K s xs ≡ true → all_granted (act_answers K s xs) ≡ true
    → first_bytes (act_answers K s xs) ≡ bs → first_bytes (act_answers K s' xs) ≡ bs' → (get_or bs k 0 ≡ get_or bs' k 0 → ⊥) → answers K s xs ≡ answers K s' xs → ⊥
different K s s' xs k bs bs' policy rom start along all p q ne c =
    let one : answers K s xs ≡ act_answers K s xs = answers-act K policy rom xs s start along in
    let other : answers K s' xs ≡ act_answers K s' xs = granted-answers K xs s' (ap all_granted (sym c ∙ one) ∙ all) in
    ne (ap (λ (l : List ℕ). get_or l k 0) (sym p ∙ ap first_bytes (sym one ∙ c ∙ other) ∙ q))

policies-sound : every (policy_sound held_policy ∷ policy_sound reached_policy ∷ []) ≡ true
unfolding computing held_policy reached_policy
policies-sound = refl

-- the cases' console has the first key
pub key-one-sound : quick_sound [] (console_with KEY_ONE) ≡ true
unfolding console
key-one-sound = console-sound

-- ---- each run gives the first byte of the key

-- a held label may read
held-along : sound_after held_fixed (console_with KEY_ONE) held_calls ≡ true
unfolding computing quick sound_after held_policy
held-along = refl

held-granted : all_granted (act_answers held_fixed (console_with KEY_ONE) held_calls) ≡ true
unfolding computing act_answers all_granted held_policy
held-granted = refl

held_one : first_bytes (act_answers held_fixed (console_with KEY_ONE) held_calls) ≡ 0 ∷ 1 ∷ []
unfolding computing act_answers first_bytes held_policy
held_one = refl

held-other : first_bytes (act_answers held_fixed (console_with KEY_OTHER) held_calls) ≡ 0 ∷ 5 ∷ []
unfolding computing act_answers first_bytes held_policy
held-other = refl

pub held-needed : Claimed held_fixed 3 (console_with KEY_ONE) (console_with KEY_OTHER) held_calls → ⊥
held-needed c = different held_fixed (console_with KEY_ONE) (console_with KEY_OTHER) held_calls 1 _ _ (test 0 _ policies-sound) no-prompts key-one-sound held-along held-granted held_one held-other (λ e. omega arith) c.same-answers

-- and borrow: the bytes that a borrowing read hands back are in its answer
borrowed-along : sound_after held_fixed (console_with KEY_ONE) held_borrows ≡ true
unfolding computing quick sound_after held_policy
borrowed-along = refl

borrowed-granted : all_granted (act_answers held_fixed (console_with KEY_ONE) held_borrows) ≡ true
unfolding computing act_answers all_granted held_policy
borrowed-granted = refl

borrowed-one : first_bytes (act_answers held_fixed (console_with KEY_ONE) held_borrows) ≡ 0 ∷ 1 ∷ []
unfolding computing act_answers first_bytes held_policy
borrowed-one = refl

borrowed-other : first_bytes (act_answers held_fixed (console_with KEY_OTHER) held_borrows) ≡ 0 ∷ 5 ∷ []
unfolding computing act_answers first_bytes held_policy
borrowed-other = refl

pub borrowed-bytes-are-answers : answers held_fixed (console_with KEY_ONE) held_borrows ≡ answers held_fixed (console_with KEY_OTHER) held_borrows → ⊥
borrowed-bytes-are-answers = different held_fixed (console_with KEY_ONE) (console_with KEY_OTHER) held_borrows 1 _ _ (test 0 _ policies-sound) no-prompts key-one-sound borrowed-along borrowed-granted borrowed-one borrowed-other (λ e. omega arith)

-- a label that two transitions give may read, and none that is held (0, 1, 2) or that one transition gives
pub one-step-no-right : all (λ l. all (λ m. not (may_read reached_policy (moved reached_policy l m) 3)) 0 LABELS) 0 3 ≡ true
unfolding computing reached_policy
one-step-no-right = refl

reached-along : sound_after reached_fixed (console_with KEY_ONE) reached_calls ≡ true
unfolding computing quick sound_after reached_policy
reached-along = refl

reached-granted : all_granted (act_answers reached_fixed (console_with KEY_ONE) reached_calls) ≡ true
unfolding computing act_answers all_granted reached_policy
reached-granted = refl

reached-one : first_bytes (act_answers reached_fixed (console_with KEY_ONE) reached_calls) ≡ 0 ∷ 0 ∷ 0 ∷ 1 ∷ []
unfolding computing act_answers first_bytes reached_policy
reached-one = refl

reached-other : first_bytes (act_answers reached_fixed (console_with KEY_OTHER) reached_calls) ≡ 0 ∷ 0 ∷ 0 ∷ 5 ∷ []
unfolding computing act_answers first_bytes reached_policy
reached-other = refl

pub reached-needed : Claimed reached_fixed 3 (console_with KEY_ONE) (console_with KEY_OTHER) reached_calls → ⊥
reached-needed c = different reached_fixed (console_with KEY_ONE) (console_with KEY_OTHER) reached_calls 3 _ _ (test 1 _ policies-sound) no-prompts key-one-sound reached-along reached-granted reached-one reached-other (λ e. omega arith) c.same-answers

-- ---- the file is open for reading, in mode 1 and in mode 3, by a process whose label may not read it: nothing of the key is in the answers

stale-sound : every (quick_sound [] (opened 1 KEY_ONE) ∷ quick_sound [] (opened 1 KEY_OTHER) ∷ quick_sound [] (opened 3 KEY_ONE) ∷ quick_sound [] (opened 3 KEY_OTHER) ∷ []) ≡ true
unfolding computing quick opened
stale-sound = refl

stale-along : every (sound_after console_fixed (opened 1 KEY_ONE) opened_calls ∷ sound_after console_fixed (opened 1 KEY_OTHER) opened_calls ∷ sound_after console_fixed (opened 3 KEY_ONE) opened_calls ∷ sound_after console_fixed (opened 3 KEY_OTHER) opened_calls ∷ []) ≡ true
unfolding computing quick sound_after opened
stale-along = refl

abbrev Tens : (mode : ℕ) (key : List ℕ) → Type 0
Tens mode key = refusals (act_answers console_fixed (opened mode key) opened_calls) ≡ 10 ∷ 10 ∷ []

stale-tens : (Tens 1 KEY_ONE × Tens 1 KEY_OTHER) × (Tens 3 KEY_ONE × Tens 3 KEY_OTHER)
unfolding computing act_answers refusals opened
stale-tens = ((refl, refl), (refl, refl))

stale : (mode : ℕ) (key : List ℕ) → quick_sound [] (opened mode key) ≡ true → sound_after console_fixed (opened mode key) opened_calls ≡ true → Tens mode key → StaleRefused mode key
stale mode key start along e = ap refusals (answers-act console_fixed policy-sound no-prompts opened_calls (opened mode key) start along) ∙ e

pub stale-mode-1 : StaleRefused 1 KEY_ONE × StaleRefused 1 KEY_OTHER
stale-mode-1 = (stale 1 KEY_ONE (test 0 _ stale-sound) (test 0 _ stale-along) stale-tens.0.0, stale 1 KEY_OTHER (test 1 _ stale-sound) (test 1 _ stale-along) stale-tens.0.1)

pub stale-mode-3 : StaleRefused 3 KEY_ONE × StaleRefused 3 KEY_OTHER
stale-mode-3 = (stale 3 KEY_ONE (test 2 _ stale-sound) (test 2 _ stale-along) stale-tens.1.0, stale 3 KEY_OTHER (test 3 _ stale-sound) (test 3 _ stale-along) stale-tens.1.1)
